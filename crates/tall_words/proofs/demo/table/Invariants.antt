use Rattle.std.proofs.Common.{◌≡◌, ◌++◌, ◌<◌, ◌^◌, ◌-◌, string_bytes}
use Rattle.tall_words.specs.Demo.{rows_text, table_text}
use Rattle.tall_words.proofs.demo.table.Given as goal

-- what is written, and then the rows from the state on, are the table
abbrev pub invariant-loop-turn : goal.invariant-loop-turn
invariant-loop-turn l = (string_bytes l.text ++ rows_text (l.fn.rows - l._turn) l.state ≡ table_text l.fn.rows) × (l.state < 2 ^ 31)
