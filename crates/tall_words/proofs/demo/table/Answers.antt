use Rattle.std.proofs.Common.{rules, ◌≡◌, ◌++◌, ◌+◌, ◌-◌, ◌/◌, ℕ, subst, sym, string_bytes}
use Rattle.tall_words.specs.Demo.{next_state, row_text, rows_text, table_text}
use Rattle.tall_words.proofs.Tables.{next_row, all_rows}
use Rattle.tall_words.proofs.demo.table.Goals as goal

pub loop-turn-preserved : goal.loop-turn-preserved
loop-turn-preserved c =
    let next = c.next_state-state.ensures.next in
    let pushed : string_bytes c.push_row.new.text ≡ string_bytes c.loop-turn.text ++ row_text (next_state c.loop-turn.state / 65536) =
    subst (λ (s : ℕ). string_bytes c.push_row.new.text ≡ string_bytes c.loop-turn.text ++ row_text (s / 65536)) next c.in_ok-push_row.ensures in
    let rest = next_row (string_bytes c.loop-turn.text) (string_bytes c.push_row.new.text) c.args.rows c.loop-turn._turn c.loop-turn.state (table_text c.args.rows) (search rules)
    c.loop-turn.invariant.0 pushed in (
      subst (λ (s : ℕ). string_bytes c.push_row.new.text ++ rows_text (c.args.rows - (c.loop-turn._turn + 1)) s ≡ table_text c.args.rows) (sym next) rest,
      c.next_state-state.ensures.small,
    )

pub returns : goal.returns
returns c = search (rules, all_rows)
