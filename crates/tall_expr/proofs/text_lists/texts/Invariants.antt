use Rattle.std.proofs.Common.{◌≡◌, map, ◌-◌}
use Rattle.tall_grammar.specs.ExprReader.{texts, text_here}
use Rattle.tall_grammar.specs.Readers.{listed_from, is_text_token}
use Rattle.tall_grammar.specs.Views.{tree_of}
use Rattle.tall_expr.proofs.text_lists.texts.Given as goal

abbrev pub invariant-loop-turn : goal.invariant-loop-turn
invariant-loop-turn l =
    texts l.turns l.line l.fn.tokens ≡ listed_from is_text_token (text_here l.line) (l.turns - l._turn) (map tree_of l.found) l.tokens
