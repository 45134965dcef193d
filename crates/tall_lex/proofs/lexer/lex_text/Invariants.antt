use Rattle.std.proofs.Common.{◌≡◌, ◌+◌, ◌-◌, ◌<◌, ◌≤◌, length, drop}
use Rattle.tall_lex.specs.Tokens.{tokens_of, tokens_from, InOrder}
use Rattle.tall_lex.proofs.Steps.{with_all}
use Rattle.tall_lex.proofs.lexer.lex_text.Given as goal

-- the tokens so far, and those of what is left, are those of all
abbrev pub invariant-loop-at : goal.invariant-loop-at
invariant-loop-at l = record {
  in_range : l.at ≤ length l.text;
  all : with_all l.tokens.items (tokens_from l.spot l.at l.closes 0 (drop l.at l.text)) ≡ tokens_of l.text;
  line : l.spot.line ≤ l.at + 1;
  place : l.spot.place ≤ l.at + 1;
  counted : 0 < l.spot.place;
  in_order : InOrder 0 l.at l.tokens.items;
}

abbrev pub decreases-loop-at : goal.decreases-loop-at
decreases-loop-at l = length l.text - l.at
