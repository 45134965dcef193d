use Rattle.std.proofs.Common.{◌≡◌, ◌≤◌, drop}
use Rattle.tall_grammar.specs.Lexemes.{lexemes_of}
use Rattle.tall_grammar.specs.Refusals.{limit, too_deep, too_deep_from}
use Rattle.tall_parse.proofs.depth.too_deep.Given as goal

-- what is left tells, from the depth so far, what all tells
abbrev pub invariant-loop-token : goal.invariant-loop-token
invariant-loop-token l = record {
  few : l.depth ≤ limit;
  same : too_deep_from l.depth (lexemes_of l.text (drop l.token-index l.tokens)) ≡ too_deep (lexemes_of l.text l.tokens);
}
