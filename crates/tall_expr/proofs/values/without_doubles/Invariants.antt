use Rattle.std.proofs.Common.{◌≡◌, false, ◌++◌, drop}
use Rattle.tall_grammar.specs.Lexemes.{without_doubles}
use Rattle.tall_expr.proofs.values.without_doubles.Given as goal

abbrev pub invariant-loop-byte : goal.invariant-loop-byte
invariant-loop-byte l =
    l.once.items ++ without_doubles l.quote l.doubled (drop l.byte-index l.text) ≡ without_doubles l.quote false l.text
