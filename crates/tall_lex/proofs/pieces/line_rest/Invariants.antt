use Rattle.std.proofs.Common.{◌≡◌, drop}
use Rattle.tall_lex.specs.Pieces.{line_rest}
use Rattle.tall_lex.proofs.pieces.line_rest.Given as goal

abbrev pub invariant-loop-i : goal.invariant-loop-i
invariant-loop-i l = line_rest l.i (drop l.i l.text) ≡ line_rest l.from (drop l.from l.text)
