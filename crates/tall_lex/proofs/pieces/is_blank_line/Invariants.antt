use Rattle.std.proofs.Common.{◌≡◌, drop}
use Rattle.tall_lex.specs.Pieces.{is_blank_line}
use Rattle.tall_lex.proofs.pieces.is_blank_line.Given as goal

abbrev pub invariant-loop-i : goal.invariant-loop-i
invariant-loop-i l = is_blank_line (drop l.i l.text) ≡ is_blank_line l.text
