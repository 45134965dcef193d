use Rattle.std.proofs.Common.{◌≡◌, ◌+◌, drop, false}
use Rattle.tall_lex.specs.Pieces.{text_len}
use Rattle.tall_lex.proofs.pieces.text_len.Given as goal

abbrev pub invariant-loop-i : goal.invariant-loop-i
invariant-loop-i l = text_len l.quote (l.i + 1) l.pending (drop l.i l.rest) ≡ text_len l.quote 1 false l.rest
