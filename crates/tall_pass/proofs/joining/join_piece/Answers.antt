use Rattle.std.proofs.Common.{length, subst}
use Rattle.tall_pass.specs.Taken.{IsRight}
use Rattle.tall_pass.proofs.joining.join_piece.Goals as goal

pub join_parts-requires : goal.join_parts-requires
join_parts-requires c = (c.requires.0, c.requires.1, c.requires.2, c.requires.3, subst (IsRight c.requires.0 (length c.requires.1) c.requires.2) c.in-Parts.is c.requires.4)

pub returns-in-Parts-clause-goes : goal.returns-in-Parts-clause-goes
returns-in-Parts-clause-goes c = rw c.in-Parts.is c.join_parts.ensures.goes
