use Rattle.tall_piece.proofs.JoinLaws.{carry_parts}
use Rattle.tall_piece.proofs.parts.join_carry.Goals as goal

pub join-requires : goal.join-requires
join-requires c = carry_parts c.args.next c.args.cells c.args.block c.requires
