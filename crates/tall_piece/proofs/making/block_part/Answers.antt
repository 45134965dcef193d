use Rattle.tall_piece.proofs.MakingLaws.{end_part_made}
use Rattle.tall_piece.proofs.making.block_part.Goals as goal

pub returns-in-Some-clause-made : goal.returns-in-Some-clause-made
returns-in-Some-clause-made c =
    end_part_made c.args.graph.now c.args.block.now.table.now c.args.block.now.made.now c.args.block.now.first_row c.args.block.now.rows c.args.wanted.now c.in-End.operation c.in-End.first c.in-End.last c.in-Some.part c.in_ok-part-in-End.field-0 c.in-End.is
    c.in-Some.is c.in_ok-part-in-End.ensures.1
