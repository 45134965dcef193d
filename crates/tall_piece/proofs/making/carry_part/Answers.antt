use Rattle.tall_piece.proofs.MakingLaws.{carry_fits, carry_made, carry_missing}
use Rattle.tall_piece.proofs.making.carry_part.Goals as goal

pub returns-in-Some-clause-fits : goal.returns-in-Some-clause-fits
returns-in-Some-clause-fits c =
    carry_fits c.args.graph.now c.args.block.now.table.now c.args.block.now.made.now c.args.block.now.first_row c.args.block.now.rows c.args.scan c.args.operand c.in-Some.column.now c.block_carry.result c.requires.columns c.in-Some.ensures.some c.block_carry.ensures

pub returns-in-Some-clause-made : goal.returns-in-Some-clause-made
returns-in-Some-clause-made c =
    carry_made c.args.graph.now c.args.block.now.table.now c.args.block.now.made.now c.args.block.now.first_row c.args.block.now.rows c.args.scan c.args.operand c.in-Some.column.now c.block_carry.result c.requires.columns c.in-Some.ensures.some c.block_carry.ensures

pub returns-in-None-clause-made : goal.returns-in-None-clause-made
returns-in-None-clause-made c = carry_missing c.args.graph.now c.args.block.now.table.now c.args.block.now.made.now c.args.block.now.first_row c.args.block.now.rows c.args.scan c.args.operand c.in-None.ensures.none
