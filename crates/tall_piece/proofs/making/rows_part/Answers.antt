use Rattle.tall_piece.proofs.MakingLaws.{column_made, column_missing}
use Rattle.tall_piece.proofs.making.rows_part.Goals as goal

pub returns-in_ok-copy-in-Some : goal.returns-in_ok-copy-in-Some
returns-in_ok-copy-in-Some c =
    column_made c.args.graph.now c.args.block.now.table.now c.args.block.now.made.now c.args.block.now.first_row c.args.block.now.rows c.args.node c.in-Some.column.now c.in_ok-copy-in-Some.field-0 c.requires.columns c.in-Some.ensures.some c.in_ok-copy-in-Some.ensures

pub returns-in-None : goal.returns-in-None
returns-in-None c = column_missing c.args.graph.now c.args.block.now.table.now c.args.block.now.made.now c.args.block.now.first_row c.args.block.now.rows c.args.node c.in-None.ensures.none
