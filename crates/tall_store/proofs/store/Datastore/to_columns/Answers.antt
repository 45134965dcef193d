use Rattle.std.proofs.Common.{length}
use Rattle.tall_store.proofs.Limits.{is_all, is_less, limit_fault, part_answer, whole_table}
use Rattle.tall_store.proofs.store.Datastore.to_columns.Goals as goal

pub returns-then-is_whole-clause-table : goal.returns-then-is_whole-clause-table
returns-then-is_whole-clause-table c =
    whole_table c.args.self.now c.args.block.now c.args.file c.args.first_row c.of-part.result c.in-Ok.table
    (record { block_is = c.of-part.ensures.block; file_is = c.of-part.ensures.file; row_is = c.of-part.ensures.row; rows_are = c.of-part.ensures.rows; last = c.requires.last })
    (is_all c.of-part.result.rows (length c.of-part.result.block.now) c.if-is_whole.ensures) c.in-Ok.ensures

pub returns-in-Ok-clause-table : goal.returns-in-Ok-clause-table
returns-in-Ok-clause-table c =
    limit_fault c.args.self.now c.args.block.now c.args.file c.args.first_row c.of-part.result c.in-Ok.table
    (record { block_is = c.of-part.ensures.block; file_is = c.of-part.ensures.file; row_is = c.of-part.ensures.row; rows_are = c.of-part.ensures.rows; last = c.requires.last })
    (is_less c.of-part.result.rows (length c.of-part.result.block.now) c.if-is_whole.ensures) c.in-Ok.ensures

pub returns-in-Err-clause-table : goal.returns-in-Err-clause-table
returns-in-Err-clause-table c =
    part_answer c.args.self.now c.args.block.now c.args.file c.args.first_row c.of-part.result c.in-Err.fault
    (record { block_is = c.of-part.ensures.block; file_is = c.of-part.ensures.file; row_is = c.of-part.ensures.row; rows_are = c.of-part.ensures.rows; last = c.requires.last })
    c.in-Err.ensures
