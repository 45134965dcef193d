use Rattle.std.proofs.Common.{rules}
use Rattle.tall_value.specs.CellOperators.{unary_cell}
use Rattle.tall_value.specs.ClassTables.{unary_kind}
use Rattle.tall_value.specs.Columns.{numbered}
use Rattle.tall_value.specs.Elementwise.{unary_rows}
use Rattle.tall_local.specs.Memory.{kind_of_column}
use Rattle.tall_memory.proofs.ColumnLemmas.{column_is_given, each_from_one, each_is_below}
use Rattle.tall_memory.proofs.operators.unary_column.Goals as goal

pub column_answer-requires : goal.column_answer-requires
column_answer-requires c = each_is_below (unary_cell c.args.op) c.args.x.now c.len-rows.result c.map_unary.result c.len-rows.ensures c.map_unary.ensures.rows

pub returns-in-Ok : goal.returns-in-Ok
returns-in-Ok c =
    let x = c.args.x.now in
    column_is_given (unary_kind c.args.op (kind_of_column x)) c.in-Ok.field-0 (unary_rows c.args.op (numbered 0 x.cells)) (unary_rows c.args.op (numbered 1 x.cells)) c.map_unary.result c.column_answer.result
    (search rules) c.map_unary.ensures.class c.map_unary.ensures.rows (each_from_one (unary_cell c.args.op) x.cells) c.column_answer.ensures
