use Rattle.std.proofs.Common.{◌≡◌, Ok, false, rules}
use Rattle.tall_value.specs.CellOperators.{binary_cell}
use Rattle.tall_value.specs.ClassTables.{binary_kind, class_result}
use Rattle.tall_value.specs.Columns.{numbered}
use Rattle.tall_value.specs.Elementwise.{binary_rows}
use Rattle.tall_local.specs.Memory.{kind_of_column}
use Rattle.tall_memory.proofs.ColumnLemmas.{column_is_given, lengths_differ, pair_from_one, pair_is_below, pair_is_given}
use Rattle.tall_memory.proofs.operators.binary_columns.Goals as goal

pub column_answer-requires : goal.column_answer-requires
column_answer-requires c = pair_is_below (binary_cell c.args.op) c.args.x.now c.args.y.now c.len-rows.result c.map_binary.result c.len-rows.ensures c.map_binary.ensures.rows

pub returns-in-Ok : goal.returns-in-Ok
returns-in-Ok c =
    let x = c.args.x.now in
    let y = c.args.y.now in
    let kinds = binary_kind c.args.op (kind_of_column x) false (kind_of_column y) false in
    let told : class_result kinds ≡ Ok c.in-Ok.field-0 = search rules in
    pair_is_given kinds x y (binary_rows c.args.op (numbered 1 x.cells) (numbered 1 y.cells)) c.column_answer.result (search rules)
    (column_is_given kinds c.in-Ok.field-0 (binary_rows c.args.op (numbered 0 x.cells) (numbered 0 y.cells)) (binary_rows c.args.op (numbered 1 x.cells) (numbered 1 y.cells)) c.map_binary.result
    c.column_answer.result told c.map_binary.ensures.class c.map_binary.ensures.rows (pair_from_one (binary_cell c.args.op) x.cells y.cells) c.column_answer.ensures)

pub returns-in-Ok-2 : goal.returns-in-Ok-2
returns-in-Ok-2 c =
    let x = c.args.x.now in
    let y = c.args.y.now in
    let kinds = binary_kind c.args.op (kind_of_column x) false (kind_of_column y) false in
    let told : class_result kinds ≡ Ok c.in-Ok-2.field-0 = search rules in
    lengths_differ kinds c.in-Ok-2.field-0 x y (binary_rows c.args.op (numbered 1 x.cells) (numbered 1 y.cells)) told (search rules)
