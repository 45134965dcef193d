use Rattle.std.proofs.Common.{◌≡◌, ◌∙◌, Ok, Err, sym, rules}
use Rattle.tall_value.specs.Cells.{seen, seen_kind}
use Rattle.tall_value.specs.Classes.{class_of}
use Rattle.tall_value.specs.Columns.{numbered}
use Rattle.tall_value.specs.Elementwise.{beside, scalar_rows}
use Rattle.tall_column.specs.Mapped.{scalar_class}
use Rattle.tall_memory.specs.Columns.{beside_kind}
use Rattle.tall_memory.proofs.ColumnLemmas.{beside_class, class_is_refused, column_is_given, each_from_one, each_is_below, same_if_ok}
use Rattle.tall_memory.proofs.operators.binary_beside.Goals as goal

pub column_answer-requires : goal.column_answer-requires
column_answer-requires c =
    each_is_below (beside c.args.op c.args.scalar_left (seen c.args.c.now)) c.args.x.now c.len-rows.result c.map_scalar.result c.len-rows.ensures c.map_scalar.ensures.rows

pub returns-in-Ok : goal.returns-in-Ok
returns-in-Ok c =
    let x = c.args.x.now in
    let d = seen c.args.c.now in
    let op = c.args.op in
    let left = c.args.scalar_left in
    let table = beside_class op left d x in
    let told : scalar_class op left (class_of (seen_kind d)) x.class ≡ Ok c.in-Ok.field-0 = search rules in
    column_is_given (beside_kind op left d x) c.in-Ok.field-0 (scalar_rows op left d (numbered 0 x.cells)) (scalar_rows op left d (numbered 1 x.cells)) c.map_scalar.result c.column_answer.result
    (sym table ∙ told) (same_if_ok _ _ c.map_scalar.result table c.map_scalar.ensures.class) c.map_scalar.ensures.rows (each_from_one (beside op left d) x.cells) c.column_answer.ensures

pub returns-in-Err : goal.returns-in-Err
returns-in-Err c =
    let x = c.args.x.now in
    let d = seen c.args.c.now in
    let told : scalar_class c.args.op c.args.scalar_left (class_of (seen_kind d)) x.class ≡ Err c.in-Err.fault = search rules in
    class_is_refused (beside_kind c.args.op c.args.scalar_left d x) _ c.in-Err.fault c.refused_class.result (sym (beside_class c.args.op c.args.scalar_left d x) ∙ told) c.refused_class.ensures
