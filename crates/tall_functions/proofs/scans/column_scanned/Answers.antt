use Rattle.std.proofs.Common.{◌≡◌, Ok, [], rules}
use Rattle.tall_value.specs.Classes.{kind_of}
use Rattle.tall_value.specs.ClassTables.{class_result}
use Rattle.tall_value.specs.Columns.{numbered}
use Rattle.tall_value.specs.FunctionClasses.{scan_kind}
use Rattle.tall_value.specs.Scans.{scanned}
use Rattle.tall_fold.specs.Carries.{result_kind, scan_rows}
use Rattle.tall_memory.proofs.ColumnLemmas.{column_is_given}
use Rattle.tall_functions.proofs.ScanLemmas.{scan_from_one, scan_is_below}
use Rattle.tall_functions.proofs.scans.column_scanned.Goals as goal

pub column_answer-requires : goal.column_answer-requires
column_answer-requires c = scan_is_below c.args.s c.args.x.now c.len-rows.result c.whole_scan.result c.len-rows.ensures c.whole_scan.ensures.rows

pub returns-in-Ok : goal.returns-in-Ok
returns-in-Ok c =
    let x = c.args.x.now in
    let s = c.args.s in
    let told : class_result (scan_kind s (kind_of x.class)) ≡ Ok c.in-Ok.field-0 = search rules in
    column_is_given (scan_kind s (kind_of x.class)) c.in-Ok.field-0 (scan_rows s (result_kind (kind_of x.class)) [] (numbered 0 x.cells)) (scanned s (kind_of x.class) (numbered 1 x.cells)) c.whole_scan.result
    c.column_answer.result told c.whole_scan.ensures.class c.whole_scan.ensures.rows (scan_from_one s x c.in-Ok.field-0 told c.whole_scan.ensures.kinds) c.column_answer.ensures
