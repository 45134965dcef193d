use Rattle.std.specs.Prelude.{◌≡◌, ◌∷◌, []}
use Rattle.std.proofs.Common.{subst}
use Rattle.tall_value.specs.declared.class.Class.{Class}
use Rattle.tall_value.specs.Cells.{seen}
use Rattle.tall_value.specs.Classes.{kind_of}
use Rattle.tall_value.specs.Columns.{numbered}
use Rattle.tall_value.specs.FunctionClasses.{scan_class}
use Rattle.tall_dense.specs.Columns.{SeenColumn, class_of_cell}
use Rattle.tall_dense.specs.Rows.{Answers}
use Rattle.tall_fold.specs.Carries.{scan_rows}
use Rattle.tall_blocks.specs.Carries.{AllCells}
use Rattle.tall_block.specs.ScanCells.{IsScanned}
use Rattle.tall_block.proofs.Heights.{scan_short}
use Rattle.tall_block.proofs.ScanLaws.{class_again, same_class, scan_told, within_class}
use Rattle.tall_block.proofs.scans.scan_over.Goals as goal

pub returns-clause-within : goal.returns-clause-within
returns-clause-within c = within_class (kind_of c.args.x.now.class) c.args.x.now.cells (subst (λ (d : SeenColumn). AllCells (IsScanned (kind_of d.class)) d.cells) c.values.ensures c.cells_are_of_class.ensures)

pub returns-clause-rows : goal.returns-clause-rows
returns-clause-rows c = λ at y shows.
    let again = (class_again c.args.s c.args.x.now.class (class_of_cell (seen c.args.cell.now)) c.requires).0 in
    let class : c.of.result.class ≡ class_of_cell (seen c.args.cell.now) = same_class (scan_class c.args.s (class_of_cell (seen c.args.cell.now))) c.of.result.class (class_of_cell (seen c.args.cell.now)) c.of.ensures.class again in
    scan_told c.args.s c.args.x.now (seen c.args.cell.now) c.scan.result c.requires (subst (λ (d : SeenColumn). AllCells (IsScanned (kind_of d.class)) d.cells) c.values.ensures c.cells_are_of_class.ensures)
    (subst (λ (k : Class). Answers (scan_rows c.args.s (kind_of k) (seen c.args.cell.now ∷ []) (numbered 0 c.args.x.now.cells)) (λ (d : SeenColumn). d.cells) c.scan.result) class (c.scan.ensures.rows (seen c.args.cell.now ∷ []) c.of.ensures.carry)) at y shows

pub returns-clause-height : goal.returns-clause-height
returns-clause-height c = scan_short c.args.s (kind_of c.of.result.class) (seen c.args.cell.now ∷ []) c.args.x.now.cells c.scan.result (c.scan.ensures.rows (seen c.args.cell.now ∷ []) c.of.ensures.carry)
