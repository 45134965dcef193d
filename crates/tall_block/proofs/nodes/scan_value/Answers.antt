use Rattle.std.specs.Prelude.{◌∷◌, [], List}
use Rattle.std.proofs.Common.{ap, sym, subst, ◌∙◌}
use Rattle.tall_value.specs.declared.class.Class.{Class}
use Rattle.tall_value.specs.Cells.{Seen, seen}
use Rattle.tall_value.specs.Classes.{kind_of}
use Rattle.tall_value.specs.FunctionClasses.{scan_class}
use Rattle.tall_semantics.specs.Outcomes.{Outcome, row_by_row, rows_in}
use Rattle.tall_semantics.specs.ShapesInOrder.{shape_at}
use Rattle.tall_blocks.specs.Carries.{AllCells, IsInClass, scanned_behind}
use Rattle.tall_block.specs.Shown.{Tells}
use Rattle.tall_block.proofs.OperandLaws.{class_ok}
use Rattle.tall_block.proofs.RowBackLaws.{shown_cells}
use Rattle.tall_block.proofs.ScanLaws.{scan_taken}
use Rattle.tall_block.proofs.StepLaws.{shown_none}
use Rattle.tall_block.proofs.nodes.scan_value.Goals as goal

pub scan_over-requires : goal.scan_over-requires
scan_over-requires c = ap (scan_class c.args.s) c.requires.operand ∙ (scan_taken c.args.graph.now c.keeps_its_rules.ensures.made c.args.n c.args.a c.args.s c.requires.node ∙ ap class_ok (sym c.requires.cell_class))

pub returns-clause-rows : goal.returns-clause-rows
returns-clause-rows c = λ h at goes shows.
    let within : AllCells (IsInClass (kind_of c.args.x.now.class)) c.args.x.now.cells = c.scan_over.ensures.within in
    let is = goes.scanned (shown_none (h c.args.a) c.args.x.now.cells shows)
    (subst (λ (cs : List Seen). AllCells (IsInClass (kind_of (shape_at c.args.graph.now c.args.a).class)) cs) (sym (shown_cells (h c.args.a) c.args.x.now.cells shows)) (subst (λ (k : Class). AllCells (IsInClass (kind_of k)) c.args.x.now.cells) c.requires.operand within)) in
    subst (λ (o : Outcome). Tells at (rows_in (h c.args.a)) o c.scan_over.result) (sym is)
    (subst (λ (k : Class). Tells at (rows_in (h c.args.a)) (row_by_row at (scanned_behind c.args.s (kind_of k) (seen c.args.cell.now ∷ []) (rows_in (h c.args.a)))) c.scan_over.result) c.requires.operand (c.scan_over.ensures.rows at (h c.args.a) shows))
