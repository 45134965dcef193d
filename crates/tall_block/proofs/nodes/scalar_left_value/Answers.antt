use Rattle.std.specs.Prelude.{◌≡◌, refl, Ok, IsOk, IfOk, [], ◌∷◌, true}
use Rattle.std.proofs.Common.{ap, sym, subst, ◌∙◌}
use Rattle.tall_value.specs.declared.class.Class.{Class}
use Rattle.tall_value.specs.Cells.{seen}
use Rattle.tall_dense.specs.Columns.{SeenColumn, class_of_cell}
use Rattle.tall_column.specs.Mapped.{scalar_class}
use Rattle.tall_semantics.specs.Operations.{binary}
use Rattle.tall_semantics.specs.Outcomes.{Outcome, elementwise_two, rows_in, scalar}
use Rattle.tall_semantics.specs.ShapesInOrder.{shape_at}
use Rattle.tall_block.specs.OfBlocks.{vertex_over}
use Rattle.tall_block.specs.Shown.{Shows, Tells}
use Rattle.tall_block.proofs.OperandLaws.{made_class, ok_of, left_sound, left_taken}
use Rattle.tall_block.proofs.nodes.scalar_left_value.Goals as goal

pub scalar_over-requires : goal.scalar_over-requires
scalar_over-requires c =
    subst (λ (k : Class). IsOk (scalar_class c.args.op true (class_of_cell (seen c.args.cell.now)) k)) (sym c.requires.operand)
    (ok_of (scalar_class c.args.op true (class_of_cell (seen c.args.cell.now)) (shape_at c.args.graph.now c.args.a).class) (shape_at c.args.graph.now c.args.n).class
    (left_taken c.args.graph.now c.keeps_its_rules.ensures.made c.args.n c.args.s c.args.a c.args.op (class_of_cell (seen c.args.cell.now)) c.requires.node c.requires.single c.requires.column c.requires.cell_class))

pub returns-clause-class : goal.returns-clause-class
returns-clause-class c =
    made_class c.scalar_over.result (scalar_class c.args.op true (class_of_cell (seen c.args.cell.now)) (shape_at c.args.graph.now c.args.a).class) (shape_at c.args.graph.now c.args.n).class
    (subst (λ (k : Class). IfOk c.scalar_over.result (λ (d : SeenColumn). scalar_class c.args.op true (class_of_cell (seen c.args.cell.now)) k ≡ Ok d.class)) c.requires.operand c.scalar_over.ensures.class)
    (left_taken c.args.graph.now c.keeps_its_rules.ensures.made c.args.n c.args.s c.args.a c.args.op (class_of_cell (seen c.args.cell.now)) c.requires.node c.requires.single c.requires.column c.requires.cell_class)

pub returns-clause-rows : goal.returns-clause-rows
returns-clause-rows c = λ columns so_far f cut h block q show r at e.
    let shows : Shows (h c.args.a) c.args.x.now.cells = show.0 in
    let cell : Outcome = scalar (seen c.args.cell.now) in
    let mid : Outcome = elementwise_two at c.args.op (h c.args.s) (h c.args.a) in
    let own : Outcome = elementwise_two at c.args.op cell (h c.args.a) in
    let is : h c.args.n ≡ own = block.over.made c.args.n (vertex_over at (binary c.args.op) (c.args.s ∷ c.args.a ∷ [])) e q ∙ (left_sound (h c.args.a) (h c.args.s) mid c.args.x.now.cells (seen c.args.cell.now) shows r ∙ ap (λ (o : Outcome). elementwise_two at c.args.op o (h c.args.a)) r) in
    subst (λ (o : Outcome). Tells at (rows_in (h c.args.a)) o c.scalar_over.result) (sym is) (c.scalar_over.ensures.left refl at (h c.args.a) shows)
