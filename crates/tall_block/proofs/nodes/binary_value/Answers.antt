use Rattle.std.specs.Prelude.{◌≡◌, Ok, IsOk, IfOk, [], ◌∷◌, false, length}
use Rattle.std.proofs.Common.{sym, subst, ◌∙◌}
use Rattle.tall_value.specs.declared.class.Class.{Class}
use Rattle.tall_value.specs.ClassTables.{binary_class}
use Rattle.tall_dense.specs.Columns.{SeenColumn}
use Rattle.tall_semantics.specs.Operations.{binary}
use Rattle.tall_semantics.specs.Outcomes.{Outcome, elementwise_two, rows_in}
use Rattle.tall_semantics.specs.ShapesInOrder.{shape_at}
use Rattle.tall_block.specs.OfBlocks.{vertex_over}
use Rattle.tall_block.specs.Shown.{Shows, Tells}
use Rattle.tall_block.proofs.Operators.{shown_long}
use Rattle.tall_block.proofs.OperandLaws.{aligned_rows, both_cut, columns_taken, made_class, ok_of, two_sound}
use Rattle.tall_block.proofs.nodes.binary_value.Goals as goal

pub binary_over-requires : goal.binary_over-requires
binary_over-requires c =
    subst (λ (k : Class). IsOk (binary_class c.args.op k false c.args.y.now.class false)) (sym c.requires.left)
    (subst (λ (k : Class). IsOk (binary_class c.args.op (shape_at c.args.graph.now c.args.a).class false k false)) (sym c.requires.right)
    (ok_of (binary_class c.args.op (shape_at c.args.graph.now c.args.a).class false (shape_at c.args.graph.now c.args.b).class false) (shape_at c.args.graph.now c.args.n).class
    (columns_taken c.args.graph.now c.keeps_its_rules.ensures.made c.args.n c.args.a c.args.b c.args.op c.requires.node c.requires.left_column c.requires.right_column)))

pub returns-clause-class : goal.returns-clause-class
returns-clause-class c =
    made_class c.binary_over.result (binary_class c.args.op (shape_at c.args.graph.now c.args.a).class false (shape_at c.args.graph.now c.args.b).class false) (shape_at c.args.graph.now c.args.n).class
    (subst (λ (k : Class). IfOk c.binary_over.result (λ (d : SeenColumn). binary_class c.args.op (shape_at c.args.graph.now c.args.a).class false k false ≡ Ok d.class)) c.requires.right
    (subst (λ (k : Class). IfOk c.binary_over.result (λ (d : SeenColumn). binary_class c.args.op k false c.args.y.now.class false ≡ Ok d.class)) c.requires.left c.binary_over.ensures.class))
    (columns_taken c.args.graph.now c.keeps_its_rules.ensures.made c.args.n c.args.a c.args.b c.args.op c.requires.node c.requires.left_column c.requires.right_column)

pub returns-clause-rows : goal.returns-clause-rows
returns-clause-rows c = λ columns so_far f cut h block q show at e.
    let left : Shows (h c.args.a) c.args.x.now.cells = show.0 in
    let right : Shows (h c.args.b) c.args.y.now.cells = show.1.0 in
    let own : Outcome = elementwise_two at c.args.op (h c.args.a) (h c.args.b) in
    let is : h c.args.n ≡ own = block.over.made c.args.n (vertex_over at (binary c.args.op) (c.args.a ∷ c.args.b ∷ [])) e q ∙ two_sound (h c.args.a) (h c.args.b) own c.args.x.now.cells c.args.y.now.cells left right in
    let both = both_cut f cut h block.over.known c.args.a c.args.b c.args.op c.args.x.now.cells c.args.y.now.cells (block.can c.args.n (vertex_over at (binary c.args.op) (c.args.a ∷ c.args.b ∷ [])) e q) left right in
    let same = aligned_rows c.args.graph.now cut h block.aligned c.args.n c.args.a c.args.b at (binary c.args.op) c.args.x.now.cells c.args.y.now.cells e q both left right in
    let long : length c.args.y.now.cells ≡ length c.args.x.now.cells = shown_long (h c.args.b) c.args.y.now.cells right ∙ (same ∙ sym (shown_long (h c.args.a) c.args.x.now.cells left)) in
    subst (λ (o : Outcome). Tells at (rows_in (h c.args.a)) o c.binary_over.result) (sym is) (c.binary_over.ensures.rows long at (h c.args.a) (h c.args.b) left right)
