use Rattle.std.specs.Prelude.{◌≡◌, Ok, IsOk, IfOk, [], ◌∷◌}
use Rattle.std.proofs.Common.{sym, subst, ◌∙◌}
use Rattle.tall_value.specs.declared.class.Class.{Class}
use Rattle.tall_value.specs.ClassTables.{unary_class}
use Rattle.tall_dense.specs.Columns.{SeenColumn}
use Rattle.tall_semantics.specs.Operations.{unary}
use Rattle.tall_semantics.specs.Outcomes.{Outcome, elementwise_one, rows_in}
use Rattle.tall_semantics.specs.ShapesInOrder.{shape_at}
use Rattle.tall_block.specs.OfBlocks.{vertex_over}
use Rattle.tall_block.specs.Shown.{Shows, Tells}
use Rattle.tall_block.proofs.OperandLaws.{made_class, ok_of, one_sound, unary_taken}
use Rattle.tall_block.proofs.nodes.unary_value.Goals as goal

pub unary_over-requires : goal.unary_over-requires
unary_over-requires c =
    subst (λ (k : Class). IsOk (unary_class c.args.op k)) (sym c.requires.operand)
    (ok_of (unary_class c.args.op (shape_at c.args.graph.now c.args.a).class) (shape_at c.args.graph.now c.args.n).class (unary_taken c.args.graph.now c.keeps_its_rules.ensures.made c.args.n c.args.a c.args.op c.requires.node))

pub returns-clause-class : goal.returns-clause-class
returns-clause-class c =
    made_class c.unary_over.result (unary_class c.args.op (shape_at c.args.graph.now c.args.a).class) (shape_at c.args.graph.now c.args.n).class
    (subst (λ (k : Class). IfOk c.unary_over.result (λ (d : SeenColumn). unary_class c.args.op k ≡ Ok d.class)) c.requires.operand c.unary_over.ensures.class)
    (unary_taken c.args.graph.now c.keeps_its_rules.ensures.made c.args.n c.args.a c.args.op c.requires.node)

pub returns-clause-rows : goal.returns-clause-rows
returns-clause-rows c = λ columns so_far f cut h block q show at e.
    let shows : Shows (h c.args.a) c.args.x.now.cells = show.0 in
    let own : Outcome = elementwise_one at c.args.op (h c.args.a) in
    let is : h c.args.n ≡ own = block.over.made c.args.n (vertex_over at (unary c.args.op) (c.args.a ∷ [])) e q ∙ one_sound (h c.args.a) own c.args.x.now.cells shows in
    subst (λ (o : Outcome). Tells at (rows_in (h c.args.a)) o c.unary_over.result) (sym is) (c.unary_over.ensures.rows at (h c.args.a) shows)
