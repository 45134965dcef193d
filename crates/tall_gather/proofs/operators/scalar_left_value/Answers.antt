use Rattle.std.specs.Prelude.{refl, true, [], ◌∷◌}
use Rattle.std.proofs.Common.{ap, ◌∙◌, arith, inl, inr}
use Rattle.tall_value.specs.Cells.{seen}
use Rattle.tall_dense.specs.Columns.{class_of_cell}
use Rattle.tall_column.specs.Mapped.{scalar_class}
use Rattle.tall_semantics.specs.Operations.{binary}
use Rattle.tall_semantics.specs.ShapesInOrder.{shape_at}
use Rattle.tall_block.proofs.Heights.{scalar_short}
use Rattle.tall_block.proofs.OperandLaws.{left_taken, made_class, ok_of}
use Rattle.tall_block.proofs.Operators.{left_told}
use Rattle.tall_gather.specs.Smalls.{found_in}
use Rattle.tall_gather.proofs.LeadLaws.{lead_short, lead_told, one_row}
use Rattle.tall_gather.proofs.OperatorLaws.{right_leads, left_tells}
use Rattle.tall_gather.proofs.operators.scalar_left_value.Goals as goal

pub get-requires : goal.get-requires
get-requires c = (let one = one_row (shape_at c.args.graph.now c.args.a) (found_in c.args.x.now) c.requires.left_fit c.requires.left in omega (arith, one))

pub map_scalar-answer-requires : goal.map_scalar-answer-requires
map_scalar-answer-requires c = ok_of (scalar_class c.args.op true (class_of_cell (seen c.get.result)) c.args.y.now.column.now.class) (shape_at c.args.graph.now c.args.n).class (ap (scalar_class c.args.op true (class_of_cell (seen c.get.result))) c.requires.right_fit.class ∙ left_taken c.args.graph.now c.keeps_its_rules.ensures.made c.args.n c.args.a c.args.b c.args.op (class_of_cell (seen c.get.result)) c.requires.node c.requires.left c.requires.right (c.get.ensures.class ∙ c.requires.left_fit.class))

pub column_value-requires-clause-numbered : goal.column_value-requires-clause-numbered
column_value-requires-clause-numbered c = (right_leads c.args.graph.now c.keeps_its_rules.ensures.made c.args.n c.requires.rest c.args.a c.args.b c.args.op (found_in c.args.y.now) c.requires.node c.requires.right c.requires.right_fit).numbered

pub column_value-requires-clause-class : goal.column_value-requires-clause-class
column_value-requires-clause-class c = made_class c.map_scalar-answer.result (scalar_class c.args.op true (class_of_cell (seen c.get.result)) c.args.y.now.column.now.class) (shape_at c.args.graph.now c.args.n).class c.map_scalar-answer.ensures.class (ap (scalar_class c.args.op true (class_of_cell (seen c.get.result))) c.requires.right_fit.class ∙ left_taken c.args.graph.now c.keeps_its_rules.ensures.made c.args.n c.args.a c.args.b c.args.op (class_of_cell (seen c.get.result)) c.requires.node c.requires.left c.requires.right (c.get.ensures.class ∙ c.requires.left_fit.class))

pub column_value-requires-clause-height : goal.column_value-requires-clause-height
column_value-requires-clause-height c =
    lead_short c.args.graph.now c.args.n c.args.b (found_in c.args.y.now) c.map_scalar-answer.result (right_leads c.args.graph.now c.keeps_its_rules.ensures.made c.args.n c.requires.rest c.args.a c.args.b c.args.op (found_in c.args.y.now) c.requires.node c.requires.right c.requires.right_fit)
    (scalar_short c.args.op true (seen c.get.result) c.args.y.now.column.now.cells c.map_scalar-answer.result c.map_scalar-answer.ensures.rows)

pub column_value-requires-clause-few : goal.column_value-requires-clause-few
column_value-requires-clause-few c = (right_leads c.args.graph.now c.keeps_its_rules.ensures.made c.args.n c.requires.rest c.args.a c.args.b c.args.op (found_in c.args.y.now) c.requires.node c.requires.right c.requires.right_fit).few

pub returns-clause-told : goal.returns-clause-told
returns-clause-told c columns f computed left right =
    lead_told columns c.args.graph.now f computed c.keeps_its_rules.ensures.made c.keeps_its_rules.ensures.ordered c.args.n c.args.b (binary c.args.op) (c.args.a ∷ c.args.b ∷ []) c.requires.node (inr (inl refl)) (found_in c.args.y.now) (right_leads c.args.graph.now c.keeps_its_rules.ensures.made c.args.n c.requires.rest c.args.a c.args.b c.args.op (found_in c.args.y.now) c.requires.node c.requires.right c.requires.right_fit) right c.map_scalar-answer.result c.column_value.result c.column_value.ensures.told
    (left_tells columns c.args.graph.now f computed c.keeps_its_rules.ensures.made c.keeps_its_rules.ensures.ordered c.args.n c.args.a c.args.b c.args.op c.requires.node (found_in c.args.x.now) (found_in c.args.y.now) (seen c.get.result) c.map_scalar-answer.result c.requires.left left right c.get.ensures.cell
    (left_told c.args.op (seen c.get.result) c.args.y.now.column.now.cells c.map_scalar-answer.result c.map_scalar-answer.ensures.rows))
