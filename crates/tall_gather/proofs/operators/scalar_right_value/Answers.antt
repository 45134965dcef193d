use Rattle.std.specs.Prelude.{refl, false, [], ◌∷◌}
use Rattle.std.proofs.Common.{ap, ◌∙◌, arith, inl}
use Rattle.tall_value.specs.Cells.{seen}
use Rattle.tall_dense.specs.Columns.{class_of_cell}
use Rattle.tall_column.specs.Mapped.{scalar_class}
use Rattle.tall_semantics.specs.Operations.{binary}
use Rattle.tall_semantics.specs.ShapesInOrder.{shape_at}
use Rattle.tall_block.proofs.Heights.{scalar_short}
use Rattle.tall_block.proofs.OperandLaws.{right_taken, made_class, ok_of}
use Rattle.tall_block.proofs.Operators.{right_told}
use Rattle.tall_gather.specs.Smalls.{found_in}
use Rattle.tall_gather.proofs.LeadLaws.{lead_short, lead_told, one_row}
use Rattle.tall_gather.proofs.OperatorLaws.{left_leads, right_tells}
use Rattle.tall_gather.proofs.operators.scalar_right_value.Goals as goal

pub get-requires : goal.get-requires
get-requires c = (let one = one_row (shape_at c.args.graph.now c.args.b) (found_in c.args.y.now) c.requires.right_fit c.requires.right in omega (arith, one))

pub map_scalar-answer-requires : goal.map_scalar-answer-requires
map_scalar-answer-requires c = ok_of (scalar_class c.args.op false (class_of_cell (seen c.get.result)) c.args.x.now.column.now.class) (shape_at c.args.graph.now c.args.n).class (ap (scalar_class c.args.op false (class_of_cell (seen c.get.result))) c.requires.left_fit.class ∙ right_taken c.args.graph.now c.keeps_its_rules.ensures.made c.args.n c.args.a c.args.b c.args.op (class_of_cell (seen c.get.result)) c.requires.node c.requires.left c.requires.right (c.get.ensures.class ∙ c.requires.right_fit.class))

pub column_value-requires-clause-numbered : goal.column_value-requires-clause-numbered
column_value-requires-clause-numbered c = (left_leads c.args.graph.now c.keeps_its_rules.ensures.made c.args.n c.requires.rest c.args.a c.args.b c.args.op (found_in c.args.x.now) c.requires.node c.requires.left c.requires.left_fit).numbered

pub column_value-requires-clause-class : goal.column_value-requires-clause-class
column_value-requires-clause-class c = made_class c.map_scalar-answer.result (scalar_class c.args.op false (class_of_cell (seen c.get.result)) c.args.x.now.column.now.class) (shape_at c.args.graph.now c.args.n).class c.map_scalar-answer.ensures.class (ap (scalar_class c.args.op false (class_of_cell (seen c.get.result))) c.requires.left_fit.class ∙ right_taken c.args.graph.now c.keeps_its_rules.ensures.made c.args.n c.args.a c.args.b c.args.op (class_of_cell (seen c.get.result)) c.requires.node c.requires.left c.requires.right (c.get.ensures.class ∙ c.requires.right_fit.class))

pub column_value-requires-clause-height : goal.column_value-requires-clause-height
column_value-requires-clause-height c =
    lead_short c.args.graph.now c.args.n c.args.a (found_in c.args.x.now) c.map_scalar-answer.result (left_leads c.args.graph.now c.keeps_its_rules.ensures.made c.args.n c.requires.rest c.args.a c.args.b c.args.op (found_in c.args.x.now) c.requires.node c.requires.left c.requires.left_fit)
    (scalar_short c.args.op false (seen c.get.result) c.args.x.now.column.now.cells c.map_scalar-answer.result c.map_scalar-answer.ensures.rows)

pub column_value-requires-clause-few : goal.column_value-requires-clause-few
column_value-requires-clause-few c = (left_leads c.args.graph.now c.keeps_its_rules.ensures.made c.args.n c.requires.rest c.args.a c.args.b c.args.op (found_in c.args.x.now) c.requires.node c.requires.left c.requires.left_fit).few

pub returns-clause-told : goal.returns-clause-told
returns-clause-told c columns f computed left right =
    lead_told columns c.args.graph.now f computed c.keeps_its_rules.ensures.made c.keeps_its_rules.ensures.ordered c.args.n c.args.a (binary c.args.op) (c.args.a ∷ c.args.b ∷ []) c.requires.node (inl refl) (found_in c.args.x.now) (left_leads c.args.graph.now c.keeps_its_rules.ensures.made c.args.n c.requires.rest c.args.a c.args.b c.args.op (found_in c.args.x.now) c.requires.node c.requires.left c.requires.left_fit) left c.map_scalar-answer.result c.column_value.result c.column_value.ensures.told
    (right_tells columns c.args.graph.now f computed c.keeps_its_rules.ensures.made c.keeps_its_rules.ensures.ordered c.args.n c.args.a c.args.b c.args.op c.requires.node (found_in c.args.x.now) (found_in c.args.y.now) (seen c.get.result) c.map_scalar-answer.result c.requires.right left right c.get.ensures.cell
    (right_told c.args.op (seen c.get.result) c.args.x.now.column.now.cells c.map_scalar-answer.result c.map_scalar-answer.ensures.rows))
