use Rattle.std.specs.Prelude.{refl, false, [], ◌∷◌}
use Rattle.std.proofs.Common.{ap, sym, ◌∙◌, inl, inr}
use Rattle.tall_value.specs.ClassTables.{binary_class}
use Rattle.tall_semantics.specs.Operations.{binary}
use Rattle.tall_semantics.specs.ShapesInOrder.{shape_at}
use Rattle.tall_block.proofs.OperandLaws.{columns_taken, made_class, ok_of}
use Rattle.tall_block.proofs.Operators.{binary_told}
use Rattle.tall_gather.specs.Smalls.{found_in}
use Rattle.tall_gather.proofs.LeadLaws.{even_rows, lead_short, lead_told}
use Rattle.tall_gather.proofs.OperatorLaws.{both_tell, left_leads, right_leads}
use Rattle.tall_gather.proofs.operators.columns_value.Goals as goal

pub map_columns-answer-requires : goal.map_columns-answer-requires
map_columns-answer-requires c = ok_of (binary_class c.args.op c.args.x.now.column.now.class false c.args.y.now.column.now.class false) (shape_at c.args.graph.now c.args.n).class (ap (λ k. binary_class c.args.op k false c.args.y.now.column.now.class false) c.requires.left_fit.class ∙ (ap (λ k. binary_class c.args.op (shape_at c.args.graph.now c.args.a).class false k false) c.requires.right_fit.class ∙ columns_taken c.args.graph.now c.keeps_its_rules.ensures.made c.args.n c.args.a c.args.b c.args.op c.requires.node c.requires.left c.requires.right))

pub column_value-requires-clause-numbered : goal.column_value-requires-clause-numbered
column_value-requires-clause-numbered c = (left_leads c.args.graph.now c.keeps_its_rules.ensures.made c.args.n c.requires.rest c.args.a c.args.b c.args.op (found_in c.args.x.now) c.requires.node c.requires.left c.requires.left_fit).numbered

pub column_value-requires-clause-class : goal.column_value-requires-clause-class
column_value-requires-clause-class c = made_class c.map_columns-answer.result (binary_class c.args.op c.args.x.now.column.now.class false c.args.y.now.column.now.class false) (shape_at c.args.graph.now c.args.n).class c.map_columns-answer.ensures.class (ap (λ k. binary_class c.args.op k false c.args.y.now.column.now.class false) c.requires.left_fit.class ∙ (ap (λ k. binary_class c.args.op (shape_at c.args.graph.now c.args.a).class false k false) c.requires.right_fit.class ∙ columns_taken c.args.graph.now c.keeps_its_rules.ensures.made c.args.n c.args.a c.args.b c.args.op c.requires.node c.requires.left c.requires.right))

pub column_value-requires-clause-height : goal.column_value-requires-clause-height
column_value-requires-clause-height c = lead_short c.args.graph.now c.args.n c.args.a (found_in c.args.x.now) c.map_columns-answer.result (left_leads c.args.graph.now c.keeps_its_rules.ensures.made c.args.n c.requires.rest c.args.a c.args.b c.args.op (found_in c.args.x.now) c.requires.node c.requires.left c.requires.left_fit) c.map_columns-answer.ensures.height

pub column_value-requires-clause-few : goal.column_value-requires-clause-few
column_value-requires-clause-few c = (left_leads c.args.graph.now c.keeps_its_rules.ensures.made c.args.n c.requires.rest c.args.a c.args.b c.args.op (found_in c.args.x.now) c.requires.node c.requires.left c.requires.left_fit).few

pub returns-clause-told : goal.returns-clause-told
returns-clause-told c columns f computed left right =
    let lead = (left_leads c.args.graph.now c.keeps_its_rules.ensures.made c.args.n c.requires.rest c.args.a c.args.b c.args.op (found_in c.args.x.now) c.requires.node c.requires.left c.requires.left_fit) in
    let other = (right_leads c.args.graph.now c.keeps_its_rules.ensures.made c.args.n c.requires.rest c.args.a c.args.b c.args.op (found_in c.args.y.now) c.requires.node c.requires.right c.requires.right_fit) in
    let same = even_rows columns c.args.graph.now f computed c.keeps_its_rules.ensures.made c.keeps_its_rules.ensures.ordered c.args.n c.args.a c.args.b (binary c.args.op) (c.args.a ∷ c.args.b ∷ []) c.requires.node (inl refl) (inr (inl refl)) (found_in c.args.x.now) (found_in c.args.y.now) lead c.requires.right other.operand_is (lead.space_is ∙ sym other.space_is) left right in
    lead_told columns c.args.graph.now f computed c.keeps_its_rules.ensures.made c.keeps_its_rules.ensures.ordered c.args.n c.args.a (binary c.args.op) (c.args.a ∷ c.args.b ∷ []) c.requires.node (inl refl) (found_in c.args.x.now) lead left c.map_columns-answer.result c.column_value.result c.column_value.ensures.told
    (both_tell columns c.args.graph.now f computed c.keeps_its_rules.ensures.made c.keeps_its_rules.ensures.ordered c.args.n c.args.a c.args.b c.args.op c.requires.node (found_in c.args.x.now) (found_in c.args.y.now) c.map_columns-answer.result c.requires.right other.operand_is left right
    (binary_told c.args.op c.args.x.now.column.now.cells c.args.y.now.column.now.cells c.map_columns-answer.result (c.map_columns-answer.ensures.rows same) same))
