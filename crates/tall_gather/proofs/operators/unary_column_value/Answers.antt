use Rattle.std.specs.Prelude.{refl, [], ◌∷◌}
use Rattle.std.proofs.Common.{ap, ◌∙◌, inl}
use Rattle.tall_value.specs.ClassTables.{unary_class}
use Rattle.tall_semantics.specs.Operations.{unary}
use Rattle.tall_semantics.specs.ShapesInOrder.{shape_at}
use Rattle.tall_block.proofs.Heights.{unary_short}
use Rattle.tall_block.proofs.OperandLaws.{made_class, ok_of, unary_taken}
use Rattle.tall_block.proofs.Operators.{unary_told}
use Rattle.tall_gather.specs.Smalls.{found_in}
use Rattle.tall_gather.proofs.LeadLaws.{lead_short, lead_told}
use Rattle.tall_gather.proofs.OperatorLaws.{unary_leads, unary_tells}
use Rattle.tall_gather.proofs.operators.unary_column_value.Goals as goal

pub map_unary-answer-requires : goal.map_unary-answer-requires
map_unary-answer-requires c = ok_of (unary_class c.args.op c.args.x.now.column.now.class) (shape_at c.args.graph.now c.args.n).class (ap (unary_class c.args.op) c.requires.fit.class ∙ unary_taken c.args.graph.now c.keeps_its_rules.ensures.made c.args.n c.args.a c.args.op c.requires.node)

pub column_value-requires-clause-numbered : goal.column_value-requires-clause-numbered
column_value-requires-clause-numbered c = (unary_leads c.args.graph.now c.keeps_its_rules.ensures.made c.args.n c.requires.rest c.args.a c.args.op (found_in c.args.x.now) c.requires.node c.requires.column c.requires.fit).numbered

pub column_value-requires-clause-class : goal.column_value-requires-clause-class
column_value-requires-clause-class c = made_class c.map_unary-answer.result (unary_class c.args.op c.args.x.now.column.now.class) (shape_at c.args.graph.now c.args.n).class c.map_unary-answer.ensures.class (ap (unary_class c.args.op) c.requires.fit.class ∙ unary_taken c.args.graph.now c.keeps_its_rules.ensures.made c.args.n c.args.a c.args.op c.requires.node)

pub column_value-requires-clause-height : goal.column_value-requires-clause-height
column_value-requires-clause-height c =
    lead_short c.args.graph.now c.args.n c.args.a (found_in c.args.x.now) c.map_unary-answer.result (unary_leads c.args.graph.now c.keeps_its_rules.ensures.made c.args.n c.requires.rest c.args.a c.args.op (found_in c.args.x.now) c.requires.node c.requires.column c.requires.fit)
    (unary_short c.args.op c.args.x.now.column.now.cells c.map_unary-answer.result c.map_unary-answer.ensures.rows)

pub column_value-requires-clause-few : goal.column_value-requires-clause-few
column_value-requires-clause-few c = (unary_leads c.args.graph.now c.keeps_its_rules.ensures.made c.args.n c.requires.rest c.args.a c.args.op (found_in c.args.x.now) c.requires.node c.requires.column c.requires.fit).few

pub returns-clause-told : goal.returns-clause-told
returns-clause-told c columns f computed shows =
    lead_told columns c.args.graph.now f computed c.keeps_its_rules.ensures.made c.keeps_its_rules.ensures.ordered c.args.n c.args.a (unary c.args.op) (c.args.a ∷ []) c.requires.node (inl refl) (found_in c.args.x.now) (unary_leads c.args.graph.now c.keeps_its_rules.ensures.made c.args.n c.requires.rest c.args.a c.args.op (found_in c.args.x.now) c.requires.node c.requires.column c.requires.fit) shows c.map_unary-answer.result c.column_value.result c.column_value.ensures.told
    (unary_tells columns c.args.graph.now f computed c.keeps_its_rules.ensures.made c.keeps_its_rules.ensures.ordered c.args.n c.args.a c.args.op c.requires.node (found_in c.args.x.now) c.map_unary-answer.result shows
    (unary_told c.args.op c.args.x.now.column.now.cells c.map_unary-answer.result c.map_unary-answer.ensures.rows))
