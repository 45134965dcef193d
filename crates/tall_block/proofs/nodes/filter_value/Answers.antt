use Rattle.std.proofs.Common.{◌∙◌}
use Rattle.tall_semantics.specs.ShapesInOrder.{shape_at}
use Rattle.tall_block.proofs.OperandLaws.{filter_class, filter_shown, filter_taken}
use Rattle.tall_block.proofs.nodes.filter_value.Goals as goal

pub filter_over-requires : goal.filter_over-requires
filter_over-requires c = c.requires.mask_class ∙ (filter_taken c.args.graph.now c.keeps_its_rules.ensures.made c.args.n c.args.a c.args.m c.requires.node).0

pub returns-clause-class : goal.returns-clause-class
returns-clause-class c =
    filter_class c.filter_over.result c.args.x.now.class (shape_at c.args.graph.now c.args.n).class (c.requires.operand ∙ (filter_taken c.args.graph.now c.keeps_its_rules.ensures.made c.args.n c.args.a c.args.m c.requires.node).1) c.filter_over.ensures.class

pub returns-clause-rows : goal.returns-clause-rows
returns-clause-rows c = filter_shown c.args.graph.now c.filter_over.result c.args.n c.args.a c.args.m c.args.x.now c.args.mask.now c.filter_over.ensures.rows
