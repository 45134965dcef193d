-- By what the graph tells of the index.
use Rattle.std.proofs.Common.{ap, ◌∙◌}
use Rattle.tall_local.specs.MemoryIndexing.{is_logical}
use Rattle.tall_semantics.specs.Shapes.{Shape}
use Rattle.tall_deferred.proofs.IndexLaws.{scalar_index, logical_index, other_index}
use Rattle.tall_deferred.proofs.Operands.{shape_told, scalar_told}
use Rattle.tall_deferred.proofs.indexes.tall_index_of_memory.Goals as goal

pub returns-then-scalar : goal.returns-then-scalar
returns-then-scalar c columns f m =
    scalar_index (f c.args.i) c.is_scalar-scalar.result
    (scalar_told columns c.args.graph.now f c.args.i c.is_scalar-scalar.result c.keeps_its_rules.ensures.made m c.requires c.is_scalar-scalar.ensures) c.if-scalar.true

pub returns-then-logical : goal.returns-then-logical
returns-then-logical c columns f m =
    logical_index (f c.args.i) c.is_scalar-scalar.result c.is_logical-logical.result
    (scalar_told columns c.args.graph.now f c.args.i c.is_scalar-scalar.result c.keeps_its_rules.ensures.made m c.requires c.is_scalar-scalar.ensures) c.if-scalar.false
    (c.is_logical-logical.ensures ∙ ap is_logical (c.class_of-class.ensures ∙ ap (λ (s : Shape). s.class) (shape_told columns c.args.graph.now f c.args.i c.keeps_its_rules.ensures.made m c.requires))) c.if-logical.true

pub returns-else-logical : goal.returns-else-logical
returns-else-logical c columns f m =
    other_index (f c.args.i) c.is_scalar-scalar.result c.is_logical-logical.result
    (scalar_told columns c.args.graph.now f c.args.i c.is_scalar-scalar.result c.keeps_its_rules.ensures.made m c.requires c.is_scalar-scalar.ensures) c.if-scalar.false
    (c.is_logical-logical.ensures ∙ ap is_logical (c.class_of-class.ensures ∙ ap (λ (s : Shape). s.class) (shape_told columns c.args.graph.now f c.args.i c.keeps_its_rules.ensures.made m c.requires))) c.if-logical.false
