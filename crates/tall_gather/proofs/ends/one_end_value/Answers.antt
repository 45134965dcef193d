use Rattle.std.specs.Prelude.{length}
use Rattle.tall_semantics.specs.ShapesInOrder.{shape_at}
use Rattle.tall_gather.specs.Smalls.{found_in}
use Rattle.tall_gather.proofs.EndLaws.{accepted_one, column_of_one, few_cells, kept_within, many_of_one, one_end_told, space_of_one}
use Rattle.tall_gather.proofs.ends.one_end_value.Goals as goal

pub one_part-requires-clause-numbers : goal.one_part-requires-clause-numbers
one_part-requires-clause-numbers c =
    kept_within c.args.e (length c.args.x.now.numbers.now) (length c.args.x.now.column.now.cells) (many_of_one c.args.graph.now c.args.n c.args.a c.args.e c.args.place (found_in c.args.x.now) c.requires.rest c.requires.node (column_of_one c.args.graph.now c.keeps_its_rules.ensures.made c.args.n c.args.e c.args.place c.args.a c.requires.node) c.requires.fit)

pub end_value-requires-clause-part : goal.end_value-requires-clause-part
end_value-requires-clause-part c = (
  c.args.x.now.column.now.class,
  c.args.x.now.column.now.class,
  length c.args.x.now.column.now.cells,
  c.in-Ok.ensures.some,
  few_cells (shape_at c.args.graph.now c.args.a) (found_in c.args.x.now) c.requires.fit,
  accepted_one c.args.graph.now c.keeps_its_rules.ensures.made c.args.n c.args.e c.args.place c.args.a c.args.x.now.column.now.class c.requires.node c.requires.fit.class,
)

pub end_value-requires-clause-place : goal.end_value-requires-clause-place
end_value-requires-clause-place c = (accepted_one c.args.graph.now c.keeps_its_rules.ensures.made c.args.n c.args.e c.args.place c.args.a c.args.x.now.column.now.class c.requires.node c.requires.fit.class).column c.requires.column

pub end_value-requires-clause-space : goal.end_value-requires-clause-space
end_value-requires-clause-space c = space_of_one c.args.graph.now c.keeps_its_rules.ensures.made c.args.n c.args.e c.args.place c.args.a c.requires.node

pub returns-in-Ok-clause-told : goal.returns-in-Ok-clause-told
returns-in-Ok-clause-told c columns f computed shows =
    one_end_told columns c.args.graph.now f computed c.keeps_its_rules.ensures.made c.keeps_its_rules.ensures.ordered c.args.n c.requires.rest c.args.e c.args.place c.args.a c.requires.node (found_in c.args.x.now) c.in-Ok.part c.end_value.result c.requires.fit.class shows c.in-Ok.ensures.rows c.end_value.ensures.told
