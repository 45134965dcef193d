use Rattle.tall_gather.specs.Smalls.{found_in}
use Rattle.tall_gather.proofs.EndLaws.{accepted_two, space_of_two, two_end_told}
use Rattle.tall_gather.proofs.ends.two_end_value.Goals as goal

pub two_part-requires-clause-takes : goal.two_part-requires-clause-takes
two_part-requires-clause-takes c = (accepted_two c.args.graph.now c.keeps_its_rules.ensures.made c.args.n c.args.e c.args.place c.args.a c.args.b c.args.x.now.column.now.class c.args.y.now.column.now.class c.requires.node c.requires.left_fit.class c.requires.right_fit.class).taken

pub end_value-requires-clause-part : goal.end_value-requires-clause-part
end_value-requires-clause-part c = (c.args.x.now.column.now.class, c.args.y.now.column.now.class, c.in-Ok.ensures.some.0, c.in-Ok.ensures.some.1, c.in-Ok.ensures.some.2, (accepted_two c.args.graph.now c.keeps_its_rules.ensures.made c.args.n c.args.e c.args.place c.args.a c.args.b c.args.x.now.column.now.class c.args.y.now.column.now.class c.requires.node c.requires.left_fit.class c.requires.right_fit.class))

pub end_value-requires-clause-place : goal.end_value-requires-clause-place
end_value-requires-clause-place c = (accepted_two c.args.graph.now c.keeps_its_rules.ensures.made c.args.n c.args.e c.args.place c.args.a c.args.b c.args.x.now.column.now.class c.args.y.now.column.now.class c.requires.node c.requires.left_fit.class c.requires.right_fit.class).column c.requires.column

pub end_value-requires-clause-space : goal.end_value-requires-clause-space
end_value-requires-clause-space c = space_of_two c.args.graph.now c.keeps_its_rules.ensures.made c.args.n c.args.e c.args.place c.args.a c.args.b c.requires.node

pub returns-in-Ok-clause-told : goal.returns-in-Ok-clause-told
returns-in-Ok-clause-told c columns f computed left right =
    two_end_told columns c.args.graph.now f computed c.keeps_its_rules.ensures.made c.keeps_its_rules.ensures.ordered c.args.n c.requires.rest c.args.e c.args.place c.args.a c.args.b c.requires.node (found_in c.args.x.now) (found_in c.args.y.now) c.in-Ok.part c.end_value.result c.requires.left_fit.class c.requires.right_fit.class left right c.in-Ok.ensures.rows c.end_value.ensures.told
