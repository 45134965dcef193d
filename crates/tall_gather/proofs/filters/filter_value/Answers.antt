use Rattle.std.specs.Prelude.{refl, [], ◌∷◌, false}
use Rattle.std.proofs.Common.{arith, ◌∙◌, inl}
use Rattle.tall_semantics.specs.Operations.{filter}
use Rattle.tall_semantics.specs.ShapesInOrder.{shape_at}
use Rattle.tall_block.proofs.OperandLaws.{filter_taken}
use Rattle.tall_gather.specs.Smalls.{found_in, small_found}
use Rattle.tall_gather.proofs.AnswerLaws.{rows_fit}
use Rattle.tall_gather.proofs.FilterLaws.{filter_spaces, filter_told}
use Rattle.tall_gather.proofs.LeadLaws.{few_rows, many_numbers}
use Rattle.tall_gather.proofs.NodeLaws.{operand_numbered, rest_numbered}
use Rattle.tall_gather.proofs.filters.filter_value.Goals as goal

pub kept_rows-requires-clause-mask : goal.kept_rows-requires-clause-mask
kept_rows-requires-clause-mask c = c.requires.mask_fit.class ∙ (filter_taken c.args.graph.now c.keeps_its_rules.ensures.made c.args.n c.args.a c.args.m c.requires.node).0

pub kept_rows-requires-clause-numbers : goal.kept_rows-requires-clause-numbers
kept_rows-requires-clause-numbers c =
    many_numbers (shape_at c.args.graph.now c.args.a) (found_in c.args.x.now) c.requires.fit
    (operand_numbered c.args.graph.now c.args.n c.args.a filter (c.args.a ∷ c.args.m ∷ []) false c.requires.rest c.requires.node (inl refl) (filter_spaces c.args.graph.now c.keeps_its_rules.ensures.made c.args.n c.args.a c.args.m c.requires.node).value_is)

pub returns-in-Ok-clause-fits : goal.returns-in-Ok-clause-fits
returns-in-Ok-clause-fits c =
    let k = filter_spaces c.args.graph.now c.keeps_its_rules.ensures.made c.args.n c.args.a c.args.m c.requires.node in
    let few = few_rows (shape_at c.args.graph.now c.args.a) (found_in c.args.x.now) c.requires.fit k.value_is in
    let short = c.in-Ok.ensures.height in
    rows_fit (shape_at c.args.graph.now c.args.n) (small_found c.in-Ok.value) (c.in-Ok.ensures.class ∙ (c.requires.fit.class ∙ (filter_taken c.args.graph.now c.keeps_its_rules.ensures.made c.args.n c.args.a c.args.m c.requires.node).1)) (rest_numbered c.args.graph.now c.args.n false c.requires.rest k.column_is) c.in-Ok.ensures.numbers (omega (arith, few, short))

pub returns-in-Ok-clause-told : goal.returns-in-Ok-clause-told
returns-in-Ok-clause-told c columns f computed shown mask =
    filter_told columns c.args.graph.now f computed c.keeps_its_rules.ensures.made c.keeps_its_rules.ensures.ordered c.args.n c.args.a c.args.m c.requires.node c.requires.rest (found_in c.args.x.now) (found_in c.args.mask.now) shown mask c.in-Ok.value c.in-Ok.ensures.rows
