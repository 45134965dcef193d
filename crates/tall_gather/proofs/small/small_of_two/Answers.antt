use Rattle.std.specs.Prelude.{refl, [], ◌∷◌}
use Rattle.std.proofs.Common.{inl, inr}
use Rattle.tall_gather.specs.Smalls.{found_in}
use Rattle.tall_gather.proofs.SmallLaws.{lacks, told_two}
use Rattle.tall_gather.proofs.small.small_of_two.Goals as goal

pub two_value-requires-clause-left_fit : goal.two_value-requires-clause-left_fit
two_value-requires-clause-left_fit c = c.requires.fit.results c.args.a (found_in c.in-Some.x) c.in-Some.ensures.some

pub two_value-requires-clause-right_fit : goal.two_value-requires-clause-right_fit
two_value-requires-clause-right_fit c = c.requires.fit.results c.args.b (found_in c.in-Some-known_operand.y) c.in-Some-known_operand.ensures.some

pub returns-in-Some-known_operand-clause-told : goal.returns-in-Some-known_operand-clause-told
returns-in-Some-known_operand-clause-told c columns f computed shown =
    let left = shown c.args.a (found_in c.in-Some.x) c.in-Some.ensures.some in
    let right = shown c.args.b (found_in c.in-Some-known_operand.y) c.in-Some-known_operand.ensures.some in
    told_two c.args.graph.now c.args.n c.requires.there.there f c.args.a c.args.b (found_in c.in-Some.x) (found_in c.in-Some-known_operand.y) c.two_value.result c.small_of.result c.requires.args left right c.small_of.ensures (c.two_value.ensures.told columns f computed left right)

pub returns-in-None-clause-fits : goal.returns-in-None-clause-fits
returns-in-None-clause-fits c = lacks c.args.graph.now c.args.n c.requires.there.there (c.args.a ∷ c.args.b ∷ []) c.args.b c.args.known.now c.requires.args (inr (inl refl)) c.in-None.ensures.none
