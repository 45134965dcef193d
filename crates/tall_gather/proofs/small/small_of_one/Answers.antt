use Rattle.std.specs.Prelude.{refl, [], ◌∷◌}
use Rattle.std.proofs.Common.{inl}
use Rattle.tall_gather.specs.Smalls.{found_in}
use Rattle.tall_gather.proofs.SmallLaws.{lacks, told_one}
use Rattle.tall_gather.proofs.small.small_of_one.Goals as goal

pub one_value-requires-clause-fit : goal.one_value-requires-clause-fit
one_value-requires-clause-fit c = c.requires.fit.results c.args.a (found_in c.in-Some.x) c.in-Some.ensures.some

pub returns-in-Some-clause-told : goal.returns-in-Some-clause-told
returns-in-Some-clause-told c columns f computed shown =
    let shows = shown c.args.a (found_in c.in-Some.x) c.in-Some.ensures.some in
    told_one c.args.graph.now c.args.n c.requires.there.there f c.args.a (found_in c.in-Some.x) c.one_value.result c.small_of.result c.requires.args shows c.small_of.ensures (c.one_value.ensures.told columns f computed shows)

pub returns-in-None-clause-fits : goal.returns-in-None-clause-fits
returns-in-None-clause-fits c = lacks c.args.graph.now c.args.n c.requires.there.there (c.args.a ∷ []) c.args.a c.args.known.now c.requires.args (inl refl) c.in-None.ensures.none
