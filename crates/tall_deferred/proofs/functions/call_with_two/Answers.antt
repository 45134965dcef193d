-- The form of the stand-ins is that of the arguments.
use Rattle.std.specs.Prelude.{[], ◌∷◌, map, option_map}
use Rattle.tall_memory.specs.Shapes.{application_seen}
use Rattle.tall_memory.specs.Values.{ref_seen}
use Rattle.tall_deferred.specs.Values.{at_seen, lent_at}
use Rattle.tall_deferred.proofs.FormLaws.{by_form, have_two}
use Rattle.tall_deferred.proofs.functions.call_with_two.Goals as goal

pub returns-clause-given : goal.returns-clause-given
returns-clause-given c columns f m =
    by_form (at_seen c.args.at) f c.args.function (ref_seen c.stand_in-x.result ∷ ref_seen c.stand_in-y.result ∷ []) (map (lent_at f) c.args.args.now) (option_map application_seen c.application_of-application.result) c.application_answer.result
    (have_two (lent_at f) c.args.args.now c.index-args-0.result c.index-args-1.result (ref_seen c.stand_in-x.result) (ref_seen c.stand_in-y.result) c.requires.count c.index-args-0.is c.index-args-1.is (c.stand_in-x.ensures f) (c.stand_in-y.ensures f))
    c.application_of-application.ensures (c.application_answer.ensures.given columns f m)
