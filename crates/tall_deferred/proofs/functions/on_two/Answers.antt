-- The first two arguments.
use Rattle.std.specs.Prelude.{map, get_or}
use Rattle.std.proofs.Common.{subst, sym, arith}
use Rattle.tall_local.specs.Values.{datastore}
use Rattle.tall_script.specs.ScriptValues.{binary_value}
use Rattle.tall_deferred.specs.Answers.{Comes}
use Rattle.tall_deferred.specs.Values.{at_seen, lent_at, value_at}
use Rattle.tall_deferred.proofs.FormLaws.{value_at_place}
use Rattle.tall_deferred.proofs.functions.on_two.Goals as goal

pub returns-clause-given : goal.returns-clause-given
returns-clause-given c columns f m =
    subst (λ v. Comes (value_at f) (binary_value (at_seen c.args.at) c.args.op v (get_or (map (lent_at f) c.args.args.now) 1 (datastore 0))) c.binary_value.result)
    (sym (value_at_place (lent_at f) c.args.args.now 0 c.index-args-0.result (datastore 0) (omega (arith, c.if-args-lt2.false)) c.index-args-0.is))
    (subst (λ w. Comes (value_at f) (binary_value (at_seen c.args.at) c.args.op (lent_at f c.index-args-0.result) w) c.binary_value.result)
    (sym (value_at_place (lent_at f) c.args.args.now 1 c.index-args-1.result (datastore 0) (omega (arith, c.if-args-lt2.false)) c.index-args-1.is))
    (c.binary_value.ensures.given columns f m))
