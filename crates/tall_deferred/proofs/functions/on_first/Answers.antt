-- The first argument.
use Rattle.std.proofs.Common.{subst, sym, arith}
use Rattle.tall_local.specs.Values.{datastore}
use Rattle.tall_memory.specs.Shapes.{operation_seen}
use Rattle.tall_script.specs.ScriptValues.{operation_value}
use Rattle.tall_deferred.specs.Answers.{Comes}
use Rattle.tall_deferred.specs.Values.{at_seen, lent_at, value_at}
use Rattle.tall_deferred.proofs.FormLaws.{value_at_place}
use Rattle.tall_deferred.proofs.functions.on_first.Goals as goal

pub returns-in-len1-up-clause-given : goal.returns-in-len1-up-clause-given
returns-in-len1-up-clause-given c columns f m =
    subst (λ v. Comes (value_at f) (operation_value (at_seen c.args.at) (operation_seen c.args.op.now) v) c.operation_value.result)
    (sym (value_at_place (lent_at f) c.args.args.now 0 c.v-item.result (datastore 0) (omega (arith, c.in-len1-up.len_at_least)) c.v-item.is))
    (c.operation_value.ensures.given columns f m)
