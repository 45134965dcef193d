-- The first column's.
use Rattle.std.proofs.Common.{subst, sym, arith}
use Rattle.tall_deferred.specs.Answers.{Comes}
use Rattle.tall_deferred.specs.Values.{at_seen, value_at}
use Rattle.tall_deferred.proofs.FormLaws.{first_height}
use Rattle.tall_deferred.proofs.functions.table_height.Goals as goal

pub returns-in-len1-up-clause-given : goal.returns-in-len1-up-clause-given
returns-in-len1-up-clause-given c columns f m =
    subst (λ r. Comes (value_at f) r c.deferring.result)
    (sym (first_height (at_seen c.args.at) f c.args.variables.now c.first-item.result (omega (arith, c.in-len1-up.len_at_least)) c.first-item.is))
    (c.deferring.ensures.given columns f m)
