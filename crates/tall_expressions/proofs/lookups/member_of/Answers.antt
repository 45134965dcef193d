use Rattle.std.proofs.Common.{sym, subst, ap, ◌∙◌}
use Rattle.tall_script.specs.ScriptValues.{member_value}
use Rattle.tall_deferred.specs.Answers.{Comes}
use Rattle.tall_deferred.specs.Faults.{IsDue}
use Rattle.tall_deferred.specs.Values.{value_at}
use Rattle.tall_expressions.proofs.lookups.member_of.Goals as goal

pub returns-in-Ok-clause-within : goal.returns-in-Ok-clause-within
returns-in-Ok-clause-within c = λ n h. c.copied.ensures.within n (c.in-Ok.ensures.within n (c.lend.ensures.within n h))

pub returns-in-Ok-clause-given : goal.returns-in-Ok-clause-given
returns-in-Ok-clause-given c = λ f.
    subst (λ w. Comes (value_at f) w c.copied.result) (sym (ap (λ v. member_value v c.args.name.now) (sym (c.lend.ensures.value f)) ∙ c.in-Ok.ensures.given f)) (c.copied.ensures.given f)

pub returns-in-Err-clause-given : goal.returns-in-Err-clause-given
returns-in-Err-clause-given c = λ f. subst (λ v. IsDue (member_value v c.args.name.now) c.in-Err.fault) (c.lend.ensures.value f) (c.in-Err.ensures.given f)
