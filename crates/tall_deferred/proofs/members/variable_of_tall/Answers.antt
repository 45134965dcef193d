-- A variable of a tall table is a tall value.
use Rattle.std.specs.Prelude.{refl}
use Rattle.std.proofs.Common.{ap}
use Rattle.tall_script.specs.ScriptValues.{member_value, tall_variable, tall_answer}
use Rattle.tall_deferred.specs.Values.{variables_at}
use Rattle.tall_deferred.proofs.Grown.{due_through}
use Rattle.tall_deferred.proofs.members.variable_of_tall.Goals as goal

pub returns-in-Ok-clause-given : goal.returns-in-Ok-clause-given
unfolding member_value
returns-in-Ok-clause-given c f = ap tall_answer (c.in-Ok.ensures.given f)

pub returns-in-Err-clause-given : goal.returns-in-Err-clause-given
unfolding member_value
returns-in-Err-clause-given c f =
    due_through tall_answer (λ r. refl) (tall_variable (variables_at f c.args.variables.now) c.args.name.now) c.in-Err.fault (c.in-Err.ensures.given f)
