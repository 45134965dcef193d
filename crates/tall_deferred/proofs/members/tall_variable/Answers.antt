-- The value of the node that is found is what the name stands for.
use Rattle.std.proofs.Common.{ap, sym, ◌∙◌}
use Rattle.std.specs.Prelude.{Err}
use Rattle.tall_local.specs.Refusals.{undefined}
use Rattle.tall_deferred.proofs.Variables.{variable_found, variable_missing, node_within}
use Rattle.tall_deferred.proofs.members.tall_variable.Goals as goal

pub returns-in-Some-clause-within : goal.returns-in-Some-clause-within
returns-in-Some-clause-within c n all = node_within n c.args.variables.now c.args.name.now c.in-Some.node all (sym c.find.ensures ∙ c.in-Some.is)

pub returns-in-Some-clause-given : goal.returns-in-Some-clause-given
returns-in-Some-clause-given c f = variable_found f c.args.variables.now c.args.name.now c.in-Some.node (sym c.find.ensures ∙ c.in-Some.is)

pub returns-in-Ok-clause-given : goal.returns-in-Ok-clause-given
returns-in-Ok-clause-given c f =
    variable_missing f c.args.variables.now c.args.name.now (sym c.find.ensures ∙ c.in-None.is)
    ∙ ap (λ n. Err (undefined n)) (sym (c.in-Ok.ensures))
