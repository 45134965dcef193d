-- What is told is what is due.
use Rattle.std.specs.Prelude.{◌++◌}
use Rattle.std.proofs.Common.{ap, ◌∙◌}
use Rattle.tall_sources.specs.Given.{options_lent}
use Rattle.tall_script_calls.proofs.MakeLaws.{allowed_due}
use Rattle.tall_script_calls.proofs.datastores.allow_first.Goals as goal

pub returns : goal.returns
returns c = c.allow_told.ensures ∙ ap (λ os. record c.args.environment.now { opened = c.args.environment.now.opened ++ os }) (allowed_due (options_lent c.args.values.now.items))
