use Rattle.std.proofs.Common.{ap, subst}
use Rattle.tall_script.specs.Runs.{run}
use Rattle.tall_script.specs.States.{times_allowed}
use Rattle.tall_steps.specs.Progress.{OpensAtMost}
use Rattle.tall_steps.specs.Sessions.{program_in}
use Rattle.tall_run.proofs.evaluate.run_all.Goals as goal

pub returns-in-Ok-clause-opens : goal.returns-in-Ok-clause-opens
returns-in-Ok-clause-opens g c = λ files tells.
    subst (λ p. OpensAtMost (λ name. times_allowed name (run files p).state.opened) (g.S.Shelf.opened c.args.shelf.now) (g.S.Shelf.opened c.run_statements.new.shelf)) (ap program_in c.in-Ok.ensures)
    (c.run_statements.ensures.opens files tells)
