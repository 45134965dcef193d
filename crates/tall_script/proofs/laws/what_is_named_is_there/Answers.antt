use Rattle.tall_script.proofs.RunsStand.{run_stands, expression_stands, arguments_stand, store_there}
use Rattle.tall_script.proofs.laws.what_is_named_is_there.Goals as goal

pub returns-clause-start : goal.returns-clause-start
returns-clause-start c = tt

pub returns-clause-runs : goal.returns-clause-runs
returns-clause-runs c = run_stands

pub returns-clause-expressions : goal.returns-clause-expressions
returns-clause-expressions c = expression_stands

pub returns-clause-arguments : goal.returns-clause-arguments
returns-clause-arguments c = arguments_stand

pub returns-clause-stores : goal.returns-clause-stores
returns-clause-stores c s place h = store_there s.stores place h
