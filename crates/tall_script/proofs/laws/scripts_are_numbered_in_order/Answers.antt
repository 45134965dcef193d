use Rattle.tall_script.proofs.Numbers.{expr_numbered, script_numbered}
use Rattle.tall_script.proofs.laws.scripts_are_numbered_in_order.Goals as goal

pub returns-clause-expressions : goal.returns-clause-expressions
returns-clause-expressions c l m n ts e h = expr_numbered l m ts e n h

pub returns-clause-scripts : goal.returns-clause-scripts
returns-clause-scripts c = script_numbered
