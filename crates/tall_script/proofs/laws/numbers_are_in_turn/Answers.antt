use Rattle.tall_script.proofs.NumbersInTurn.{expression_in_turn, script_in_turn}
use Rattle.tall_script.proofs.LaterNumbers.{later_above}
use Rattle.tall_script.proofs.laws.numbers_are_in_turn.Goals as goal

pub returns-clause-expressions : goal.returns-clause-expressions
returns-clause-expressions c l m n ts e h = expression_in_turn l m ts e n h

pub returns-clause-scripts : goal.returns-clause-scripts
returns-clause-scripts c = script_in_turn

pub returns-clause-later : goal.returns-clause-later
returns-clause-later c = later_above
