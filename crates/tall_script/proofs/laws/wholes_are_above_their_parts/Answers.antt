use Rattle.tall_script.proofs.NumbersInTurn.{expression_ascends}
use Rattle.tall_script.proofs.laws.wholes_are_above_their_parts.Goals as goal

pub returns : goal.returns
returns c l m n ts e h = expression_ascends l m ts e n h
