use Rattle.tall_local.proofs.TurnsSuffice.{enough_turns}
use Rattle.tall_local.proofs.laws.the_turns_of_a_loop_suffice.Goals as goal

pub returns : goal.returns
returns c = enough_turns
