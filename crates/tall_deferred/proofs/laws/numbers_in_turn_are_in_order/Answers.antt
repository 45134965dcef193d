-- The parts in their order, and then the whole.
use Rattle.std.specs.Prelude.{refl, suc}
use Rattle.tall_script.proofs.NumbersInTurn.{expression_in_turn}
use Rattle.tall_deferred.proofs.TurnLaws.{turn, args_turn}
use Rattle.tall_deferred.proofs.laws.numbers_in_turn_are_in_order.Goals as goal

pub returns : goal.returns
returns c = record {
  expressions = turn;
  arguments = λ args a n h. args_turn args a (suc a) n refl h;
  scripts = λ l m n ts e h. turn e m n (expression_in_turn l m ts e n h);
}
