use Rattle.tall_steps.proofs.Numbering.{starts_ready}
use Rattle.tall_steps.proofs.session.Session.new.Goals as goal

pub invariant_of-result : goal.invariant_of-result
invariant_of-result c =
    starts_ready c.numbers_in_turn_are_in_order.ensures.expressions c.numbers_in_turn_are_in_order.ensures.arguments c.numbers_are_in_turn.ensures.scripts c.requires.script.0 c.args.script c.new.result c.args.workers
    c.requires.script.1 c.requires.some c.requires.few c.new.ensures
