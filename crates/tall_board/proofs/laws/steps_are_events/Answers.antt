use Rattle.tall_board.proofs.Claiming.{event_is, past_event_is}
use Rattle.tall_board.proofs.Publishing.{lay_is, publish_is}
use Rattle.tall_board.proofs.laws.steps_are_events.Goals as goal

pub returns-clause-claim : goal.returns-clause-claim
returns-clause-claim g c task n seat v s kept size few at idle told room more = event_is (g.T.Right.right task) n seat v idle told room few s kept size at more

pub returns-clause-past : goal.returns-clause-past
returns-clause-past g c task n seat v s kept size few at idle told room past = past_event_is (g.T.Right.right task) n seat v idle told room few s kept size at past

pub returns-clause-lay : goal.returns-clause-lay
returns-clause-lay g c n seat place piece v s at ticket = lay_is n seat place v ticket piece s at

pub returns-clause-publish : goal.returns-clause-publish
returns-clause-publish g c task n seat place piece v s kept at few size ticket good = publish_is (g.T.Right.right task) n seat place v ticket piece good few s kept size at
