use Rattle.std.proofs.Common.{refl}
use Rattle.std.proofs.KnownBytes.{Appends-nil}
use Rattle.tall_run.proofs.Closing.{all_done, closed}
use Rattle.tall_run.proofs.evaluate.run_script.Goals as goal

pub returns-in-Finished-clause-ends : goal.returns-in-Finished-clause-ends
returns-in-Finished-clause-ends g c = all_done c.in-Finished.ensures.answered refl (Appends-nil (g.E.Sink.written c.args.err.now))

pub returns-in-Stopped-clause-ends : goal.returns-in-Stopped-clause-ends
returns-in-Stopped-clause-ends g c = closed c.in-Stopped.ending c.in-Stopped.ensures.answered c.close.ensures
