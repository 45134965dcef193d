use Rattle.std.proofs.Common.{◌≡◌, take}
use Rattle.tall_pass.specs.Work.{asked_of}
use Rattle.tall_pass.proofs.work.asked.Given as goal

abbrev pub invariant-loop-n : goal.invariant-loop-n
invariant-loop-n l = l.asked.items ≡ asked_of l.graph l.store l.level (take l.n-index l.work)
