use Rattle.tall_gather.proofs.CallLaws.{NoneBefore}
use Rattle.tall_gather.proofs.calls.reading_of.Given as goal

abbrev pub invariant-loop-place : goal.invariant-loop-place
invariant-loop-place l = NoneBefore l.graph l.store l.place
