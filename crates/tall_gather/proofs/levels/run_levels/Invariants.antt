use Rattle.tall_gather.proofs.LevelsLoop.{AllSoFar}
use Rattle.tall_gather.proofs.levels.run_levels.Given as goal

abbrev pub invariant-loop-below : goal.invariant-loop-below
invariant-loop-below g l = AllSoFar g.S.Shelf l.stores l.graph l.roots l.passes l.fn.shelf l.fn.counts.items l.below l.shelf l.known l.counts.items l.candidate
