use Rattle.tall_gather.specs.Candidates.{seen}
use Rattle.tall_gather.proofs.LevelLoop.{SoFar}
use Rattle.tall_gather.proofs.passes.run_level.Given as goal

abbrev pub invariant-loop-pass : goal.invariant-loop-pass
invariant-loop-pass g l = SoFar g.S.Shelf l.stores l.graph l.roots l.level l.passes (seen l.candidate) l.fn.shelf l.fn.known l.fn.counts.items l.pass-index l.shelf l.known l.counts.items l.found
