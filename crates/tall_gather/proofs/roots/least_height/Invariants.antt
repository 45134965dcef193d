use Rattle.tall_gather.proofs.RootLaws.{LeastSoFar}
use Rattle.tall_gather.proofs.roots.least_height.Given as goal

abbrev pub invariant-loop-root : goal.invariant-loop-root
invariant-loop-root l = LeastSoFar l.graph l.roots l.known l.fn.n l.root-index l.least
