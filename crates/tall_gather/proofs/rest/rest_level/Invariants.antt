use Rattle.tall_gather.specs.Candidates.{seen}
use Rattle.tall_gather.proofs.RestLoop.{RestLoop}
use Rattle.tall_gather.proofs.rest.rest_level.Given as goal

abbrev pub invariant-loop-n : goal.invariant-loop-n
invariant-loop-n l = RestLoop l.graph l.roots l.level (seen l.candidate) l.fn.known l.n-index l.known l.found
