use Rattle.std.proofs.Common.{◌≡◌, take}
use Rattle.std.specs.List.{filter}
use Rattle.tall_pass.specs.PassPlans.{is_below_at}
use Rattle.tall_gather.specs.Candidates.{seen}
use Rattle.tall_gather.proofs.below.nodes_below.Given as goal

abbrev pub invariant-loop-n : goal.invariant-loop-n
invariant-loop-n l = l.kept.items ≡ filter (is_below_at l.graph (seen l.candidate)) (take l.n-index l.nodes)
