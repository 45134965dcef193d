use Rattle.std.proofs.Common.{◌≡◌, ◌++◌, take}
use Rattle.std.specs.List.{flat_map}
use Rattle.tall_pass.specs.Work.{wanted_at}
use Rattle.tall_pass.proofs.work.add_work.Given as goal

abbrev pub invariant-loop-n : goal.invariant-loop-n
invariant-loop-n l = l.wanted.items ≡ l.initial.wanted.items ++ flat_map (wanted_at l.graph l.level) (take l.n-index l.work)
