use Rattle.tall_gather.specs.RootLists.{RootColumns}
use Rattle.tall_gather.proofs.roots.root_columns.Given as goal

abbrev pub invariant-loop-n : goal.invariant-loop-n
invariant-loop-n l = RootColumns l.graph l.roots l.known l.n-index l.columns.items
