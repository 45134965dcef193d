use Rattle.std.specs.Prelude.{length, option_map}
use Rattle.std.specs.Vec.Iter.{into_iter_items}
use Rattle.tall_semantics.specs.Faults.{fault_seen}
use Rattle.tall_fuse.specs.declared.known.Known.{Known}
use Rattle.tall_pass.specs.Endings.{AreThereAtEnd, PutsAll}
use Rattle.tall_pass.proofs.finish.put_all.Given as goal

abbrev pub invariant-loop-ended : goal.invariant-loop-ended
invariant-loop-ended l =
    AreThereAtEnd (length l.graph) (into_iter_items l.endings)
    × ((m : Known) → PutsAll l.graph (option_map fault_seen l.bound) (into_iter_items l.endings) l.known m → PutsAll l.graph (option_map fault_seen l.bound) l.fn.endings.items l.fn.known m)

abbrev pub decreases-loop-ended : goal.decreases-loop-ended
decreases-loop-ended l = length (into_iter_items l.endings)
