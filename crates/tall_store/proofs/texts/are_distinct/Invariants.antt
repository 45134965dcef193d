use Rattle.std.proofs.Common.{◌≡◌, drop}
use Rattle.tall_value.specs.Names.{are_distinct}
use Rattle.tall_store.proofs.texts.are_distinct.Given as goal

abbrev pub invariant-loop-i : goal.invariant-loop-i
invariant-loop-i l = are_distinct (drop l.i l.names) ≡ are_distinct l.names
