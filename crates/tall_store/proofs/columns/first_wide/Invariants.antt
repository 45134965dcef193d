use Rattle.std.proofs.Common.{◌≡◌}
use Rattle.tall_store.specs.Reads.{first_width_fault}
use Rattle.tall_store.specs.Parts.{part_records}
use Rattle.tall_store.proofs.PartRows.{rest_of}
use Rattle.tall_store.proofs.columns.first_wide.Given as goal

-- no record before this one has too many fields
abbrev pub invariant-loop-i : goal.invariant-loop-i
invariant-loop-i l = first_width_fault l.store (rest_of l.part l.i) ≡ first_width_fault l.store (part_records l.part)
