use Rattle.std.proofs.Common.{◌≡◌, drop}
use Rattle.tall_outside.specs.MemShelf.{files_in, have_distinct_names}
use Rattle.tall_outside.proofs.mem_shelf.has_distinct_names.Given as goal

-- the files before this one have names of their own
abbrev pub invariant-loop-i : goal.invariant-loop-i
invariant-loop-i l = have_distinct_names (files_in (drop l.i l.files)) ≡ have_distinct_names (files_in l.files)
