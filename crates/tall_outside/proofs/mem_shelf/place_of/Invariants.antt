use Rattle.std.proofs.Common.{◌≡◌, drop}
use Rattle.tall_outside.specs.Shelf.{file_in}
use Rattle.tall_outside.specs.MemShelf.{files_in}
use Rattle.tall_outside.proofs.mem_shelf.place_of.Given as goal

-- no file before this one has the name
abbrev pub invariant-loop-i : goal.invariant-loop-i
invariant-loop-i l = file_in (files_in (drop l.i l.files)) l.name ≡ file_in (files_in l.files) l.name
