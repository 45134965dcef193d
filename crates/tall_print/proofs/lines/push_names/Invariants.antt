use Rattle.std.proofs.Common.{◌≡◌, ◌++◌, take}
use Rattle.tall_local.specs.Names.{names_of}
use Rattle.tall_local.specs.Printing.{spaced}
use Rattle.tall_print.proofs.lines.push_names.Given as goal

abbrev pub invariant-loop-place : goal.invariant-loop-place
invariant-loop-place l = l.text.items ≡ l.initial.text.items ++ spaced (take l.place (names_of l.table))
