use Rattle.std.proofs.Common.{◌≡◌, drop, take}
use Rattle.tall_fold.specs.FirstAndLast.{ends_of, paired}
use Rattle.tall_part.proofs.block.ends_of_rows.Given as goal

abbrev pub invariant-loop-at : goal.invariant-loop-at
invariant-loop-at l =
    l.ends ≡ record { last = l.last; most = l.most; class = l.column.class; rows = ends_of l.last l.most (take l.at (paired l.numbers (drop l.from l.column.cells))) }
