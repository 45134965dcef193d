use Rattle.std.proofs.Common.{◌≡◌, take, map, Some}
use Rattle.tall_clamp.specs.Outcomes.{total}
use Rattle.tall_clamp.specs.Folds.{IsTotal}
use Rattle.tall_clamp.proofs.runs.wide_total.Given as goal

abbrev pub invariant-loop-v : goal.invariant-loop-v
invariant-loop-v g l =
    (l.sum ≡ total (map g.I.IntClass.number (take l.v-index l.rows)))
    × IsTotal (Some l.sum) l.v-index
