use Rattle.std.proofs.Common.{◌≡◌, ◌*◌, ◌^◌, ◌+ℤ◌, ◌≤ℤ◌, pos, take, map}
use Rattle.tall_clamp.specs.Outcomes.{total}
use Rattle.tall_clamp.proofs.runs.small_total.Given as goal

abbrev pub invariant-loop-v : goal.invariant-loop-v
invariant-loop-v g l =
    (l.sum ≡ total (map g.I.IntClass.number (take l.v-index l.rows)))
    × (pos 0 ≤ℤ (l.sum +ℤ pos (l.v-index * 2 ^ 32)))
    × (l.sum ≤ℤ pos (l.v-index * 2 ^ 32))
