use Rattle.std.proofs.Common.{◌≡◌, drop, pos, Some}
use Rattle.std.specs.List.{fold}
use Rattle.tall_clamp.specs.Folds.{added, IsTotal}
use Rattle.tall_clamp.proofs.totals.ExactSum.of_wholes.Given as goal

abbrev pub invariant-loop-v : goal.invariant-loop-v
invariant-loop-v l =
    (fold (λ t v. added t v) (Some l.total) (drop l.v-index l.rows) ≡ fold (λ t v. added t v) (Some (pos 0)) l.rows)
    × IsTotal (Some l.total) l.v-index
