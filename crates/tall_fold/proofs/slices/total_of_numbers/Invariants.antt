use Rattle.std.proofs.Common.{◌≡◌, ◌≤◌, take, Some}
use Rattle.std.specs.List.{filter_map}
use Rattle.tall_value.specs.Reductions.{total}
use Rattle.tall_fold.proofs.slices.total_of_numbers.Given as goal

abbrev pub invariant-loop-v : goal.invariant-loop-v
invariant-loop-v l = (l.total.0 ≡ Some (total (filter_map (λ d. d) (take l.v-index l.rows)))) × (l.total.1 ≤ l.v-index)
