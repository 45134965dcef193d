use Rattle.std.proofs.Common.{◌≡◌, ◌≤◌, length, take, map}
use Rattle.std.specs.List.{filter}
use Rattle.tall_value.specs.Reductions.{is_nonzero}
use Rattle.tall_fold.proofs.slices.nonzeros.Given as goal

abbrev pub invariant-loop-v : goal.invariant-loop-v
invariant-loop-v g l = (l.count ≡ length (filter is_nonzero (map g.T.Operand.shown (take l.v-index l.rows)))) × (l.count ≤ l.v-index)
