use Rattle.std.proofs.Common.{◌≡◌, ◌≤◌, length}
use Rattle.tall_value.specs.declared.class.Class.TheVariants as class
use Rattle.tall_group.specs.UniqueFolds.{class_of_unique}
use Rattle.bench_folds.proofs.groups.distinct.Given as goal

abbrev pub invariant-loop-i : goal.invariant-loop-i
invariant-loop-i l = (class_of_unique l.fold ≡ class.Text) × (l.i-end ≡ length l.fn.blocks) × (l.i ≤ l.i-end)
