use Rattle.std.proofs.Common.{◌≡◌, ◌<◌, ◌≤◌, ◌^◌, List, length}
use Rattle.tall_value.specs.declared.class.Class.TheVariants as class
use Rattle.tall_value.specs.Cells.{Seen}
use Rattle.tall_group.specs.Folds.{IsGroupFoldOf, class_of_data, class_of_keys}
use Rattle.bench_folds.proofs.groups.fold.Given as goal

abbrev pub invariant-loop-i : goal.invariant-loop-i
invariant-loop-i l =
    (class_of_keys l.fold ≡ class.Text) × (class_of_data l.fold ≡ class.Int16) × (l.rows < 2 ^ 40) × (l.i-end ≡ length l.fn.blocks) × (l.i ≤ l.i-end)
    × ((ks vs : List Seen) × IsGroupFoldOf l.fold ks vs × (length ks ≡ l.rows))
