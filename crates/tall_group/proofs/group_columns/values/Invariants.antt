use Rattle.std.proofs.Common.{◌≡◌, ◌≤◌, ℕ, Some, length, map, take}
use Rattle.tall_value.specs.Classes.{class_of}
use Rattle.tall_group.specs.Places.{AreOf, Data}
use Rattle.tall_group.specs.States.{low_of, high_of}
use Rattle.tall_group.specs.Summaries.{all_some}
use Rattle.tall_group.proofs.group_columns.values.Given as goal

abbrev pub invariant-loop-i : goal.invariant-loop-i
invariant-loop-i g l =
    (l.column.class ≡ class_of (g.S.GroupState.kind_given l.fn.kind)) × (l.kind ≡ l.fn.kind) × (l.i-end ≡ length l.fn.places) × (l.i ≤ l.i-end)
    × ((at : ℕ → Data) → AreOf (g.S.GroupState.of (low_of l.fn.kind) (high_of l.fn.kind)) at l.fn.states → all_some (map (λ p. g.S.GroupState.gives l.fn.kind (at p)) (take l.i l.fn.places)) ≡ Some l.column.cells)
