use Rattle.std.proofs.Common.{◌≡◌, ◌≤◌, ◌<◌, ◌+◌, ◌-◌, ◌^◌, ◌++◌, ℕ, length, take, get_or}
use Rattle.std.specs.List.{All}
use Rattle.tall_value.specs.Classes.{kind_of}
use Rattle.tall_value.specs.Columns.{HasKind}
use Rattle.tall_group.specs.Places.{AreOf, Data, parts_at, singles}
use Rattle.tall_group.specs.States.{low_of, high_of}
use Rattle.tall_group.proofs.places.step_rows.Given as goal

abbrev pub invariant-loop-row : goal.invariant-loop-row
invariant-loop-row g l =
    (length l.states.items ≡ length l.fn.states.items) × (l.kind ≡ kind_of l.fn.values.class) × (l.row-end ≡ length l.fn.places) × (l.row ≤ l.row-end) × All (HasKind (kind_of l.fn.values.class)) (take l.row l.fn.values.cells)
    × ((p : ℕ) (d : _) → p < length l.fn.states.items → g.S.GroupState.rows (get_or l.states.items p d) + (l.row-end - l.row) < 2 ^ 40)
    × ((at : ℕ → Data) → AreOf (g.S.GroupState.of (low_of (kind_of l.fn.values.class)) (high_of (kind_of l.fn.values.class))) at l.fn.states.items
    → AreOf (g.S.GroupState.of (low_of (kind_of l.fn.values.class)) (high_of (kind_of l.fn.values.class))) (λ p. at p ++ parts_at p (take l.row l.fn.places) (take l.row (singles l.fn.values.cells))) l.states.items)
