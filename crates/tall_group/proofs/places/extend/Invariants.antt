use Rattle.std.proofs.Common.{◌≡◌, ◌≤◌, ◌-◌, ℕ, ℤ, length, []}
use Rattle.tall_group.specs.Keys.{Begins}
use Rattle.tall_group.specs.Places.{AreOf, Data}
use Rattle.tall_group.specs.States.{IsRange}
use Rattle.tall_group.proofs.places.extend.Given as goal

abbrev pub invariant-loop-states : goal.invariant-loop-states
invariant-loop-states g l =
    (length l.states.items ≤ l.len) × (l.len ≡ l.fn.len) × (length l.fn.states.items ≤ length l.states.items) × Begins l.fn.states.items l.states.items
    × ((low high : ℤ) (at : ℕ → Data) → IsRange low high → AreOf (g.S.GroupState.of low high) at l.fn.states.items → ((p : ℕ) → length l.fn.states.items ≤ p → at p ≡ []) → AreOf (g.S.GroupState.of low high) at l.states.items)

abbrev pub decreases-loop-states : goal.decreases-loop-states
decreases-loop-states g l = l.len - length l.states.items
