use Rattle.std.proofs.Common.{◌≡◌, ◌≤◌, ◌<◌, ◌+◌, ◌-◌, ◌^◌, ◌++◌, ℕ, ℤ, length, take, drop, get_or, List}
use Rattle.tall_group.specs.Places.{AreOf, Data, parts_at, rows_at}
use Rattle.tall_group.specs.States.{IsRange}
use Rattle.tall_group.proofs.places.join_all.Given as goal

abbrev pub invariant-loop-i : goal.invariant-loop-i
invariant-loop-i g l =
    (length l.states.items ≡ length l.fn.states.items) × (l.i-end ≡ length l.fn.places) × (l.i ≤ l.i-end)
    × ((p : ℕ) (d : _) → p < length l.fn.states.items → g.S.GroupState.rows (get_or l.states.items p d) + rows_at g.S.GroupState.rows p (drop l.i l.fn.places) (drop l.i l.fn.later) < 2 ^ 40)
    × ((low high : ℤ) (at : ℕ → Data) (parts : List Data) → IsRange low high → length parts ≡ length l.fn.later
    → ((i : ℕ) (ds : Data) (d : _) → i < length l.fn.later → g.S.GroupState.of low high (get_or parts i ds) (get_or l.fn.later i d)) → AreOf (g.S.GroupState.of low high) at l.fn.states.items
    → AreOf (g.S.GroupState.of low high) (λ p. at p ++ parts_at p (take l.i l.fn.places) (take l.i parts)) l.states.items)
