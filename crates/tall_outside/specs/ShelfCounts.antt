-- What a shelf counts.
use Rattle.std.specs.Prelude.{ℕ, ◌≤◌}
use Rattle.tall_outside.specs.declared.shelf.Shelf as shelf

-- names that it missed and calls that failed, and the bytes that came of the file that was opened last
pub record Counts : Type 0 where
  pub misses : ℕ
  pub faults : ℕ
  pub came : ℕ

-- what a shelf counts now
abbrev pub shelf_counts : {S : Type 0} → shelf.Ghosts S → S → Counts
shelf_counts s now = record { misses = s.misses now; faults = s.faults now; came = s.came now }

-- no count of misses or faults fell
pub record IsLater (before after : Counts) : Type 0 where
  pub misses : before.misses ≤ after.misses
  pub faults : before.faults ≤ after.faults
