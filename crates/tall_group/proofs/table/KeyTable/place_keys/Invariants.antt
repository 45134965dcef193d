use Rattle.std.proofs.Common.{◌≡◌, ◌≤◌, take, length}
use Rattle.tall_group.specs.Keys.{ArePlaced}
use Rattle.tall_group.proofs.table.KeyTable.place_keys.Given as goal

abbrev pub invariant-loop-row : goal.invariant-loop-row
invariant-loop-row l =
    (l.self.class ≡ l.fn.self.class) × ArePlaced l.fn.self.cells l.self.cells (take l.row l.fn.later.cells) l.places.items × (l.row-end ≡ length l.fn.later.cells) × (l.row ≤ l.row-end)
