use Rattle.std.proofs.Common.{◌≡◌, ◌≤◌, take, length}
use Rattle.std.specs.List.{All}
use Rattle.tall_value.specs.Classes.{kind_of}
use Rattle.tall_value.specs.Columns.{HasKind}
use Rattle.tall_group.specs.Keys.{ArePlaced}
use Rattle.tall_group.proofs.table.KeyTable.place_rows.Given as goal

abbrev pub invariant-loop-row : goal.invariant-loop-row
invariant-loop-row l =
    (l.self.class ≡ l.fn.self.class) × ArePlaced l.fn.self.cells l.self.cells (take l.row l.fn.column.cells) l.places.items × All (HasKind (kind_of l.fn.column.class)) (take l.row l.fn.column.cells) × (l.row-end ≡ length l.fn.column.cells) × (l.row ≤ l.row-end)
