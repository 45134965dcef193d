use Rattle.std.proofs.Common.{◌≡◌, ◌≤◌, ◌++◌, take, length, List}
use Rattle.tall_value.specs.Cells.{Seen}
use Rattle.tall_group.specs.UniqueFolds.{IsUniqueOf}
use Rattle.tall_group.proofs.unique.UniqueFold.add_column.Given as goal

abbrev pub invariant-loop-row : goal.invariant-loop-row
invariant-loop-row l =
    (l.self.keys.class ≡ l.fn.self.keys.class) × ((cs : List Seen) → IsUniqueOf l.fn.self cs → IsUniqueOf l.self (cs ++ take l.row l.fn.column.cells))
    × (l.row-end ≡ length l.fn.column.cells) × (l.row ≤ l.row-end)
