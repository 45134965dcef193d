use Rattle.std.proofs.Common.{◌≡◌, ◌≤◌, map, take, length}
use Rattle.tall_value.specs.Classes.{kind_of}
use Rattle.tall_group.specs.Tables.{number_cells}
use Rattle.tall_group.proofs.keys.number_column.Given as goal

abbrev pub invariant-loop-i : goal.invariant-loop-i
invariant-loop-i l =
    (l.column ≡ record { class = l.fn.class; cells = number_cells (kind_of l.fn.class) (take l.i l.fn.numbers.entries) })
    × (l.places.items ≡ map (λ e. e.1) (take l.i l.fn.numbers.entries)) × (l.i-end ≡ length l.fn.numbers.entries)
    × (l.kind ≡ kind_of l.fn.class) × (l.i ≤ l.i-end)
