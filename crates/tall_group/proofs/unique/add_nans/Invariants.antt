use Rattle.std.proofs.Common.{◌≡◌, ◌≤◌, ◌++◌}
use Rattle.tall_value.specs.Classes.{kind_of}
use Rattle.tall_group.specs.Keys.{nans_of}
use Rattle.tall_group.proofs.unique.add_nans.Given as goal

abbrev pub invariant-loop-turn : goal.invariant-loop-turn
invariant-loop-turn l =
    (l.column.class ≡ l.fn.column.class) × (l.column.cells ≡ l.fn.column.cells ++ nans_of (kind_of l.fn.column.class) l._turn)
    × (l.kind ≡ kind_of l.fn.column.class) × (l.nans ≡ l.fn.nans) × (l._turn ≤ l.nans)
