-- The distinct cells of a column, ascending; each NaN is kept, last. MathWorks, unique.
use Rattle.std.specs.Prelude.{ℕ, List, [], ◌∷◌, ◌++◌}
use Rattle.std.specs.List.{filter}
use Rattle.std.specs.declared.cmp.Ordering.{Ordering}
use Rattle.std.specs.declared.cmp.Ordering.TheVariants.{Less, Equal, Greater}
use Rattle.tall_value.specs.Cells.{Seen, is_nan}
use Rattle.tall_value.specs.CellOrder.{cell_order}
use Rattle.tall_value.specs.Columns.{numbered}
use Rattle.tall_value.specs.Reductions.{present}

abbrev pub by_order : {A : Type 0} → Ordering → A → A → A → A
by_order Less below same above = below
by_order Equal below same above = same
by_order Greater below same above = above

-- a cell put into ascending cells, where it isn't there yet
abbrev pub insert : Seen → List Seen → List Seen
insert c [] = c ∷ []
insert c (d ∷ ds) = by_order (cell_order c d) (c ∷ d ∷ ds) (d ∷ ds) (d ∷ insert c ds)

abbrev pub ascending : List Seen → List Seen
ascending [] = []
ascending (c ∷ cs) = insert c (ascending cs)

abbrev pub distinct : List Seen → List Seen
distinct cs = ascending (present cs) ++ filter is_nan cs

-- the rows of `unique` are numbered from 1
abbrev pub distinct_rows : List Seen → List (ℕ × Seen)
distinct_rows cs = numbered 1 (distinct cs)
