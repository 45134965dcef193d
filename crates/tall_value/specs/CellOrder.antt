-- The order of cells of one class: numbers by value, false before true, texts by their UTF-8 bytes, and NaN last and
-- equal to itself. Cells of two classes never stand in one column; so that the order is total, integers of two classes
-- are ordered by value, and all else by the kind: integers, logicals, doubles, texts.
use Rattle.std.specs.Prelude.{ℤ, ℕ, Option, None, Some}
use Rattle.std.specs.declared.cmp.Ordering.{Ordering}
use Rattle.std.specs.declared.cmp.Ordering.TheVariants.{Less, Equal, Greater}
use Rattle.std.specs.Ordering.{nat_cmp, int_cmp, bool_cmp}
use Rattle.std.specs.Cmp.Lexicographic.{slice_cmp}
use Rattle.tall_value.specs.Cells.{Seen, whole, logical, double, text}

abbrev pub nan_last : Option ℤ → Option ℤ → Ordering
nan_last (Some a) (Some b) = int_cmp a b
nan_last (Some a) None = Less
nan_last None (Some b) = Greater
nan_last None None = Equal

-- integers, logicals, doubles, texts
abbrev pub rank : Seen → ℕ
rank (whole k n) = 0
rank (logical b) = 1
rank (double d) = 2
rank (text t) = 3

abbrev pub cell_order : Seen → Seen → Ordering
cell_order (whole j a) (whole k b) = int_cmp a b
cell_order (logical a) (logical b) = bool_cmp a b
cell_order (double a) (double b) = nan_last a b
cell_order (text a) (text b) = slice_cmp nat_cmp a b
cell_order x y = nat_cmp (rank x) (rank y)
