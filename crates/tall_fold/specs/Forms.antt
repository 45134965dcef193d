-- What of a column's cells a reduction needs, by the operation and the kind of the column.
use Rattle.std.specs.Prelude.{ℤ, Bool, true, false, if◌then◌else◌, Option, None, Some, List}
use Rattle.std.specs.List.{filter_map, list_any}
use Rattle.tall_value.specs.declared.class.Kind.{Kind}
use Rattle.tall_value.specs.declared.class.Kind.TheVariants.{Integer, Logical, Double, Text}
use Rattle.tall_value.specs.declared.functions.Reduction.{Reduction}
use Rattle.tall_value.specs.declared.functions.Reduction.TheVariants.{Sum, Min, Max, Any, All, Nnz, Numel, Height}
use Rattle.tall_value.specs.Cells.{Seen, amount, is_nan}
use Rattle.tall_value.specs.Reductions.{every_cell, total, is_nonzero}

-- the exact total; the clamp function of the rows; the least or the greatest number; whether one or each is true; how many
-- cells pass a test
pub data Form : Type 0 where
  exact_total : Form
  clamp_function : Form
  least_number : Form
  greatest_number : Form
  some_true : Form
  each_true : Form
  how_many : Form

abbrev pub native_form : Kind → Form
native_form (Integer k) = clamp_function
native_form Logical = exact_total
native_form Double = exact_total
native_form Text = exact_total

abbrev pub form_of : Reduction → Kind → Form
form_of (Sum true omitnan) a = native_form a
form_of (Sum false omitnan) a = exact_total
form_of Min a = least_number
form_of Max a = greatest_number
form_of Any a = some_true
form_of All a = each_true
form_of Nnz a = how_many
form_of Numel a = how_many
form_of Height a = how_many

-- NaN is passed over
abbrev pub omits : Reduction → Bool
omits (Sum native omitnan) = omitnan
omits Min = false
omits Max = false
omits Any = false
omits All = false
omits Nnz = false
omits Numel = false
omits Height = false

-- the exact total; none where a NaN is met
abbrev pub total_unless_nan : List Seen → Option ℤ
total_unless_nan cs = if list_any is_nan cs then None else Some (total (filter_map amount cs))

-- the cells that are counted
abbrev pub counted : Reduction → Seen → Bool
counted Nnz = is_nonzero
counted op = every_cell
