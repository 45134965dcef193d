-- Worked values of the order of cells.
use Rattle.std.specs.Prelude.{◌≡◌, refl, pos, negsuc, true, false, Some, None, codes}
use Rattle.std.specs.declared.cmp.Ordering.TheVariants.{Less, Equal, Greater}
use Rattle.tall_value.specs.declared.class.IntKind.TheVariants.{Int8, Uint64}
use Rattle.tall_value.specs.Cells.{whole, logical, double, text}
use Rattle.tall_value.specs.CellOrder.{cell_order}

-- NaN comes after 9007199254740992
nan_comes_last : cell_order (double None) (double (Some (pos 9007199254740992))) ≡ Greater
nan_comes_last = refl

-- NaN and NaN tie
nan_ties_with_nan : cell_order (double None) (double None) ≡ Equal
nan_ties_with_nan = refl

-- int8(-1) comes before int8(1)
numbers_by_value : cell_order (whole Int8 (negsuc 0)) (whole Int8 (pos 1)) ≡ Less
numbers_by_value = refl

-- true comes after false
false_before_true : cell_order (logical true) (logical false) ≡ Greater
false_before_true = refl

-- 'Z' comes before 'a'
texts_in_order : cell_order (text (codes "Z")) (text (codes "a")) ≡ Less
texts_in_order = refl

-- int8(5) comes after uint64(3)
integers_of_two_classes : cell_order (whole Int8 (pos 5)) (whole Uint64 (pos 3)) ≡ Greater
integers_of_two_classes = refl

-- int8(5) comes before false
integer_before_logical : cell_order (whole Int8 (pos 5)) (logical false) ≡ Less
integer_before_logical = refl
