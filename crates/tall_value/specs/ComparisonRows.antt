-- Worked values of the cell results of comparisons and of the logical operators.
use Rattle.std.specs.Prelude.{◌≡◌, refl, pos, negsuc, true, false, Some, None, Ok, Err, [], ◌∷◌, codes}
use Rattle.tall_value.specs.declared.class.IntKind.TheVariants.{Int8, Int64, Uint8, Uint64}
use Rattle.tall_value.specs.declared.faults.CellFault.TheVariants.{NanLogical}
use Rattle.tall_value.specs.declared.operators.Binary.TheVariants.{Eq, Ne, Lt, Le, Gt, Ge, StrCmp, And, Or}
use Rattle.tall_value.specs.Cells.{whole, logical, double, text}
use Rattle.tall_value.specs.CellOperators.{binary_cell}

-- int64(9007199254740993) == 9007199254740992 is false
compared_exactly : binary_cell Eq (whole Int64 (pos 9007199254740993)) (double (Some (pos 9007199254740992))) ≡ Ok (logical false)
compared_exactly = refl

-- true == uint8(1) is true
equal_across_classes : binary_cell Eq (logical true) (whole Uint8 (pos 1)) ≡ Ok (logical true)
equal_across_classes = refl

-- NaN == NaN is false
not_equal_to_nan : binary_cell Eq (double None) (double None) ≡ Ok (logical false)
not_equal_to_nan = refl

-- NaN ~= NaN is true
differs_from_nan : binary_cell Ne (double None) (double None) ≡ Ok (logical true)
differs_from_nan = refl

-- 3 ~= int8(3) is false
not_different : binary_cell Ne (double (Some (pos 3))) (whole Int8 (pos 3)) ≡ Ok (logical false)
not_different = refl

-- 'Z' < 'a' is true
texts_by_bytes : binary_cell Lt (text (codes "Z")) (text (codes "a")) ≡ Ok (logical true)
texts_by_bytes = refl

-- 'é' < 'z' is false
beyond_ascii : binary_cell Lt (text (195 ∷ 169 ∷ [])) (text (122 ∷ [])) ≡ Ok (logical false)
beyond_ascii = refl

-- int8(-1) < uint64(18446744073709551615) is true
less_across_classes : binary_cell Lt (whole Int8 (negsuc 0)) (whole Uint64 (pos 18446744073709551615)) ≡ Ok (logical true)
less_across_classes = refl

-- 3 <= int8(3) is true
at_most : binary_cell Le (double (Some (pos 3))) (whole Int8 (pos 3)) ≡ Ok (logical true)
at_most = refl

-- 1 <= NaN is false
at_most_nan : binary_cell Le (double (Some (pos 1))) (double None) ≡ Ok (logical false)
at_most_nan = refl

-- 3 > int8(3) is false
not_above : binary_cell Gt (double (Some (pos 3))) (whole Int8 (pos 3)) ≡ Ok (logical false)
not_above = refl

-- NaN >= NaN is false
no_order_with_nan : binary_cell Ge (double None) (double None) ≡ Ok (logical false)
no_order_with_nan = refl

-- strcmp('ab', 'ab') is true
texts_equal : binary_cell StrCmp (text (codes "ab")) (text (codes "ab")) ≡ Ok (logical true)
texts_equal = refl

-- strcmp('ab', 'a') is false
texts_differ : binary_cell StrCmp (text (codes "ab")) (text (codes "a")) ≡ Ok (logical false)
texts_differ = refl

-- false & NaN is refused: NanLogical
nan_on_the_right : binary_cell And (logical false) (double None) ≡ Err NanLogical
nan_on_the_right = refl

-- int8(-2) & 3 is true
nonzero_is_true : binary_cell And (whole Int8 (negsuc 1)) (double (Some (pos 3))) ≡ Ok (logical true)
nonzero_is_true = refl

-- NaN | true is refused: NanLogical
nan_on_the_left : binary_cell Or (double None) (logical true) ≡ Err NanLogical
nan_on_the_left = refl

-- false | uint8(0) is false
neither : binary_cell Or (logical false) (whole Uint8 (pos 0)) ≡ Ok (logical false)
neither = refl

-- 0 | uint8(2) is true
one_of_both : binary_cell Or (double (Some (pos 0))) (whole Uint8 (pos 2)) ≡ Ok (logical true)
one_of_both = refl
