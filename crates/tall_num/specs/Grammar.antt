-- The grammar of number fields, rule by rule, with what each part is worth.
use Rattle.std.specs.Prelude.{◌≡◌, ℕ, ℤ, pos, ◌-ℤ◌, Bool, true, false, List, [], ◌∷◌, ◌++◌, length}
use Rattle.std.specs.List.{list_all}
use Rattle.tall_int.specs.Quotients.{with_sign}
use Rattle.tall_num.specs.Spelling.{Spelling, nan, infinity, decimal, is_blank, is_letter, is_digits, is_nan, is_inf, digits_value}

-- an optional sign; the flag says that it is '-'
pub data Sign : List ℕ → Bool → Type 0 where
  absent : Sign [] false
  plus : Sign (43 ∷ []) false
  minus : Sign (45 ∷ []) true

-- a text, its digits, and how many of them stand after the point
pub data Mantissa : List ℕ → List ℕ → ℕ → Type 0 where
  whole : (ds : List ℕ) → is_digits ds ≡ true → Mantissa ds ds 0
  both : (ds fs : List ℕ) → is_digits ds ≡ true → is_digits fs ≡ true → Mantissa (ds ++ 46 ∷ fs) (ds ++ fs) (length fs)
  fraction : (fs : List ℕ) → is_digits fs ≡ true → Mantissa (46 ∷ fs) fs (length fs)

-- a text and the exponent that it writes
pub data Exponent : List ℕ → ℤ → Type 0 where
  none : Exponent [] (pos 0)
  some : (b : ℕ) (sign : List ℕ) (negative : Bool) (ds : List ℕ) → is_letter 101 b ≡ true → Sign sign negative → is_digits ds ≡ true
      → Exponent (b ∷ (sign ++ ds)) (with_sign negative (digits_value ds))

-- a field without its blanks
pub data Text : List ℕ → Spelling → Type 0 where
  number : (sign : List ℕ) (negative : Bool) (mantissa digits : List ℕ) (places : ℕ) (exponent : List ℕ) (e : ℤ)
      → Sign sign negative → Mantissa mantissa digits places → Exponent exponent e
      → Text (sign ++ (mantissa ++ exponent)) (decimal negative (digits_value digits) (e -ℤ pos places))
  infinite : (sign : List ℕ) (negative : Bool) (word : List ℕ) → Sign sign negative → is_inf word ≡ true
      → Text (sign ++ word) (infinity negative)
  no_number : (word : List ℕ) → is_nan word ≡ true → Text word nan

-- a field and what it spells
pub record Spells (bytes : List ℕ) (s : Spelling) : Type 0 where
  pub before : List ℕ
  pub text : List ℕ
  pub after : List ℕ
  pub blanks_before : list_all is_blank before ≡ true
  pub blanks_after : list_all is_blank after ≡ true
  pub spelled : Text text s
  pub bytes_are : bytes ≡ before ++ (text ++ after)
