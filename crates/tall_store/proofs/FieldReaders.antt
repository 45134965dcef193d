-- The fields of a format are values of its class.
use Rattle.std.specs.Prelude.{ℤ, ◌||◌, Bool, true, false, Option, None, Some, Result, Ok, Err}
use Rattle.std.specs.Result.{result_map_both}
use Rattle.std.proofs.Common.{ℕ, ◌≡◌, ◌∙◌, List, [], ◌∷◌, length, refl, sym, ap, arith}
use Rattle.std.proofs.lemmas.Bool.{eqb-true}
use Rattle.tall_value.specs.declared.class.IntKind.{IntKind}
use Rattle.tall_value.specs.declared.class.IntKind.TheVariants.{Int8, Int16, Int32, Int64, Uint8, Uint16, Uint32, Uint64}
use Rattle.tall_value.specs.declared.faults.ReadingKind.{ReadingKind}
use Rattle.tall_value.specs.Cells.{whole, text}
use Rattle.tall_value.specs.Classes.{least, greatest}
use Rattle.tall_store.specs.declared.format.Format.TheVariants.{Text}
use Rattle.tall_num.specs.Spelling.{Spelling, is_empty, spells, text_spells, trimmed}
use Rattle.tall_store.specs.Fields.{field_value, is_missing, utf8_text, integer_number, integer_value}
use Rattle.tall_store.specs.Formats.{integer_format}

value_of_integers : (k : IntKind) (missing : List (List ℕ)) (bytes : List ℕ) → field_value (integer_format k) missing bytes ≡ integer_value k missing bytes
value_of_integers Int8 missing bytes = refl
value_of_integers Int16 missing bytes = refl
value_of_integers Int32 missing bytes = refl
value_of_integers Int64 missing bytes = refl
value_of_integers Uint8 missing bytes = refl
value_of_integers Uint16 missing bytes = refl
value_of_integers Uint32 missing bytes = refl
value_of_integers Uint64 missing bytes = refl

mapped : {I : Type 0} (k : IntKind) (number : I → ℤ) (r : Result I ReadingKind)
    → result_map_both (λ x. whole k (number x)) (λ e. e) r ≡ result_map_both (λ n. whole k n) (λ e. e) (result_map_both number (λ e. e) r)
mapped k number (Ok x) = refl
mapped k number (Err e) = refl

-- the number of a field, as a cell of the class
pub integer_read : {I : Type 0} (k : IntKind) (low high : ℤ) (number : I → ℤ) (missing : List (List ℕ)) (bytes : List ℕ) (r : Result I ReadingKind)
    → least k ≡ low → greatest k ≡ high → result_map_both number (λ e. e) r ≡ integer_number low high missing bytes
    → result_map_both (λ x. whole k (number x)) (λ e. e) r ≡ field_value (integer_format k) missing bytes
integer_read k low high number missing bytes r l h is =
    mapped k number r
    ∙ ap (result_map_both (λ n. whole k n) (λ e. e))
    (is ∙ ap (λ n. integer_number n high missing bytes) (sym l) ∙ ap (λ n. integer_number (least k) n missing bytes) (sym h))
    ∙ sym (value_of_integers k missing bytes)

-- ---- texts

pub text_read : (missing : List (List ℕ)) (bytes t : List ℕ) → Ok t ≡ utf8_text bytes → Ok (text t) ≡ field_value Text missing bytes
text_read missing bytes t is = ap (result_map_both (λ t. text t) (λ e. e)) is

pub text_fault : (missing : List (List ℕ)) (bytes : List ℕ) (e : ReadingKind) → Err e ≡ utf8_text bytes → Err e ≡ field_value Text missing bytes
text_fault missing bytes e is = ap (result_map_both (λ t. text t) (λ e. e)) is

-- ---- fields that spell a number, where no spelling is for a missing one

not_empty : (t : List ℕ) (s : Spelling) (e : Bool) → text_spells t ≡ Some s → is_empty t ≡ e → e ≡ false
not_empty t s false h is = refl
not_empty [] s true h is = absurd (let no : ◌≡◌ {A = Option Spelling} None (Some s) = h in cc)
not_empty (b ∷ t) s true h is = absurd (omega (arith, eqb-true (length (b ∷ t)) 0 is))

pub unless_missing : (missing : List (List ℕ)) (bytes : List ℕ) (s : Spelling) → missing ≡ [] → spells bytes ≡ Some s → is_missing missing bytes ≡ false
unless_missing missing bytes s none is =
    ap (λ m. is_missing m bytes) none ∙ ap (λ b. b || false) (not_empty (trimmed bytes) s (is_empty (trimmed bytes)) is refl)
