-- Fields as texts.
use Rattle.std.proofs.Common.{ℕ, ◌≡◌, ◌∙◌, ◌<◌, ◌+◌, List, [], Bool, true, false, Ok, Err, sym, ap, refl, length, get_or, drop}
use Rattle.std.specs.Prelude.{◌&&◌, if◌then◌else◌}
use Rattle.std.specs.List.{list_all}
use Rattle.std.proofs.lemmas.List.{drop_more}
use Rattle.std.proofs.Math.Seq.{drop-length}
use Rattle.std.specs.Str.{IsUtf8, is_utf8}
use Rattle.std.proofs.lemmas.Str.{IsUtf8-from_is_utf8, is_utf8-from_IsUtf8}
use Rattle.tall_value.specs.declared.faults.ReadingKind.TheVariants.{BadText}
use Rattle.tall_store.specs.Fields.{utf8_text}

pub text_of_utf8 : (bs : List ℕ) → IsUtf8 bs → utf8_text bs ≡ Ok bs
text_of_utf8 bs u = ap (λ b. if b then Ok bs else Err BadText) (is_utf8-from_IsUtf8 bs u)

pub text_of_other : (bs : List ℕ) → (IsUtf8 bs → ⊥) → utf8_text bs ≡ Err BadText
text_of_other bs other = by_test (is_utf8 bs) refl
  where
    by_test : (b : Bool) → b ≡ is_utf8 bs → utf8_text bs ≡ Err BadText
    by_test true e = absurd (other (IsUtf8-from_is_utf8 bs (sym e)))
    by_test false e = ap (λ b. if b then Ok bs else Err BadText) (sym e)

pub utf8_test : (bs : List ℕ) → IsUtf8 bs → true ≡ is_utf8 bs
utf8_test bs u = sym (is_utf8-from_IsUtf8 bs u)

pub other_test : (bs : List ℕ) → (IsUtf8 bs → ⊥) → false ≡ is_utf8 bs
other_test bs other = by_test (is_utf8 bs) refl
  where
    by_test : (b : Bool) → b ≡ is_utf8 bs → false ≡ is_utf8 bs
    by_test true e = absurd (other (IsUtf8-from_is_utf8 bs (sym e)))
    by_test false e = e

-- ---- all fields

pub utf8_not : (fields : List (List ℕ)) (k : ℕ) (due : Bool) → k < length fields → is_utf8 (get_or fields k []) ≡ false
    → list_all is_utf8 (drop k fields) ≡ due → false ≡ due
utf8_not fields k due l b e = ap (λ t. t && list_all is_utf8 (drop (k + 1) fields)) (sym b) ∙ ap (list_all is_utf8) (sym (drop_more fields k [] l)) ∙ e

pub utf8_more : (fields : List (List ℕ)) (k : ℕ) (due : Bool) → k < length fields → is_utf8 (get_or fields k []) ≡ true
    → list_all is_utf8 (drop k fields) ≡ due → list_all is_utf8 (drop (k + 1) fields) ≡ due
utf8_more fields k due l b e = ap (λ t. t && list_all is_utf8 (drop (k + 1) fields)) (sym b) ∙ ap (list_all is_utf8) (sym (drop_more fields k [] l)) ∙ e

pub utf8_all : (fields : List (List ℕ)) (due : Bool) → list_all is_utf8 (drop (length fields) fields) ≡ due → true ≡ due
utf8_all fields due e = ap (list_all is_utf8) (sym (drop-length fields)) ∙ e
