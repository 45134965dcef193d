-- Loops that look for a name, and that compare two records.
use Rattle.std.proofs.Common.{ℕ, suc, ◌≡◌, ◌∙◌, ◌<◌, ◌+◌, List, [], ◌∷◌, Bool, true, false, Option, Some, None, sym, ap, subst, refl, length, get_or, map, drop}
use Rattle.std.specs.Prelude.{◌&&◌, ◌≢◌, if◌then◌else◌}
use Rattle.std.specs.List.{position_from}
use Rattle.std.specs.Str.{bytes_eq}
use Rattle.std.proofs.lemmas.List.{drop_more}
use Rattle.std.proofs.Math.Seq.{drop-length}
use Rattle.tall_cut.specs.Rows.{Fields}
use Rattle.tall_store.specs.Headers.{is_same_record}

-- ---- names

-- the place of a name from a place on
abbrev pub place_from : {X : Type 0} → (X → List ℕ) → List X → List ℕ → ℕ → Option ℕ
place_from f xs name k = position_from (λ other. bytes_eq other name) k (map f (drop k xs))

step : {X : Type 0} (f : X → List ℕ) (xs : List X) (name : List ℕ) (k : ℕ) (d : X) → k < length xs
    → place_from f xs name k ≡ (if bytes_eq (f (get_or xs k d)) name then Some k else place_from f xs name (k + 1))
step f xs name k d l = ap (λ ys. position_from (λ other. bytes_eq other name) k (map f ys)) (drop_more xs k d l)

pub place_found : {X : Type 0} (f : X → List ℕ) (xs : List X) (name : List ℕ) (k : ℕ) (d : X) (due : Option ℕ) → k < length xs
    → bytes_eq (f (get_or xs k d)) name ≡ true → place_from f xs name k ≡ due → Some k ≡ due
place_found f xs name k d due l b e = sym (step f xs name k d l ∙ ap (λ t. if t then Some k else place_from f xs name (k + 1)) b) ∙ e

pub place_passed : {X : Type 0} (f : X → List ℕ) (xs : List X) (name : List ℕ) (k : ℕ) (d : X) (due : Option ℕ) → k < length xs
    → bytes_eq (f (get_or xs k d)) name ≡ false → place_from f xs name k ≡ due → place_from f xs name (k + 1) ≡ due
place_passed f xs name k d due l b e = sym (step f xs name k d l ∙ ap (λ t. if t then Some k else place_from f xs name (k + 1)) b) ∙ e

pub place_none : {X : Type 0} (f : X → List ℕ) (xs : List X) (name : List ℕ) (due : Option ℕ) → place_from f xs name (length xs) ≡ due → None ≡ due
place_none f xs name due e = sym (ap (λ ys. position_from (λ other. bytes_eq other name) (length xs) (map f ys)) (drop-length xs)) ∙ e

-- ---- records

pub other_width : (fs gs : Fields) → length fs ≢ length gs → false ≡ is_same_record fs gs
other_width [] [] l = absurd (l refl)
other_width [] (g ∷ gs) l = refl
other_width (f ∷ fs) [] l = refl
other_width (f ∷ fs) (g ∷ gs) l = none (bytes_eq f g) (is_same_record fs gs) (other_width fs gs (λ e. l (ap suc e)))
  where
    none : (a b : Bool) → false ≡ b → false ≡ (a && b)
    none true b e = e
    none false b e = refl

abbrev pub same_from : Fields → Fields → ℕ → Bool
same_from fs gs k = is_same_record (drop k fs) (drop k gs)

same_step : (fs gs : Fields) (k : ℕ) → k < length fs → k < length gs
    → same_from fs gs k ≡ (bytes_eq (get_or fs k []) (get_or gs k []) && same_from fs gs (k + 1))
same_step fs gs k l m = ap (λ xs. is_same_record xs (drop k gs)) (drop_more fs k [] l)
    ∙ ap (λ ys. is_same_record (get_or fs k [] ∷ drop (k + 1) fs) ys) (drop_more gs k [] m)

pub same_more : (fs gs : Fields) (k : ℕ) (due : Bool) → k < length fs → k < length gs → bytes_eq (get_or fs k []) (get_or gs k []) ≡ true
    → same_from fs gs k ≡ due → same_from fs gs (k + 1) ≡ due
same_more fs gs k due l m b e = sym (same_step fs gs k l m ∙ ap (λ t. t && same_from fs gs (k + 1)) b) ∙ e

pub same_not : (fs gs : Fields) (k : ℕ) (due : Bool) → k < length fs → k < length gs → bytes_eq (get_or fs k []) (get_or gs k []) ≡ false
    → same_from fs gs k ≡ due → false ≡ due
same_not fs gs k due l m b e = sym (same_step fs gs k l m ∙ ap (λ t. t && same_from fs gs (k + 1)) b) ∙ e

pub same_all : (fs gs : Fields) (n : ℕ) (due : Bool) → length fs ≡ n → length gs ≡ n → same_from fs gs n ≡ due → true ≡ due
same_all fs gs n due l m e =
    sym (ap (λ xs. is_same_record xs (drop n gs)) (subst (λ k. drop k fs ≡ []) l (drop-length fs))
    ∙ ap (λ ys. is_same_record [] ys) (subst (λ k. drop k gs ≡ []) m (drop-length gs))) ∙ e
