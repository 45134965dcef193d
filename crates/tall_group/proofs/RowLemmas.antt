-- Loops over the rows of a list.
use Rattle.std.specs.Prelude.{◌≡◌, refl, ℕ, zero, suc, ◌+◌, ◌<◌, Option, None, Some, List, [], ◌∷◌, ◌++◌, length, map, take, slice_get}
use Rattle.std.proofs.Common.{ap, sym, ◌∙◌, arith, add-one}
use Rattle.tall_value.specs.declared.class.Class.{Class}
use Rattle.tall_value.specs.Cells.{Seen}
use Rattle.tall_dense.specs.Columns.{SeenColumn, with_cell}

mapped_next : {A B : Type 0} (f : A → B) (xs : List A) (i : ℕ) (x : A) → Some x ≡ slice_get xs i → map f (take (suc i) xs) ≡ map f (take i xs) ++ f x ∷ []
mapped_next f [] i x h = absurd cc
mapped_next f (y ∷ xs) zero x h = let e : x ≡ y = cc in ap (λ z. f z ∷ []) (sym e)
mapped_next f (y ∷ xs) (suc i) x h = ap (λ ys. f y ∷ ys) (mapped_next f xs i x h)

-- one row more of the first rows
pub mapped_more : {A B : Type 0} (f : A → B) (xs : List A) (i : ℕ) (x : A) → Some x ≡ slice_get xs i → map f (take (i + 1) xs) ≡ map f (take i xs) ++ f x ∷ []
mapped_more f xs i x h = ap (λ n. map f (take n xs)) (add-one i) ∙ mapped_next f xs i x h

pub column_more : {A : Type 0} (cell : A → Seen) (class : Class) (xs : List A) (i : ℕ) (x : A) (old new : SeenColumn) (d : Seen) → Some x ≡ slice_get xs i
    → old ≡ record { class = class; cells = map cell (take i xs) } → new ≡ with_cell old d → d ≡ cell x → new ≡ record { class = class; cells = map cell (take (i + 1) xs) }
column_more cell class xs i x old new d h o n e =
    let make : List Seen → SeenColumn = λ cs. record { class = class; cells = cs } in
    n ∙ ap (λ (c : SeenColumn). with_cell c d) o ∙ ap (λ z. make (map cell (take i xs) ++ z ∷ [])) e ∙ ap make (sym (mapped_more cell xs i x h))

pub list_more : {A B : Type 0} (f : A → B) (xs : List A) (i : ℕ) (x : A) (old new : List B) (d : B) → Some x ≡ slice_get xs i
    → old ≡ map f (take i xs) → new ≡ old ++ d ∷ [] → d ≡ f x → new ≡ map f (take (i + 1) xs)
list_more f xs i x old new d h o n e = n ∙ ap (λ ys. ys ++ d ∷ []) o ∙ ap (λ z. map f (take i xs) ++ z ∷ []) e ∙ sym (mapped_more f xs i x h)
