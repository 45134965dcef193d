-- Parts that are added to a text, one after the other.
use Rattle.std.specs.Prelude.{Some, slice_get, Result, Ok, Err}
use Rattle.std.specs.List.{flat_map}
use Rattle.std.proofs.Common.{ℕ, ◌≡◌, ◌≤◌, ◌+◌, List, [], ◌∷◌, ◌++◌, length, take, refl, sym, ◌∙◌, ap, arith, append_assoc, length-take-le}
use Rattle.std.proofs.lemmas.Grind.{flat_map-append}
use Rattle.std.proofs.lemmas.List.{append-nil, take_more, take_all}
use Rattle.std.proofs.lemmas.Option.{slice_get_within, get_or_from_slice_get}
use Rattle.std.proofs.Math.Seq.{take-append_seam}
use Rattle.tall_local.specs.Printing.{spaced}
use Rattle.tall_print.specs.Appended.{Appends, Begins}
use Rattle.tall_print.specs.Rows.{gap}

-- nothing was added
pub begun : (old new : List ℕ) → new ≡ old → Begins old new
begun old new e = ([], e ∙ sym (append-nil old))

-- a part was added whole, and of the next one some
pub begun_more : (old mid new a : List ℕ) → mid ≡ old ++ a → Begins mid new → Begins old new
begun_more old mid new a h (some, e) = (a ++ some, e ∙ ap (λ t. t ++ some) h ∙ append_assoc old a some)

-- what was there before is the front of what there is
pub front_kept : (old new : List ℕ) → Begins old new → take (length old) new ≡ old
front_kept old new (some, e) = ap (take (length old)) e ∙ take-append_seam old some

pub take_next : {A : Type 0} (xs : List A) (i : ℕ) (x : A) → slice_get xs i ≡ Some x → take (i + 1) xs ≡ take i xs ++ x ∷ []
take_next xs i x g = take_more xs i x (slice_get_within xs i x g) ∙ ap (λ y. take i xs ++ y ∷ []) (get_or_from_slice_get xs i x x g)

-- a loop that adds a part for each item
pub more_lines : {A : Type 0} (f : A → List ℕ) (xs : List A) (i : ℕ) (x : A) (old mid new : List ℕ)
    → slice_get xs i ≡ Some x → mid ≡ old ++ flat_map f (take i xs) → new ≡ mid ++ f x → new ≡ old ++ flat_map f (take (i + 1) xs)
more_lines f xs i x old mid new g h e =
    e ∙ ap (λ t. t ++ f x) h ∙ append_assoc old (flat_map f (take i xs)) (f x)
    ∙ ap (λ t. old ++ t) (sym (ap (flat_map f) (take_next xs i x g) ∙ flat_map-append f (take i xs) (x ∷ []) ∙ ap (λ t. flat_map f (take i xs) ++ t) (append-nil (f x))))

pub all_lines : {A : Type 0} (f : A → List ℕ) (xs : List A) (i : ℕ) (old new : List ℕ)
    → length xs ≤ i → new ≡ old ++ flat_map f (take i xs) → new ≡ old ++ flat_map f xs
all_lines f xs i old new within e = e ∙ ap (λ ys. old ++ flat_map f ys) (take_all i xs within)

-- ---- parts with a gap between neighbours

spaced_last : (us : List (List ℕ)) (t : List ℕ) → spaced (us ++ t ∷ []) ≡ spaced us ++ (gap (length us) ++ t)
spaced_last [] t = refl
spaced_last (u ∷ []) t = append_assoc u (gap 1) t
spaced_last (u ∷ v ∷ us) t =
    ap (λ s. u ++ gap 1 ++ s) (spaced_last (v ∷ us) t)
    ∙ sym (append_assoc (u ++ gap 1) (spaced (v ∷ us)) (gap 1 ++ t))

pub more_spaced : (ts : List (List ℕ)) (i : ℕ) (t old mid next new : List ℕ)
    → slice_get ts i ≡ Some t → mid ≡ old ++ spaced (take i ts) → next ≡ mid ++ gap i → new ≡ next ++ t → new ≡ old ++ spaced (take (i + 1) ts)
more_spaced ts i t old mid next new g h n e =
    e ∙ ap (λ s. s ++ t) (n ∙ ap (λ s. s ++ gap i) h)
    ∙ append_assoc (old ++ spaced (take i ts)) (gap i) t ∙ append_assoc old (spaced (take i ts)) (gap i ++ t)
    ∙ ap (λ s. old ++ s) (
    ap (λ k. spaced (take i ts) ++ (gap k ++ t)) (sym (length-take-le i ts (omega (arith, slice_get_within ts i t g))))
    ∙ sym (ap spaced (take_next ts i t g) ∙ spaced_last (take i ts) t)
    )

pub all_spaced : (ts : List (List ℕ)) (i : ℕ) (old new : List ℕ) → length ts ≤ i → new ≡ old ++ spaced (take i ts) → new ≡ old ++ spaced ts
all_spaced ts i old new within e = e ∙ ap (λ us. old ++ spaced us) (take_all i ts within)

-- ---- a part more, with whatever the last call answered

pub appended : {A E : Type 0} (r : Result A E) (old mid new a b all : List ℕ) → mid ≡ old ++ a → Appends r mid new b → a ++ b ≡ all → Appends r old new all
appended (Ok u) old mid new a b all h e w = e ∙ ap (λ t. t ++ b) h ∙ append_assoc old a b ∙ ap (λ t. old ++ t) w
appended (Err u) old mid new a b all h e w = begun_more old mid new a h e

-- the same for parts that were added before the last
pub joined : (old mid new a b all : List ℕ) → mid ≡ old ++ a → new ≡ mid ++ b → a ++ b ≡ all → new ≡ old ++ all
joined old mid new a b all h e w = e ∙ ap (λ t. t ++ b) h ∙ append_assoc old a b ∙ ap (λ t. old ++ t) w
