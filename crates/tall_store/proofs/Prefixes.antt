-- Where no later fault comes before an earlier one, the first of all is the first of the earlier ones, if there is one.
use Rattle.std.proofs.Common.{ℕ, ◌≡◌, ◌∙◌, ◌<◌, inl, inr, List, [], ◌∷◌, ◌++◌, Bool, true, false, Option, Some, None, sym, ap, refl}
use Rattle.std.specs.Prelude.{◌⊎◌, if◌then◌else◌, IfSome}
use Rattle.std.specs.declared.cmp.Ordering.TheVariants.{Equal, Greater}
use Rattle.std.specs.Ordering.{nat_cmp, is_lt, ordering_then}
use Rattle.std.specs.Cmp.{nat_cmp_is}
use Rattle.std.specs.Cmp.Lexicographic.{slice_cmp}
use Rattle.std.specs.Option.{option_or}
use Rattle.tall_store.specs.declared.faults.ReadingFault.{ReadingFault}
use Rattle.tall_store.specs.ReadingOrder.{earlier_of, first_reading_fault, precedes, reading_place}
use Rattle.tall_store.proofs.ReadingLaws.{first_append}

-- ---- no earlier by its place

abbrev pub LaterIn : List ℕ → List ℕ → Type 0
LaterIn [] ys = Unit {0}
LaterIn (x ∷ xs) [] = ⊥
LaterIn (x ∷ xs) (y ∷ ys) = (x < y) ⊎ ((x ≡ y) × LaterIn xs ys)

not_less : (xs ys : List ℕ) → LaterIn xs ys → is_lt (slice_cmp nat_cmp ys xs) ≡ false
not_less [] [] l = refl
not_less [] (y ∷ ys) l = refl
not_less (x ∷ xs) [] l = absurd l
not_less (x ∷ xs) (y ∷ ys) (inl lt) = ap (λ o. is_lt (ordering_then o (slice_cmp nat_cmp ys xs))) (sym (nat_cmp_is y x Greater lt))
not_less (x ∷ xs) (y ∷ ys) (inr same) =
    ap (λ o. is_lt (ordering_then o (slice_cmp nat_cmp ys xs))) (sym (nat_cmp_is y x Equal (sym same.0))) ∙ not_less xs ys same.1

-- g does not come before f
abbrev pub IsLater : ReadingFault → ReadingFault → Type 0
IsLater f g = LaterIn (reading_place f) (reading_place g)

pub later : (f g : ReadingFault) → IsLater f g → precedes g f ≡ false
later f g l = not_less (reading_place f) (reading_place g) l

pub later_row : (f g : ReadingFault) → f.row < g.row → IsLater f g
later_row f g l = inl l

-- ---- each of several

abbrev pub Each : {X : Type 0} → (X → Type 0) → List X → Type 0
Each P [] = Unit {0}
Each P (x ∷ xs) = P x × Each P xs

pub each_append : {X : Type 0} (P : X → Type 0) (xs ys : List X) → Each P xs → Each P ys → Each P (xs ++ ys)
each_append P [] ys p q = q
each_append P (x ∷ xs) ys p q = (p.0, each_append P xs ys p.1 q)

pub each_weaker : {X : Type 0} (P Q : X → Type 0) → ((x : X) → P x → Q x) → (xs : List X) → Each P xs → Each Q xs
each_weaker P Q w [] p = tt
each_weaker P Q w (x ∷ xs) p = (w x p.0, each_weaker P Q w xs p.1)

earlier_holds : (P : ReadingFault → Type 0) (f : ReadingFault) (a : Option ReadingFault) → P f → IfSome a P → IfSome (earlier_of (Some f) a) P
earlier_holds P f None p q = p
earlier_holds P f (Some g) p q = by_test (precedes g f)
  where
    by_test : (b : Bool) → IfSome (if b then Some g else Some f) P
    by_test true = q
    by_test false = p

pub first_holds : (P : ReadingFault → Type 0) (fs : List ReadingFault) → Each P fs → IfSome (first_reading_fault fs) P
first_holds P [] p = tt
first_holds P (f ∷ fs) p = earlier_holds P f (first_reading_fault fs) p.0 (first_holds P fs p.1)

-- ---- the first of all

stays : (a b : Option ReadingFault) → IfSome a (λ f. IfSome b (λ g. precedes g f ≡ false)) → earlier_of a b ≡ option_or a b
stays None b l = refl
stays (Some f) None l = refl
stays (Some f) (Some g) l = ap (λ b. if b then Some g else Some f) l

pub first_before : (xs ys : List ReadingFault) → Each (λ f. Each (IsLater f) ys) xs
    → first_reading_fault (xs ++ ys) ≡ option_or (first_reading_fault xs) (first_reading_fault ys)
first_before xs ys l =
    first_append xs ys
    ∙ stays (first_reading_fault xs) (first_reading_fault ys)
    (first_holds (λ f. IfSome (first_reading_fault ys) (λ g. precedes g f ≡ false)) xs
    (each_weaker (λ f. Each (IsLater f) ys) (λ f. IfSome (first_reading_fault ys) (λ g. precedes g f ≡ false))
    (λ f e. first_holds (λ g. precedes g f ≡ false) ys (each_weaker (IsLater f) (λ g. precedes g f ≡ false) (λ g i. later f g i) ys e)) xs l))

-- a fault that none of the others comes before
pub first_is : (f : ReadingFault) (ys : List ReadingFault) → Each (IsLater f) ys → first_reading_fault (f ∷ ys) ≡ Some f
first_is f ys l = first_before (f ∷ []) ys (l, tt)
