-- Data that go to places, one after the other.
use Rattle.std.specs.Prelude.{◌≡◌, refl, ℕ, ℤ, zero, suc, ◌+◌, ◌<◌, ◌≤◌, ◌^◌, ◌==◌, Bool, true, false, if◌then◌else◌, Option, None, Some, List, [], ◌∷◌, ◌++◌, length, get_or, map, take, drop, slice_get}
use Rattle.std.proofs.Common.{ap, sym, subst, ◌∙◌, arith, add-one}
use Rattle.std.proofs.lemmas.List.{append_assoc, append-nil, drop_more, length-map}
use Rattle.tall_value.specs.declared.class.Kind.{Kind}
use Rattle.tall_value.specs.Cells.{Seen}
use Rattle.tall_group.specs.Places.{AreOf, Data, if_here, parts_at, rows_at, singles}
use Rattle.tall_group.specs.States.{datum, IsRange}

parts_next : (p : ℕ) (qs : List ℕ) (parts : List Data) (i d : ℕ) (e : Data) → i < length qs → length parts ≡ length qs
    → parts_at p (take (suc i) qs) (take (suc i) parts) ≡ parts_at p (take i qs) (take i parts) ++ if_here p (get_or qs i d) (get_or parts i e)
parts_next p [] parts i d e l h = absurd (omega arith)
parts_next p (q ∷ qs) [] i d e l h = absurd (omega (arith, h))
parts_next p (q ∷ qs) (x ∷ parts) zero d e l h = append-nil (if_here p q x)
parts_next p (q ∷ qs) (x ∷ parts) (suc i) d e l h =
    ap (λ ys. if_here p q x ++ ys) (parts_next p qs parts i d e (omega arith) (omega (arith, h))) ∙ sym (append_assoc (if_here p q x) (parts_at p (take i qs) (take i parts)) (if_here p (get_or qs i d) (get_or parts i e)))

pub parts_more : (p : ℕ) (qs : List ℕ) (parts : List Data) (i d : ℕ) (e : Data) → i < length qs → length parts ≡ length qs
    → parts_at p (take (i + 1) qs) (take (i + 1) parts) ≡ parts_at p (take i qs) (take i parts) ++ if_here p (get_or qs i d) (get_or parts i e)
parts_more p qs parts i d e l h = ap (λ n. parts_at p (take n qs) (take n parts)) (add-one i) ∙ parts_next p qs parts i d e l h

-- a part more at its place, behind what was there
pub part_added : {S : Type 0} (of : Data → S → Type 0) (at : ℕ → Data) (qs : List ℕ) (parts : List Data) (i d : ℕ) (e : Data) (states : List S) → i < length qs → length parts ≡ length qs
    → AreOf of (λ p. (at p ++ parts_at p (take i qs) (take i parts)) ++ if_here p (get_or qs i d) (get_or parts i e)) states → AreOf of (λ p. at p ++ parts_at p (take (i + 1) qs) (take (i + 1) parts)) states
part_added {S} of at qs parts i d e states l h a p s k =
    subst (λ ds. of ds (get_or states p s))
    (append_assoc (at p) (parts_at p (take i qs) (take i parts)) (if_here p (get_or qs i d) (get_or parts i e)) ∙ ap (λ ds. at p ++ ds) (sym (parts_more p qs parts i d e l h)))
    (a p s k)

pub take_whole : {A : Type 0} (xs : List A) (n : ℕ) → length xs ≤ n → take n xs ≡ xs
take_whole [] zero h = refl
take_whole [] (suc n) h = refl
take_whole (x ∷ xs) zero h = absurd (omega (arith, h))
take_whole (x ∷ xs) (suc n) h = ap (λ ys. x ∷ ys) (take_whole xs n (omega (arith, h)))

pub parts_whole : {S : Type 0} (of : Data → S → Type 0) (at : ℕ → Data) (qs : List ℕ) (parts : List Data) (i : ℕ) (states : List S) → length qs ≤ i → length parts ≡ length qs
    → AreOf of (λ p. at p ++ parts_at p (take i qs) (take i parts)) states → AreOf of (λ p. at p ++ parts_at p qs parts) states
parts_whole {S} of at qs parts i states l h a p s k =
    subst (λ ds. of (at p ++ ds) (get_or states p s)) (ap (λ rs. parts_at p rs (take i parts)) (take_whole qs i l) ∙ ap (parts_at p qs) (take_whole parts i (omega (arith, l, h)))) (a p s k)

-- ---- rows

pub rows_next : {S : Type 0} (rows : S → ℕ) (p : ℕ) (qs : List ℕ) (states : List S) (i d : ℕ) (e : S) → i < length qs → length qs ≡ length states
    → rows_at rows p (drop i qs) (drop i states) ≡ (if get_or qs i d == p then rows (get_or states i e) else 0) + rows_at rows p (drop (i + 1) qs) (drop (i + 1) states)
rows_next rows p qs states i d e l h =
    ap (λ rs. rows_at rows p rs (drop i states)) (drop_more qs i d l) ∙ ap (rows_at rows p (get_or qs i d ∷ drop (i + 1) qs)) (drop_more states i e (omega (arith, l, h)))

pub few_added : {S : Type 0} (rows : S → ℕ) (p : ℕ) (qs : List ℕ) (states : List S) (i d : ℕ) (e : S) (old new : ℕ) → i < length qs → length qs ≡ length states
    → old + rows_at rows p (drop i qs) (drop i states) < 2 ^ 40 → new ≡ old + (if get_or qs i d == p then rows (get_or states i e) else 0) → new + rows_at rows p (drop (i + 1) qs) (drop (i + 1) states) < 2 ^ 40
few_added rows p qs states i d e old new l h few n = omega (arith, few, n, rows_next rows p qs states i d e l h)

pub few_next : {S : Type 0} (rows : S → ℕ) (p : ℕ) (qs : List ℕ) (states : List S) (i d : ℕ) (s : S) (old new : ℕ) → i < length qs → length qs ≡ length states → s ≡ get_or states i s
    → old + rows_at rows p (drop i qs) (drop i states) < 2 ^ 40 → new ≡ old + (if get_or qs i d == p then rows s else 0) → new + rows_at rows p (drop (i + 1) qs) (drop (i + 1) states) < 2 ^ 40
few_next rows p qs states i d s old new l h is few n =
    few_added rows p qs states i d s old new l h few (n ∙ ap (λ x. old + (if get_or qs i d == p then rows x else 0)) is)

-- ---- one datum of a column more

single_at : (cs : List Seen) (i : ℕ) (c : Seen) (e : Data) → slice_get cs i ≡ Some c → get_or (singles cs) i e ≡ datum c ∷ []
single_at [] i c e h = absurd cc
single_at (x ∷ cs) zero c e h = let s : x ≡ c = cc in ap (λ z. datum z ∷ []) s
single_at (x ∷ cs) (suc i) c e h = single_at cs i c e h

pub row_added : {S : Type 0} (of : Kind → Data → S → Type 0) (a b : Kind) (at : ℕ → Data) (qs : List ℕ) (cs : List Seen) (i : ℕ) (x : Option ℤ) (c : Seen) (old new : List S) → a ≡ b → i < length qs → length qs ≡ length cs → slice_get cs i ≡ Some c → x ≡ datum c
    → ((before : ℕ → Data) → AreOf (of a) before old → AreOf (of a) (λ p. before p ++ if_here p (get_or qs i 0) (x ∷ [])) new)
    → AreOf (of b) (λ p. at p ++ parts_at p (take i qs) (take i (singles cs))) old → AreOf (of b) (λ p. at p ++ parts_at p (take (i + 1) qs) (take (i + 1) (singles cs))) new
row_added {S} of a b at qs cs i x c old new k l e h v step before =
    part_added (of b) at qs (singles cs) i 0 [] new l (length-map cs (λ z. datum z ∷ []) ∙ sym e)
    (subst (λ ds. AreOf (of b) (λ p. (at p ++ parts_at p (take i qs) (take i (singles cs))) ++ if_here p (get_or qs i 0) ds) new)
    (ap (λ z. z ∷ []) v ∙ sym (single_at cs i c [] h))
    (subst (λ j. ((before : ℕ → Data) → AreOf (of j) before old → AreOf (of j) (λ p. before p ++ if_here p (get_or qs i 0) (x ∷ [])) new)) k step (λ p. at p ++ parts_at p (take i qs) (take i (singles cs))) before))
