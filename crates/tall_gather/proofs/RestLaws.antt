-- What stands in no pass: one value more, and all of a level.
use Rattle.std.specs.Prelude.{◌≡◌, refl, ℕ, zero, suc, ◌<◌, ◌⊎◌, ◌==◌, Bool, true, false, if◌then◌else◌, Option, None, Some, List, [], ◌∷◌, ◌++◌, length, slice_get}
use Rattle.std.proofs.Common.{ap, sym, subst, ◌∙◌, arith, inl, inr}
use Rattle.std.proofs.lemmas.Bool.Decides.{Decides-eqb}
use Rattle.tall_semantics.specs.Talls.{Tall}
use Rattle.tall_semantics.specs.Deferred.{Vertex, IsAmong}
use Rattle.tall_semantics.specs.Plans.{is_among, args_of, needed_below, needed_of}
use Rattle.tall_semantics.specs.ShapesInOrder.{shape_at}
use Rattle.tall_semantics.proofs.Basics.{inside}
use Rattle.tall_semantics.proofs.LevelLaws.{among_both}
use Rattle.tall_fuse.specs.Results.{Found, with_found}
use Rattle.tall_fuse.specs.Kept.{carry, found}
use Rattle.tall_fuse.specs.declared.known.Known.{Known}
use Rattle.tall_pass.specs.Fitting.{AreFit, IsFit}
use Rattle.tall_pass.specs.Told.{Shows}
use Rattle.tall_gather.specs.Progress.{IsKnown}
use Rattle.tall_gather.specs.Rests.{AreShown, IsPut}

-- ---- one more result

with_cases : (i j : ℕ) → ((j == i) ≡ true) ⊎ ((j == i) ≡ false)
with_cases i j = by (j == i)
  where
    by : (b : Bool) → (b ≡ true) ⊎ (b ≡ false)
    by true = inl refl
    by false = inr refl

same_when : (f : ℕ → Option Found) (i : ℕ) (x : Found) (j : ℕ) → (j == i) ≡ true → with_found f i x j ≡ Some x
same_when f i x j e = ap (λ b. if b then Some x else f j) e

other_when : (f : ℕ → Option Found) (i : ℕ) (x : Found) (j : ℕ) → (j == i) ≡ false → with_found f i x j ≡ f j
other_when f i x j e = ap (λ b. if b then Some x else f j) e

module _ (vs : List Vertex) (i : ℕ) (x : Found) (old new : Known) (put : (j : ℕ) → found new j ≡ with_found (found old) i x j) where
  here : found new i ≡ Some x
  here = put i ∙ same_when (found old) i x i ((Decides-eqb i i).1 refl)

  cases : (j : ℕ) (r : Found) → found new j ≡ Some r → ((j ≡ i) × (x ≡ r)) ⊎ (found old j ≡ Some r)
  cases j r e = elim (with_cases i j) [
    | inl t ↦
        let ji : j ≡ i = (Decides-eqb j i).0 t in
        inl (ji, inside x r (sym (same_when (found old) i x j t) ∙ (sym (put j) ∙ e)))
    | inr f ↦ inr (sym (other_when (found old) i x j f) ∙ (sym (put j) ∙ e))
  ]

  stays : (j : ℕ) → IsKnown old j → IsKnown new j
  stays j w = elim (with_cases i j) [
    | inl t ↦ (x, put j ∙ same_when (found old) i x j t)
    | inr f ↦ (w.0, put j ∙ (other_when (found old) i x j f ∙ w.1))
  ]

  pub put_made : IsFit (shape_at vs i) x → AreFit vs old → ((j b : ℕ) → carry new j b ≡ carry old j b) → IsPut vs i None old new
  put_made fit all carries = record {
    fit = record {
      results = λ j r e. elim (cases j r e) [ inl w ↦ subst (λ k. IsFit (shape_at vs k) r) (sym w.0) (subst (IsFit (shape_at vs i)) w.1 fit) | inr o ↦ all.results j r o ];
      carries = λ j b c e. all.carries j b c (sym (carries j b) ∙ e);
    };
    stay = stays;
    others = λ j r e. elim (cases j r e) [ inl w ↦ inr w.0 | inr o ↦ inl o ];
    carries = carries;
    put = inl (x, here);
  }

  pub put_shown : (f : ℕ → Tall) → Shows (f i) x → AreShown f old → AreShown f new
  put_shown f shows all j r e = elim (cases j r e) [ inl w ↦ subst (λ k. Shows (f k) r) (sym w.0) (subst (Shows (f i)) w.1 shows) | inr o ↦ all j r o ]

-- ---- operands stand before

if_below : (b : Bool) (n i : ℕ) (xs ys : List ℕ) → ((i : ℕ) → IsAmong xs i → i < n) → ((i : ℕ) → IsAmong ys i → i < n) → IsAmong (if b then xs ++ n ∷ [] else ys) i → i < suc n
if_below true n i xs ys hx hy w = elim ((among_both xs (n ∷ []) i).0 w) [
  | inl low ↦ (let h = hx i low in omega (arith, h))
  | inr last ↦ elim last [ inl e ↦ omega (arith, e) | inr none ↦ absurd none ]
]
if_below false n i xs ys hx hy w = (let h = hy i w in omega (arith, h))

pub needed_lower : (vs : List Vertex) (n : ℕ) (marked : List ℕ) (i : ℕ) → IsAmong (needed_below vs n marked) i → i < n
unfolding needed_below
needed_lower vs zero marked i m = absurd m
needed_lower vs (suc n) marked i m = if_below (is_among n marked) n i (needed_below vs n (args_of (slice_get vs n) ++ marked)) (needed_below vs n marked) (needed_lower vs n (args_of (slice_get vs n) ++ marked)) (needed_lower vs n marked) m

pub among_place : (xs : List ℕ) (i : ℕ) → IsAmong xs i → (m : ℕ) × (m < length xs) × (slice_get xs m ≡ Some i)
among_place [] i m = absurd m
among_place (x ∷ xs) i (inl e) = (0, omega arith, ap Some e)
among_place (x ∷ xs) i (inr m) = (let w = among_place xs i m in (suc w.0, (let l = w.1 in omega (arith, l)), w.2))

pub place_among : (xs : List ℕ) (m i : ℕ) → slice_get xs m ≡ Some i → IsAmong xs i
place_among [] m i e = absurd (cc)
place_among (x ∷ xs) zero i e = inl (inside x i e)
place_among (x ∷ xs) (suc m) i e = inr (place_among xs m i e)

get_left : (xs ys : List ℕ) (m i : ℕ) → slice_get xs m ≡ Some i → slice_get (xs ++ ys) m ≡ Some i
get_left [] ys m i e = absurd (cc)
get_left (x ∷ xs) ys zero i e = e
get_left (x ∷ xs) ys (suc m) i e = get_left xs ys m i e

get_either : (xs : List ℕ) (n m i : ℕ) → slice_get (xs ++ n ∷ []) m ≡ Some i → (slice_get xs m ≡ Some i) ⊎ ((m ≡ length xs) × (n ≡ i))
get_either [] n zero i e = inr (refl, inside n i e)
get_either [] n (suc m) i e = absurd (cc)
get_either (x ∷ xs) n zero i e = inl e
get_either (x ∷ xs) n (suc m) i e = elim (get_either xs n m i e) [ inl h ↦ inl h | inr h ↦ inr ((let q = h.0 in omega (arith, q)), h.1) ]

-- what stands at a place of the list comes behind all lesser ones of it
Comes : List ℕ → Type 0
Comes xs = (a i j : ℕ) → IsAmong xs a → slice_get xs j ≡ Some i → a < i → (m : ℕ) × (m < j) × (slice_get xs m ≡ Some a)

comes_more : (n : ℕ) (xs : List ℕ) → ((i : ℕ) → IsAmong xs i → i < n) → Comes xs → Comes (xs ++ n ∷ [])
unfolding Comes
comes_more n xs low comes a i j m e l = elim (get_either xs n j i e) [
  | inl at ↦ elim ((among_both xs (n ∷ []) a).0 m) [
    | inl ma ↦ (let w = comes a i j ma at l in (w.0, w.1, get_left xs (n ∷ []) w.0 a w.2))
    | inr last ↦ elim last [ inl same ↦ absurd (let h = low i (place_among xs j i at) in omega (arith, h, same, l)) | inr none ↦ absurd none ]
  ]
  | inr here ↦ elim ((among_both xs (n ∷ []) a).0 m) [
    | inl ma ↦ (let w = among_place xs a ma in let q = here.0 in let b = w.1 in (w.0, omega (arith, b, q), get_left xs (n ∷ []) w.0 a w.2))
    | inr last ↦ elim last [ inl same ↦ absurd (let q = here.1 in omega (arith, same, q, l)) | inr none ↦ absurd none ]
  ]
]

comes_if : (b : Bool) (n : ℕ) (xs ys : List ℕ) → ((i : ℕ) → IsAmong xs i → i < n) → Comes xs → Comes ys → Comes (if b then xs ++ n ∷ [] else ys)
comes_if true n xs ys low cx cy = comes_more n xs low cx
comes_if false n xs ys low cx cy = cy

comes : (vs : List Vertex) (n : ℕ) (marked : List ℕ) → Comes (needed_below vs n marked)
unfolding needed_below Comes
comes vs zero marked = λ a i j m e l. absurd m
comes vs (suc n) marked = comes_if (is_among n marked) n (needed_below vs n (args_of (slice_get vs n) ++ marked)) (needed_below vs n marked) (needed_lower vs n (args_of (slice_get vs n) ++ marked)) (comes vs n (args_of (slice_get vs n) ++ marked)) (comes vs n marked)

pub operand_before : (vs : List Vertex) (roots : List ℕ) (a i j : ℕ) → IsAmong (needed_of vs roots) a → slice_get (needed_of vs roots) j ≡ Some i → a < i → (m : ℕ) × (m < j) × (slice_get (needed_of vs roots) m ≡ Some a)
unfolding Comes
operand_before vs roots = comes vs (length vs) roots
