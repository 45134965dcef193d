-- One row more of a loop over the values of a column.
use Rattle.std.proofs.Common.{◌≡◌, ℕ, ◌+◌, ◌<◌, ◌≤◌, ◌^◌, ℤ, pos, negsuc, ◌+ℤ◌, Option, None, Some, List, [], ◌∷◌, ◌++◌, length, take, get_or, refl, ap, sym, ◌∙◌, arith}
use Rattle.std.specs.Prelude.{IfSome, unsigned_abs}
use Rattle.std.specs.List.{filter_map}
use Rattle.std.proofs.lemmas.Int.{ints, clamps}
use Rattle.std.proofs.lemmas.List.Elements.{filter_map-append}
use Rattle.tall_int.specs.Numbers.{nearest}
use Rattle.tall_value.specs.Reductions.{total}
use Rattle.tall_value.specs.declared.class.Kind.TheVariants.{Double}
use Rattle.tall_clamp.specs.Folds.{added, of_both}
use Rattle.tall_clamp.specs.Outcomes.{picked}
use Rattle.tall_clamp.proofs.SumLemmas.{rows_more}
use Rattle.tall_fold.proofs.JoinLemmas.{picked-append}
use Rattle.tall_value.proofs.SumLaws.{total_append}
use Rattle.tall_fold.specs.Summaries.{IsNumber}

-- a number of magnitude at most 2^53 is one of the doubles
pub small_is_number : (n : ℤ) → unsigned_abs n ≤ 2 ^ 53 → IsNumber Double n
small_is_number (pos n) h = omega (arith, ints, clamps, h)
small_is_number (negsuc n) h = omega (arith, ints, clamps, h)

-- the numbers among the rows, with one row more
numbers_with : (ds : List (Option ℤ)) (i : ℕ) (v : Option ℤ) → i < length ds → v ≡ get_or ds i v
    → filter_map (λ d. d) (take (i + 1) ds) ≡ filter_map (λ d. d) (take i ds) ++ filter_map (λ d. d) (v ∷ [])
numbers_with ds i v h e = ap (filter_map (λ d. d)) (rows_more ds i v h e) ∙ filter_map-append (λ d. d) (take i ds) (v ∷ [])

picked_one : (pick : ℤ → ℤ → ℤ) (v : Option ℤ) → v ≡ picked pick (filter_map (λ d. d) (v ∷ []))
picked_one pick None = refl
picked_one pick (Some n) = refl

pub picked_more : (pick : ℤ → ℤ → ℤ) → ((x y z : ℤ) → pick (pick x y) z ≡ pick x (pick y z)) → (ds : List (Option ℤ)) (i : ℕ) (v best next : Option ℤ) → i < length ds → v ≡ get_or ds i v
    → best ≡ picked pick (filter_map (λ d. d) (take i ds)) → next ≡ of_both pick best v → next ≡ picked pick (filter_map (λ d. d) (take (i + 1) ds))
picked_more pick assoc ds i v best next h e p q =
    q
    ∙ ap (λ (x : Option ℤ). of_both pick x v) p
    ∙ ap (of_both pick (picked pick (filter_map (λ d. d) (take i ds)))) (picked_one pick v)
    ∙ picked-append pick assoc (filter_map (λ d. d) (take i ds)) (filter_map (λ d. d) (v ∷ []))
    ∙ ap (picked pick) (sym (numbers_with ds i v h e))

pub number_more : (pick : ℤ → ℤ → ℤ) → ((l h x y : ℤ) → nearest l h x ≡ x → nearest l h y ≡ y → nearest l h (pick x y) ≡ pick x y) → (best v : Option ℤ)
    → IfSome best (IsNumber Double) → IfSome v (λ n. unsigned_abs n ≤ 2 ^ 53) → IfSome (of_both pick best v) (IsNumber Double)
number_more pick stays None None p q = tt
number_more pick stays None (Some n) p q = small_is_number n q
number_more pick stays (Some m) None p q = p
number_more pick stays (Some m) (Some n) p q = stays (negsuc 9007199254740991) (pos 9007199254740992) m n p (small_is_number n q)

with_one : (ns : List ℤ) (v : Option ℤ) → (elim v [ Some n ↦ added (Some (total ns)) (Some n) | None ↦ Some (total ns) ]) ≡ Some (total (ns ++ filter_map (λ d. d) (v ∷ [])))
with_one ns None = ap Some (let e : total ns ≡ total ns +ℤ pos 0 = omega (arith, ints) in e ∙ sym (total_append ns []))
with_one ns (Some n) = ap Some (let e : total ns +ℤ n ≡ total ns +ℤ (n +ℤ pos 0) = omega (arith, ints) in e ∙ sym (total_append ns (n ∷ [])))

pub total_with : (ds : List (Option ℤ)) (i : ℕ) (v t next : Option ℤ) → i < length ds → v ≡ get_or ds i v → t ≡ Some (total (filter_map (λ d. d) (take i ds)))
    → next ≡ (elim v [ Some n ↦ added t (Some n) | None ↦ t ]) → next ≡ Some (total (filter_map (λ d. d) (take (i + 1) ds)))
total_with ds i v t next h e p q =
    q
    ∙ ap (λ (x : Option ℤ). elim v [ Some n ↦ added x (Some n) | None ↦ x ]) p
    ∙ with_one (filter_map (λ d. d) (take i ds)) v
    ∙ ap (λ (l : List ℤ). Some (total l)) (sym (numbers_with ds i v h e))
