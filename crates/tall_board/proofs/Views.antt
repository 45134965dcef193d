-- Lists of views: sums over them, and the holders that the machine sees.
use Rattle.std.proofs.Common.{◌≡◌, ◌≢◌, ℕ, zero, suc, ◌+◌, ◌<◌, ◌≤◌, List, [], ◌∷◌, ◌++◌, map, length, set, sym, refl, ap, ◌∙◌, arith}
use Rattle.std.specs.Prelude.{Option, Some, None, slice_get}
use mathlib.Core.Option.{none, some, some-injective, some-ne-none}
use lib.ListN.{get_elem?}
use Rattle.tall_core.specs.declared.event.Held.{Held}
use Rattle.tall_core.specs.Machine.{holding}
use Rattle.tall_board.specs.declared.view.View.{View}
use Rattle.tall_board.specs.Rule.{total, held_with, holders, at_home, nothing_laid, laid_by}

pub total-set : (f : View → ℕ) (vs : List View) (i : ℕ) (v w : View) → get_elem? vs i ≡ some v → total f (set vs i w) + f v ≡ total f vs + f w
total-set f [] i v w e = absurd (some-ne-none v (sym e))
total-set f (u ∷ vs) zero v w e = let same : f u ≡ f v = ap f (some-injective u v e) in omega arith
total-set f (u ∷ vs) (suc i) v w e = let rest = total-set f vs i v w e in omega arith

pub total-snoc : (f : View → ℕ) (vs : List View) (v : View) → total f (vs ++ v ∷ []) ≡ total f vs + f v
total-snoc f [] v = omega arith
total-snoc f (u ∷ vs) v = let rest = total-snoc f vs v in omega arith

-- one of them, and two of them, are at most the sum
pub one_of_total : (f : View → ℕ) (vs : List View) (i : ℕ) (v : View) → get_elem? vs i ≡ some v → f v ≤ total f vs
one_of_total f [] i v e = absurd (some-ne-none v (sym e))
one_of_total f (u ∷ vs) zero v e = let same : f u ≡ f v = ap f (some-injective u v e) in omega arith
one_of_total f (u ∷ vs) (suc i) v e = let rest = one_of_total f vs i v e in omega arith

pub two_of_total : (f : View → ℕ) (vs : List View) (i j : ℕ) (v w : View) → j ≢ i → get_elem? vs i ≡ some v → get_elem? vs j ≡ some w → f v + f w ≤ total f vs
two_of_total f [] i j v w n e d = absurd (some-ne-none v (sym e))
two_of_total f (u ∷ vs) zero zero v w n e d = absurd (n refl)
two_of_total f (u ∷ vs) zero (suc j) v w n e d = let same : f u ≡ f v = ap f (some-injective u v e) in let rest = one_of_total f vs j w d in omega arith
two_of_total f (u ∷ vs) (suc i) zero v w n e d = let same : f u ≡ f w = ap f (some-injective u w d) in let rest = one_of_total f vs i v e in omega arith
two_of_total f (u ∷ vs) (suc i) (suc j) v w n e d = let rest = two_of_total f vs i j v w (λ h. n (ap suc h)) e d in omega arith

pub there : {A : Type 0} (l : List A) (i : ℕ) (a : A) → get_elem? l i ≡ some a → i < length l
there [] i a e = absurd (some-ne-none a (sym e))
there (x ∷ l) zero a e = omega arith
there (x ∷ l) (suc i) a e = let rest = there l i a e in omega arith

pub one_value : {A : Type 0} (l : List A) (i : ℕ) (a b : A) → get_elem? l i ≡ some a → get_elem? l i ≡ some b → a ≡ b
one_value l i a b d e = some-injective a b (sym d ∙ e)

module _ {P : Type 0} where
  pub holder_at : (laid : ℕ → Option P) (vs : List View) (i : ℕ) (v : View) → get_elem? vs i ≡ some v → slice_get (holders laid vs) i ≡ Some (held_with v.ticket (laid i))
  holder_at laid [] i v e = absurd (some-ne-none v (sym e))
  holder_at laid (u ∷ vs) zero v e = ap (λ (x : View). Some (held_with x.ticket (laid zero))) (some-injective u v e)
  holder_at laid (u ∷ vs) (suc i) v e = holder_at (λ j. laid (suc j)) vs i v e

  -- a holder is one of the views
  pub view_at : (laid : ℕ → Option P) (vs : List View) (i : ℕ) (x : Option (Held P)) → slice_get (holders laid vs) i ≡ Some x → (v : View) × (get_elem? vs i ≡ some v) × (held_with v.ticket (laid i) ≡ x)
  view_at laid [] i x e = absurd cc
  view_at laid (u ∷ vs) zero x e = (u, refl, (cc))
  view_at laid (u ∷ vs) (suc i) x e = view_at (λ j. laid (suc j)) vs i x e

  pub holders_set : (laid : ℕ → Option P) (vs : List View) (i : ℕ) (w : View) → holders laid (set vs i w) ≡ set (holders laid vs) i (held_with w.ticket (laid i))
  holders_set laid [] i w = refl
  holders_set laid (u ∷ vs) zero w = refl
  holders_set laid (u ∷ vs) (suc i) w = ap (λ (l : List (Option (Held P))). held_with u.ticket (laid zero) ∷ l) (holders_set (λ j. laid (suc j)) vs i w)

  pub holders_same : (laid : ℕ → Option P) (vs : List View) (i : ℕ) (v w : View) → get_elem? vs i ≡ some v → w.ticket ≡ v.ticket → holders laid (set vs i w) ≡ holders laid vs
  holders_same laid [] i v w e h = refl
  holders_same laid (u ∷ vs) zero v w e h =
      ap (λ (t : Option ℕ). held_with t (laid zero) ∷ holders (λ j. laid (suc j)) vs) (h ∙ sym (ap (λ (x : View). x.ticket) (some-injective u v e)))
  holders_same laid (u ∷ vs) (suc i) v w e h = ap (λ (l : List (Option (Held P))). held_with u.ticket (laid zero) ∷ l) (holders_same (λ j. laid (suc j)) vs i v w e h)

  pub holders_snoc : (laid : ℕ → Option P) (vs : List View) (v : View) → ((i : ℕ) → laid i ≡ None) → v.ticket ≡ None → holders laid (vs ++ v ∷ []) ≡ holders laid vs ++ None ∷ []
  holders_snoc laid [] v none_laid h = ap (λ (t : Option ℕ). held_with t (laid zero) ∷ []) h
  holders_snoc laid (u ∷ vs) v none_laid h = ap (λ (l : List (Option (Held P))). held_with u.ticket (laid zero) ∷ l) (holders_snoc (λ j. laid (suc j)) vs v (λ j. none_laid (suc j)) h)

  -- where one seat laid a piece, the machine sees it with its place
  pub holders_laid : (vs : List View) (i place : ℕ) (piece : P) (v : View) → get_elem? vs i ≡ some v → v.ticket ≡ Some place
      → holders (laid_by i piece) vs ≡ set (holders nothing_laid vs) i (Some (holding place (Some piece)))
  holders_laid [] i place piece v e h = absurd (some-ne-none v (sym e))
  holders_laid (u ∷ vs) zero place piece v e h =
      ap (λ (t : Option ℕ). held_with t (Some piece) ∷ holders nothing_laid vs) (ap (λ (x : View). x.ticket) (some-injective u v e) ∙ h)
  holders_laid (u ∷ vs) (suc i) place piece v e h = ap (λ (l : List (Option (Held P))). held_with u.ticket None ∷ l) (holders_laid vs i place piece v e h)

  -- slots at home
  pub homes_set : (l : List (mathlib.Core.Option.Option (Option P))) (i : ℕ) (a : mathlib.Core.Option.Option (Option P)) → map at_home (set l i a) ≡ set (map at_home l) i (at_home a)
  homes_set [] i a = refl
  homes_set (x ∷ l) zero a = refl
  homes_set (x ∷ l) (suc i) a = ap (λ (m : List (Option P)). at_home x ∷ m) (homes_set l i a)

  pub homes_same : (l : List (mathlib.Core.Option.Option (Option P))) (i : ℕ) (a b : mathlib.Core.Option.Option (Option P)) → get_elem? l i ≡ some b → at_home a ≡ at_home b → map at_home (set l i a) ≡ map at_home l
  homes_same [] i a b e h = refl
  homes_same (x ∷ l) zero a b e h = ap (λ (p : Option P). p ∷ map at_home l) (h ∙ sym (ap at_home (some-injective x b e)))
  homes_same (x ∷ l) (suc i) a b e h = ap (λ (m : List (Option P)). at_home x ∷ m) (homes_same l i a b e h)

  pub home_at : (l : List (mathlib.Core.Option.Option (Option P))) (i : ℕ) (a : mathlib.Core.Option.Option (Option P)) → get_elem? l i ≡ some a → slice_get (map at_home l) i ≡ Some (at_home a)
  home_at [] i a e = absurd (some-ne-none a (sym e))
  home_at (x ∷ l) zero a e = ap (λ (y : mathlib.Core.Option.Option (Option P)). Some (at_home y)) (some-injective x a e)
  home_at (x ∷ l) (suc i) a e = home_at l i a e

  pub homes_some : (l : List (Option P)) → map at_home (map some l) ≡ l
  homes_some [] = refl
  homes_some (x ∷ l) = ap (λ (m : List (Option P)). x ∷ m) (homes_some l)
