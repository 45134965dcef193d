-- The rule at the start, and what it gives at the end.
use Rattle.std.proofs.Common.{◌≡◌, ℕ, zero, suc, ◌+◌, ◌^◌, ◌<◌, ◌≤◌, min, List, [], ◌∷◌, ◌++◌, map, length, sym, refl, ap, ◌∙◌, subst, inr, ⊎_elim, arith}
use Rattle.std.specs.Prelude.{true, Option, Some, None, replicate}
use mathlib.Core.Option.{some, some-injective, some-ne-none}
use lib.ListN.{get_elem?}
use native.Mathlib.Decide.{ℕ_discrete}
use Rattle.atomic_table.specs.Table.{State, opening, Final, Seen}
use Rattle.tall_core.specs.Machine.{begins}
use Rattle.tall_board.specs.declared.view.View.{View}
use Rattle.tall_board.specs.Rule.{first_view, Holds, Fits, drawn, at_home, nothing_laid, shown, Kept}
use Rattle.tall_board.specs.Pieces.{InPlace}
use Rattle.tall_board.proofs.Views.{one_value, two_of_total, homes_some, home_at}
use Rattle.tall_board.proofs.Facts.{none_some, value_is, same_state, once, held_of}

first_only : (i k : ℕ) → Holds (first_view ∷ []) i k → ⊥
first_only zero k h = none_some h.0.ticket k (sym (ap (λ (x : View). x.ticket) (some-injective first_view h.0 h.1))) h.2
first_only (suc i) k h = some-ne-none h.0 (sym h.1)

first_fits : (n i : ℕ) (v : View) → get_elem? (first_view ∷ []) i ≡ some v → Fits n 0 v
first_fits n zero v e = subst (λ (x : View). Fits n 0 x) (some-injective first_view v e) (record { spent_idle = λ h. refl; told_late = λ h. absurd cc; told_idle = λ h. refl; seen_drawn = omega arith })
first_fits n (suc i) v e = absurd (some-ne-none v (sym e))

module _ {P : Type 0} where
  abbrev copies : ℕ → List (Option P)
  copies n = replicate n None

  copy_at : (n k : ℕ) → k < n → get_elem? (map some (copies n)) k ≡ some (some None)
  copy_at zero k h = absurd (omega arith)
  copy_at (suc n) zero h = refl
  copy_at (suc n) (suc k) h = copy_at n k (omega arith)

  no_copy : (n k : ℕ) (p : P) → get_elem? (map some (copies n)) k ≡ some (some (Some p)) → ⊥
  no_copy zero k p e = some-ne-none (some (Some p)) (sym e)
  no_copy (suc n) zero p e = none_some None p refl (some-injective None (Some p) (some-injective (some None) (some (Some p)) e))
  no_copy (suc n) (suc k) p e = no_copy n k p e

  pub at_start : (right : ℕ → P → Type 0) (n : ℕ) → Kept right n (opening (0 ∷ 0 ∷ []) (replicate n None) first_view)
  at_start right n = record {
    two = refl;
    reached = begins (shown n nothing_laid (opening (0 ∷ 0 ∷ []) (replicate n None) first_view))
        (same_state n (min 0 n) 0 (None ∷ []) (None ∷ []) (map at_home (map some (replicate n None))) (replicate n None) (omega arith) refl (homes_some (replicate n None)));
    counted = omega arith;
    out = λ i k h. absurd (first_only i k h);
    home = λ k less. inr (None, copy_at n k less);
    right_home = λ k p e. absurd (no_copy n k p e);
    rooms = refl;
    able = omega arith;
    fits = first_fits n;
  }

  module _ (right : ℕ → P → Type 0) (n id : ℕ) (v : View) (s : State (Option P) View) (kept : Kept right n s) (at : get_elem? s.views id ≡ some v)
      (whole : v.room ≡ 2 ^ 32) (told : v.told ≡ true) (idle : v.ticket ≡ None) where
    -- no seat holds a place any more
    nobody : (i k : ℕ) → Holds s.views i k → ⊥
    nobody i k h =
        elim (ℕ_discrete i id) [
          | yes e ↦ none_some v.ticket k idle (sym (ap (λ (x : View). x.ticket) (one_value s.views id h.0 v (ap (λ (x : ℕ). get_elem? s.views x) (sym e) ∙ h.1) at)) ∙ h.2)
          | no ne ↦
              let both : v.room + h.0.room ≤ 2 ^ 32 = let a = two_of_total (λ u. u.room) s.views id i v h.0 ne at h.1 in let b = kept.rooms in omega arith in
              none_some h.0.ticket k ((kept.fits i h.0 h.1).spent_idle (omega arith)) h.2
        ]

    piece_of : (k : ℕ) (x : Option P) → k < n → get_elem? s.homes k ≡ some (some x) → (p : P) × (x ≡ Some p)
    piece_of k x less e =
        let late : n ≤ drawn s = (kept.fits id v at).told_late told in
        ⊎_elim
        (λ t. absurd (nobody t.0 k (held_of right n s kept t.0 k t.1)))
        (λ t. (t.0, value_is x (Some t.0) (sym (home_at s.homes k (some x) e) ∙ t.1)))
        ((once right n s kept).once k (omega arith))

    pub piece_there : (k : ℕ) → k < n → (p : P) × (get_elem? s.homes k ≡ some (some (Some p))) × right k p
    piece_there k less =
        ⊎_elim
        (λ t. absurd (nobody t.0 k t.1))
        (λ t.
        let p = piece_of k t.0 less t.1 in
        let here : get_elem? s.homes k ≡ some (some (Some p.0)) = t.1 ∙ ap (λ (x : Option P). some (some x)) p.1 in
        (p.0, here, kept.right_home k p.0 here))
        (kept.home k less)

  pub all_right : (right : ℕ → P → Type 0) (n id : ℕ) (v : View) (words : List ℕ) (slots : List (Option P)) → Final (Seen (Kept right n) id v) words slots
      → v.room ≡ 2 ^ 32 → v.told ≡ true → v.ticket ≡ None → (k : ℕ) → k < n → (p : P) × (get_elem? slots k ≡ some (Some p)) × right k p
  all_right right n id v words slots f whole told idle k less =
      let p = piece_there right n id v f.0 f.1.0 f.1.1 whole told idle k less in
      (p.0, f.4 k (Some p.0) p.1, p.2)

-- one piece more at the end
pub in_place_snoc : {P : Type 0} (right : ℕ → P → Type 0) (k : ℕ) (ps : List P) (p : P) → InPlace right k ps → right (k + length ps) p → InPlace right k (ps ++ p ∷ [])
in_place_snoc right k [] p h r = (subst (λ (x : ℕ). right x p) (omega arith) r, tt)
in_place_snoc right k (q ∷ ps) p h r = (h.0, in_place_snoc right (k + 1) ps p h.1 (subst (λ (x : ℕ). right x p) (omega arith) r))
