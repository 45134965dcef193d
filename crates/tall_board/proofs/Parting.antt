-- A seat is split in two, and two seats are joined.
use Rattle.std.proofs.Common.{◌≡◌, ◌≢◌, ℕ, suc, ◌+◌, ◌-◌, ◌/◌, ◌≤◌, min, ◌⊎◌, List, [], ◌∷◌, ◌++◌, map, length, set, sym, refl, ap, ◌∙◌, subst, inl, inr, ⊎_elim, length-append, arith}
use Rattle.std.proofs.lemmas.List.{length-set}
use Rattle.std.specs.Prelude.{Bool, true, false, ◌||◌, Option, None, if◌then◌else◌}
use mathlib.Core.Option.{some}
use lib.ListN.{get_elem?}
use Rattle.atomic_table.specs.Table.{State, Splits, Joins}
use Rattle.atomic_table.proofs.Lists.{at_set, at_snoc, at_longer, set_else}
use Rattle.tall_core.specs.declared.event.Held.{Held}
use Rattle.tall_core.specs.Machine.{state, Reached}
use Rattle.tall_core.proofs.Reaches.{wider, reached_wider}
use Rattle.tall_board.specs.declared.view.View.{View}
use Rattle.tall_board.specs.Rule.{drawn, rest_of, half_of, joined, spent, held, left_room, Holds, Fits, holders, at_home, nothing_laid, shown, Kept}
use Rattle.tall_board.proofs.Views.{total-set, total-snoc, holders_same, holders_snoc}
use Rattle.tall_board.proofs.Facts.{none_some, not_idle}

halves : (b : Bool) (r : ℕ) → (if b then 0 else (r - r / 2)) + (if b then 0 else (r / 2)) ≡ (if b then 0 else r)
halves true r = refl
halves false r = omega arith

sums : (a b : Bool) (r q : ℕ) → (if (a || b) then 0 else (r + q)) ≤ (if a then 0 else r) + (if b then 0 else q)
sums true b r q = omega arith
sums false true r q = omega arith
sums false false r q = omega arith

either_told : (a b : Bool) (n t : ℕ) → (a ≡ true → n ≤ t) → (b ≡ true → n ≤ t) → a || b ≡ true → n ≤ t
either_told true b n t f g e = f refl
either_told false b n t f g e = g e

module _ {P : Type 0} (right : ℕ → P → Type 0) (n id : ℕ) (v : View) (idle : v.ticket ≡ None) where
  module _ (room : 2 ≤ v.room) (s : State (Option P) View) (kept : Kept right n s) (at : get_elem? s.views id ≡ some v) where
    abbrev pub parted : List View
    parted = set s.views id (rest_of v) ++ half_of v ∷ []

    long : suc (length s.views) ≡ length parted
    long = let a = length-append (set s.views id (rest_of v)) (half_of v ∷ []) in let b = length-set s.views id (rest_of v) in omega arith

    wide : wider (shown n nothing_laid s) ≡ state n (min (drawn s) n) (holders nothing_laid parted) (map at_home s.homes)
    wide =
        ap (λ (h : List (Option (Held P))). state n (min (drawn s) n) h (map at_home s.homes))
        (ap (λ (h : List (Option (Held P))). h ++ None ∷ []) (sym (holders_same nothing_laid s.views id v (rest_of v) at (sym idle)))
        ∙ sym (holders_snoc nothing_laid (set s.views id (rest_of v)) (half_of v) (λ i. refl) refl))

    -- a view now is one of the new ones or an old one
    seen_of : (i : ℕ) (u : View) → get_elem? parted i ≡ some u → ((rest_of v ≡ u) ⊎ (half_of v ≡ u)) ⊎ (get_elem? s.views i ≡ some u)
    seen_of i u e =
        ⊎_elim
        (λ t. ⊎_elim (λ r. inl (inl r.1)) (λ r. inr r.1) (at_set s.views id i (rest_of v) u t))
        (λ t. inl (inr t))
        (at_snoc (set s.views id (rest_of v)) (half_of v) u i e)

    before : (i k : ℕ) → Holds parted i k → Holds s.views i k
    before i k h =
        ⊎_elim
        (λ t. ⊎_elim
        (λ r. absurd (none_some h.0.ticket k (sym (ap (λ (x : View). x.ticket) r)) h.2))
        (λ r. absurd (none_some h.0.ticket k (sym (ap (λ (x : View). x.ticket) r)) h.2))
        t)
        (λ t. (h.0, t, h.2))
        (seen_of i h.0 h.1)

    later : (i k : ℕ) → Holds s.views i k → Holds parted i k
    later i k h =
        (h.0, at_longer (set s.views id (rest_of v)) (half_of v ∷ []) i h.0 (set_else s.views id i (rest_of v) (not_idle right n s kept id i k v at idle h) ∙ h.1), h.2)

    pub split_kept : Kept right n record { words = s.words; homes = s.homes; views = parted }
    split_kept = record {
      two = kept.two;
      reached =
          subst (λ (m : ℕ). Reached n m (state n (min (drawn s) n) (holders nothing_laid parted) (map at_home s.homes))) long
          (subst (λ x. Reached n (suc (length s.views)) x) wide (reached_wider n (length s.views) (shown n nothing_laid s) kept.reached));
      counted =
          let a = total-snoc (λ u. held u.ticket) (set s.views id (rest_of v)) (half_of v) in
          let b = total-set (λ u. held u.ticket) s.views id v (rest_of v) at in
          let c : held v.ticket ≡ 0 = ap held idle in
          let d = kept.counted in omega arith;
      out = λ i k h. kept.out i k (before i k h);
      home = λ k less. ⊎_elim (λ t. inl (t.0, later t.0 k t.1)) (λ t. inr t) (kept.home k less);
      right_home = kept.right_home;
      rooms =
          let a = total-snoc (λ u. u.room) (set s.views id (rest_of v)) (half_of v) in
          let b = total-set (λ u. u.room) s.views id v (rest_of v) at in
          let c = kept.rooms in omega arith;
      able =
          let a = total-snoc left_room (set s.views id (rest_of v)) (half_of v) in
          let b = total-set left_room s.views id v (rest_of v) at in
          let c = halves v.told v.room in
          let d = kept.able in omega arith;
      fits = λ i u e.
          ⊎_elim
          (λ t. ⊎_elim
          (λ r. subst (λ (x : View). Fits n (drawn s) x) r (record { spent_idle = λ h. refl; told_late = (kept.fits id v at).told_late; told_idle = λ h. refl; seen_drawn = (kept.fits id v at).seen_drawn }))
          (λ r. subst (λ (x : View). Fits n (drawn s) x) r (record { spent_idle = λ h. refl; told_late = (kept.fits id v at).told_late; told_idle = λ h. refl; seen_drawn = (kept.fits id v at).seen_drawn }))
          t)
          (λ t. kept.fits i u t)
          (seen_of i u e);
    }

  module _ (other : ℕ) (w : View) (quiet : w.ticket ≡ None) (s : State (Option P) View) (kept : Kept right n s) (at : get_elem? s.views id ≡ some v)
      (apart : other ≢ id) (there_too : get_elem? (set s.views id (joined v w)) other ≡ some w) where
    other_at : get_elem? s.views other ≡ some w
    other_at = sym (set_else s.views id other (joined v w) apart) ∙ there_too

    abbrev pub merged : List View
    merged = set (set s.views id (joined v w)) other spent

    same : holders {P = P} nothing_laid merged ≡ holders nothing_laid s.views
    same =
        holders_same nothing_laid (set s.views id (joined v w)) other w spent there_too (sym quiet)
        ∙ holders_same nothing_laid s.views id v (joined v w) at refl

    seen_in : (i : ℕ) (u : View) → get_elem? merged i ≡ some u → ((spent ≡ u) ⊎ ((i ≡ id) × (joined v w ≡ u))) ⊎ (get_elem? s.views i ≡ some u)
    seen_in i u e =
        ⊎_elim
        (λ t. inl (inl t.1))
        (λ t. ⊎_elim (λ r. inl (inr (r.0, r.1))) (λ r. inr r.1) (at_set s.views id i (joined v w) u t.1))
        (at_set (set s.views id (joined v w)) other i spent u e)

    held_before : (i k : ℕ) → Holds merged i k → Holds s.views i k
    held_before i k h =
        ⊎_elim
        (λ t. ⊎_elim
        (λ r. absurd (none_some h.0.ticket k (sym (ap (λ (x : View). x.ticket) r)) h.2))
        (λ r. absurd (none_some h.0.ticket k (sym (ap (λ (x : View). x.ticket) r.1) ∙ idle) h.2))
        t)
        (λ t. (h.0, t, h.2))
        (seen_in i h.0 h.1)

    held_later : (i k : ℕ) → Holds s.views i k → Holds merged i k
    held_later i k h = (
      h.0,
      set_else (set s.views id (joined v w)) other i spent (not_idle right n s kept other i k w other_at quiet h)
          ∙ (set_else s.views id i (joined v w) (not_idle right n s kept id i k v at idle h) ∙ h.1),
      h.2,
    )

    pub join_kept : Kept right n record { words = s.words; homes = s.homes; views = merged }
    join_kept = record {
      two = kept.two;
      reached =
          subst (λ (m : ℕ). Reached n m (state n (min (drawn s) n) (holders nothing_laid merged) (map at_home s.homes)))
          (sym (length-set (set s.views id (joined v w)) other spent ∙ length-set s.views id (joined v w)))
          (subst (λ (h : List (Option (Held P))). Reached n (length s.views) (state n (min (drawn s) n) h (map at_home s.homes))) (sym same) kept.reached);
      counted =
          let a = total-set (λ u. held u.ticket) (set s.views id (joined v w)) other w spent there_too in
          let b = total-set (λ u. held u.ticket) s.views id v (joined v w) at in
          let c : held w.ticket ≡ 0 = ap held quiet in
          let d = kept.counted in omega arith;
      out = λ i k h. kept.out i k (held_before i k h);
      home = λ k less. ⊎_elim (λ t. inl (t.0, held_later t.0 k t.1)) (λ t. inr t) (kept.home k less);
      right_home = kept.right_home;
      rooms =
          let a = total-set (λ u. u.room) (set s.views id (joined v w)) other w spent there_too in
          let b = total-set (λ u. u.room) s.views id v (joined v w) at in
          let c = kept.rooms in omega arith;
      able =
          let a = total-set left_room (set s.views id (joined v w)) other w spent there_too in
          let b = total-set left_room s.views id v (joined v w) at in
          let c = sums v.told w.told v.room w.room in
          let d = kept.able in omega arith;
      fits = λ i u e.
          let f = kept.fits id v at in let g = kept.fits other w other_at in
          ⊎_elim
          (λ t. ⊎_elim
          (λ r. subst (λ (x : View). Fits n (drawn s) x) r (record { spent_idle = λ h. refl; told_late = λ h. absurd cc; told_idle = λ h. refl; seen_drawn = omega arith }))
          (λ r. subst (λ (x : View). Fits n (drawn s) x) r.1 (record {
            spent_idle = λ h. idle;
            told_late = either_told v.told w.told n (drawn s) f.told_late g.told_late;
            told_idle = λ h. idle;
            seen_drawn = let a = f.seen_drawn in let b = g.seen_drawn in omega arith;
          }))
          t)
          (λ t. kept.fits i u t)
          (seen_in i u e);
    }

pub splits : {P : Type 0} (right : ℕ → P → Type 0) (n id : ℕ) (v : View) → v.ticket ≡ None → 2 ≤ v.room → Splits {S = Option P} (Kept right n) id v (rest_of v) (half_of v)
splits right n id v idle room s kept at = split_kept right n id v idle room s kept at

pub joins : {P : Type 0} (right : ℕ → P → Type 0) (n id : ℕ) (v : View) (other : ℕ) (w : View) → v.ticket ≡ None → w.ticket ≡ None
    → Joins {S = Option P} (Kept right n) id v other w (joined v w) spent
joins right n id v other w idle quiet s kept at apart there_too = join_kept right n id v idle other w quiet s kept at apart there_too
