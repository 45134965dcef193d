-- A claim keeps the rule, below the number of places and past it.
use Rattle.std.proofs.Common.{◌≡◌, ℕ, ◌+◌, ◌%◌, ◌^◌, ◌<◌, ◌≤◌, min, [], map, length, set, sym, refl, ap, ◌∙◌, subst, inl, inr, ⊎_elim, lt_of_not-le, arith}
use Rattle.std.proofs.lemmas.List.{length-set}
use Rattle.std.specs.Prelude.{false, Option, Some, None, slice_get, slice_set, slice_index}
use mathlib.Core.Option.{none, some, some-ne-none}
use lib.ListN.{get_elem?}
use native.Mathlib.Decide.{dec_le, ℕ_discrete}
use Rattle.atomic_table.specs.Table.{State, keeps, takes, Allows, step, stepped}
use Rattle.atomic_table.proofs.Lists.{at_set, set_here, set_else}
use Rattle.tall_core.specs.declared.event.Event.TheVariants.{Claim, ClaimPast}
use Rattle.tall_core.specs.Machine.{holding, claimed, after, Reached, does}
use Rattle.tall_board.specs.declared.view.View.{View}
use Rattle.tall_board.specs.Rule.{drawn, published, with_ticket, told_none, held, left_room, Holds, Fits, held_with, holders, at_home, nothing_laid, shown, Kept, Claimed}
use Rattle.tall_board.proofs.Views.{total-set, there, holder_at, holders_set, holders_same, homes_same, home_at}
use Rattle.tall_board.proofs.Facts.{word_added, word_kept, none_some, value_is, not_both, left_is, left_le, same_state, claims, claims_past, once, below, not_idle, fits_later}

nothing_there : {A : Type 0} (a : A) → ◌≡◌ {A = mathlib.Core.Option.Option A} none (some a) → ⊥
nothing_there a e = some-ne-none a (sym e)

module _ {P : Type 0} (right : ℕ → P → Type 0) (n id : ℕ) (v : View) (idle : v.ticket ≡ None) (told : v.told ≡ false) (room : 0 < v.room) (few : n < 2 ^ 32) (s : State (Option P) View)
    (kept : Kept right n s) (size : length s.homes ≡ n) (at : get_elem? s.views id ≡ some v) where
  -- the ticket word does not wrap
  small : slice_index s.words 0 + 1 < 2 ^ 64
  small = let a = kept.able in omega arith

  abbrev pub after_word : ℕ
  after_word = (slice_index s.words 0 + 1) % 2 ^ 64

  word_is : slice_index (slice_set s.words 0 after_word) 0 ≡ drawn s + 1
  word_is = word_added s.words 0 (let a = kept.two in omega arith) small

  other_is : slice_index (slice_set s.words 0 after_word) 1 ≡ published s
  other_is = word_kept s.words 0 1 after_word (λ e. omega arith)

  holder_is : slice_get (holders {P = P} nothing_laid s.views) id ≡ Some None
  holder_is = holder_at {P = P} nothing_laid s.views id v at ∙ ap (λ (t : Option ℕ). Some (held_with {P = P} t None)) idle

  module _ (more : drawn s < n) where
    abbrev pub w : View
    w = with_ticket v (drawn s)

    -- the slot of the place is at home, and empty
    value_none : (x : Option P) → get_elem? s.homes (drawn s) ≡ some (some x) → x ≡ None
    value_none x e =
        value_is x None (sym (home_at s.homes (drawn s) (some x) e) ∙ (once right n s kept).fresh (drawn s) (omega arith) more)

    home_is : get_elem? s.homes (drawn s) ≡ some (some None)
    home_is =
        ⊎_elim
        (λ t. let a = below right n s kept t.0 (drawn s) t.1 in absurd (omega arith))
        (λ t. t.1 ∙ ap (λ (x : Option P). some (some x)) (value_none t.0 t.1))
        (kept.home (drawn s) more)

    abbrev pub new : State (Option P) View
    new = stepped s 0 after_word id [] w (takes (drawn s) None)

    shown_is : claimed (shown n nothing_laid s) id ≡ shown n nothing_laid new
    shown_is =
        let low : min (drawn s) n ≡ drawn s = omega arith in
        let word = word_is in
        let next : min (drawn s) n + 1 ≡ min (slice_index (slice_set s.words 0 after_word) 0) n = omega arith in
        same_state n (min (drawn s) n + 1) (min (slice_index (slice_set s.words 0 after_word) 0) n)
        (set (holders nothing_laid s.views) id (Some (holding (min (drawn s) n) None)))
        (holders nothing_laid (set s.views id (with_ticket v (drawn s))))
        (map at_home s.homes) (map at_home (set s.homes (drawn s) none))
        next
        (ap (λ (k : ℕ). set (holders nothing_laid s.views) id (Some (holding k None))) low ∙ sym (holders_set nothing_laid s.views id (with_ticket v (drawn s))))
        (sym (homes_same s.homes (drawn s) none (some None) home_is refl))

    pub event_is : after (shown n nothing_laid s) (Claim id) ≡ Some (shown n nothing_laid new)
    event_is = claims (shown n nothing_laid s) id holder_is (omega arith) ∙ ap (λ x. Some x) shown_is

    mine : (u : View) (place : ℕ) → w ≡ u → u.ticket ≡ Some place → place ≡ drawn s
    mine u place e f = sym (value_is (drawn s) place (ap (λ (x : View). x.ticket) e ∙ f))

    fits_now : Fits n (slice_index (slice_set s.words 0 after_word) 0) w
    fits_now = record {
      spent_idle = λ e. absurd (omega arith);
      told_late = λ e. absurd (not_both v.told e told);
      told_idle = λ e. absurd (not_both v.told e told);
      seen_drawn = let a = word_is in omega arith;
    }

    pub claim_kept : Kept right n new
    claim_kept = record {
      two = length-set s.words 0 after_word ∙ kept.two;
      reached = subst (λ (m : ℕ). Reached n m (shown n nothing_laid new)) (sym (length-set s.views id w))
          (does (shown n nothing_laid s) (shown n nothing_laid new) (Claim id) kept.reached event_is);
      counted =
          let a = total-set (λ u. held u.ticket) s.views id v w at in
          let b : held v.ticket ≡ 0 = ap held idle in
          let c = kept.counted in let d = word_is in let e = other_is in omega arith;
      out = λ i place h.
          ⊎_elim
          (λ t. let here : place ≡ drawn s = mine h.0 place t.1 h.2 in
          ap (λ (k : ℕ). get_elem? (set s.homes (drawn s) none) k) here ∙ set_here s.homes (drawn s) none (omega arith))
          (λ t. let a = below right n s kept i place (h.0, t.1, h.2) in
          set_else s.homes (drawn s) place none (λ e. omega arith) ∙ kept.out i place (h.0, t.1, h.2))
          (at_set s.views id i w h.0 h.1);
      home = λ place less.
          elim (ℕ_discrete place (drawn s)) [
            | yes e ↦ inl (id, (w, set_here s.views id w (there s.views id v at), ap (λ (k : ℕ). Some k) (sym e)))
            | no ne ↦
                ⊎_elim
                (λ t. inl (t.0, (t.1.0, set_else s.views id t.0 w (not_idle right n s kept id t.0 place v at idle t.1) ∙ t.1.1, t.1.2)))
                (λ t. inr (t.0, set_else s.homes (drawn s) place none ne ∙ t.1))
                (kept.home place less)
          ];
      right_home = λ place piece e.
          ⊎_elim
          (λ t. absurd (nothing_there (Some piece) t.1))
          (λ t. kept.right_home place piece t.1)
          (at_set s.homes (drawn s) place none (some (Some piece)) e);
      rooms = let a = total-set (λ u. u.room) s.views id v w at in let b = kept.rooms in omega arith;
      able =
          let a = total-set left_room s.views id v w at in
          let b : left_room w ≡ left_room v = refl in
          let c = left_le s.views in let d = kept.rooms in let e = word_is in omega arith;
      fits = λ i u e.
          ⊎_elim
          (λ t. subst (λ (x : View). Fits n (slice_index (slice_set s.words 0 after_word) 0) x) t.1 fits_now)
          (λ t. fits_later right n s kept (drawn s) (slice_index (slice_set s.words 0 after_word) 0) u (kept.fits i u t.1) (let a = word_is in omega arith))
          (at_set s.views id i w u e);
    }

  module _ (past : n ≤ drawn s) where
    abbrev pub told_view : View
    told_view = told_none v

    abbrev pub later : State (Option P) View
    later = stepped s 0 after_word id [] told_view keeps

    shown_past : shown n nothing_laid s ≡ shown n nothing_laid later
    shown_past =
        let word = word_is in
        let next : min (drawn s) n ≡ min (slice_index (slice_set s.words 0 after_word) 0) n = omega arith in
        same_state n (min (drawn s) n) (min (slice_index (slice_set s.words 0 after_word) 0) n)
        (holders nothing_laid s.views) (holders nothing_laid (set s.views id (told_none v))) (map at_home s.homes) (map at_home s.homes)
        next (sym (holders_same nothing_laid s.views id v (told_none v) at refl)) refl

    pub past_event_is : after (shown n nothing_laid s) (ClaimPast id) ≡ Some (shown n nothing_laid later)
    past_event_is = claims_past (shown n nothing_laid s) id holder_is (omega arith) ∙ ap (λ x. Some x) shown_past

    same_holder : (i place : ℕ) → Holds (set s.views id told_view) i place → Holds s.views i place
    same_holder i place h =
        ⊎_elim
        (λ t. absurd (none_some v.ticket place idle (ap (λ (x : View). x.ticket) t.1 ∙ h.2)))
        (λ t. (h.0, t.1, h.2))
        (at_set s.views id i (told_none v) h.0 h.1)

    pub past_kept : Kept right n later
    past_kept = record {
      two = length-set s.words 0 after_word ∙ kept.two;
      reached = subst (λ (m : ℕ). Reached n m (shown n nothing_laid later)) (sym (length-set s.views id told_view))
          (does (shown n nothing_laid s) (shown n nothing_laid later) (ClaimPast id) kept.reached past_event_is);
      counted =
          let a = total-set (λ u. held u.ticket) s.views id v told_view at in
          let c = kept.counted in let d = word_is in let e = other_is in omega arith;
      out = λ i place h. kept.out i place (same_holder i place h);
      home = λ place less.
          ⊎_elim
          (λ t. inl (t.0, (t.1.0, set_else s.views id t.0 told_view (not_idle right n s kept id t.0 place v at idle t.1) ∙ t.1.1, t.1.2)))
          (λ t. inr t)
          (kept.home place less);
      right_home = kept.right_home;
      rooms = let a = total-set (λ u. u.room) s.views id v told_view at in let b = kept.rooms in omega arith;
      able =
          let a = total-set left_room s.views id v told_view at in
          let b : left_room v ≡ v.room = left_is v told in
          let c = kept.able in let e = word_is in omega arith;
      fits = λ i u e.
          ⊎_elim
          (λ t. subst (λ (x : View). Fits n (slice_index (slice_set s.words 0 after_word) 0) x) t.1 (record {
            spent_idle = λ h. idle;
            told_late = λ h. let a = word_is in omega arith;
            told_idle = λ h. idle;
            seen_drawn = let a = word_is in let b = (kept.fits id v at).seen_drawn in omega arith;
          }))
          (λ t. fits_later right n s kept (drawn s) (slice_index (slice_set s.words 0 after_word) 0) u (kept.fits i u t.1) (let a = word_is in omega arith))
          (at_set s.views id i told_view u e);
    }

pub claim_keeps : {P : Type 0} (right : ℕ → P → Type 0) (n id : ℕ) (v : View) → v.ticket ≡ None → v.told ≡ false → 0 < v.room → n < 2 ^ 32
    → Allows (Kept right n) n id (v, []) 0 (λ t. (t + 1) % 2 ^ 64) (Claimed (step n 0 1 0 none) (v, []))
claim_keeps right n id v idle told room few s kept size at bound =
    elim (dec_le n (drawn s)) [
      | yes past ↦
          (told_none v, keeps, tt, past_kept right n id v idle told room few s kept size at past, ((λ less. absurd (omega arith)), (λ _. refl)))
      | no more ↦
          let less : drawn s < n = lt_of_not-le more in (
            with_ticket v (drawn s),
            takes (drawn s) None,
            home_is right n id v idle told room few s kept size at less,
            claim_kept right n id v idle told room few s kept size at less,
            ((λ _. (refl, (let a = (kept.fits id v at).seen_drawn in omega arith))), (λ late. absurd (omega arith))),
          )
    ]
