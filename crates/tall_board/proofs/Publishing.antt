-- A publication keeps the rule.
use Rattle.std.proofs.Common.{◌≡◌, ◌≢◌, ℕ, zero, suc, ◌+◌, ◌%◌, ◌^◌, ◌<◌, min, List, [], ◌∷◌, map, length, set, sym, refl, ap, ◌∙◌, subst, inl, inr, ⊎_elim, arith}
use Rattle.std.proofs.lemmas.List.{length-set}
use Rattle.std.specs.Prelude.{Option, Some, None, slice_get, slice_set, slice_index}
use mathlib.Core.Option.{none, some, some-injective}
use lib.ListN.{get_elem?}
use native.Mathlib.Decide.{ℕ_discrete}
use Rattle.atomic_table.specs.Table.{State, gives, Allows, step, stepped}
use Rattle.atomic_table.proofs.Lists.{at_set, set_here, set_else}
use Rattle.tall_core.specs.declared.event.Held.{Held}
use Rattle.tall_core.specs.declared.event.Event.TheVariants.{Lay, Publish}
use Rattle.tall_core.specs.Machine.{state, holding, laid, after, Reached, does}
use Rattle.tall_core.specs.Machine as machine
use Rattle.tall_core.proofs.Lists.{get_set_here}
use Rattle.tall_board.specs.declared.view.View.{View}
use Rattle.tall_board.specs.Rule.{drawn, published, idle, held, left_room, Holds, Fits, held_with, holders, at_home, nothing_laid, laid_by, shown, Kept, Published}
use Rattle.tall_board.proofs.Views.{total-set, one_value, holder_at, holders_set, holders_laid, homes_set}
use Rattle.tall_board.proofs.Facts.{word_added, word_kept, none_some, value_is, same_state, lays, publishes, below, apart, fits_later}
use Rattle.std.proofs.lemmas.Option.{slice_get_within}

set_again : {A : Type 0} (l : List A) (i : ℕ) (a b : A) → set (set l i a) i b ≡ set l i b
set_again [] i a b = refl
set_again (x ∷ l) zero a b = refl
set_again (x ∷ l) (suc i) a b = ap (λ (m : List _). x ∷ m) (set_again l i a b)

module _ {P : Type 0} (n id place : ℕ) (v : View) (ticket : v.ticket ≡ Some place) (piece : P) (s : State (Option P) View) (at : get_elem? s.views id ≡ some v) where
  holder_is : slice_get (holders {P = P} nothing_laid s.views) id ≡ Some (Some (holding place None))
  holder_is = holder_at {P = P} nothing_laid s.views id v at ∙ ap (λ (t : Option ℕ). Some (held_with {P = P} t None)) ticket

  -- the piece is laid: only the seat sees it
  lay_shown : laid (shown n nothing_laid s) id piece place ≡ shown n (laid_by id piece) s
  lay_shown = ap (λ (h : List (Option (Held P))). state n (min (drawn s) n) h (map at_home s.homes)) (sym (holders_laid s.views id place piece v at ticket))

  pub lay_is : after (shown n nothing_laid s) (Lay id piece) ≡ Some (shown n (laid_by id piece) s)
  lay_is = lays (shown n nothing_laid s) id place piece holder_is ∙ ap (λ x. Some x) lay_shown

module _ {P : Type 0} (right : ℕ → P → Type 0) (n id place : ℕ) (v : View) (ticket : v.ticket ≡ Some place) (piece : P) (good : right place piece) (few : n < 2 ^ 32) (s : State (Option P) View)
    (kept : Kept right n s) (size : length s.homes ≡ n) (at : get_elem? s.views id ≡ some v) where
  mine : Holds s.views id place
  mine = (v, at, ticket)

  small : slice_index s.words 1 + 1 < 2 ^ 64
  small = let a = kept.counted in omega arith

  abbrev pub after_word : ℕ
  after_word = (slice_index s.words 1 + 1) % 2 ^ 64

  word_is : slice_index (slice_set s.words 1 after_word) 1 ≡ published s + 1
  word_is = word_added s.words 1 (let a = kept.two in omega arith) small

  other_is : slice_index (slice_set s.words 1 after_word) 0 ≡ drawn s
  other_is = word_kept s.words 1 0 after_word (λ e. omega arith)

  abbrev pub new : State (Option P) View
  new = stepped s 1 after_word id ((place, Some piece) ∷ []) (idle v) gives

  within : id < length (holders {P = P} nothing_laid s.views)
  within = slice_get_within (holders {P = P} nothing_laid s.views) id (Some (holding place None)) (holder_is n id place v ticket piece s at)

  publish_shown : machine.published (laid (shown n nothing_laid s) id piece place) id (place, piece) ≡ shown n nothing_laid new
  publish_shown =
      let word = other_is in
      let next : min (drawn s) n ≡ min (slice_index (slice_set s.words 1 after_word) 0) n = omega arith in
      same_state n (min (drawn s) n) (min (slice_index (slice_set s.words 1 after_word) 0) n)
      (set (set (holders nothing_laid s.views) id (Some (holding place (Some piece)))) id None) (holders nothing_laid (set s.views id (idle v)))
      (set (map at_home s.homes) place (Some piece)) (map at_home (set s.homes place (some (Some piece))))
      next
      (set_again (holders nothing_laid s.views) id (Some (holding place (Some piece))) None ∙ sym (holders_set nothing_laid s.views id (idle v)))
      (sym (homes_set s.homes place (some (Some piece))))

  publish_after : after (laid (shown n nothing_laid s) id piece place) (Publish id) ≡ Some (shown n nothing_laid new)
  publish_after =
      publishes (laid (shown n nothing_laid s) id piece place) id place piece (get_set_here (holders nothing_laid s.views) id (Some (holding place (Some piece))) within)
      ∙ ap (λ x. Some x) publish_shown

  pub publish_is : after (shown n (laid_by id piece) s) (Publish id) ≡ Some (shown n nothing_laid new)
  publish_is = ap (λ (m : machine.State P). after m (Publish id)) (sym (lay_shown n id place v ticket piece s at)) ∙ publish_after

  reached_new : Reached n (length s.views) (shown n nothing_laid new)
  reached_new =
      does (shown n (laid_by id piece) s) (shown n nothing_laid new) (Publish id)
      (does (shown n nothing_laid s) (shown n (laid_by id piece) s) (Lay id piece) kept.reached (lay_is n id place v ticket piece s at))
      publish_is

  free : get_elem? (set s.homes place (some (Some piece))) place ≡ some (some (Some piece))
  free = set_here s.homes place (some (Some piece)) (let a = below right n s kept id place mine in omega arith)

  -- who holds a place now held it before, and is another
  still : (i k : ℕ) → Holds (set s.views id (idle v)) i k → (i ≢ id) × Holds s.views i k
  still i k h =
      ⊎_elim
      (λ t. absurd (none_some h.0.ticket k (sym (ap (λ (x : View). x.ticket) t.1)) h.2))
      (λ t. (t.0, (h.0, t.1, h.2)))
      (at_set s.views id i (idle v) h.0 h.1)

  pub publish_kept : Kept right n new
  publish_kept = record {
    two = length-set s.words 1 after_word ∙ kept.two;
    reached = subst (λ (m : ℕ). Reached n m (shown n nothing_laid new)) (sym (length-set s.views id (idle v))) reached_new;
    counted =
        let a = total-set (λ u. held u.ticket) s.views id v (idle v) at in
        let b : held v.ticket ≡ 1 = ap held ticket in
        let c = kept.counted in let d = word_is in let e = other_is in omega arith;
    out = λ i k h.
        let t = still i k h in
        set_else s.homes place k (some (Some piece)) (λ e. t.0 (apart right n s kept i id place (t.1.0, t.1.1, t.1.2 ∙ ap (λ (x : ℕ). Some x) e) mine)) ∙ kept.out i k t.1;
    home = λ k less.
        elim (ℕ_discrete k place) [
          | yes e ↦ inr (Some piece, ap (λ (x : ℕ). get_elem? (set s.homes place (some (Some piece))) x) e ∙ free)
          | no ne ↦
              ⊎_elim
              (λ t. inl (
                t.0,
                (
                  t.1.0,
                  set_else s.views id t.0 (idle v)
                      (λ e. ne (value_is k place (sym t.1.2 ∙ (ap (λ (x : View). x.ticket) (one_value s.views id t.1.0 v (ap (λ (x : ℕ). get_elem? s.views x) (sym e) ∙ t.1.1) at) ∙ ticket))))
                      ∙ t.1.1,
                  t.1.2,
                ),
              ))
              (λ t. inr (t.0, set_else s.homes place k (some (Some piece)) ne ∙ t.1))
              (kept.home k less)
        ];
    right_home = λ k q e.
        ⊎_elim
        (λ t.
        let same : piece ≡ q = value_is piece q (some-injective (Some piece) (Some q) t.1) in
        subst (λ (x : ℕ). right x q) (sym t.0) (subst (λ (x : P). right place x) same good))
        (λ t. kept.right_home k q t.1)
        (at_set s.homes place k (some (Some piece)) (some (Some q)) e);
    rooms = let a = total-set (λ u. u.room) s.views id v (idle v) at in let b = kept.rooms in omega arith;
    able =
        let a = total-set left_room s.views id v (idle v) at in
        let b : left_room (idle v) ≡ left_room v = refl in
        let c = kept.able in let d = other_is in omega arith;
    fits = λ i u e.
        ⊎_elim
        (λ t. subst (λ (x : View). Fits n (slice_index (slice_set s.words 1 after_word) 0) x) t.1 (record {
          spent_idle = λ h. refl;
          told_late = λ h. let a = (kept.fits id v at).told_late h in let b = other_is in omega arith;
          told_idle = λ h. refl;
          seen_drawn = let a = (kept.fits id v at).seen_drawn in let b = other_is in omega arith;
        }))
        (λ t. fits_later right n s kept (drawn s) (slice_index (slice_set s.words 1 after_word) 0) u (kept.fits i u t.1) (let a = other_is in omega arith))
        (at_set s.views id i (idle v) u e);
  }

pub publish_keeps : {P : Type 0} (right : ℕ → P → Type 0) (n id place : ℕ) (v : View) (piece : P) → v.ticket ≡ Some place → right place piece → n < 2 ^ 32
    → Allows (Kept right n) n id (v, (place, Some piece) ∷ []) 1 (λ t. (t + 1) % 2 ^ 64) (Published (step n 1 1 0 none) (v, (place, Some piece) ∷ []))
publish_keeps right n id place v piece ticket good few s kept size at bound =
    (idle v, gives, tt, publish_kept right n id place v ticket piece good few s kept size at, refl)
