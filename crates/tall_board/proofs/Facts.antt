-- What the rule says of a table, and steps of the machine at a known holder.
use Rattle.std.proofs.Common.{◌≡◌, ◌≢◌, ℕ, ◌+◌, ◌%◌, ◌^◌, ◌<◌, ◌≤◌, min, List, [], ◌∷◌, length, sym, refl, ap, ◌∙◌, arith}
use Rattle.std.proofs.lemmas.Bool.Decides.{nat_tests}
use Rattle.std.proofs.lemmas.List.{get_or-set_same, get_or-set_other}
use Rattle.std.proofs.Math.Nat.{mod-eq_of_lt}
use Rattle.std.specs.Prelude.{Bool, true, false, Option, Some, None, ◌&&◌, if◌then◌else◌, nat_eq, nat_lt, slice_get, slice_set, slice_index, option_map}
use mathlib.Core.Option.{some}
use lib.ListN.{get_elem?}
use Rattle.atomic_table.specs.Table.{State}
use Rattle.tall_core.specs.declared.event.Held.{Held}
use Rattle.tall_core.specs.declared.event.Event.TheVariants.{Claim, ClaimPast, Lay, Publish}
use Rattle.tall_core.specs.Machine.{state, holding, is_idle, vacant_place, laid_piece, claimed, laid, after, HoldsPlace, EachOnce}
use Rattle.tall_core.specs.Machine as machine
use Rattle.tall_core.proofs.Reaches.{reached_once}
use Rattle.tall_board.specs.declared.view.View.{View}
use Rattle.tall_board.specs.Rule.{drawn, total, left_room, Holds, Fits, held_with, nothing_laid, shown, Kept}
use Rattle.tall_board.proofs.Views.{holder_at, view_at, one_value}

is_less : (a b : ℕ) → a < b → nat_lt a b ≡ true
is_less a b h = grind (arith, nat_tests)

is_equal : (a b : ℕ) → a ≡ b → nat_eq a b ≡ true
is_equal a b h = grind (arith, nat_tests)

-- the word that one is added to
pub word_added : (words : List ℕ) (i : ℕ) → i < length words → slice_index words i + 1 < 2 ^ 64 → slice_index (slice_set words i ((slice_index words i + 1) % 2 ^ 64)) i ≡ slice_index words i + 1
word_added words i h small = get_or-set_same words i ((slice_index words i + 1) % 2 ^ 64) 0 h ∙ mod-eq_of_lt small

pub word_kept : (words : List ℕ) (i j x : ℕ) → j ≢ i → slice_index (slice_set words i x) j ≡ slice_index words j
word_kept words i j x n = get_or-set_other words i j x 0 n

pub none_some : {A : Type 0} (o : Option A) (a : A) → o ≡ None → o ≡ Some a → ⊥
none_some None a e f = cc
none_some (Some x) a e f = cc

pub value_is : {A : Type 0} (a b : A) → ◌≡◌ {A = Option A} (Some a) (Some b) → a ≡ b
value_is a b e = cc

pub not_both : (b : Bool) → b ≡ true → b ≡ false → ⊥
not_both true e f = cc
not_both false e f = cc

pub left_is : (v : View) → v.told ≡ false → left_room v ≡ v.room
left_is v e = ap (λ (b : Bool). if b then 0 else v.room) e

left_below : (b : Bool) (r : ℕ) → (if b then 0 else r) ≤ r
left_below true r = omega arith
left_below false r = omega arith

pub left_le : (vs : List View) → total left_room vs ≤ total (λ v. v.room) vs
left_le [] = omega arith
left_le (v ∷ vs) = let a = left_below v.told v.room in let b = left_le vs in omega arith

module _ {P : Type 0} where
  pub same_state : (n a b : ℕ) (h i : List (Option (Held P))) (p q : List (Option P)) → a ≡ b → h ≡ i → p ≡ q → state n a h p ≡ state n b i q
  same_state n a b h i p q e f g =
      ap (λ (x : ℕ). state n x h p) e ∙ ap (λ (x : List (Option (Held P))). state n b x p) f ∙ ap (λ (x : List (Option P)). state n b i x) g

  pub claims : (m : machine.State P) (w : ℕ) → slice_get m.held w ≡ Some None → m.next < m.places → after m (Claim w) ≡ Some (claimed m w)
  claims m w e less =
      ap (λ (o : Option (Option (Held P))). if is_idle o && nat_lt m.next m.places then Some (claimed m w) else None) e
      ∙ ap (λ (b : Bool). if b then Some (claimed m w) else None) (is_less m.next m.places less)

  pub claims_past : (m : machine.State P) (w : ℕ) → slice_get m.held w ≡ Some None → m.next ≡ m.places → after m (ClaimPast w) ≡ Some m
  claims_past m w e all =
      ap (λ (o : Option (Option (Held P))). if is_idle o && nat_eq m.next m.places then Some m else None) e
      ∙ ap (λ (b : Bool). if b then Some m else None) (is_equal m.next m.places all)

  pub lays : (m : machine.State P) (w place : ℕ) (piece : P) → slice_get m.held w ≡ Some (Some (holding place None)) → after m (Lay w piece) ≡ Some (laid m w piece place)
  lays m w place piece e = ap (λ (o : Option (Option (Held P))). option_map (laid m w piece) (vacant_place o)) e

  pub publishes : (m : machine.State P) (w place : ℕ) (piece : P) → slice_get m.held w ≡ Some (Some (holding place (Some piece))) → after m (Publish w) ≡ Some (machine.published m w (place, piece))
  publishes m w place piece e = ap (λ (o : Option (Option (Held P))). option_map (machine.published m w) (laid_piece o)) e

  module _ (right : ℕ → P → Type 0) (n : ℕ) (s : State (Option P) View) (kept : Kept right n s) where
    pub once : EachOnce (shown n nothing_laid s)
    once = reached_once n (length s.views) (shown n nothing_laid s) kept.reached

    pub held_by : (i place : ℕ) → Holds s.views i place → HoldsPlace (shown n nothing_laid s) i place
    held_by i place h =
        (holding place None, holder_at nothing_laid s.views i h.0 h.1 ∙ ap (λ (t : Option ℕ). Some (held_with {P = P} t None)) h.2, refl)

    ticket_is : (t : Option ℕ) (h : Held P) → ◌≡◌ {A = Option (Held P)} (held_with t None) (Some h) → t ≡ Some h.place
    ticket_is None h e = absurd cc
    ticket_is (Some place) h e = let same : holding place None ≡ h = value_is (holding place None) h e in ap (λ (x : Held P). Some x.place) same

    pub held_of : (i place : ℕ) → HoldsPlace (shown n nothing_laid s) i place → Holds s.views i place
    held_of i place h =
        let v = view_at nothing_laid s.views i (Some h.0) h.1 in
        (v.0, v.1, ticket_is v.0.ticket h.0 v.2 ∙ ap (λ (x : ℕ). Some x) h.2)

    pub below : (i place : ℕ) → Holds s.views i place → place < min (drawn s) n
    below i place h = once.below i place (held_by i place h)

    pub apart : (i j place : ℕ) → Holds s.views i place → Holds s.views j place → i ≡ j
    apart i j place h k = once.apart i j place (held_by i place h) (held_by j place k)

    -- a seat without a ticket holds nothing
    pub not_idle : (i j place : ℕ) (v : View) → get_elem? s.views i ≡ some v → v.ticket ≡ None → Holds s.views j place → j ≢ i
    not_idle i j place v at idle h e =
        let same : h.0 ≡ v = one_value s.views i h.0 v (ap (λ (x : ℕ). get_elem? s.views x) (sym e) ∙ h.1) at in
        none_some v.ticket place idle (sym (ap (λ (x : View). x.ticket) same) ∙ h.2)

    pub fits_later : (t u : ℕ) (v : View) → Fits n t v → t ≤ u → Fits n u v
    fits_later t u v f h = record {
      spent_idle = f.spent_idle;
      told_late = λ e. let a = f.told_late e in omega arith;
      told_idle = f.told_idle;
      seen_drawn = let a = f.seen_drawn in omega arith;
    }
