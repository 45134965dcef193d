-- Pieces are taken out of the slots of a closed table, in place order.
use Rattle.std.proofs.Common.{◌≡◌, ℕ, ◌+◌, ◌<◌, ◌≤◌, List, [], ◌∷◌, ◌++◌, length, length-append, sym, ap, ◌∙◌, subst, arith}
use Rattle.std.proofs.lemmas.List.{get_or-set_same, get_or-set_other}
use Rattle.std.specs.Prelude.{Bool, true, false, Option, Some, None, slice_index_or, slice_set}
use mathlib.Core.Option.{some, some-injective}
use lib.ListN.{get_elem?}
use native.Mathlib.Decide.{ℕ_discrete}
use Rattle.tall_board.specs.Pieces.{InPlace}
use Rattle.tall_board.proofs.Ends.{in_place_snoc}
use Rattle.tall_board.proofs.Facts.{value_is}

-- the pieces of the places below this one were taken, and the others are there
pub record Taking {P : Type 0} (right : ℕ → P → Type 0) (places place : ℕ) (first now : List (Option P)) (filled : List Bool) (pieces : List P) : Type 0 where
  pub same : now ≡ first
  pub count : length pieces ≡ place
  pub in_place : InPlace right 0 pieces
  pub taken : (k : ℕ) → k < place → slice_index_or filled k false ≡ false
  pub there : (k : ℕ) → place ≤ k → k < places → slice_index_or filled k false ≡ true

abbrev pub Whole : {P : Type 0} → (ℕ → P → Type 0) → ℕ → List (Option P) → Type 0
Whole {P} right places slots = (k : ℕ) → k < places → (p : P) × (get_elem? slots k ≡ some (Some p)) × right k p

module _ {P : Type 0} (right : ℕ → P → Type 0) (places place : ℕ) (first now : List (Option P)) (filled : List Bool) (pieces : List P)
    (t : Taking right places place first now filled pieces) (whole : Whole right places first) (less : place < places) where
  -- what is taken is the right piece
  taken_is : (x : Option P) → get_elem? now place ≡ some x → x ≡ Some (whole place less).0
  taken_is x e = some-injective x (Some (whole place less).0) (sym e ∙ (ap (λ (l : List (Option P)). get_elem? l place) t.same ∙ (whole place less).1))

  pub is_there : get_elem? now place ≡ some None → ⊥
  is_there e = let bad : ◌≡◌ {A = Option P} None (Some (whole place less).0) = taken_is None e in absurd cc

  pub is_right : (p : P) → get_elem? now place ≡ some (Some p) → right place p
  is_right p e = subst (λ (q : P). right place q) (sym (value_is p (whole place less).0 (taken_is (Some p) e))) (whole place less).2

  pub one_taken : (p : P) (after : List (Option P)) → after ≡ now → get_elem? now place ≡ some (Some p) → places ≤ length filled
      → Taking right places (place + 1) first after (slice_set filled place false) (pieces ++ p ∷ [])
  one_taken p after is e long = record {
    same = is ∙ t.same;
    count = let a = t.count in omega (arith, length-append pieces (p ∷ []));
    in_place = in_place_snoc right 0 pieces p t.in_place (subst (λ (k : ℕ). right k p) (let a = t.count in omega arith) (is_right p e));
    taken = λ k h.
        elim (ℕ_discrete k place) [
          | yes here ↦ ap (λ (i : ℕ). slice_index_or (slice_set filled place false) i false) here ∙ get_or-set_same filled place false false (omega arith)
          | no n ↦ get_or-set_other filled place k false false n ∙ t.taken k (omega arith)
        ];
    there = λ k h below. get_or-set_other filled place k false false (λ here. omega arith) ∙ t.there k (omega arith) below;
  }
