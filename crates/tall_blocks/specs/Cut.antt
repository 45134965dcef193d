-- Which values a pass over a datastore computes block by block: `cut` tells their places in the list of vertices. All other
-- values are known as a whole before the pass, and are the same over each block.
use Rattle.std.specs.Prelude.{◌≡◌, ℕ, ◌⊎◌, Bool, true, false, Some, List, [], ◌∷◌, length, slice_get}
use Rattle.tall_value.specs.Cells.{Seen}
use Rattle.tall_semantics.specs.Operations.{unary, binary, filter, scan, Made, stored, operation}
use Rattle.tall_semantics.specs.Outcomes.{Outcome, rows, scalar}
use Rattle.tall_semantics.specs.Spaces.{is_single, store_of}
use Rattle.tall_semantics.specs.Talls.{Tall}
use Rattle.tall_semantics.specs.Deferred.{Vertex, IsAmong}
use Rattle.tall_blocks.specs.Carries.{Rows}

abbrev pub IsScalar : Outcome → Type 0
IsScalar x = (c : Seen) × (x ≡ scalar c)

abbrev pub IsKnownScalar : (ℕ → Tall) → (ℕ → Bool) → ℕ → Type 0
IsKnownScalar f cut a = (cut a ≡ false) × IsScalar (f a).outcome

-- variables; operators over values that are cut, or over one of these and a known scalar; filters by a cut mask; scans
abbrev pub CanBeCut : (ℕ → Tall) → (ℕ → Bool) → Made → List ℕ → Type 0
CanBeCut f cut (stored s v c) args = args ≡ []
CanBeCut f cut (operation (unary op)) (a ∷ []) = cut a ≡ true
CanBeCut f cut (operation (binary op)) (a ∷ b ∷ []) = ((cut a ≡ true) × (cut b ≡ true)) ⊎ (((cut a ≡ true) × IsKnownScalar f cut b) ⊎ (IsKnownScalar f cut a × (cut b ≡ true)))
CanBeCut f cut (operation filter) (a ∷ m ∷ []) = (cut a ≡ true) × (cut m ≡ true)
CanBeCut f cut (operation (scan s)) (a ∷ []) = cut a ≡ true
CanBeCut f cut made args = ⊥

abbrev pub AreCut : (ℕ → Tall) → (ℕ → Bool) → List Vertex → Type 0
AreCut f cut vs = (i : ℕ) (v : Vertex) → slice_get vs i ≡ Some v → cut i ≡ true → CanBeCut f cut v.made v.args

-- two operands that are cut have equally many rows
abbrev pub AreAligned : List Vertex → (ℕ → Bool) → (ℕ → Outcome) → Type 0
AreAligned vs cut h = (i a b : ℕ) (v : Vertex) (rs ss : Rows) → slice_get vs i ≡ Some v → v.args ≡ a ∷ b ∷ [] → cut i ≡ true → cut a ≡ true → cut b ≡ true → h a ≡ rows rs → h b ≡ rows ss → length rs ≡ length ss

-- the values with P are cut, and each operand of theirs that is cut has P too
pub record IsCutWork (vs : List Vertex) (cut : ℕ → Bool) (P : ℕ → Type 0) : Type 0 where
  pub there : (i : ℕ) → P i → (cut i ≡ true) × ((v : Vertex) × (slice_get vs i ≡ Some v))
  pub closed : (i a : ℕ) (v : Vertex) → P i → slice_get vs i ≡ Some v → IsAmong v.args a → cut a ≡ true → P a

-- ---- by the space

-- what is cut has rows of the datastore, and so is each operand of it that has them
pub record IsOfRows (store : ℕ) (vs : List Vertex) (f : ℕ → Tall) (cut : ℕ → Bool) : Type 0 where
  pub rows_here : (i : ℕ) (v : Vertex) → slice_get vs i ≡ Some v → cut i ≡ true → store_of (f i).shape.space ≡ Some store
  pub operands_cut : (i a : ℕ) (v : Vertex) → slice_get vs i ≡ Some v → cut i ≡ true → IsAmong v.args a → store_of (f a).shape.space ≡ Some store → cut a ≡ true

-- what is cut has rows of the datastore; each operand that has them is cut too, and a scalar among the operands is known
-- and has no fault
pub record AreOfStore (store : ℕ) (vs : List Vertex) (f : ℕ → Tall) (cut : ℕ → Bool) : Type 0 where
  pub rows_here : (i : ℕ) (v : Vertex) → slice_get vs i ≡ Some v → cut i ≡ true → store_of (f i).shape.space ≡ Some store
  pub operands_cut : (i a : ℕ) (v : Vertex) → slice_get vs i ≡ Some v → cut i ≡ true → IsAmong v.args a → store_of (f a).shape.space ≡ Some store → cut a ≡ true
  pub scalars_known : (i a : ℕ) (v : Vertex) → slice_get vs i ≡ Some v → cut i ≡ true → IsAmong v.args a → is_single (f a).shape.space ≡ true → IsKnownScalar f cut a
