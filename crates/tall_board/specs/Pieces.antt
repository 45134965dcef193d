-- Pieces in place order.
use Rattle.std.specs.Prelude.{ℕ, ◌+◌, List, [], ◌∷◌, ⊤}

-- each piece is right for its place, from this place on
abbrev pub InPlace : {P : Type 0} → (ℕ → P → Type 0) → ℕ → List P → Type 0
InPlace right place [] = ⊤
InPlace right place (piece ∷ pieces) = right place piece × InPlace right (place + 1) pieces
