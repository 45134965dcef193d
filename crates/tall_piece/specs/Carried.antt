-- The carries of a scan's blocks as a pass finds them, in order, up to the first that is missing.
use Rattle.std.specs.Prelude.{◌≡◌, ◌<◌, ◌≤◌, ℕ, Option, None, Some, List, [], ◌∷◌, ◌++◌, length, slice_get}
use Rattle.tall_value.specs.Cells.{Seen}

-- these are the carries of the first n blocks, of which `given` tells each
abbrev pub AreCarries : (given : ℕ → Option Seen) → (n : ℕ) → List Seen → Type 0
AreCarries given n cells = (length cells ≤ n) × ((m : ℕ) → m < n → slice_get cells m ≡ given m)

-- and those of all blocks
abbrev pub AreAllCarries : (given : ℕ → Option Seen) → List Seen → Type 0
AreAllCarries given cells = (m : ℕ) → slice_get cells m ≡ given m

-- with a further carry, where it is there
abbrev pub with_fold : List Seen → Option Seen → List Seen
with_fold cells None = cells
with_fold cells (Some c) = cells ++ c ∷ []
