-- How the code's parts tell what is known: what was put since the last join stands in the last part.
use Rattle.std.specs.Prelude.{ℕ, ◌==◌, nat_eq, if◌then◌else◌, Option, None, Some, List, [], ◌∷◌, option_map, slice_get}
use Rattle.std.specs.HashMap.{get}
use Rattle.tall_value.specs.Cells.{Seen}
use Rattle.tall_value.specs.OwnedCells.{owned_seen}
use Rattle.tall_fuse.specs.Results.{Found, or_else}
use Rattle.tall_fuse.specs.declared.parts.Kept.{Kept}
use Rattle.tall_fuse.specs.declared.parts.Carries.{Carries}
use Rattle.tall_fuse.specs.declared.parts.Part.{Part}
use Rattle.tall_fuse.specs.declared.known.Known.{Known}

abbrev pub found_of : Kept → Found
found_of r = record { column = r.column; rows = r.rows.items }

abbrev pub found_here : Part → ℕ → Option Found
found_here p node = option_map found_of (get nat_eq p.results node)

-- a cell that was put out of turn, else the one at its place
abbrev pub cell_of : Carries → ℕ → Option Seen
cell_of cs block = or_else (option_map owned_seen (get nat_eq cs.others block)) (slice_get cs.cells.cells block)

abbrev pub cell_in : Option Carries → ℕ → Option Seen
cell_in None block = None
cell_in (Some cs) block = cell_of cs block

abbrev pub carry_here : Part → (node block : ℕ) → Option Seen
carry_here p node block = cell_in (get nat_eq p.carries node) block

-- what the last part that has something has
abbrev pub last_in : {X : Type 0} → (Part → Option X) → List Part → Option X
last_in f [] = None
last_in f (p ∷ ps) = or_else (last_in f ps) (f p)

-- the result that is known of a node
abbrev pub found : Known → (node : ℕ) → Option Found
found k node = or_else (found_here k.current node) (last_in (λ p. found_here p node) k.earlier.items)

-- what is known that a block of a scan goes on from
abbrev pub carry : Known → (node block : ℕ) → Option Seen
carry k node block = or_else (carry_here k.current node block) (last_in (λ p. carry_here p node block) k.earlier.items)

-- ---- what is put

abbrev pub put_at : (ℕ → Option Seen) → (block : ℕ) → Seen → ℕ → Option Seen
put_at f block c b = if b == block then Some c else f b
