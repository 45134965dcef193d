-- What is known between the passes of a gather, as plain data: results of nodes, and what the blocks of scans go on from.
use Rattle.std.specs.Prelude.{ℕ, ◌==◌, ◌&&◌, if◌then◌else◌, Option, None, Some, List}
use Rattle.tall_value.specs.Cells.{Seen}
use Rattle.tall_dense.specs.Columns.{SeenColumn}

-- a column, with the row numbers of its cells; there are none for a scalar and for a collected column
pub record Found : Type 0 where
  pub column : SeenColumn
  pub rows : List ℕ

abbrev pub or_else : {X : Type 0} → Option X → Option X → Option X
or_else None other = other
or_else (Some x) other = Some x

-- results by the places of nodes, after one was put
abbrev pub with_found : (ℕ → Option Found) → (node : ℕ) → Found → ℕ → Option Found
with_found found node x j = if j == node then Some x else found j

-- carries by the places of nodes and by blocks, after one was put
abbrev pub with_carry : (ℕ → ℕ → Option Seen) → (node block : ℕ) → Seen → ℕ → ℕ → Option Seen
with_carry carry node block c j b = if j == node && b == block then Some c else carry j b
