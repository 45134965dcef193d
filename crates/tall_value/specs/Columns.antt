-- Columns: lists of cells, and lists of rows, which are cells with their row numbers.
use Rattle.std.specs.Prelude.{◌≡◌, ℕ, ◌+◌, List, [], ◌∷◌, map}
use Rattle.tall_value.specs.declared.class.Kind.{Kind}
use Rattle.tall_value.specs.Cells.{Seen, seen_kind}

-- the cells as rows, numbered from n
abbrev pub numbered : ℕ → List Seen → List (ℕ × Seen)
numbered n [] = []
numbered n (c ∷ cs) = (n, c) ∷ numbered (n + 1) cs

abbrev pub cells : List (ℕ × Seen) → List Seen
cells rows = map (λ (r : ℕ × Seen). r.1) rows

-- a cell of a kind, also with its row
abbrev pub HasKind : Kind → Seen → Type 0
HasKind k c = seen_kind c ≡ k

abbrev pub RowHasKind : Kind → (ℕ × Seen) → Type 0
RowHasKind k r = seen_kind r.1 ≡ k
