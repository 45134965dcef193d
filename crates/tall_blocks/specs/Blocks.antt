-- Blocks: the rows of the stored columns, in as many pieces as one likes. Nothing is said of how long a block is.
use Rattle.std.specs.Prelude.{◌≡◌, ℕ, ◌<◌, ◌≤◌, Bool, true, Some, List, [], ◌∷◌, ◌++◌, slice_get}
use Rattle.tall_semantics.specs.Operations.{Made, stored, operation}
use Rattle.tall_value.specs.declared.class.Class.{Class}
use Rattle.tall_value.specs.Classes.{kind_of}
use Rattle.tall_semantics.specs.Outcomes.{rows, cells_in}
use Rattle.tall_semantics.specs.Talls.{Columns}
use Rattle.tall_semantics.specs.Deferred.{Vertex}
use Rattle.tall_semantics.specs.RowsOfSpaces.{numbers_in}
use Rattle.tall_blocks.specs.Carries.{Rows, AllCells, IsInClass}

-- the rows that a block has of each variable of each datastore
abbrev pub Block : Type 0
Block = (store variable : ℕ) → Rows

abbrev pub block_columns : Block → Columns
block_columns b s v = rows (b s v)

-- of all blocks, in order
abbrev pub all_rows : List Block → Block
all_rows [] s v = []
all_rows (b ∷ bs) s v = b s v ++ all_rows bs s v

abbrev pub IsVariable : Made → (store variable : ℕ) → Type 0
IsVariable (stored s v c) t w = (s ≡ t) × (v ≡ w)
IsVariable (operation op) t w = ⊥

-- the blocks have the rows of the variables that are cut into them, and so no variable has a reading fault
abbrev pub AreBlocksOf : Columns → List Vertex → (ℕ → Bool) → List Block → Type 0
AreBlocksOf columns vs cut bs = (i : ℕ) (v : Vertex) (s a : ℕ) → slice_get vs i ≡ Some v → cut i ≡ true → IsVariable v.made s a → columns s a ≡ rows (all_rows bs s a)

-- the cells of each variable are within its class
abbrev pub AreInTheirClasses : Columns → List Vertex → Type 0
AreInTheirClasses columns vs = (i : ℕ) (v : Vertex) (s a : ℕ) (c : Class) → slice_get vs i ≡ Some v → v.made ≡ stored s a c → AllCells (IsInClass (kind_of c)) (cells_in (columns s a))

-- ---- row numbers

-- the variables of a datastore have equal row numbers in a block
abbrev pub IsTable : List Vertex → (ℕ → Bool) → Block → Type 0
IsTable vs cut b = (i j : ℕ) (v w : Vertex) (s a o : ℕ) → slice_get vs i ≡ Some v → slice_get vs j ≡ Some w → cut i ≡ true → cut j ≡ true → IsVariable v.made s a → IsVariable w.made s o → numbers_in (block_columns b s a) ≡ numbers_in (block_columns b s o)

abbrev pub AreTables : List Vertex → (ℕ → Bool) → List Block → Type 0
AreTables vs cut [] = Unit {0}
AreTables vs cut (b ∷ bs) = IsTable vs cut b × AreTables vs cut bs

abbrev pub AllNumbers : (ℕ → Type 0) → Rows → Type 0
AllNumbers Q [] = Unit {0}
AllNumbers Q (r ∷ rs) = Q r.0 × AllNumbers Q rs

abbrev pub RowsBelow : ℕ → Block → Type 0
RowsBelow m b = (store variable : ℕ) → AllNumbers (λ r. r < m) (b store variable)

abbrev pub RowsFrom : ℕ → Block → Type 0
RowsFrom m b = (store variable : ℕ) → AllNumbers (λ r. m ≤ r) (b store variable)

-- each row number of a block is below those of the blocks behind it
abbrev pub AreAscending : List Block → Type 0
AreAscending [] = Unit {0}
AreAscending (b ∷ bs) = ((m : ℕ) × RowsBelow m b × RowsFrom m (all_rows bs)) × AreAscending bs
