-- What a script has so far: its names, its datastores, and how often files may have been opened. `D` stands for a tall column
-- or a tall scalar.
use Rattle.std.specs.Prelude.{ℕ, ◌+◌, if◌then◌else◌, List, [], ◌∷◌, ◌++◌}
use Rattle.tall_value.specs.Names.{has_name}
use Rattle.tall_local.specs.Values.{Value}
pub use Rattle.tall_stored.specs.StoredColumns.{Store}

-- files that may be opened, each so often
pub record Openings : Type 0 where
  pub files : List (List ℕ)
  pub times : ℕ

-- the names in the order of their first assignments, the datastores in the order of their making, and how often files
-- may have been opened
pub record State (D : Type 0) : Type 0 where
  pub names : List (List ℕ × Value D)
  pub stores : List Store
  pub opened : List Openings

-- at the start of a script
abbrev pub empty_state : {D : Type 0} → State D
empty_state = record { names = []; stores = []; opened = [] }

-- ---- openings

abbrev pub with_openings : {D : Type 0} → List Openings → State D → State D
with_openings more s = record s { opened = s.opened ++ more }

-- how often a file may be opened, of all these
abbrev pub times_allowed : List ℕ → List Openings → ℕ
times_allowed file [] = 0
times_allowed file (o ∷ rest) = (if has_name o.files file then o.times else 0) + times_allowed file rest

-- ---- datastores

-- one more datastore, which is the value
abbrev pub with_store : {D : Type 0} → Store → State D → State D
with_store store s = record s { stores = s.stores ++ store ∷ [] }
