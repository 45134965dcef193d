-- A store's pairs as they stand in columns, what is so of each store, and what adding and appending answer.
use Rattle.std.specs.Prelude.{ℕ, ◌≡◌, ◌<◌, ◌≤◌, ◌^◌, Bool, true, length, List, [], ◌∷◌, ◌++◌, None, Result, Ok, Err, option_map}
use Rattle.tall_value.specs.declared.class.Kind.{Kind}
use Rattle.tall_value.specs.Cells.{Seen, seen_kind}
use Rattle.tall_local.specs.Pairs.{Pair, is_key, same_class, misfit, with_pair, appended}
use Rattle.tall_local.specs.Refusals.{stop_at}
use Rattle.tall_kv.specs.declared.faults.PairFault.{PairFault}
use Rattle.tall_kv.specs.declared.rows.Rows.{Rows}
use Rattle.tall_kv.specs.Faults.{IsFaultOf}

-- as many pairs as there are lines, of the first keys and the first values
abbrev pub pairs_of : (lines : List ℕ) (keys values : List Seen) → List Pair
pairs_of (line ∷ lines) (key ∷ keys) (value ∷ values) = record { key = key; value = value; line = line } ∷ pairs_of lines keys values
pairs_of lines keys values = []

abbrev pub rows_pairs : Rows → List Pair
rows_pairs r = pairs_of r.lines.items r.keys.cells r.values.cells

-- each line has a key and a value
pub record IsLong (r : Rows) : Type 0 where
  pub keys : length r.lines.items ≤ length r.keys.cells
  pub values : length r.lines.items ≤ length r.values.cells

-- a cell of the first one's class, or of any where there is none
abbrev pub fits_first : List Seen → Seen → Bool
fits_first [] c = true
fits_first (first ∷ cells) c = same_class first c

-- ---- what is so of each store

-- a key and a value of these kinds
abbrev pub HasKinds : Kind → Kind → Pair → Type 0
HasKinds j k p = (is_key p.key ≡ true) × (seen_kind p.key ≡ j) × (seen_kind p.value ≡ k)

abbrev pub HaveKinds : Kind → Kind → List Pair → Type 0
HaveKinds j k [] = Unit {0}
HaveKinds j k (p ∷ ps) = HasKinds j k p × HaveKinds j k ps

-- those of the first pair
abbrev pub HaveKindsOfFirst : List Pair → Type 0
HaveKindsOfFirst [] = Unit {0}
HaveKindsOfFirst (p ∷ ps) = HaveKinds (seen_kind p.key) (seen_kind p.value) (p ∷ ps)

-- all keys are keys of one class, all values have one class, and there are fewer than 2^40 pairs
pub record IsStore (ps : List Pair) : Type 0 where
  pub kinds : HaveKindsOfFirst ps
  pub within : length ps < 2 ^ 40

-- as a store keeps its pairs
pub record IsKept (r : Rows) : Type 0 where
  pub long : IsLong r
  pub store : IsStore (rows_pairs r)

-- ---- a pair, and its answers

abbrev pub cells_of : Pair → Seen × Seen
cells_of p = (p.key, p.value)

-- a pair goes behind the others, or what it doesn't fit by is named with its line, and the pairs stay
abbrev pub Adds : {A : Type 0} → List Pair → Pair → List Pair → Result A PairFault → Type 0
Adds old p new (Ok done) = with_pair old p ≡ Ok new
Adds old p new (Err fault) = (new ≡ old) × IsFaultOf (option_map (stop_at p.line) (misfit old p)) fault

-- all pairs of another store fit
abbrev pub AllFit : List Pair → List Pair → Type 0
AllFit old later = appended old later ≡ record { pairs = old ++ later; stop = None }

-- all pairs of another store go behind the others, or the first that doesn't fit is named, and the pairs stay
abbrev pub Appends : {A : Type 0} → List Pair → List Pair → List Pair → Result A PairFault → Type 0
Appends old later new (Ok done) = appended old later ≡ record { pairs = new; stop = None }
Appends old later new (Err fault) = (new ≡ old) × IsFaultOf (appended old later).stop fault
