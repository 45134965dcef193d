-- What is known while the variables of a header get their names.
use Rattle.std.specs.Prelude.{◌≡◌, ◌<◌, ◌≤◌, ℕ, ◌+◌, List, Some, String, is_some, length, true}
use Rattle.std.specs.BTreeMap.{BTreeMap, get_by_text}
use Rattle.std.specs.BTreeSet.{BTreeSet, contains_text}
use Rattle.csv.specs.Records.{fields_of}
use Rattle.tall_value.specs.Names.{has_name}
use Rattle.tall_store.specs.declared.names.Naming.{Naming}
use Rattle.tall_store.specs.Names.{is_suffix_taken}

-- a set has these names and no others
abbrev pub HasNames : {Y : Type 0} → BTreeSet (String Y) → List (List ℕ) → Type 0
HasNames set names = (name : List ℕ) → contains_text set name ≡ has_name names name

-- each suffix of a name before this one is taken
pub record IsPassed (fields earlier : List (List ℕ)) (name : List ℕ) (k : ℕ) : Type 0 where
  pub first : 1 ≤ k
  pub most : k ≤ length fields + length earlier + 1
  pub taken : (j : ℕ) → 1 ≤ j → j < k → is_suffix_taken fields earlier name j ≡ true

-- a set has the fields, and a table the earlier names, each with a suffix before which all are taken
pub record AreKnown {Y Z : Type 0} (fields : List (List ℕ)) (set : BTreeSet (String Y)) (earlier : List (List ℕ)) (next : BTreeMap (String Z) ℕ) : Type 0 where
  pub fields_are : HasNames set fields
  pub earlier_are : (name : List ℕ) → is_some (get_by_text next name) ≡ has_name earlier name
  pub passed : (name : List ℕ) (k : ℕ) → get_by_text next name ≡ Some k → IsPassed fields earlier name k

abbrev pub IsNaming : Naming → Type 0
IsNaming n = AreKnown (fields_of n.fields.now) n.field_set n.names.items n.next
