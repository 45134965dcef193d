-- Names with what they stand for, in the order in which they came.
use Rattle.std.specs.Prelude.{ℕ, if◌then◌else◌, List, [], ◌∷◌, Option, None, Some}
use Rattle.std.specs.Str.{bytes_eq}

-- what the first of a name stands for
abbrev pub named : {A : Type 0} → List (List ℕ × A) → List ℕ → Option A
named [] name = None
named (entry ∷ entries) name = if bytes_eq entry.0 name then Some entry.1 else named entries name

-- a name gets a value: in its place where it has one, else behind all others
abbrev pub put_name : {A : Type 0} → List ℕ → A → List (List ℕ × A) → List (List ℕ × A)
put_name name a [] = (name, a) ∷ []
put_name name a (entry ∷ entries) = if bytes_eq entry.0 name then (name, a) ∷ entries else entry ∷ put_name name a entries

-- the names alone
abbrev pub names_of : {A : Type 0} → List (List ℕ × A) → List (List ℕ)
names_of [] = []
names_of (entry ∷ entries) = entry.0 ∷ names_of entries

-- the same names with other things
abbrev pub each_named : {A B : Type 0} → (A → B) → List (List ℕ × A) → List (List ℕ × B)
each_named f [] = []
each_named f (entry ∷ entries) = (entry.0, f entry.1) ∷ each_named f entries
