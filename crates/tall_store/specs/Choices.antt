-- The formats and the selection of a datastore, by its options and its variables: docs/LANGUAGE.md, "Formats".
use Rattle.std.specs.Prelude.{ℕ, ◌||◌, ◌==◌, if◌then◌else◌, List, [], ◌∷◌, map, length, get_or, Option, None, Some}
use Rattle.std.specs.Option.{is_some}
use Rattle.std.specs.List.{position_from, range_with_len}
use Rattle.std.specs.Str.{bytes_eq}
use Rattle.tall_num.specs.Spelling.{spells}
use Rattle.tall_store.specs.declared.format.Format.{Format}
use Rattle.tall_store.specs.declared.format.Format.TheVariants.{Double, Text}
use Rattle.tall_store.specs.Fields.{is_missing}

-- the places of so many variables, from 0
abbrev pub all_places : ℕ → List ℕ
all_places n = range_with_len 0 n

-- ---- formats

-- of a field of the first data record: one that is missing or reads as a number is %f, any other %q
abbrev pub detected : List (List ℕ) → List ℕ → Format
detected missing field = if is_missing missing field || is_some (spells field) then Double else Text

-- of so many variables; one without a field counts as missing
abbrev pub detected_formats : List (List ℕ) → List (List ℕ) → ℕ → List Format
detected_formats missing fields n = map (λ place. detected missing (get_or fields place [])) (all_places n)

-- those that are given, one for each variable, or the detected ones
abbrev pub chosen_formats : List (List ℕ) → List (List ℕ) → ℕ → Option (List Format) → Option (List Format)
chosen_formats missing fields n None = Some (detected_formats missing fields n)
chosen_formats missing fields n (Some formats) = if length formats == n then Some formats else None

-- ---- selection

-- the place of the variable of a name
abbrev pub place_of : List (List ℕ) → List ℕ → Option ℕ
place_of names name = position_from (λ other. bytes_eq other name) 0 names

abbrev pub cons_option : Option ℕ → Option (List ℕ) → Option (List ℕ)
cons_option (Some a) (Some more) = Some (a ∷ more)
cons_option (Some a) None = None
cons_option None more = None

-- the places of names, all of which are there
abbrev pub places_of : List (List ℕ) → List (List ℕ) → Option (List ℕ)
places_of names [] = Some []
places_of names (name ∷ wanted) = cons_option (place_of names name) (places_of names wanted)

-- of the variables that are named, in this order, or of all
abbrev pub chosen_places : List (List ℕ) → Option (List (List ℕ)) → Option (List ℕ)
chosen_places names None = Some (all_places (length names))
chosen_places names (Some wanted) = places_of names wanted
