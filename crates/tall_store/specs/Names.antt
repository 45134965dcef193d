-- The names of the variables of a file: docs/LANGUAGE.md, "Variables". An empty header field gives `Var` with its
-- position from 1. Then, from left to right, a name that an earlier variable has gets `_k` with the least k from 1 on
-- such that neither a header field nor an earlier variable has the result.
use Rattle.std.specs.Prelude.{ℕ, zero, suc, ◌+◌, ◌||◌, Bool, if◌then◌else◌, List, [], ◌∷◌, ◌++◌, length, map, codes}
use Rattle.std.specs.List.{range_with_len}
use Rattle.std.specs.Fmt.{decimal}
use Rattle.tall_value.specs.Names.{has_name}
use Rattle.tall_num.specs.Spelling.{is_empty}

-- `Var` with a position
abbrev pub numbered_name : ℕ → List ℕ
numbered_name position = codes "Var" ++ decimal position

-- the name that a header field gives by itself
abbrev pub field_name : ℕ → List ℕ → List ℕ
field_name position field = if is_empty field then numbered_name position else field

abbrev pub suffixed : List ℕ → ℕ → List ℕ
suffixed name k = name ++ (codes "_" ++ decimal k)

-- the least number from k on that is free, where one of the next n is
unfoldable pub least_free : (ℕ → Bool) → ℕ → ℕ → ℕ
least_free is_taken zero k = k
least_free is_taken (suc n) k = if is_taken k then least_free is_taken n (k + 1) else k

-- a header field or an earlier variable has the name with this suffix
abbrev pub is_suffix_taken : List (List ℕ) → List (List ℕ) → List ℕ → ℕ → Bool
is_suffix_taken fields earlier name k = has_name fields (suffixed name k) || has_name earlier (suffixed name k)

-- no more suffixes are taken than there are names
abbrev pub suffix_of : List (List ℕ) → List (List ℕ) → List ℕ → ℕ
suffix_of fields earlier name = least_free (is_suffix_taken fields earlier name) (length fields + length earlier) 1

-- the name of the next variable, after those of the earlier ones
abbrev pub distinct_name : List (List ℕ) → List (List ℕ) → List ℕ → List ℕ
distinct_name fields earlier name = if has_name earlier name then suffixed name (suffix_of fields earlier name) else name

-- the names after the earlier ones of the fields from a position on
abbrev pub names_from : List (List ℕ) → List (List ℕ) → ℕ → List (List ℕ) → List (List ℕ)
names_from fields earlier position [] = earlier
names_from fields earlier position (field ∷ left) =
    names_from fields (earlier ++ distinct_name fields earlier (field_name position field) ∷ []) (position + 1) left

-- the names that a header gives
abbrev pub header_names : List (List ℕ) → List (List ℕ)
header_names fields = names_from fields [] 1 fields

-- the names of so many variables without a header
abbrev pub numbered_names : ℕ → List (List ℕ)
numbered_names n = map numbered_name (range_with_len 1 n)

-- the names of the variables, by the first record of the first file
abbrev pub variable_names : Bool → List (List ℕ) → List (List ℕ)
variable_names header first = if header then header_names first else numbered_names (length first)
