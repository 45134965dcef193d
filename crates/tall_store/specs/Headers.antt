-- Whether a file begins with the header of the first file: docs/LANGUAGE.md, "Datastores".
use Rattle.std.specs.Prelude.{◌&&◌, Bool, true, false, List, [], ◌∷◌}
use Rattle.std.specs.Str.{bytes_eq}
use Rattle.tall_cut.specs.Rows.{Fields}

-- the same fields
abbrev pub is_same_record : Fields → Fields → Bool
is_same_record [] [] = true
is_same_record [] (g ∷ gs) = false
is_same_record (f ∷ fs) [] = false
is_same_record (f ∷ fs) (g ∷ gs) = bytes_eq f g && is_same_record fs gs

-- the first record is this one
abbrev pub begins_with : Fields → List Fields → Bool
begins_with first [] = false
begins_with first (fields ∷ records) = is_same_record fields first

-- there is this record and no other
abbrev pub is_one_record : Fields → List Fields → Bool
is_one_record first [] = false
is_one_record first (fields ∷ []) = is_same_record fields first
is_one_record first (fields ∷ more ∷ records) = false
