-- Worked order of faults.
use Rattle.std.specs.Prelude.{◌≡◌, refl, ℕ, Option, None, Some, [], ◌∷◌}
use Rattle.tall_value.specs.declared.faults.FaultKind.TheVariants.{NotWhole}
use Rattle.tall_value.specs.declared.faults.ReadingKind.TheVariants.{BadField}
use Rattle.tall_semantics.specs.Faults.{Fault, computed, reading, least_fault}

abbrev failing : ℕ → Option ℕ → Fault
failing number row = record { number = number; row = row; column = 0; store = 0; cause = computed NotWhole; line = 3 }

-- in a variable of a datastore, all of one call
abbrev misread : ℕ → ℕ → ℕ → Fault
misread row column store = record { number = 2; row = Some row; column = column; store = store; cause = reading BadField 0; line = 1 }

least_number : least_fault (Some (failing 9 (Some 1)) ∷ None ∷ Some (failing 4 (Some 7)) ∷ Some (failing 4 (Some 5)) ∷ []) ≡ Some (failing 4 (Some 5))
least_number = refl

no_row_first : least_fault (Some (failing 4 (Some 1)) ∷ Some (failing 4 None) ∷ []) ≡ Some (failing 4 None)
no_row_first = refl

row_before_column : least_fault (Some (misread 2 1 0) ∷ Some (misread 1 3 1) ∷ []) ≡ Some (misread 1 3 1)
row_before_column = refl

column_before_datastore : least_fault (Some (misread 1 2 0) ∷ Some (misread 1 1 1) ∷ []) ≡ Some (misread 1 1 1)
column_before_datastore = refl

earlier_datastore_first : least_fault (Some (misread 1 2 1) ∷ Some (misread 1 2 0) ∷ []) ≡ Some (misread 1 2 0)
earlier_datastore_first = refl

none_of_none : least_fault (None ∷ None ∷ []) ≡ None
none_of_none = refl
