-- The order of reading faults: by row, then column, then file, and at one such place by kind.
use Rattle.std.specs.Prelude.{ℕ, Bool, if◌then◌else◌, List, [], ◌∷◌, Option, None, Some}
use Rattle.std.specs.Ordering.{nat_cmp, is_lt}
use Rattle.std.specs.Cmp.Lexicographic.{slice_cmp}
use Rattle.tall_store.specs.declared.faults.ReadingFault.{ReadingFault}
use Rattle.tall_value.specs.declared.faults.ReadingKind.{ReadingKind}
use Rattle.tall_value.specs.declared.faults.ReadingKind.TheVariants.{NoFile, HeaderDiffers, TooManyRows, TooManyFields, BadField, BadText, NotWhole, Inexact}

abbrev pub kind_rank : ReadingKind → ℕ
kind_rank NoFile = 0
kind_rank HeaderDiffers = 1
kind_rank TooManyRows = 2
kind_rank TooManyFields = 3
kind_rank BadField = 4
kind_rank BadText = 5
kind_rank NotWhole = 6
kind_rank Inexact = 7

abbrev pub reading_place : ReadingFault → List ℕ
reading_place f = f.row ∷ f.column ∷ f.file ∷ kind_rank f.kind ∷ []

abbrev pub precedes : ReadingFault → ReadingFault → Bool
precedes f g = is_lt (slice_cmp nat_cmp (reading_place f) (reading_place g))

-- the earlier of two faults
abbrev pub earlier_of : Option ReadingFault → Option ReadingFault → Option ReadingFault
earlier_of None g = g
earlier_of (Some f) None = Some f
earlier_of (Some f) (Some g) = if precedes g f then Some g else Some f

-- the first of several faults, if any
abbrev pub first_reading_fault : List ReadingFault → Option ReadingFault
first_reading_fault [] = None
first_reading_fault (f ∷ fs) = earlier_of (Some f) (first_reading_fault fs)
