-- What one read does to the records that are left.
use Rattle.std.specs.Prelude.{Bool, true, false, List, Option}
use Rattle.tall_scan.specs.Rows.{Fields, NoneLeft, Takes}

-- a read took the first record that was left, or found none
abbrev pub TakesRow : Bool → Option (List Fields) → Fields → Option (List Fields) → Type 0
TakesRow true old row new = Takes old row new
TakesRow false old row new = NoneLeft old
