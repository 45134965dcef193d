-- The laws of cutting.
use Rattle.std.specs.Prelude.{◌≡◌, ◌+◌, ◌++◌, ℕ, false, List, length, if◌then◌else◌}
use Rattle.csv.specs.Machine.{ends_at_end}
use Rattle.csv.specs.declared.parser.Config.{Config}
use Rattle.csv.specs.declared.parser.State.{State}
use Rattle.tall_scan.specs.declared.state.ScanState.TheVariants as s
use Rattle.tall_scan.specs.Rows.{rows_from, text_records}
use Rattle.tall_scan.specs.Cutting.{ended_by, machine_after}
use Rattle.tall_scan.specs.Scanning.{begun_in, scan_after, scan_ended}

-- A text that is cut where `csv`'s machine stands between records has the records of its first part, and then those that
-- the second has from that state. It holds for every configuration.
abbrev pub CutsBetween : Type 0
CutsBetween = (cfg : Config) (a : State) (xs ys : List ℕ) → ends_at_end (machine_after cfg a xs) ≡ false
    → rows_from cfg a (xs ++ ys) ≡ rows_from cfg a xs ++ rows_from cfg (machine_after cfg a xs) ys

-- A text has as many records as its bytes end, and one more where it stops within one.
abbrev pub CountsEnds : Type 0
CountsEnds = (cfg : Config) (a : State) (xs : List ℕ)
    → length (rows_from cfg a xs) ≡ ended_by cfg a xs + (if ends_at_end (machine_after cfg a xs) then 1 else 0)

-- The scan cuts where the records of both parts are those of the whole, whatever byte stands between fields.
abbrev pub ScanCuts : Type 0
ScanCuts = (delimiter : ℕ) (xs ys : List ℕ) → scan_after delimiter s.Between xs ≡ s.Between
    → text_records delimiter (xs ++ ys) ≡ text_records delimiter xs ++ text_records delimiter ys

-- The scan counts the records.
abbrev pub ScanCounts : Type 0
ScanCounts = (delimiter : ℕ) (xs : List ℕ)
    → length (text_records delimiter xs) ≡ scan_ended delimiter s.Between xs + begun_in (scan_after delimiter s.Between xs)
