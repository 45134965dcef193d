-- Blocks of whole records, and what finding one does to the bytes that are left.
use Rattle.std.specs.Prelude.{◌≡◌, ◌++◌, ◌<◌, ◌≤◌, ℕ, List, Option, option_map, slice_range, if◌then◌else◌, ⊤}
use Rattle.std.specs.Io.KnownBytes.{Consumes, IsAtEnd, Keeps, prepend_known}
use Rattle.csv.specs.Reading.{strip_bom}
use Rattle.tall_scan.specs.declared.finding.Filled.{Filled}
use Rattle.tall_scan.specs.declared.finding.Filled.TheVariants as filled
use Rattle.tall_scan.specs.declared.finding.Found.{Found}
use Rattle.tall_scan.specs.declared.finding.Found.TheVariants as found
use Rattle.tall_scan.specs.declared.finding.Waiting.{Waiting}
use Rattle.tall_scan.specs.declared.finding.Waiting.TheVariants as w
use Rattle.tall_scan.specs.declared.raw.RawBlock.{RawBlock}
use Rattle.tall_scan.specs.declared.scanning.Scan.{Scan}
use Rattle.tall_scan.specs.declared.source.Source.{Source}
use Rattle.tall_scan.specs.declared.state.ScanState.{ScanState}
use Rattle.tall_scan.specs.declared.state.ScanState.TheVariants as s
use Rattle.tall_scan.specs.Rows.{Fields, NoneLeft, TakesMany, text_records}
use Rattle.tall_scan.specs.Scanning.{scan_after, scan_ended}

-- the records of a raw block
abbrev pub raw_records : RawBlock → List Fields
raw_records b = text_records b.delimiter b.bytes.items

-- how many they are, as the block tells
abbrev pub raw_count : RawBlock → ℕ
raw_count b = b.count

-- the byte between their fields
abbrev pub raw_delimiter : RawBlock → ℕ
raw_delimiter b = b.delimiter

-- the bytes that a source gives, where its reader tells: those in its buffer, and then the reader's; a source that has not
-- begun still takes a byte order mark off their front
abbrev pub source_left : {R : Type 0} → (R → Option (List ℕ)) → Source R → Option (List ℕ)
source_left remaining s = if s.begun then prepend_known (slice_range s.buffer.items s.at s.filled) (remaining s.reader) else option_map strip_bom (remaining s.reader)

-- the reader under a source
abbrev pub source_reader : {R : Type 0} → Source R → R
source_reader s = s.reader

-- the records of the bytes that are left
abbrev pub records_of : ℕ → Option (List ℕ) → Option (List Fields)
records_of delimiter left = option_map (text_records delimiter) left

-- these bytes were taken off those that were left, and a scan of them came to this state and ended so many records
pub record Scanned (delimiter : ℕ) (bytes : List ℕ) (old new : Option (List ℕ)) (state : ScanState) (ended : ℕ) : Type 0 where
  pub took : Consumes old new bytes
  pub stands : state ≡ scan_after delimiter s.Between bytes
  pub counts : ended ≡ scan_ended delimiter s.Between bytes

-- a piece of what was left came behind the bytes so far, and a scan went over it from a state
pub record Adds (delimiter : ℕ) (before : ScanState) (bytes more : List ℕ) (old new : Option (List ℕ)) (scan : Scan) : Type 0 where
  pub piece : List ℕ
  pub joins : more ≡ bytes ++ piece
  pub took : Consumes old new piece
  pub stands : scan.state ≡ scan_after delimiter before piece
  pub counts : scan.ended ≡ scan_ended delimiter before piece

-- what filling a block with so many records did
abbrev pub Fills : ℕ → ℕ → Filled → List ℕ → Option (List ℕ) → Option (List ℕ) → Type 0
Fills delimiter most filled.Most bytes old new = Scanned delimiter bytes old new s.Between most
Fills delimiter most (filled.End state ended) bytes old new = Scanned delimiter bytes old new state ended × (ended < most) × IsAtEnd new
Fills delimiter most filled.Stopped bytes old new = ⊤

-- what finding a block did to the bytes that are left: it has the next records, fewer than asked for only at the end;
-- the end comes only where no record is left
abbrev pub Finds : ℕ → ℕ → Found → Option (List ℕ) → Option (List ℕ) → Type 0
Finds delimiter most (found.Block b) old new = (b.delimiter ≡ delimiter) × (0 < b.count) × (b.count ≤ most)
    × TakesMany (records_of delimiter old) (raw_records b) (records_of delimiter new) × (b.count < most → IsAtEnd new)
Finds delimiter most found.End old new = NoneLeft (records_of delimiter old) × IsAtEnd new
Finds delimiter most found.Stopped old new = ⊤

-- waiting for bytes leaves those that are left as they are
abbrev pub Waits : Waiting → Option (List ℕ) → Option (List ℕ) → Type 0
Waits w.Some old new = Keeps old new
Waits w.End old new = Keeps old new × IsAtEnd new
Waits w.Failed old new = ⊤
