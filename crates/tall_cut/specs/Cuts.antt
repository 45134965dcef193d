-- What a cutter has left, and what its answers say of it.
use Rattle.std.specs.Prelude.{◌≡◌, ◌<◌, ◌≤◌, ◌^◌, ℕ, List, [], Option, None, Some, length}
use Rattle.tall_outside.specs.declared.shelf.Shelf as shelf
use Rattle.tall_scan.specs.declared.finding.Found.{Found}
use Rattle.tall_scan.specs.declared.finding.Found.TheVariants as found
use Rattle.tall_scan.specs.Finding.{raw_count, raw_records, records_of, source_left, source_reader}
use Rattle.tall_cut.specs.declared.feed.OpenedFile as opened
use Rattle.tall_cut.specs.declared.cutter.Cutter.{Cutter}
use Rattle.tall_cut.specs.declared.cutter.Next.{Next}
use Rattle.tall_cut.specs.declared.cutter.Next.TheVariants as next
use Rattle.tall_cut.specs.declared.cutter.Progress.{Progress}
use Rattle.tall_cut.specs.declared.cutter.Progress.TheVariants as p
use Rattle.tall_cut.specs.declared.cutter.ReadSize.{ReadSize}
use Rattle.tall_cut.specs.declared.cutter.ReadSize.TheVariants as size
use Rattle.tall_scan.specs.Rows.{Fields, NoneLeft, TakesMany}
use Rattle.tall_cut.specs.Left.{feed_left}

-- how many records a block of this size may have
abbrev pub rows_of : ReadSize → ℕ
rows_of (size.Rows rows) = rows
rows_of size.File = 2 ^ 40

-- what is left, by how far the reading came
abbrev pub left_by : Progress → Option (List Fields) → Option (List Fields)
left_by p.Reading left = left
left_by p.Ended left = Some []
left_by p.Stopped left = None

-- the records that a cutter has left, where its shelf tells; none after the end, and none that are known after a stop
abbrev pub cutter_left : {S K : Type 0} {s : shelf.Ghosts S} {k : opened.Ghosts K} → Cutter S K s k → Option (List Fields)
cutter_left c = left_by c.progress (records_of c.delimiter (source_left feed_left c.source))

-- the shelf that a cutter reads
abbrev pub cutter_shelf : {S K : Type 0} {s : shelf.Ghosts S} {k : opened.Ghosts K} → Cutter S K s k → S
cutter_shelf c = (source_reader c.source).shelf.now

-- how many records a block of a cutter may have
abbrev pub block_rows : {S K : Type 0} {s : shelf.Ghosts S} {k : opened.Ghosts K} → Cutter S K s k → ℕ
block_rows c = c.rows

-- a cutter came to the end of its file
abbrev pub IsEnded : {S K : Type 0} {s : shelf.Ghosts S} {k : opened.Ghosts K} → Cutter S K s k → Type 0
IsEnded c = c.progress ≡ p.Ended

-- a cutter stopped
abbrev pub IsStopped : {S K : Type 0} {s : shelf.Ghosts S} {k : opened.Ghosts K} → Cutter S K s k → Type 0
IsStopped c = c.progress ≡ p.Stopped

-- what an answer says of a cutter before and after it: a block has the next records, and fewer than asked for only
-- at the end; the end comes only where no record is left
abbrev pub Cuts : {S K : Type 0} {s : shelf.Ghosts S} {k : opened.Ghosts K} → ℕ → Next → Cutter S K s k → Cutter S K s k → Type 0
Cuts rows (next.Block block) old new = (0 < length block) × (length block ≤ rows) × TakesMany (cutter_left old) block (cutter_left new) × (length block < rows → IsEnded new)
Cuts rows next.End old new = NoneLeft (cutter_left old) × IsEnded new
Cuts rows next.Stopped old new = IsStopped new

-- the same of blocks that were found and not read
abbrev pub CutsRaw : {S K : Type 0} {s : shelf.Ghosts S} {k : opened.Ghosts K} → ℕ → Found → Cutter S K s k → Cutter S K s k → Type 0
CutsRaw rows (found.Block block) old new = (0 < raw_count block) × (raw_count block ≤ rows) × TakesMany (cutter_left old) (raw_records block) (cutter_left new)
    × (raw_count block < rows → IsEnded new)
CutsRaw rows found.End old new = NoneLeft (cutter_left old) × IsEnded new
CutsRaw rows found.Stopped old new = IsStopped new
