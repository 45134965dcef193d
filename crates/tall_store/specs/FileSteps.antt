-- What the reader of one file has left, and what its answers say.
use Rattle.std.specs.Prelude.{◌≡◌, ◌<◌, ◌≤◌, ◌^◌, ℕ, ◌+◌, IfSome, List, length, Option, ⊤}
use Rattle.tall_outside.specs.declared.shelf.Shelf as shelf
use Rattle.tall_cut.specs.Finding.{raw_count, raw_records}
use Rattle.tall_cut.specs.declared.feed.OpenedFile as opened
use Rattle.tall_cut.specs.Cuts.{IsEnded, block_rows, cutter_left, cutter_shelf}
use Rattle.tall_cut.specs.Rows.{Fields, NoneLeft, TakesMany}
use Rattle.tall_store.specs.declared.file_end.FileEnd.{FileEnd}
use Rattle.tall_store.specs.declared.file_end.FileEnd.TheVariants.{Whole, Reading, Failed, TooLarge, Memory}
use Rattle.tall_store.specs.declared.file_rows.FileRows.{FileRows}
use Rattle.tall_store.specs.declared.file_rows.FileStep.{FileStep}
use Rattle.tall_store.specs.declared.file_rows.FileStep.TheVariants.{Block, Ended}
use Rattle.tall_store.specs.FileEnds.{too_many}

-- the data records that are left, where the shelf tells
abbrev pub rows_left : {S K : Type 0} {s : shelf.Ghosts S} {k : opened.Ghosts K} → FileRows S K s k → Option (List Fields)
rows_left r = cutter_left r.cutter

-- the row that comes next, from 1 over all files
abbrev pub next_row : {S K : Type 0} {s : shelf.Ghosts S} {k : opened.Ghosts K} → FileRows S K s k → ℕ
next_row r = r.row

-- the row that came next where the file began
abbrev pub first_row : {S K : Type 0} {s : shelf.Ghosts S} {k : opened.Ghosts K} → FileRows S K s k → ℕ
first_row r = r.start

-- the place of the file in the list, from 0
abbrev pub file_of : {S K : Type 0} {s : shelf.Ghosts S} {k : opened.Ghosts K} → FileRows S K s k → ℕ
file_of r = r.file

-- how many records a block of the datastore has
abbrev pub size_of_block : {S K : Type 0} {s : shelf.Ghosts S} {k : opened.Ghosts K} → FileRows S K s k → ℕ
size_of_block r = block_rows r.cutter

-- the shelf that is read
abbrev pub rows_shelf : {S K : Type 0} {s : shelf.Ghosts S} {k : opened.Ghosts K} → FileRows S K s k → S
rows_shelf r = cutter_shelf r.cutter

-- what an answer says of the reader before and after it. A block has the next records, whose first row is numbered below
-- 2^40, and fewer than asked for only at the end of the file. The end comes where none is left and none had the row numbered
-- 2^40, or where one has it.
abbrev pub Steps : {S K : Type 0} {s : shelf.Ghosts S} {k : opened.Ghosts K} → ℕ → FileStep → FileRows S K s k → FileRows S K s k → Type 0
Steps most (Block b) old new =
    (b.file ≡ file_of old) × (b.row ≡ next_row old) × (b.row < 2 ^ 40) × (0 < raw_count b.raw) × (raw_count b.raw ≤ most)
    × TakesMany (rows_left old) (raw_records b.raw) (rows_left new) × (next_row new ≡ b.row + raw_count b.raw) × (raw_count b.raw < most → IsEnded new.cutter)
Steps most (Ended (Whole n)) old new = NoneLeft (rows_left old) × (first_row old + n ≡ next_row old) × (next_row old ≤ 2 ^ 40)
Steps most (Ended (Reading fault)) old new = (fault ≡ too_many (file_of old)) × IfSome (rows_left old) (λ rows. 2 ^ 40 < next_row old + length rows)
Steps most (Ended Failed) old new = ⊤
Steps most (Ended TooLarge) old new = ⊤
Steps most (Ended Memory) old new = ⊤

-- after the row numbered 2^40 there is neither a block nor the whole file
abbrev pub IsPast : FileStep → Type 0
IsPast (Block b) = ⊥
IsPast (Ended (Whole n)) = ⊥
IsPast (Ended (Reading fault)) = ⊤
IsPast (Ended Failed) = ⊤
IsPast (Ended TooLarge) = ⊤
IsPast (Ended Memory) = ⊤

-- what is said of an end
abbrev pub IfEnded : FileStep → (FileEnd → Type 0) → Type 0
IfEnded (Block b) P = ⊤
IfEnded (Ended end) P = P end
