-- What a cutter answers follows from what was found.
use Rattle.std.proofs.Common.{◌≡◌, ◌≢◌, ◌≤◌, ◌<◌, ◌∙◌, ℕ, List, [], ◌++◌, Option, Some, None, length, ap, arith, refl}
use Rattle.std.specs.Prelude.{option_map}
use Rattle.std.specs.Io.KnownBytes.{IsAtEnd}
use Rattle.csv.specs.Reading.{strip_bom}
use Rattle.tall_scan.specs.declared.finding.Found.TheVariants as found
use Rattle.tall_scan.specs.declared.raw.RawBlock.{RawBlock}
use Rattle.tall_scan.specs.Rows.{Fields, NoneLeft, TakesMany, file_records, text_records}
use Rattle.tall_scan.specs.Finding.{Finds, raw_count, raw_records, records_of}
use Rattle.tall_scan.proofs.Fills.{no_records}
use Rattle.tall_cut.specs.declared.cutter.Progress.{Progress}
use Rattle.tall_cut.specs.declared.cutter.Progress.TheVariants as p
use Rattle.tall_cut.specs.Cuts.{left_by}

-- the records of a file are those of its bytes without a mark
pub new_left : (d : ℕ) (known left : Option (List ℕ)) → left ≡ option_map strip_bom known → records_of d left ≡ option_map (file_records d) known
new_left d None left e = rw e refl
new_left d (Some xs) left e = rw e refl

-- what is taken where no byte is left leaves no record
ended_takes : (d : ℕ) (old new : Option (List ℕ)) (taken : List Fields) → TakesMany (records_of d old) taken (records_of d new) → IsAtEnd new → TakesMany (records_of d old) taken (Some [])
ended_takes d None new taken m e = tt
ended_takes d (Some xs) None taken m e = absurd m
ended_takes d (Some xs) (Some ys) taken m e = m ∙ ap (λ rows. taken ++ rows) (ap (text_records d) e ∙ no_records d)

-- as many records as were asked for
pub full_cuts : (before after : Progress) (d rows : ℕ) (old new : Option (List ℕ)) (b : RawBlock) → before ≡ p.Reading → after ≡ p.Reading → Finds d rows (found.Block b) old new → raw_count b ≡ rows
    → (0 < raw_count b) × (raw_count b ≤ rows) × TakesMany (left_by before (records_of d old)) (raw_records b) (left_by after (records_of d new)) × (raw_count b < rows → after ≡ p.Ended)
full_cuts before after d rows old new b e f h all = (h.1, h.2, rw (e, f) h.3, λ less. absurd (omega arith))

-- fewer, and then the end
pub last_cuts : (before after : Progress) (d rows : ℕ) (old new : Option (List ℕ)) (b : RawBlock) → before ≡ p.Reading → after ≡ p.Ended → Finds d rows (found.Block b) old new → raw_count b ≢ rows
    → (0 < raw_count b) × (raw_count b ≤ rows) × TakesMany (left_by before (records_of d old)) (raw_records b) (left_by after (records_of d new)) × (raw_count b < rows → after ≡ p.Ended)
last_cuts before after d rows old new b e f h few =
    let low = h.2 in
    (h.1, h.2, rw (e, f) (ended_takes d old new (raw_records b) h.3 (h.4 (omega arith))), λ _. f)

-- none
pub none_cuts : (before : Progress) (d rows : ℕ) (old new : Option (List ℕ)) → before ≡ p.Reading → Finds d rows found.End old new → NoneLeft (left_by before (records_of d old))
none_cuts before d rows old new e h = rw e h.0

-- the records that a raw block has, once they are read
pub read_cuts : (b : RawBlock) (rows : ℕ) (records : List Fields) (old new : Option (List Fields)) (P : Type 0)
    → (0 < raw_count b) × (raw_count b ≤ rows) × TakesMany old (raw_records b) new × (raw_count b < rows → P) → records ≡ raw_records b
    → (0 < length records) × (length records ≤ rows) × TakesMany old records new × (length records < rows → P)
read_cuts b rows records old new P h e =
    let size : length records ≡ raw_count b = ap length e ∙ b.counted in
    let some = h.0 in
    let low = h.1 in
    (omega arith, omega arith, rw e h.2, λ less. h.3 (omega arith))
