-- A text of records behind a line feed has their records, and no byte order mark.
use Rattle.std.proofs.Common.{◌≡◌, ◌∙◌, ℕ, Bool, false, List, [], ◌∷◌, ◌++◌, length, take, refl, sym, ap, Option, Some}
use Rattle.std.specs.Prelude.{◌==◌, option_map, slice_set}
use Rattle.csv.specs.Machine.{next_record}
use Rattle.csv.specs.Reading.{reader_config, reader_state, records_next, source_of, strip_bom}
use Rattle.csv.specs.declared.reader.Reader.{Reader}
use Rattle.csv.specs.declared.parser.State.TheVariants as st
use Rattle.tall_scan.specs.Rows.{delimited, records_left, rows_from, text_records}
use Rattle.tall_scan.proofs.Cutting.{rows_are}

pub shielded : (xs : List ℕ) → strip_bom (10 ∷ xs) ≡ 10 ∷ xs
unfolding strip_bom
shielded [] = refl
shielded (a ∷ []) = refl
shielded (a ∷ b ∷ rest) = refl

first-same : (d : ℕ) (xs : List ℕ) → next_record (delimited d) st.StartRecord [] [] (10 ∷ xs) ≡ next_record (delimited d) st.StartRecord [] [] xs
unfolding next_record
first-same d xs = refl

pub behind_line_feed : (d : ℕ) (xs : List ℕ) → rows_from (delimited d) st.StartRecord (10 ∷ xs) ≡ text_records d xs
behind_line_feed d xs =
    rows_are (delimited d) st.StartRecord (10 ∷ xs) ∙ ap (records_next (rows_from (delimited d))) (first-same d xs) ∙ sym (rows_are (delimited d) st.StartRecord xs)

-- the records that a reader of the text reads
pub text_reads : (d : ℕ) (xs : List ℕ) → rows_from (delimited d) st.StartRecord (strip_bom (10 ∷ xs)) ≡ text_records d xs
text_reads d xs = ap (rows_from (delimited d) st.StartRecord) (shielded xs) ∙ behind_line_feed d xs

-- a first read gives the line feed
pub line_feed_first : (xs rest : List ℕ) (b : Bool) → b ≡ (length xs == 0) → b ≡ false → 10 ∷ rest ≡ take 1 (slice_set xs 0 10) ++ rest
line_feed_first [] rest b e t = cc (sym e ∙ t)
line_feed_first (x ∷ xs) rest b e t = refl

-- a new reader of the text has its records
pub text_fresh : {R : Type 0} (rem : R → Option (List ℕ)) (r : Reader R) (d : ℕ) (bytes : List ℕ) (known : Option (List ℕ)) → reader_config r ≡ delimited d → reader_state r ≡ st.StartRecord
    → known ≡ Some (10 ∷ bytes) → source_of rem r ≡ option_map strip_bom known → records_left rem r ≡ Some (text_records d bytes)
text_fresh rem r d bytes known c s k e = rw (e, c, s, k) (ap Some (text_reads d bytes))
