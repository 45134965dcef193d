-- Worked rows of the definitions, by computation: the records of a text, where a scan of it stands, and how many records it ended.
use Rattle.std.proofs.Common.{◌≡◌, ℕ, List, [], ◌∷◌, refl}
use Rattle.std.specs.Prelude.{codes}
use Rattle.csv.specs.Machine.{next_record}
use Rattle.csv.specs.Reading.{records_from, strip_bom}
use Rattle.tall_scan.specs.declared.state.ScanState.{ScanState}
use Rattle.tall_scan.specs.declared.state.ScanState.TheVariants as s
use Rattle.tall_scan.specs.Rows.{Fields, file_records, text_records}
use Rattle.tall_scan.specs.Scanning.{scan_after, scan_ended}

abbrev Scans : ℕ → List ℕ → List Fields → ScanState → ℕ → Type 0
Scans delimiter bytes records state ended =
    (text_records delimiter bytes ≡ records) × (scan_after delimiter s.Between bytes ≡ state) × (scan_ended delimiter s.Between bytes ≡ ended)

-- 5" LF 6" LF: quotes inside fields open nothing
quotes_inside_fields : Scans 44 (53 ∷ 34 ∷ 10 ∷ 54 ∷ 34 ∷ 10 ∷ []) ((codes "5\"" ∷ []) ∷ (codes "6\"" ∷ []) ∷ []) s.Between 2
unfolding next_record records_from scan_after scan_ended
quotes_inside_fields = (refl, refl, refl)

-- "a"b"c LF d" LF: behind text after a closing quote a quote is text
text_after_a_closing_quote : Scans 44 (34 ∷ 97 ∷ 34 ∷ 98 ∷ 34 ∷ 99 ∷ 10 ∷ 100 ∷ 34 ∷ 10 ∷ []) ((codes "ab\"c" ∷ []) ∷ (codes "d\"" ∷ []) ∷ []) s.Between 2
unfolding next_record records_from scan_after scan_ended
text_after_a_closing_quote = (refl, refl, refl)

-- "a""LF", LF: a doubled quote opens again, and the line feed behind it is text
doubled_quote : Scans 44 (34 ∷ 97 ∷ 34 ∷ 34 ∷ 10 ∷ 34 ∷ 44 ∷ 10 ∷ []) (((97 ∷ 34 ∷ 10 ∷ []) ∷ [] ∷ []) ∷ []) s.Between 1
unfolding next_record records_from scan_after scan_ended
doubled_quote = (refl, refl, refl)

-- a CR b
carriage_return_alone : Scans 44 (97 ∷ 13 ∷ 98 ∷ []) ((codes "a" ∷ []) ∷ (codes "b" ∷ []) ∷ []) s.Unquoted 1
unfolding next_record records_from scan_after scan_ended
carriage_return_alone = (refl, refl, refl)

-- a CR, and then LF b LF: a cut between the two bytes of a line's end gives no record more
line_end_cut_in_two : Scans 44 (97 ∷ 13 ∷ []) ((codes "a" ∷ []) ∷ []) s.Between 1 × Scans 44 (10 ∷ 98 ∷ 10 ∷ []) ((codes "b" ∷ []) ∷ []) s.Between 1
unfolding next_record records_from scan_after scan_ended
line_end_cut_in_two = ((refl, refl, refl), (refl, refl, refl))

-- LF CR LF a LF LF
empty_lines : Scans 44 (10 ∷ 13 ∷ 10 ∷ 97 ∷ 10 ∷ 10 ∷ []) ((codes "a" ∷ []) ∷ []) s.Between 1
unfolding next_record records_from scan_after scan_ended
empty_lines = (refl, refl, refl)

-- a,b with no line's end, a, with none, and "a with an open quote: each is one record that no byte ends
no_last_line_end : Scans 44 (97 ∷ 44 ∷ 98 ∷ []) ((codes "a" ∷ codes "b" ∷ []) ∷ []) s.Unquoted 0
    × Scans 44 (97 ∷ 44 ∷ []) ((codes "a" ∷ [] ∷ []) ∷ []) s.Quotable 0 × Scans 44 (34 ∷ 97 ∷ []) ((codes "a" ∷ []) ∷ []) s.Quoted 0
unfolding next_record records_from scan_after scan_ended
no_last_line_end = ((refl, refl, refl), (refl, refl, refl), (refl, refl, refl))

-- the bytes of a mark, and a LF: a part of the field in a text, none in a file
mark_at_the_front : Scans 44 (239 ∷ 187 ∷ 191 ∷ 97 ∷ 10 ∷ []) (((239 ∷ 187 ∷ 191 ∷ 97 ∷ []) ∷ []) ∷ []) s.Between 1
    × (file_records 44 (239 ∷ 187 ∷ 191 ∷ 97 ∷ 10 ∷ []) ≡ (codes "a" ∷ []) ∷ [])
unfolding next_record records_from strip_bom scan_after scan_ended
mark_at_the_front = ((refl, refl, refl), refl)

-- a"b LF, where a quote stands between fields
quotes_between_fields : Scans 34 (97 ∷ 34 ∷ 98 ∷ 10 ∷ []) ((codes "a" ∷ codes "b" ∷ []) ∷ []) s.Between 1
unfolding next_record records_from scan_after scan_ended
quotes_between_fields = (refl, refl, refl)
