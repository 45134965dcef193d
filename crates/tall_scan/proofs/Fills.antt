-- A block that is filled piece by piece, and what it is found to be.
use Rattle.std.proofs.Common.{◌≡◌, ◌≤◌, ◌+◌, ◌-◌, ◌∙◌, ℕ, List, [], ◌∷◌, ◌++◌, length, take, drop, Option, Some, None, refl, sym, ap, ap₂, arith}
use Rattle.std.specs.Prelude.{slice_range}
use Rattle.std.specs.Io.KnownBytes.{Consumes, IsAtEnd, Keeps, prepend_known}
use Rattle.std.proofs.KnownBytes.{Consumes-kept, Consumes-nil, Consumes-trans}
use Rattle.std.proofs.lemmas.List.{append_assoc, append-nil, drop-drop, drop-take, length-take, take-append-drop}
use Rattle.tall_scan.specs.declared.scanning.Scan.{Scan}
use Rattle.tall_scan.specs.declared.state.ScanState.{ScanState}
use Rattle.tall_scan.specs.declared.state.ScanState.TheVariants as s
use Rattle.tall_scan.proofs.Rows.{none-here}
use Rattle.tall_scan.specs.Rows.{Fields, delimited, NoneLeft, TakesMany, text_records}
use Rattle.tall_scan.specs.Scanning.{begun_in}
use Rattle.tall_scan.specs.Finding.{Adds, Scanned, records_of}
use Rattle.tall_scan.proofs.Scans.{after_join, after_none, ended_join, ended_none}
use Rattle.tall_scan.proofs.Following.{scan_counts, scan_cuts}

-- the rest of a range
range_split : (xs : List ℕ) (at filled n : ℕ) → n ≤ length (slice_range xs at filled) → at ≤ filled
    → slice_range xs at filled ≡ take n (slice_range xs at filled) ++ slice_range xs (at + n) filled
range_split xs at filled n h low =
    let size = length-take (filled - at) (drop at xs) in
    let width : n + (filled - at - n) ≡ filled - at = omega arith in
    let left : filled - at - n ≡ filled - (at + n) = omega arith in
    let rest : drop n (slice_range xs at filled) ≡ slice_range xs (at + n) filled =
    ap (λ k. drop n (take k (drop at xs))) (sym width) ∙ drop-take n (filled - at - n) (drop at xs) ∙ ap₂ take left (drop-drop n at xs) in
    sym (take-append-drop n (slice_range xs at filled)) ∙ ap (λ ys. take n (slice_range xs at filled) ++ ys) rest

-- bytes that were taken off the buffer
pub taken_left : (known : Option (List ℕ)) (xs : List ℕ) (at filled n : ℕ) → n ≤ length (slice_range xs at filled) → at ≤ filled
    → Consumes (prepend_known (slice_range xs at filled) known) (prepend_known (slice_range xs (at + n) filled) known) (take n (slice_range xs at filled))
taken_left None xs at filled n h low = tt
taken_left (Some ys) xs at filled n h low =
    ap (λ zs. zs ++ ys) (range_split xs at filled n h low) ∙ append_assoc (take n (slice_range xs at filled)) (slice_range xs (at + n) filled) ys

-- no byte so far
pub scanned_none : (d : ℕ) (known : Option (List ℕ)) → Scanned d [] known known s.Between 0
scanned_none d known = record { took = Consumes-nil known; stands = sym (after_none d s.Between); counts = sym (ended_none d s.Between) }

-- a piece more
pub scanned_more : (d : ℕ) (bytes more : List ℕ) (old mid new : Option (List ℕ)) (state : ScanState) (ended : ℕ) (scan : Scan) → Scanned d bytes old mid state ended
    → Adds d state bytes more mid new scan → Scanned d more old new scan.state (ended + scan.ended)
scanned_more d bytes more old mid new state ended scan h a = record {
  took = rw a.joins (Consumes-trans old mid new bytes a.piece h.took a.took);
  stands = rw (a.joins, after_join d s.Between bytes a.piece, ← h.stands) a.stands;
  counts = rw (a.joins, ended_join d s.Between bytes a.piece, ← h.stands, ← h.counts) (ap (λ n. ended + n) a.counts);
}

-- reading on changes nothing
pub scanned_kept : (d : ℕ) (bytes : List ℕ) (old mid new : Option (List ℕ)) (state : ScanState) (ended : ℕ) → Scanned d bytes old mid state ended → Keeps mid new → Scanned d bytes old new state ended
scanned_kept d bytes old mid new state ended h k = record { took = Consumes-kept old mid new bytes h.took k; stands = h.stands; counts = h.counts }

pub scanned_as : (d : ℕ) (bytes : List ℕ) (old new : Option (List ℕ)) (state state2 : ScanState) (n m : ℕ) → state ≡ state2 → n ≡ m → Scanned d bytes old new state n → Scanned d bytes old new state2 m
scanned_as d bytes old new state state2 n m e f h = record { took = h.took; stands = sym e ∙ h.stands; counts = sym f ∙ h.counts }

-- the block counts its records
pub scanned_count : (d : ℕ) (bytes : List ℕ) (old new : Option (List ℕ)) (state : ScanState) (ended : ℕ) → Scanned d bytes old new state ended
    → length (text_records d bytes) ≡ ended + begun_in state
scanned_count d bytes old new state ended h = rw (h.stands, h.counts) (scan_counts d bytes)

pub count_between : (d : ℕ) (bytes : List ℕ) (old new : Option (List ℕ)) (ended : ℕ) → Scanned d bytes old new s.Between ended → length (text_records d bytes) ≡ ended
count_between d bytes old new ended h = scanned_count d bytes old new s.Between ended h ∙ omega arith

-- the records of a block that stops between records are the first of those that were left
pub between_takes : (d : ℕ) (bytes : List ℕ) (old new : Option (List ℕ)) (ended : ℕ) → Scanned d bytes old new s.Between ended
    → TakesMany (records_of d old) (text_records d bytes) (records_of d new)
between_takes d bytes None new ended h = tt
between_takes d bytes (Some xs) None ended h = absurd h.took
between_takes d bytes (Some xs) (Some ys) ended h = ap (text_records d) h.took ∙ scan_cuts d bytes ys (sym h.stands)

pub no_records : (d : ℕ) → text_records d [] ≡ []
no_records d = none-here (delimited d) 1

-- and those of a block of all bytes are all
pub end_takes : (d : ℕ) (bytes : List ℕ) (old new : Option (List ℕ)) (state : ScanState) (ended : ℕ) → Scanned d bytes old new state ended → IsAtEnd new
    → TakesMany (records_of d old) (text_records d bytes) (records_of d new)
end_takes d bytes None new state ended h e = tt
end_takes d bytes (Some xs) None state ended h e = absurd h.took
end_takes d bytes (Some xs) (Some ys) state ended h e =
    let all : xs ≡ bytes = h.took ∙ rw e (append-nil bytes) in
    rw (e, all) (sym (append-nil (text_records d bytes)) ∙ ap (λ rows. text_records d bytes ++ rows) (sym (no_records d)))

no_record : (rows : List Fields) → length rows ≡ 0 → rows ≡ []
no_record [] e = refl
no_record (row ∷ rows) e = absurd (omega (arith, e))

-- bytes with no record, and none left: no record was left
pub none_found : (d : ℕ) (bytes : List ℕ) (old new : Option (List ℕ)) (state : ScanState) (ended : ℕ) → Scanned d bytes old new state ended → IsAtEnd new → ended + begun_in state ≡ 0
    → NoneLeft (records_of d old)
none_found d bytes None new state ended h e z = tt
none_found d bytes (Some xs) None state ended h e z = absurd h.took
none_found d bytes (Some xs) (Some ys) state ended h e z =
    let all : xs ≡ bytes = h.took ∙ rw e (append-nil bytes) in
    ap (text_records d) all ∙ no_record (text_records d bytes) (scanned_count d bytes (Some xs) (Some ys) state ended h ∙ z)
