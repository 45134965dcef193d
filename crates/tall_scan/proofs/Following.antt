-- The scan follows `csv`'s machine.
use Rattle.std.proofs.Common.{◌≡◌, ◌+◌, ◌∙◌, ℕ, List, [], ◌∷◌, ◌++◌, Bool, true, false, refl, sym, ap, ap₂, subst}
use Rattle.std.specs.Prelude.{◌==◌, ◌||◌, if◌then◌else◌}
use Rattle.csv.specs.Machine.{ends_at_end, is_end, next_record, step}
use Rattle.csv.specs.Reading.{records_next}
use Rattle.csv.specs.declared.parser.Action.{Action}
use Rattle.csv.specs.declared.parser.Action.TheVariants as act
use Rattle.csv.specs.declared.parser.State.{State}
use Rattle.csv.specs.declared.parser.State.TheVariants as st
use Rattle.tall_scan.specs.declared.state.ScanState.{ScanState}
use Rattle.tall_scan.specs.declared.state.ScanState.TheVariants as s
use Rattle.tall_scan.specs.Rows.{delimited, rows_from, text_records}
use Rattle.tall_scan.specs.Cutting.{ended_by, machine_after}
use Rattle.tall_scan.specs.Scanning.{begun_in, ends_record, is_between, is_line_end, move, scan_after, scan_ended, scan_step, unquoted}
use Rattle.tall_scan.specs.Laws.{ScanCounts, ScanCuts}
use Rattle.tall_scan.proofs.Cutting.{counts_ends, cuts_between, rows_are}

-- a state of the machine, as a scan sees it
abbrev Sees : State → ScanState → Type 0
Sees st.StartRecord a = a ≡ s.Between
Sees st.AfterCr a = a ≡ s.Between
Sees st.StartField a = a ≡ s.Quotable
Sees st.AfterQuote a = a ≡ s.Quotable
Sees st.InField a = a ≡ s.Unquoted
Sees st.InQuoted a = a ≡ s.Quoted
Sees st.InEscape a = ⊥
Sees st.InComment a = ⊥

abbrev one_if : Bool → ℕ
one_if b = if b then 1 else 0

-- what a byte does to the machine is what it does to a scan
abbrev Agrees : State × Action → ScanState → ScanState → Type 0
Agrees r before after = Sees r.0 after × (one_if (is_end r.1) ≡ ends_record before after)

abbrev plain_byte : Bool → Bool → Bool → State × Action
plain_byte cr lf d = if d then (st.StartField, act.EndField) else if cr || lf then ((if cr then st.AfterCr else st.StartRecord), act.EndRecord) else (st.InField, act.Copy)

agrees-plain : (a : ScanState) → is_between a ≡ false → (cr lf d : Bool) → Agrees (plain_byte cr lf d) a (unquoted (cr || lf) d)
agrees-plain s.Between e cr lf d = cc e
agrees-plain s.Quotable e cr lf true = (refl, refl)
agrees-plain s.Quotable e true lf false = (refl, refl)
agrees-plain s.Quotable e false true false = (refl, refl)
agrees-plain s.Quotable e false false false = (refl, refl)
agrees-plain s.Unquoted e cr lf true = (refl, refl)
agrees-plain s.Unquoted e true lf false = (refl, refl)
agrees-plain s.Unquoted e false true false = (refl, refl)
agrees-plain s.Unquoted e false false false = (refl, refl)
agrees-plain s.Quoted e cr lf true = (refl, refl)
agrees-plain s.Quoted e true lf false = (refl, refl)
agrees-plain s.Quoted e false true false = (refl, refl)
agrees-plain s.Quoted e false false false = (refl, refl)

abbrev first_byte : Bool → Bool → Bool → Bool → State × Action
first_byte cr lf q d = if cr || lf then (st.StartRecord, act.Skip) else if q then (st.InQuoted, act.Skip) else plain_byte cr lf d

agrees-first : (cr lf q d : Bool) → Agrees (first_byte cr lf q d) s.Between (move s.Between q (cr || lf) d)
agrees-first true lf q d = (refl, refl)
agrees-first false true q d = (refl, refl)
agrees-first false false true d = (refl, refl)
agrees-first false false false true = (refl, refl)
agrees-first false false false false = (refl, refl)

agrees-after_cr : (cr lf q d : Bool) → Agrees (if lf then (st.StartRecord, act.Skip) else first_byte cr lf q d) s.Between (move s.Between q (cr || lf) d)
agrees-after_cr true true q d = (refl, refl)
agrees-after_cr false true q d = (refl, refl)
agrees-after_cr cr false q d = agrees-first cr false q d

agrees-start : (q cr lf d : Bool) → Agrees (if q then (st.InQuoted, act.Skip) else plain_byte cr lf d) s.Quotable (move s.Quotable q (cr || lf) d)
agrees-start true cr lf d = (refl, refl)
agrees-start false cr lf d = agrees-plain s.Quotable refl cr lf d

agrees-behind : (q cr lf d : Bool) → Agrees (if q then (st.InQuoted, act.Copy) else plain_byte cr lf d) s.Quotable (move s.Quotable q (cr || lf) d)
agrees-behind true cr lf d = (refl, refl)
agrees-behind false cr lf d = agrees-plain s.Quotable refl cr lf d

agrees-quoted : (q line d : Bool) → Agrees (if q then (st.AfterQuote, act.Skip) else (st.InQuoted, act.Copy)) s.Quoted (move s.Quoted q line d)
agrees-quoted true line d = (refl, refl)
agrees-quoted false line d = (refl, refl)

follows : (d : ℕ) (r : State) (a : ScanState) (c : ℕ) → Sees r a → Agrees (step (delimited d) r c) a (scan_step d a c)
follows d st.StartRecord a c e = rw e (agrees-first (c == 13) (c == 10) (c == 34) (c == d))
follows d st.AfterCr a c e = rw e (agrees-after_cr (c == 13) (c == 10) (c == 34) (c == d))
follows d st.StartField a c e = rw e (agrees-start (c == 34) (c == 13) (c == 10) (c == d))
follows d st.AfterQuote a c e = rw e (agrees-behind (c == 34) (c == 13) (c == 10) (c == d))
follows d st.InField a c e = rw e (agrees-plain s.Unquoted refl (c == 13) (c == 10) (c == d))
follows d st.InQuoted a c e = rw e (agrees-quoted (c == 34) (is_line_end c) (c == d))
follows d st.InEscape a c e = absurd e
follows d st.InComment a c e = absurd e

along : (d : ℕ) (r : State) (a : ScanState) (xs : List ℕ) → Sees r a
    → Sees (machine_after (delimited d) r xs) (scan_after d a xs) × (ended_by (delimited d) r xs ≡ scan_ended d a xs)
unfolding machine_after ended_by scan_after scan_ended
along d r a [] e = (e, refl)
along d r a (c ∷ rest) e =
    let one = follows d r a c e in
    let more = along d (step (delimited d) r c).0 (scan_step d a c) rest one.0 in
    (more.0, ap₂ (λ x y. x + y) one.1 more.1)

-- between records the machine ends no record at the text's end
stands : (r : State) → Sees r s.Between → ends_at_end r ≡ false
stands st.StartRecord e = refl
stands st.AfterCr e = refl
stands st.StartField e = cc e
stands st.AfterQuote e = cc e
stands st.InField e = cc e
stands st.InQuoted e = cc e
stands st.InEscape e = absurd e
stands st.InComment e = absurd e

same-first : (cr lf : Bool) (x : State × Action) → (if lf then (st.StartRecord, act.Skip) else if cr || lf then (st.StartRecord, act.Skip) else x) ≡ (if cr || lf then (st.StartRecord, act.Skip) else x)
same-first true true x = refl
same-first false true x = refl
same-first cr false x = refl

-- after a carriage return the machine stands as at the front
after-cr : (d : ℕ) (ys : List ℕ) → next_record (delimited d) st.AfterCr [] [] ys ≡ next_record (delimited d) st.StartRecord [] [] ys
unfolding next_record
after-cr d [] = refl
after-cr d (c ∷ rest) =
    rw (same-first (c == 13) (c == 10) (if c == 34 then (st.InQuoted, act.Skip) else plain_byte (c == 13) (c == 10) (c == d))) refl

as-new : (d : ℕ) (r : State) (ys : List ℕ) → Sees r s.Between → rows_from (delimited d) r ys ≡ text_records d ys
as-new d st.StartRecord ys e = refl
as-new d st.AfterCr ys e =
    rows_are (delimited d) st.AfterCr ys ∙ ap (records_next (rows_from (delimited d))) (after-cr d ys) ∙ sym (rows_are (delimited d) st.StartRecord ys)
as-new d st.StartField ys e = cc e
as-new d st.AfterQuote ys e = cc e
as-new d st.InField ys e = cc e
as-new d st.InQuoted ys e = cc e
as-new d st.InEscape ys e = absurd e
as-new d st.InComment ys e = absurd e

pub scan_cuts : ScanCuts
scan_cuts d xs ys e =
    let seen = (along d st.StartRecord s.Between xs refl).0 in
    let here = subst (λ (a : ScanState). Sees (machine_after (delimited d) st.StartRecord xs) a) e seen in
    cuts_between (delimited d) st.StartRecord xs ys (stands _ here)
    ∙ ap (λ rows. text_records d xs ++ rows) (as-new d (machine_after (delimited d) st.StartRecord xs) ys here)

begun : (r : State) (a : ScanState) → Sees r a → one_if (ends_at_end r) ≡ begun_in a
begun st.StartRecord a e = rw e refl
begun st.AfterCr a e = rw e refl
begun st.StartField a e = rw e refl
begun st.AfterQuote a e = rw e refl
begun st.InField a e = rw e refl
begun st.InQuoted a e = rw e refl
begun st.InEscape a e = absurd e
begun st.InComment a e = absurd e

pub scan_counts : ScanCounts
scan_counts d xs =
    let seen = along d st.StartRecord s.Between xs refl in
    counts_ends (delimited d) st.StartRecord xs ∙ ap₂ (λ x y. x + y) seen.1 (begun _ _ seen.0)
