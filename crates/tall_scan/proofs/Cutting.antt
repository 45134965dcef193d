-- A text cut between records, and how many records it has, by induction over `csv`'s machine.
use Rattle.std.proofs.Common.{◌≡◌, ◌+◌, ◌∙◌, ℕ, List, [], ◌∷◌, ◌++◌, length, Option, Some, None, Bool, true, false, refl, sym, ap, arith, suc}
use Rattle.std.specs.Prelude.{◌==◌, ◌&&◌, ◌||◌, not, if◌then◌else◌}
use Rattle.std.proofs.lemmas.Bool.{false≢true}
use Rattle.csv.specs.Machine.{Read, after_end, ends_at_end, ends_with, field_after, fields_after, in_field, is_byte, is_end, next_record, start_record, step}
use Rattle.csv.specs.Reading.{records_next}
use Rattle.csv.specs.declared.parser.Action.{Action}
use Rattle.csv.specs.declared.parser.Action.TheVariants as act
use Rattle.csv.specs.declared.parser.Config.{Config}
use Rattle.csv.specs.declared.parser.State.{State}
use Rattle.csv.specs.declared.parser.State.TheVariants as st
use Rattle.tall_scan.specs.Rows.{Fields, rows_from}
use Rattle.tall_scan.specs.Cutting.{ended_by, machine_after}
use Rattle.tall_scan.specs.Laws.{CountsEnds, CutsBetween}
use Rattle.tall_scan.proofs.Rows.{rows-first, rows-none}

-- what holds of both values holds of a choice
if_both : (P : State × Action → Type 0) (b : Bool) (x y : State × Action) → P x → P y → P (if b then x else y)
if_both P true x y p q = p
if_both P false x y p q = q

-- no field is at hand
abbrev idle : State → Bool
idle st.StartRecord = true
idle st.AfterCr = true
idle st.InComment = true
idle st.StartField = false
idle st.InField = false
idle st.InQuoted = false
idle st.AfterQuote = false
idle st.InEscape = false

abbrev is_skip : Action → Bool
is_skip act.Skip = true
is_skip act.Copy = false
is_skip act.EndField = false
is_skip act.EndRecord = false

-- a byte ends a record or leaves a field at hand
abbrev Busy : State × Action → Type 0
Busy r = (is_end r.1 || not (idle r.0)) ≡ true

-- or does nothing
abbrev Calm : State × Action → Type 0
Calm r = ((is_end r.1 || not (idle r.0)) || is_skip r.1) ≡ true

busy-in_field : (cfg : Config) (c : ℕ) → Busy (in_field cfg c)
busy-in_field cfg c = if_both Busy (c == cfg.delimiter) _ _ refl (if_both Busy (ends_with cfg.terminator c) (after_end cfg.terminator c, act.EndRecord) (st.InField, act.Copy) refl refl)

or-more : (a b : Bool) → a ≡ true → (a || b) ≡ true
or-more true b e = refl
or-more false b e = cc e

calm-busy : (r : State × Action) → Busy r → Calm r
calm-busy r h = or-more (is_end r.1 || not (idle r.0)) (is_skip r.1) h

calm-start_record : (cfg : Config) (c : ℕ) → Calm (start_record cfg c)
calm-start_record cfg c =
    if_both Calm (ends_with cfg.terminator c) (st.StartRecord, act.Skip) _ refl
    (if_both Calm (is_byte cfg.comment c) (st.InComment, act.Skip) _ refl
    (if_both Calm (cfg.quoting && (c == cfg.quote)) (st.InQuoted, act.Skip) _ refl (calm-busy (in_field cfg c) (busy-in_field cfg c))))

-- from a state with a field at hand
busy-step : (cfg : Config) (s : State) (c : ℕ) → idle s ≡ false → Busy (step cfg s c)
busy-step cfg st.StartRecord c e = cc e
busy-step cfg st.AfterCr c e = cc e
busy-step cfg st.InComment c e = cc e
busy-step cfg st.StartField c e = if_both Busy (cfg.quoting && (c == cfg.quote)) (st.InQuoted, act.Skip) _ refl (busy-in_field cfg c)
busy-step cfg st.InField c e = busy-in_field cfg c
busy-step cfg st.InQuoted c e =
    if_both Busy (cfg.quoting && (c == cfg.quote)) (st.AfterQuote, act.Skip) _ refl
    (if_both Busy (cfg.quoting && is_byte cfg.escape c) (st.InEscape, act.Skip) (st.InQuoted, act.Copy) refl refl)
busy-step cfg st.AfterQuote c e = if_both Busy ((cfg.quoting && cfg.double_quote) && (c == cfg.quote)) (st.InQuoted, act.Copy) _ refl (busy-in_field cfg c)
busy-step cfg st.InEscape c e = refl

-- from a state with none
calm-step : (cfg : Config) (s : State) (c : ℕ) → idle s ≡ true → Calm (step cfg s c)
calm-step cfg st.StartRecord c e = calm-start_record cfg c
calm-step cfg st.AfterCr c e = if_both Calm (c == 10) (st.StartRecord, act.Skip) _ refl (calm-start_record cfg c)
calm-step cfg st.InComment c e = if_both Calm (c == 10) (st.StartRecord, act.Skip) (st.InComment, act.Skip) refl refl
calm-step cfg st.StartField c e = cc e
calm-step cfg st.InField c e = cc e
calm-step cfg st.InQuoted c e = cc e
calm-step cfg st.AfterQuote c e = cc e
calm-step cfg st.InEscape c e = absurd (false≢true e)

-- what is at hand in a state with no field: nothing
abbrev Nothing : State → Fields → List ℕ → Type 0
Nothing s fields field = idle s ≡ true → (fields ≡ []) × (field ≡ [])

skipped : (a : Action) (i : Bool) (c : ℕ) (fields : Fields) (field : List ℕ) → is_end a ≡ false → i ≡ true → ((is_end a || not i) || is_skip a) ≡ true
    → (fields ≡ []) × (field ≡ []) → (fields_after a fields field ≡ []) × (field_after a c field ≡ [])
skipped act.Skip i c fields field e t h n = n
skipped act.Copy i c fields field e t h n = cc (rw t at h)
skipped act.EndField i c fields field e t h n = cc (rw t at h)
skipped act.EndRecord i c fields field e t h n = cc e

busy-false : (a : Action) (i : Bool) → is_end a ≡ false → i ≡ true → (is_end a || not i) ≡ true → true ≡ false
busy-false act.Skip i e t h = sym (rw t at h)
busy-false act.Copy i e t h = sym (rw t at h)
busy-false act.EndField i e t h = sym (rw t at h)
busy-false act.EndRecord i e t h = e

nothing-step : (cfg : Config) (s : State) (c : ℕ) (fields : Fields) (field : List ℕ) → Nothing s fields field → is_end (step cfg s c).1 ≡ false
    → Nothing (step cfg s c).0 (fields_after (step cfg s c).1 fields field) (field_after (step cfg s c).1 c field)
nothing-step cfg s c fields field n e = λ t. by (idle s) refl t
  where
    by : (b : Bool) → idle s ≡ b → idle (step cfg s c).0 ≡ true → (fields_after (step cfg s c).1 fields field ≡ []) × (field_after (step cfg s c).1 c field ≡ [])
    by true b t = skipped (step cfg s c).1 (idle (step cfg s c).0) c fields field e t (calm-step cfg s c b) (n b)
    by false b t = absurd (let no : true ≡ false = busy-false (step cfg s c).1 (idle (step cfg s c).0) e t (busy-step cfg s c b) in cc no)

-- the records from a state with fields at hand
abbrev pub rows_with : Config → State → Fields → List ℕ → List ℕ → List Fields
rows_with cfg s fields field xs = records_next (rows_from cfg) (next_record cfg s fields field xs)

pub rows_are : (cfg : Config) (s : State) (xs : List ℕ) → rows_from cfg s xs ≡ rows_with cfg s [] [] xs
rows_are cfg s xs = by (next_record cfg s [] [] xs) refl
  where
    by : (o : Option Read) → next_record cfg s [] [] xs ≡ o → rows_from cfg s xs ≡ records_next (rows_from cfg) o
    by None e = rows-none cfg s xs e
    by (Some p) e = rows-first cfg s xs p e

-- a state between records has no field at hand
between-idle : (s : State) → ends_at_end s ≡ false → idle s ≡ true
between-idle st.StartRecord e = refl
between-idle st.AfterCr e = refl
between-idle st.StartField e = cc e
between-idle st.InField e = cc e
between-idle st.InQuoted e = cc e
between-idle st.AfterQuote e = cc e
between-idle st.InEscape e = cc e
between-idle st.InComment e = absurd (false≢true (sym e))

with-end : (cfg : Config) (s : State) (fields : Fields) (field : List ℕ) → ends_at_end s ≡ false → rows_with cfg s fields field [] ≡ []
unfolding next_record
with-end cfg s fields field e = rw e refl

-- one byte
with-step : (cfg : Config) (s : State) (fields : Fields) (field : List ℕ) (c : ℕ) (xs : List ℕ)
    → rows_with cfg s fields field (c ∷ xs) ≡ (if is_end (step cfg s c).1 then fields_after (step cfg s c).1 fields field ∷ rows_from cfg (step cfg s c).0 xs
    else rows_with cfg (step cfg s c).0 (fields_after (step cfg s c).1 fields field) (field_after (step cfg s c).1 c field) xs)
unfolding next_record
with-step cfg s fields field c xs = by (is_end (step cfg s c).1) (fields_after (step cfg s c).1 fields field, (step cfg s c).0, xs)
    (next_record cfg (step cfg s c).0 (fields_after (step cfg s c).1 fields field) (field_after (step cfg s c).1 c field) xs)
  where
    by : (b : Bool) (p : Read) (o : Option Read) → records_next (rows_from cfg) (if b then Some p else o) ≡ (if b then p.0 ∷ rows_from cfg p.1 p.2 else records_next (rows_from cfg) o)
    by true p o = refl
    by false p o = refl

cut_with : (cfg : Config) (s : State) (fields : Fields) (field xs ys : List ℕ) → Nothing s fields field → ends_at_end (machine_after cfg s xs) ≡ false
    → rows_with cfg s fields field (xs ++ ys) ≡ rows_with cfg s fields field xs ++ rows_from cfg (machine_after cfg s xs) ys
unfolding machine_after
cut_with cfg s fields field [] ys n e =
    let none = n (between-idle s e) in
    rw (none.0, none.1, with-end cfg s [] [] e) (sym (rows_are cfg s ys))
cut_with cfg s fields field (c ∷ xs) ys n e =
    by (is_end (step cfg s c).1) refl (cut_with cfg (step cfg s c).0 [] [] xs ys (λ _. (refl, refl)) e)
    (λ t. cut_with cfg (step cfg s c).0 (fields_after (step cfg s c).1 fields field) (field_after (step cfg s c).1 c field) xs ys (nothing-step cfg s c fields field n t) e)
  where
    by : (b : Bool) → is_end (step cfg s c).1 ≡ b
        → rows_with cfg (step cfg s c).0 [] [] (xs ++ ys) ≡ rows_with cfg (step cfg s c).0 [] [] xs ++ rows_from cfg (machine_after cfg (step cfg s c).0 xs) ys
        → (is_end (step cfg s c).1 ≡ false → rows_with cfg (step cfg s c).0 (fields_after (step cfg s c).1 fields field) (field_after (step cfg s c).1 c field) (xs ++ ys)
        ≡ rows_with cfg (step cfg s c).0 (fields_after (step cfg s c).1 fields field) (field_after (step cfg s c).1 c field) xs ++ rows_from cfg (machine_after cfg (step cfg s c).0 xs) ys)
        → rows_with cfg s fields field (c ∷ (xs ++ ys)) ≡ rows_with cfg s fields field (c ∷ xs) ++ rows_from cfg (machine_after cfg (step cfg s c).0 xs) ys
    by true t fresh more = rw (with-step cfg s fields field c (xs ++ ys), with-step cfg s fields field c xs, t)
        (ap (λ rows. fields_after (step cfg s c).1 fields field ∷ rows)
        (rows_are cfg (step cfg s c).0 (xs ++ ys) ∙ fresh
        ∙ ap (λ rows. rows ++ rows_from cfg (machine_after cfg (step cfg s c).0 xs) ys) (sym (rows_are cfg (step cfg s c).0 xs))))
    by false t fresh more = rw (with-step cfg s fields field c (xs ++ ys), with-step cfg s fields field c xs, t) (more t)

pub cuts_between : CutsBetween
cuts_between cfg s xs ys e =
    rows_are cfg s (xs ++ ys) ∙ cut_with cfg s [] [] xs ys (λ _. (refl, refl)) e
    ∙ ap (λ rows. rows ++ rows_from cfg (machine_after cfg s xs) ys) (sym (rows_are cfg s xs))

one_more : (l m e b : ℕ) → l ≡ m → m ≡ e + b → suc l ≡ 1 + e + b
one_more l m e b h k = omega arith

none_more : (l e b : ℕ) → l ≡ e + b → l ≡ 0 + e + b
none_more l e b h = omega arith

count_with : (cfg : Config) (s : State) (fields : Fields) (field xs : List ℕ)
    → length (rows_with cfg s fields field xs) ≡ ended_by cfg s xs + (if ends_at_end (machine_after cfg s xs) then 1 else 0)
unfolding machine_after ended_by next_record
count_with cfg s fields field [] = by (ends_at_end s) (fields ++ field ∷ [])
  where
    by : (b : Bool) (f : Fields) → length (records_next (rows_from cfg) (if b then Some (f, st.StartRecord, []) else None)) ≡ 0 + (if b then 1 else 0)
    by true f = rw (rows-none cfg st.StartRecord [] refl) refl
    by false f = refl
count_with cfg s fields field (c ∷ xs) =
    by (is_end (step cfg s c).1) refl (count_with cfg (step cfg s c).0 [] [] xs) (count_with cfg (step cfg s c).0 (fields_after (step cfg s c).1 fields field) (field_after (step cfg s c).1 c field) xs)
  where
    by : (b : Bool) → is_end (step cfg s c).1 ≡ b
        → length (rows_with cfg (step cfg s c).0 [] [] xs) ≡ ended_by cfg (step cfg s c).0 xs + (if ends_at_end (machine_after cfg (step cfg s c).0 xs) then 1 else 0)
        → length (rows_with cfg (step cfg s c).0 (fields_after (step cfg s c).1 fields field) (field_after (step cfg s c).1 c field) xs)
        ≡ ended_by cfg (step cfg s c).0 xs + (if ends_at_end (machine_after cfg (step cfg s c).0 xs) then 1 else 0)
        → length (rows_with cfg s fields field (c ∷ xs)) ≡ (if is_end (step cfg s c).1 then 1 else 0) + ended_by cfg (step cfg s c).0 xs + (if ends_at_end (machine_after cfg (step cfg s c).0 xs) then 1 else 0)
    by true t fresh more = rw (with-step cfg s fields field c xs, t)
        (one_more _ _ _ _ (ap length (rows_are cfg (step cfg s c).0 xs)) fresh)
    by false t fresh more = rw (with-step cfg s fields field c xs, t) (none_more _ _ _ more)

pub counts_ends : CountsEnds
counts_ends cfg s xs = ap length (rows_are cfg s xs) ∙ count_with cfg s [] [] xs
