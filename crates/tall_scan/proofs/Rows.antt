-- How a read of one record shortens the list of those that are left.
use Rattle.std.proofs.Common.{◌≡◌, ◌<◌, ◌+◌, ◌∙◌, add-one, ℕ, zero, suc, List, [], ◌∷◌, ◌++◌, length, Option, Some, None, Bool, true, false, refl, sym, ap, subst, arith, inl, inr}
use Rattle.std.specs.Prelude.{◌⊎◌, option_map, if◌then◌else◌, ◌||◌}
use Rattle.std.proofs.lemmas.List.{append_assoc}
use Rattle.std.specs.Option.{is_none}
use Rattle.csv.specs.Machine.{Read, ends_at_end, field_after, fields_after, is_end, next_record, step}
use Rattle.csv.specs.declared.parser.Config.{Config}
use Rattle.csv.specs.declared.parser.State.{State}
use Rattle.csv.specs.declared.parser.State.TheVariants as st
use Rattle.csv.specs.declared.reader.Reader.{Reader}
use Rattle.csv.specs.Reading.{NextIs, ReadRecord, ReadsNext, Ready, pending_of, reader_config, reader_headers, reader_state, took_first, records_from, records_next, source_of, strip_bom}
use Rattle.tall_scan.specs.Rows.{Fields, IsCutting, NoneLeft, Takes, TakesMany, delimited, file_records, records_left, rows_from}

-- a record leaves fewer bytes, or the start of nothing
abbrev Shorter : Read → ℕ → Type 0
Shorter p n = (length p.2 < n) ⊎ ((p.1 ≡ st.StartRecord) × (p.2 ≡ []))

-- what a choice between two reads gave
choose : (b : Bool) (x y : Option Read) (p : Read) → (if b then x else y) ≡ Some p → ((b ≡ true) × (x ≡ Some p)) ⊎ ((b ≡ false) × (y ≡ Some p))
choose true x y p e = inl (refl, e)
choose false x y p e = inr (refl, e)

value-or : Read → Option Read → Read
value-or d None = d
value-or d (Some p) = p

some-same : (p q : Read) → Some p ≡ Some q → p ≡ q
unfolding value-or
some-same p q e = ap (value-or p) e

shorter-cons : (n : ℕ) (p : Read) → Shorter p n → Shorter p (suc n)
shorter-cons n p (inl h) = inl (omega arith)
shorter-cons n p (inr h) = inr h

shorter : (cfg : Config) (s : State) (fields : Fields) (field xs : List ℕ) (p : Read) → next_record cfg s fields field xs ≡ Some p → Shorter p (length xs)
unfolding next_record
shorter cfg s fields field [] p e =
    elim (choose (ends_at_end s) (Some (fields ++ (field ∷ []), st.StartRecord, [])) None p e) [
      | inl h ↦ (let q = some-same _ p h.1 in inr (sym (ap (λ (r : Read). r.1) q), sym (ap (λ (r : Read). r.2) q)))
      | inr h ↦ cc h.1
    ]
shorter cfg s fields field (c ∷ rest) p e =
    elim (choose (is_end (step cfg s c).1) (Some (fields_after (step cfg s c).1 fields field, (step cfg s c).0, rest)) (next_record cfg (step cfg s c).0 (fields_after (step cfg s c).1 fields field) (field_after (step cfg s c).1 c field) rest) p e) [
      | inl h ↦ (let q = some-same _ p h.1 in let l : length p.2 ≡ length rest = sym (ap (λ (r : Read). length r.2) q) in inl (omega arith))
      | inr h ↦ shorter-cons (length rest) p (shorter cfg (step cfg s c).0 (fields_after (step cfg s c).1 fields field) (field_after (step cfg s c).1 c field) rest p h.1)
    ]

-- nothing starts at the end of a text
pub none-here : (cfg : Config) (n : ℕ) → records_from cfg n st.StartRecord [] ≡ []
unfolding records_from next_record
none-here cfg zero = refl
none-here cfg (suc n) = refl

-- more turns than bytes give no more records
enough : (cfg : Config) (n m : ℕ) (s : State) (xs : List ℕ) → length xs < n → length xs < m → records_from cfg n s xs ≡ records_from cfg m s xs
unfolding records_from
enough cfg zero m s xs a b = absurd (omega arith)
enough cfg (suc n) zero s xs a b = absurd (omega arith)
enough cfg (suc n) (suc m) s xs a b = by (next_record cfg s [] [] xs) (shorter cfg s [] [] xs) (enough cfg n m)
  where
    by : (o : Option Read) → ((p : Read) → o ≡ Some p → Shorter p (length xs))
        → ((s2 : State) (ys : List ℕ) → length ys < n → length ys < m → records_from cfg n s2 ys ≡ records_from cfg m s2 ys)
        → records_next (records_from cfg n) o ≡ records_next (records_from cfg m) o
    by None h more = refl
    by (Some p) h more = elim (h p refl) [
      | inl l ↦ ap (λ rows. p.0 ∷ rows) (more p.1 p.2 (omega arith) (omega arith))
      | inr e ↦ rw (e.0, e.1, none-here cfg n, none-here cfg m) refl
    ]

-- one turn, and the turns after it
one-turn : (cfg : Config) (s : State) (xs : List ℕ) (p : Read) (n : ℕ) → next_record cfg s [] [] xs ≡ Some p → records_from cfg (n + 1) s xs ≡ p.0 ∷ records_from cfg n p.1 p.2
unfolding records_from
one-turn cfg s xs p n e = rw (add-one, e) refl

-- the first record and those after it
pub rows-first : (cfg : Config) (s : State) (xs : List ℕ) (p : Read) → next_record cfg s [] [] xs ≡ Some p → rows_from cfg s xs ≡ p.0 ∷ rows_from cfg p.1 p.2
rows-first cfg s xs p e = one-turn cfg s xs p (length xs) e ∙ by (shorter cfg s [] [] xs p e)
  where
    by : Shorter p (length xs) → p.0 ∷ records_from cfg (length xs) p.1 p.2 ≡ p.0 ∷ rows_from cfg p.1 p.2
    by (inl l) = ap (λ rows. p.0 ∷ rows) (enough cfg (length xs) (length p.2 + 1) p.1 p.2 l (omega arith))
    by (inr h) = rw (h.0, h.1, none-here cfg (length xs), none-here cfg 1) refl

-- no first record, no record
pub rows-none : (cfg : Config) (s : State) (xs : List ℕ) → next_record cfg s [] [] xs ≡ None → rows_from cfg s xs ≡ []
unfolding records_from
rows-none cfg s xs e = rw (add-one, e) refl

-- the records from a state, where the bytes are known
abbrev from_known : Config → State → Option (List ℕ) → Option (List Fields)
from_known cfg s known = option_map (λ xs. rows_from cfg s xs) known

takes-next : (cfg : Config) (s s2 : State) (xs ys : List ℕ) (o : Option Read) (f : Fields) → next_record cfg s [] [] xs ≡ o → NextIs o true f s2 ys
    → Takes (Some (rows_from cfg s xs)) f (Some (rows_from cfg s2 ys))
takes-next cfg s s2 xs ys None f e n = cc n
takes-next cfg s s2 xs ys (Some p) f e n = rw (rows-first cfg s xs p e) (n.1, rw (n.2, n.3) refl)

takes-known : (cfg : Config) (s s2 : State) (a b : Option (List ℕ)) (f : Fields) → ReadsNext cfg s a b true f s2 → Takes (from_known cfg s a) f (from_known cfg s2 b)
takes-known cfg s s2 None b f r = tt
takes-known cfg s s2 (Some xs) None f r = absurd r
takes-known cfg s s2 (Some xs) (Some ys) f r = takes-next cfg s s2 xs ys (next_record cfg s [] [] xs) f refl r

ends-known : (cfg : Config) (s s2 : State) (a b : Option (List ℕ)) (f : Fields) → ReadsNext cfg s a b false f s2 → NoneLeft (from_known cfg s a)
ends-known cfg s s2 None b f r = tt
ends-known cfg s s2 (Some xs) None f r = absurd r
ends-known cfg s s2 (Some xs) (Some ys) f r = by (next_record cfg s [] [] xs) refl r
  where
    by : (o : Option Read) → next_record cfg s [] [] xs ≡ o → NextIs o false f s2 ys → rows_from cfg s xs ≡ []
    by None e n = rows-none cfg s xs e
    by (Some p) e n = cc n.0

-- after a read the mark was looked for, so what is left is what stands in the buffer and under it
source-checked : {R : Type 0} (rem : R → Option (List ℕ)) (s : Reader R) → s.bom_checked ≡ true → source_of rem s ≡ pending_of (rem s.rdr) s
source-checked rem s e = rw e refl

known-eq : (cfg cfg2 : Config) (s : State) (a b : Option (List ℕ)) → cfg2 ≡ cfg → b ≡ a → from_known cfg s a ≡ from_known cfg2 s b
known-eq cfg cfg2 s a b e f = rw (e, f) refl

takes-eq : (old new new2 : Option (List Fields)) (f : Fields) → new ≡ new2 → Takes old f new → Takes old f new2
takes-eq old new new2 f e h = subst (λ (o : Option (List Fields)). Takes old f o) e h

-- a read that found a record took the first of those that were left
pub read_takes : {R : Type 0} (rem : R → Option (List ℕ)) (old new : Reader R) (f : Fields) → ReadRecord rem old new true f → Takes (records_left rem old) f (records_left rem new)
read_takes rem old new f r =
    takes-eq _ _ _ f (known-eq (reader_config old) (reader_config new) (reader_state new) (pending_of (rem new.rdr) new) (source_of rem new) r.2 (source-checked rem new r.1))
    (takes-known (reader_config old) (reader_state old) (reader_state new) (source_of rem old) (pending_of (rem new.rdr) new) f r.0)

-- a read that found no record leaves none
pub read_ends : {R : Type 0} (rem : R → Option (List ℕ)) (old new : Reader R) (f : Fields) → ReadRecord rem old new false f → NoneLeft (records_left rem old)
read_ends rem old new f r = ends-known (reader_config old) (reader_state old) (reader_state new) (source_of rem old) (pending_of (rem new.rdr) new) f r.0

-- a reader that cuts is ready for the next record
cutting-first : (b c : Bool) → (b || c) ≡ true → (b ≡ true) ⊎ (c ≡ true)
cutting-first true c e = inl refl
cutting-first false c e = inr e

none-of : {A : Type 0} (o : Option A) → is_none o ≡ true → o ≡ None
none-of None e = refl
none-of (Some x) e = cc e

pub cutting_ready : {R : Type 0} (r : Reader R) → IsCutting r → Ready r
cutting_ready r h = elim (cutting-first (took_first r) (is_none (reader_headers r)) h.3) [
  | inl a ↦ inl a
  | inr b ↦ inr (inr (h.2, none-of _ b))
]

-- one record after those that were taken
pub many_rows : (start before after : Option (List Fields)) (taken : List Fields) (f : Fields) → TakesMany start taken before → Takes before f after → TakesMany start (taken ++ (f ∷ [])) after
many_rows None before after taken f m t = tt
many_rows (Some all) None after taken f m t = absurd m
many_rows (Some all) (Some []) after taken f m t = absurd t
many_rows (Some all) (Some (row ∷ rows)) after taken f m t = rw t.1 (m ∙ rw (t.0, append_assoc taken (row ∷ []) rows) refl)

-- none was taken
pub many_start : (start : Option (List Fields)) → TakesMany start [] start
many_start None = tt
many_start (Some all) = refl

-- all were taken
pub many_end : (start before : Option (List Fields)) (taken : List Fields) → TakesMany start taken before → NoneLeft before → TakesMany start taken (Some [])
many_end None before taken m n = tt
many_end (Some all) None taken m n = absurd m
many_end (Some all) (Some rows) taken m n = rw n at m

-- none was taken, and none was left
pub none_taken : (start before : Option (List Fields)) → TakesMany start [] before → NoneLeft before → NoneLeft start
none_taken None before m n = tt
none_taken (Some all) None m n = absurd m
none_taken (Some all) (Some rows) m n = m ∙ n

-- a new reader has all records of what stands under it
pub fresh_left : {R : Type 0} (rem : R → Option (List ℕ)) (r : Reader R) (delimiter : ℕ) (known : Option (List ℕ)) → reader_config r ≡ delimited delimiter → reader_state r ≡ st.StartRecord
    → source_of rem r ≡ option_map strip_bom known → records_left rem r ≡ option_map (file_records delimiter) known
fresh_left rem r delimiter None c s e = rw e refl
fresh_left rem r delimiter (Some xs) c s e = rw (e, c, s) refl
