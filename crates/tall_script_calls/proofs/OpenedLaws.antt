-- What an opening of a datastore allows and opens, and what its fault blames.
use Rattle.std.proofs.Common.{◌≡◌, ◌∙◌, ◌++◌, ◌∷◌, [], ◌+◌, ◌<◌, ◌≤◌, ◌^◌, ℕ, List, length, Option, Some, None, refl, sym, ap, subst, inl, inr, arith}
use Rattle.std.specs.Prelude.{◌≢◌, ◌&&◌, Bool, true, false, if◌then◌else◌, Result, Ok, Err, IfSome, IsSomeAnd}
use Rattle.std.specs.Bool.{Decides}
use Rattle.std.specs.Str.{bytes_eq}
use Rattle.std.proofs.lemmas.List.Sums.{sum_by-append}
use Rattle.std.proofs.lemmas.Map.Made.{is_member-Decides}
use Rattle.std.proofs.lemmas.Slice.Eq.{bytes_eq-Decides}
use Rattle.tall_value.specs.Names.{are_distinct}
use Rattle.tall_outside.specs.declared.shelf.Shelf as shelf
use Rattle.tall_outside.specs.Shelf.{Files, file_in, openings_of}
use Rattle.tall_outside.specs.OpenedNames.{Adds, OpensOnce}
use Rattle.tall_cut.specs.Rows.{Fields, file_records}
use Rattle.tall_store.specs.Choices.{chosen_formats, chosen_places}
use Rattle.tall_store.specs.FileEnds.{IsTooLong}
use Rattle.tall_store.specs.Names.{variable_names}
use Rattle.tall_store.specs.Opening.{first_fields, first_name, opened_file, opened_first, opened_records, opened_store, opening}
use Rattle.tall_store.specs.Options.{SeenOptions, is_absent_or, is_accepted, is_choice, is_delimiter, is_nonempty, is_size}
use Rattle.tall_store.specs.Stores.{SeenStore}
use Rattle.tall_store.specs.declared.format.Format.{Format}
use Rattle.tall_store.specs.declared.faults.StoreFault.{StoreFault}
use Rattle.tall_store.specs.declared.faults.StoreFault.TheVariants as store_fault
use Rattle.tall_local.specs.Refusals.{Refusal}
use Rattle.tall_script.specs.States.{times_allowed}
use Rattle.tall_sources.specs.Opened.{FirstIsWithin, OpensTo, first_given, openings_due, refused_opening, store_due, unnamed}
use Rattle.tall_sources.specs.declared.opening.OpenFault.{OpenFault}
use Rattle.tall_sources.specs.declared.opening.OpenFault.TheVariants as fault
use Rattle.tall_environment.specs.Failures.{Blames, IsOpened}
use Rattle.tall_environment.specs.Moves.{OpensMore, OpensWithin}
use Rattle.tall_script_calls.specs.Making.{failing}
use Rattle.tall_script_calls.specs.Openings.{IsOpening}

-- ---- names that were opened

openings_both : (name : List ℕ) (xs ys : List (List ℕ)) → openings_of name (xs ++ ys) ≡ openings_of name xs + openings_of name ys
openings_both name xs ys = sum_by-append (λ opened. if bytes_eq opened name then 1 else 0) xs ys

once_is : (name : List ℕ) → bytes_eq name name ≡ true
once_is name = (bytes_eq-Decides name name).1 refl

opened_once : (name : List ℕ) → openings_of name (name ∷ []) ≡ 1
opened_once name = ap (λ b. 0 + (if b then 1 else 0)) (once_is name)

at_least : (n : ℕ) → n ≤ n
at_least n = omega arith

-- the first file is allowed once, and no other is opened
one_allowed : (first name : List ℕ) → openings_of name (first ∷ []) ≤ times_allowed name (record { files = first ∷ []; times = 1 } ∷ [])
one_allowed first name = by (bytes_eq first name) (bytes_eq-Decides first name) where
  here : times_allowed first (record { files = first ∷ []; times = 1 } ∷ []) ≡ 1
  here = ap (λ b. (if b then 1 else 0) + 0) ((is_member-Decides bytes_eq-Decides (first ∷ []) first).1 (0, omega arith, refl))

  same : openings_of first (first ∷ []) ≤ times_allowed first (record { files = first ∷ []; times = 1 } ∷ [])
  same = omega (arith, here, opened_once first)

  by : (b : Bool) → Decides b (first ≡ name) → 0 + (if b then 1 else 0) ≤ times_allowed name (record { files = first ∷ []; times = 1 } ∷ [])
  by true d = subst (λ m. 0 + 1 ≤ times_allowed m (record { files = first ∷ []; times = 1 } ∷ [])) (d.0 refl) (omega (arith, here))
  by false d = omega arith

pub grows_once : (name : List ℕ) (before now : Option (List (List ℕ))) → OpensOnce name before now → OpensMore before now
grows_once name before now once names told = by now (subst (λ b. OpensOnce name b now) told once) where
  by : (now : Option (List (List ℕ))) → OpensOnce name (Some names) now → (all : List (List ℕ)) × (now ≡ Some all) × ((file : List ℕ) → openings_of file names ≤ openings_of file all)
  by None (inl h) = absurd h
  by None (inr h) = absurd h
  by (Some all) (inl h) = (all, refl, λ file. let e : openings_of file all ≡ openings_of file names + openings_of file [] = ap (openings_of file) h ∙ openings_both file names [] in omega (arith, e))
  by (Some all) (inr h) = (all, refl, λ file. let e : openings_of file all ≡ openings_of file names + openings_of file (name ∷ []) = ap (openings_of file) h ∙ openings_both file names (name ∷ []) in omega (arith, e))

added : (more names all : List (List ℕ)) (before now : Option (List (List ℕ))) → before ≡ Some names → now ≡ Some all → Adds more before now → all ≡ names ++ more
added more names all before now told end h = subst (λ n. Adds more (Some names) n) end (subst (λ b. Adds more b now) told h)

same_names : (names all : List (List ℕ)) (before now : Option (List (List ℕ))) → before ≡ Some names → now ≡ Some all → now ≡ before → names ≡ all
same_names names all before now told end e = inside (sym told ∙ (sym e ∙ end)) where
  inside : Some names ≡ Some all → names ≡ all
  inside e = cc

-- by what was accepted
within_by : (b : Bool) (first : List ℕ) (before now : Option (List (List ℕ))) → (b ≡ false → now ≡ before) → OpensOnce first before now
    → OpensWithin (if b then record { files = first ∷ []; times = 1 } ∷ [] else []) before now
within_by false first before now same once names all told end name =
    subst (λ ns. openings_of name ns ≤ openings_of name names + 0) (same_names names all before now told end (same refl)) (omega arith)
within_by true first before now same (inl h) names all told end name =
    let e : openings_of name all ≡ openings_of name names + openings_of name [] = ap (openings_of name) (added [] names all before now told end h) ∙ openings_both name names [] in
    omega (arith, e)
within_by true first before now same (inr h) names all told end name =
    let e : openings_of name all ≡ openings_of name names + openings_of name (first ∷ []) = ap (openings_of name) (added (first ∷ []) names all before now told end h) ∙ openings_both name names (first ∷ []) in
    let one = one_allowed first name in
    omega (arith, e, one)

-- ---- files of the datastore that is made

both_true : (a b : Bool) → (a && b) ≡ true → (a ≡ true) × (b ≡ true)
both_true true true e = (refl, refl)
both_true true false e = absurd cc
both_true false true e = absurd cc
both_true false false e = absurd cc

accepted_distinct : (o : SeenOptions) → is_accepted o ≡ true → are_distinct o.files ≡ true
accepted_distinct o e =
    let p = both_true (is_choice o.files && is_delimiter o.delimiter && is_size o.size && is_absent_or is_choice o.selected) (is_absent_or is_nonempty o.formats) e in
    let q = both_true (is_choice o.files && is_delimiter o.delimiter && is_size o.size) (is_absent_or is_choice o.selected) p.0 in
    let r = both_true (is_choice o.files && is_delimiter o.delimiter) (is_size o.size) q.0 in
    let t = both_true (is_choice o.files) (is_delimiter o.delimiter) r.0 in
    (both_true (is_nonempty o.files) (are_distinct o.files) t.0).1

no_store : {A : Type 0} (f : StoreFault) (store : SeenStore) → ◌≡◌ {A = Result SeenStore StoreFault} (Err f) (Ok store) → A
no_store f store e = absurd cc

store_files : (o : SeenOptions) (store : SeenStore) (made : SeenStore) → made.files ≡ o.files → ◌≡◌ {A = Result SeenStore StoreFault} (Ok made) (Ok store) → store.files ≡ o.files
store_files o store made same e = sym (ap (λ (d : SeenStore). d.files) (inside e)) ∙ same where
  inside : ◌≡◌ {A = Result SeenStore StoreFault} (Ok made) (Ok store) → made ≡ store
  inside e = cc

files_of_store : (o : SeenOptions) (store : SeenStore) (first : Fields) (names : List (List ℕ)) (formats : Option (List Format)) (selected : Option (List ℕ))
    → opened_store o first names formats selected ≡ Ok store → store.files ≡ o.files
files_of_store o store first names (Some formats) (Some selected) e = store_files o store _ refl e
files_of_store o store first names (Some formats) None e = no_store store_fault.BadArgument store e
files_of_store o store first names None selected e = no_store store_fault.BadArgument store e

unless_refused : (b : Bool) (f : StoreFault) (r : Result SeenStore StoreFault) (store : SeenStore) → (if b then Err f else r) ≡ Ok store → r ≡ Ok store
unless_refused true f r store e = no_store f store e
unless_refused false f r store e = e

files_of_first : (o : SeenOptions) (store : SeenStore) (first fields : Fields) → opened_first o first fields ≡ Ok store → store.files ≡ o.files
files_of_first o store first fields e =
    let large = unless_refused _ store_fault.NoHeader _ store e in
    let left = unless_refused _ store_fault.BadArgument _ store large in
    let names = variable_names o.header first in
    files_of_store o store first names (chosen_formats o.missing fields (length names) o.formats) (chosen_places names o.selected) left

files_of_records : (o : SeenOptions) (store : SeenStore) (records : List Fields) → opened_records o records ≡ Ok store → store.files ≡ o.files
files_of_records o store [] e = no_store store_fault.NoHeader store e
files_of_records o store (first ∷ rest) e = files_of_first o store first (if o.header then first_fields rest else first) e

files_of_file : (o : SeenOptions) (store : SeenStore) (bytes : Option (List ℕ)) → opened_file o bytes ≡ Ok store → store.files ≡ o.files
files_of_file o store None e = no_store store_fault.NoFile store e
files_of_file o store (Some bytes) e = files_of_records o store (file_records o.delimiter bytes) e

-- an opening that makes a datastore: of options that are accepted, with their files
made_by : (o : SeenOptions) (store : SeenStore) (r : Result SeenStore StoreFault) (b : Bool) → (b ≡ true → are_distinct o.files ≡ true) → (r ≡ Ok store → store.files ≡ o.files)
    → (if b then r else Err store_fault.BadArgument) ≡ Ok store → are_distinct store.files ≡ true
made_by o store r false distinct files e = no_store store_fault.BadArgument store e
made_by o store r true distinct files e = ap are_distinct (files e) ∙ distinct refl

opening_distinct : (files : Files) (o : SeenOptions) (store : SeenStore) → opening files o ≡ Ok store → are_distinct store.files ≡ true
opening_distinct files o store e =
    made_by o store (opened_file o (file_in files (first_name o.files))) (is_accepted o) (accepted_distinct o) (files_of_file o store (file_in files (first_name o.files))) e

inner : (files : List (List ℕ)) (r : Result SeenStore StoreFault) (store : SeenStore) → refused_opening files r ≡ Ok store → r ≡ Ok store
inner files (Ok made) store e = ap Ok (inside e) where
  inside : ◌≡◌ {A = Result SeenStore Refusal} (Ok made) (Ok store) → made ≡ store
  inside e = cc
inner files (Err f) store e = absurd cc

due_distinct : (files : Files) (wanted : Option SeenOptions) (store : SeenStore) → store_due files wanted ≡ Ok store → are_distinct store.files ≡ true
due_distinct files None store e = absurd cc
due_distinct files (Some o) store e = opening_distinct files o store (inner o.files (opening files o) store e)

told_at : (P : Files → Type 0) (held : Option Files) (files : Files) → held ≡ Some files → IfSome held P → P files
told_at P held files e h = subst (λ x. IfSome x P) e h

-- ---- of an opening

module _ {S : Type 0} (s : shelf.Ghosts S) (wanted : Option SeenOptions) (before now : S) (r : Result SeenStore OpenFault) (o : IsOpening s wanted before now r) where
  pub opening_grows : OpensMore (s.opened before) (s.opened now)
  opening_grows = grows_once (first_given wanted) (s.opened before) (s.opened now) o.once

  pub opening_due : (files : Files) → s.held before ≡ Some files → OpensTo (store_due files wanted) r
  opening_due files held = told_at (λ files. OpensTo (store_due files wanted) r) (s.held before) files held o.told

pub opening_within : {S : Type 0} (s : shelf.Ghosts S) (wanted : Option SeenOptions) (before now : S) (r : Result SeenStore OpenFault) → IsOpening s wanted before now r
    → OpensWithin (openings_due wanted) (s.opened before) (s.opened now)
opening_within s None before now r o =
    within_by false [] (s.opened before) (s.opened now) (λ e. ap s.opened ((o.refused refl).1)) o.once
opening_within s (Some a) before now r o =
    within_by (is_accepted a) (first_name a.files) (s.opened before) (s.opened now) (λ e. ap s.opened ((o.refused e).1)) o.once

-- the datastore that is made lists no file twice
pub opening_made : {S : Type 0} (s : shelf.Ghosts S) (wanted : Option SeenOptions) (before now : S) (store : SeenStore) → IsOpening s wanted before now (Ok store)
    → (files : Files) → s.held before ≡ Some files → are_distinct store.files ≡ true
opening_made s wanted before now store o files held = due_distinct files wanted store (opening_due s wanted before now (Ok store) o files held)

-- ---- what a fault blames

opened_more : {S : Type 0} (s : shelf.Ghosts S) (first name : List ℕ) (before now : S) → name ≡ first → Adds (first ∷ []) (s.opened before) (s.opened now) → IsOpened s name before now
opened_more s first name before now is h names all told end =
    let e : openings_of first all ≡ openings_of first names + openings_of first (first ∷ []) =
    ap (openings_of first) (added (first ∷ []) names all (s.opened before) (s.opened now) told end h) ∙ openings_both first names (first ∷ []) in
    subst (λ n. openings_of n names < openings_of n all) (sym is) (one_more (openings_of first names) (openings_of first all) (openings_of first (first ∷ [])) e (opened_once first))
  where
    one_more : (m n k : ℕ) → n ≡ m + k → k ≡ 1 → m < n
    one_more m n k e one = omega (arith, e, one)

larger : (n limit : ℕ) → (n ≤ limit → ⊥) → limit < n
larger n limit never = omega (arith, never)

too_long : (bytes : Option (List ℕ)) → (IfSome bytes (λ b. length b ≤ 2 ^ 50) → ⊥) → IsSomeAnd bytes (λ b. 2 ^ 50 < length b)
too_long None never = never tt
too_long (Some b) never = larger (length b) (2 ^ 50) never

first_long : (files : Files) (wanted : Option SeenOptions) (name : List ℕ) → name ≡ first_given wanted → (FirstIsWithin files wanted → ⊥) → IsTooLong files name
first_long files None name is never = absurd (never tt)
first_long files (Some o) name is never = subst (IsTooLong files) (sym is) (too_long (file_in files (first_name o.files)) never)

not_large : {S : Type 0} (s : shelf.Ghosts S) (wanted : Option SeenOptions) (before now : S) (name : List ℕ) → IsOpening s wanted before now (Err (fault.TooLarge name))
    → (files : Files) → s.held before ≡ Some files → FirstIsWithin files wanted → ⊥
not_large s wanted before now name o files held within =
    told_at (λ files. FirstIsWithin files wanted → unnamed (Err (fault.TooLarge name)) ≢ Err store_fault.TooLarge) (s.held before) files held o.within within refl

pub opening_blames : {S : Type 0} (s : shelf.Ghosts S) (wanted : Option SeenOptions) (before now : S) (line : ℕ) (e : OpenFault) → IsOpening s wanted before now (Err e) → Blames s (failing line e) before now
opening_blames s wanted before now line fault.BadArgument o = tt
opening_blames s wanted before now line (fault.NoFile name) o = o.explained
opening_blames s wanted before now line (fault.NoHeader name) o = tt
opening_blames s wanted before now line (fault.Failed name) o = (o.explained, opened_more s (first_given wanted) name before now o.named (o.opened tt))
opening_blames s wanted before now line (fault.TooLarge name) o = (
  o.explained,
  opened_more s (first_given wanted) name before now o.named (o.opened tt),
  λ files held. first_long files wanted name o.named (λ within. not_large s wanted before now name o files held within),
)
opening_blames s wanted before now line fault.Memory o = tt
