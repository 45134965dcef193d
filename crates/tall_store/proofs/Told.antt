-- From the records that are left of a file to what an opening of it is.
use Rattle.std.proofs.Common.{◌≡◌, ◌∙◌, ◌<◌, ◌≤◌, List, [], ◌∷◌, ◌++◌, true, false, sym, ap, subst, arith, length, get_or}
use Rattle.std.specs.Prelude.{Option, None, Some, Result, Ok, Err, IfSome, if◌then◌else◌}
use Rattle.tall_outside.specs.Shelf.{Files, file_in}
use Rattle.tall_cut.specs.Rows.{Fields, TakesMany}
use Rattle.tall_store.specs.declared.faults.StoreFault.{StoreFault}
use Rattle.tall_store.specs.declared.faults.StoreFault.TheVariants.{BadArgument, NoHeader}
use Rattle.tall_store.specs.Stores.{SeenStore}
use Rattle.tall_store.specs.Options.{SeenOptions, is_accepted}
use Rattle.tall_store.specs.Opening.{Opens, first_fields, first_name, opened_file, opened_first, opened_records, opening}
use Rattle.tall_store.specs.Taking.{TakesNext}

one_of : (rows block rest : List Fields) (fields : Fields) → rows ≡ block ++ rest → 0 < length block → length block ≤ 1 → fields ≡ get_or block 0 [] → rows ≡ fields ∷ rest
one_of rows [] rest fields e some few f = absurd (omega arith)
one_of rows (x ∷ []) rest fields e some few f = e ∙ ap (λ y. y ∷ rest) (sym f)
one_of rows (x ∷ y ∷ block) rest fields e some few f = absurd (omega arith)

pub took_one : (left rest : Option (List Fields)) (block : List Fields) (fields : Fields) → TakesMany left block rest → 0 < length block → length block ≤ 1
    → fields ≡ get_or block 0 [] → TakesNext left rest (Ok (Some fields))
took_one None rest block fields t some few f = tt
took_one (Some rows) None block fields t some few f = absurd t
took_one (Some rows) (Some rest) block fields t some few f = one_of rows block rest fields t some few f

-- ---- the first records

abbrev Told : Option (List Fields) → SeenOptions → Result SeenStore StoreFault → Type 0
Told left o result = IfSome left (λ records. Opens (opened_records o records) result)

pub told_none : (left rest : Option (List Fields)) (o : SeenOptions) → TakesNext left rest (Ok None) → Told left o (Err NoHeader)
told_none None rest o t = tt
told_none (Some records) rest o t = ap (opened_records o) t

pub told_free : (left : Option (List Fields)) (o : SeenOptions) (result : Result SeenStore StoreFault) → ((due : Result SeenStore StoreFault) → Opens due result) → Told left o result
told_free None o result f = tt
told_free (Some records) o result f = f (opened_records o records)

due_of : (o : SeenOptions) (records rest : List Fields) (first fields : Fields) (result : Result SeenStore StoreFault) → records ≡ first ∷ rest
    → (if o.header then first_fields rest else first) ≡ fields → Opens (opened_first o first fields) result → Opens (opened_records o records) result
due_of o records rest first fields result e f t =
    subst (λ rs. Opens (opened_records o rs) result) (sym e) (subst (λ fs. Opens (opened_first o first fs) result) (sym f) t)

pub told_plain : (left rest : Option (List Fields)) (o : SeenOptions) (first fields : Fields) (result : Result SeenStore StoreFault) → TakesNext left rest (Ok (Some first))
    → o.header ≡ false → fields ≡ first → Opens (opened_first o first fields) result → Told left o result
told_plain None rest o first fields result t h f due = tt
told_plain (Some records) None o first fields result t h f due = absurd t
told_plain (Some records) (Some rest) o first fields result t h f due =
    due_of o records rest first fields result t (ap (λ b. if b then first_fields rest else first) h ∙ sym f) due

pub told_two : (left mid rest : Option (List Fields)) (o : SeenOptions) (first fields : Fields) (result : Result SeenStore StoreFault) → TakesNext left mid (Ok (Some first))
    → TakesNext mid rest (Ok (Some fields)) → o.header ≡ true → Opens (opened_first o first fields) result → Told left o result
told_two None mid rest o first fields result t u h due = tt
told_two (Some records) None rest o first fields result t u h due = absurd t
told_two (Some records) (Some more) None o first fields result t u h due = absurd u
told_two (Some records) (Some more) (Some rest) o first fields result t u h due =
    due_of o records more first fields result t (ap (λ b. if b then first_fields more else first) h ∙ ap first_fields u) due

pub told_one : (left mid rest : Option (List Fields)) (o : SeenOptions) (first fields : Fields) (result : Result SeenStore StoreFault) → TakesNext left mid (Ok (Some first))
    → TakesNext mid rest (Ok None) → o.header ≡ true → fields ≡ [] → Opens (opened_first o first fields) result → Told left o result
told_one None mid rest o first fields result t u h f due = tt
told_one (Some records) None rest o first fields result t u h f due = absurd t
told_one (Some records) (Some more) rest o first fields result t u h f due =
    due_of o records more first fields result t (ap (λ b. if b then first_fields more else first) h ∙ ap first_fields u ∙ sym f) due

-- ---- the options

pub told_accepted : (held : Option Files) (o : SeenOptions) (result : Result SeenStore StoreFault) → is_accepted o ≡ true
    → IfSome held (λ files. Opens (opened_file o (file_in files (first_name o.files))) result)
    → IfSome held (λ files. Opens (opening files o) result)
told_accepted None o result a t = tt
told_accepted (Some files) o result a t = subst (λ b. Opens (if b then opened_file o (file_in files (first_name o.files)) else Err BadArgument) result) (sym a) t

pub told_refused : (held : Option Files) (o : SeenOptions) → is_accepted o ≡ false → IfSome held (λ files. opening files o ≡ Err BadArgument)
told_refused None o a = tt
told_refused (Some files) o a = ap (λ b. if b then opened_file o (file_in files (first_name o.files)) else Err BadArgument) a
