-- Options with another ReadSize open to the same datastore with that size.
use Rattle.std.proofs.Common.{◌≡◌, ℕ, List, [], ◌∷◌, Bool, true, false, refl, ap, sym, ◌∙◌}
use Rattle.std.specs.List.{list_all}
use Rattle.std.specs.Str.{is_utf8}
use Rattle.std.specs.Prelude.{if◌then◌else◌, ◌&&◌, ◌^◌, not, nat_le, length, Option, None, Some, Result, Err}
use Rattle.tall_cut.specs.declared.cutter.ReadSize.{ReadSize}
use Rattle.tall_cut.specs.Rows.{Fields, file_records}
use Rattle.tall_outside.specs.Shelf.{Files, file_in}
use Rattle.tall_store.specs.declared.faults.StoreFault.{StoreFault}
use Rattle.tall_store.specs.declared.faults.StoreFault.TheVariants.{BadArgument, NoHeader}
use Rattle.tall_store.specs.declared.format.Format.{Format}
use Rattle.tall_store.specs.Choices.{chosen_formats, chosen_places}
use Rattle.tall_store.specs.Names.{variable_names}
use Rattle.tall_store.specs.Opening.{opened_store, opened_variables, opened_first, first_fields, opened_records, opened_file, first_name, opening}
use Rattle.tall_store.specs.Options.{SeenOptions, is_choice, is_delimiter, is_size, is_absent_or, is_nonempty, is_accepted}
use Rattle.tall_store.specs.Stores.{SeenStore}
use Rattle.tall_script.specs.SizeLaws.{with_size, opened_in}

if_opened : (size : ReadSize) (b : Bool) (p q r s : Result SeenStore StoreFault) → p ≡ opened_in size r → q ≡ opened_in size s → (if b then p else q) ≡ opened_in size (if b then r else s)
if_opened size true p q r s h k = h
if_opened size false p q r s h k = k

module _ (size : ReadSize) (o : SeenOptions) where
  same_store : (first : Fields) (names : List (List ℕ)) (formats : Option (List Format)) (selected : Option (List ℕ))
      → opened_store (with_size size o) first names formats selected ≡ opened_in size (opened_store o first names formats selected)
  same_store first names (Some formats) (Some selected) = refl
  same_store first names (Some formats) None = refl
  same_store first names None selected = refl

  same_variables : (first fields : Fields) (names : List (List ℕ)) → opened_variables (with_size size o) first fields names ≡ opened_in size (opened_variables o first fields names)
  same_variables first fields names = same_store first names (chosen_formats o.missing fields (length names) o.formats) (chosen_places names o.selected)

  same_first : (first fields : Fields) → opened_first (with_size size o) first fields ≡ opened_in size (opened_first o first fields)
  same_first first fields =
      let names = variable_names o.header first in
      if_opened size (o.header && not (list_all is_utf8 first)) (Err NoHeader) (if nat_le (2 ^ 20) (length first) then Err BadArgument else opened_variables (with_size size o) first fields names)
      (Err NoHeader) (if nat_le (2 ^ 20) (length first) then Err BadArgument else opened_variables o first fields names) refl
      (if_opened size (nat_le (2 ^ 20) (length first)) (Err BadArgument) (opened_variables (with_size size o) first fields names) (Err BadArgument) (opened_variables o first fields names) refl
      (same_variables first fields names))

  same_records : (records : List Fields) → opened_records (with_size size o) records ≡ opened_in size (opened_records o records)
  same_records [] = refl
  same_records (first ∷ rest) = same_first first (if o.header then first_fields rest else first)

  same_file : (held : Option (List ℕ)) → opened_file (with_size size o) held ≡ opened_in size (opened_file o held)
  same_file None = refl
  same_file (Some bytes) = same_records (file_records o.delimiter bytes)

  same_test : is_size size ≡ true → is_size o.size ≡ true → is_accepted (with_size size o) ≡ is_accepted o
  same_test h k = ap (λ b. is_choice o.files && is_delimiter o.delimiter && b && is_absent_or is_choice o.selected && is_absent_or is_nonempty o.formats) (h ∙ sym k)

  pub same_opening : (files : Files) → is_size size ≡ true → is_size o.size ≡ true → opening files (with_size size o) ≡ opened_in size (opening files o)
  same_opening files h k =
      let held = file_in files (first_name o.files) in
      ap (λ b. if b then opened_file (with_size size o) held else Err BadArgument) (same_test h k)
      ∙ if_opened size (is_accepted o) (opened_file (with_size size o) held) (Err BadArgument) (opened_file o held) (Err BadArgument) (same_file held) refl
