-- The options of a datastore as plain data, and which are accepted before a file is opened: docs/LANGUAGE.md,
-- "Datastores".
use Rattle.std.specs.Prelude.{ℕ, ◌^◌, ◌==◌, ◌&&◌, not, nat_lt, nat_le, Bool, true, false, if◌then◌else◌, List, [], ◌∷◌, map, string_bytes, Option, None, Some, option_map}
use Rattle.tall_cut.specs.declared.cutter.ReadSize.{ReadSize}
use Rattle.tall_cut.specs.declared.cutter.ReadSize.TheVariants.{Rows, File}
use Rattle.tall_store.specs.declared.format.Format.{Format}
use Rattle.tall_store.specs.declared.options.Options.{Options}
use Rattle.tall_value.specs.Names.{are_distinct}

pub record SeenOptions : Type 0 where
  pub files : List (List ℕ)
  pub delimiter : ℕ
  pub size : ReadSize
  pub missing : List (List ℕ)
  pub selected : Option (List (List ℕ))
  pub formats : Option (List Format)
  pub header : Bool

abbrev pub options_seen : Options → SeenOptions
options_seen o = record {
  files = map (λ s. string_bytes s) o.files.items;
  delimiter = o.delimiter;
  size = o.size;
  missing = map (λ s. string_bytes s) o.missing.items;
  selected = option_map (λ names. map (λ s. string_bytes s) names.items) o.selected;
  formats = option_map (λ formats. formats.items) o.formats;
  header = o.header;
}

-- ---- what is accepted

abbrev pub is_nonempty : {A : Type 0} → List A → Bool
is_nonempty [] = false
is_nonempty (a ∷ more) = true

-- names to choose: one at least, and each once
abbrev pub is_choice : List (List ℕ) → Bool
is_choice names = is_nonempty names && are_distinct names

-- an ASCII byte other than `"`, CR and LF
abbrev pub is_delimiter : ℕ → Bool
is_delimiter b = nat_lt b 128 && not (b == 34) && not (b == 13) && not (b == 10)

-- from 1 to 2^31 - 1 records, or all of the file
abbrev pub is_size : ReadSize → Bool
is_size (Rows n) = nat_le 1 n && nat_lt n (2 ^ 31)
is_size File = true

-- of a number of records, which may be any
abbrev pub size_of_rows : ℕ → Option ReadSize
size_of_rows n = if is_size (Rows n) then Some (Rows n) else None

-- an option that is left out is accepted
abbrev pub is_absent_or : {A : Type 0} → (A → Bool) → Option A → Bool
is_absent_or test None = true
is_absent_or test (Some a) = test a

abbrev pub is_accepted : SeenOptions → Bool
is_accepted o = is_choice o.files && is_delimiter o.delimiter && is_size o.size && is_absent_or is_choice o.selected && is_absent_or is_nonempty o.formats
