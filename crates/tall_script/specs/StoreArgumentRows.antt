-- Options of a datastore by their names and by their absence, by computation.
use Prim.Native.String.{String}
use Rattle.std.specs.Prelude.{◌≡◌, refl, ℕ, pos, true, false, List, [], ◌∷◌, None, Some, codes, map}
use Rattle.tall_cut.specs.declared.cutter.ReadSize.TheVariants.{Rows, File}
use Rattle.tall_store.specs.declared.format.Format.TheVariants.{Int8, Int16, Int32, Int64, Uint8, Uint16, Uint32, Uint64, Double, Text}
use Rattle.tall_value.specs.Cells.{logical, double, text}
use Rattle.tall_store.specs.declared.options.OptionName.{OptionName}
use Rattle.tall_local.specs.Names.{named}
use Rattle.tall_local.specs.Memory.{Memory, scalar, texts}
use Rattle.tall_script.specs.StoreArguments.{formats_given, options, options_given, size_given}

abbrev a_text : String → Memory
a_text t = scalar (text (codes t))

-- `%d` is int32 and `%u` is uint32
each_format : formats_given (texts (map codes ("%d8" ∷ "%d16" ∷ "%d32" ∷ "%d64" ∷ "%u8" ∷ "%u16" ∷ "%u32" ∷ "%u64" ∷ "%d" ∷ "%u" ∷ "%f" ∷ "%q" ∷ [])))
    ≡ Some (Int8 ∷ Int16 ∷ Int32 ∷ Int64 ∷ Uint8 ∷ Uint16 ∷ Uint32 ∷ Uint64 ∷ Int32 ∷ Uint32 ∷ Double ∷ Text ∷ [])
each_format = refl

no_format : formats_given (texts (codes "%s" ∷ [])) ≡ None
no_format = refl

-- tabularTextDatastore('a.csv'): a comma, blocks of 20,000 records, nothing that counts as missing, all variables, formats that are
-- detected, and a header
defaults : options_given (a_text "a.csv" ∷ []) ≡ Some (record {
  files = codes "a.csv" ∷ [];
  delimiter = 44;
  size = Rows 20000;
  missing = [];
  selected = None;
  formats = None;
  header = true;
})
unfolding options_given
defaults = refl

-- each option by its name
each_option : options_given (a_text "a.csv" ∷ a_text "Delimiter" ∷ a_text ";" ∷ a_text "ReadSize" ∷ scalar (double (Some (pos 3))) ∷ a_text "TreatAsMissing" ∷ a_text "NA"
    ∷ a_text "SelectedVariableNames" ∷ a_text "x" ∷ a_text "TextscanFormats" ∷ texts (codes "%u8" ∷ []) ∷ a_text "ReadVariableNames" ∷ scalar (logical false) ∷ []) ≡ Some (record {
      files = codes "a.csv" ∷ [];
      delimiter = 59;
      size = Rows 3;
      missing = codes "NA" ∷ [];
      selected = Some (codes "x" ∷ []);
      formats = Some (Uint8 ∷ []);
      header = false;
    })
unfolding options_given
each_option = refl

-- each option has its name, and its name is that of no other
each_name : map (λ (o : List ℕ × OptionName). named options o.0) options ≡ map (λ (o : List ℕ × OptionName). Some o.1) options
each_name = refl

whole_file : size_given (a_text "file") ≡ Some File
whole_file = refl
