-- Openings of small files, by computation.
use Rattle.std.specs.Prelude.{◌≡◌, ℕ, List, [], ◌∷◌, codes, refl, true, false, None, Some, Result, Ok, Err}
use Rattle.std.specs.Str.{chars, is_utf8}
use Rattle.std.proofs.Math.Utf8.{encode}
use Rattle.csv.proofs.OnLiterals.{csv_on_literals}
use Rattle.tall_cut.specs.declared.cutter.ReadSize.TheVariants.{Rows}
use Rattle.tall_outside.specs.Shelf.{Files}
use Rattle.tall_store.specs.declared.format.Format.{Format}
use Rattle.tall_store.specs.declared.format.Format.TheVariants.{Int8, Double, Text}
use Rattle.tall_store.specs.declared.faults.StoreFault.{StoreFault}
use Rattle.tall_store.specs.declared.faults.StoreFault.TheVariants.{BadArgument, NoFile, NoHeader}
use Rattle.std.specs.Fmt.{digits}
use Rattle.tall_store.specs.Names.{least_free}
use Rattle.tall_store.specs.Options.{SeenOptions}
use Rattle.tall_store.specs.Stores.{SeenStore}
use Rattle.tall_store.specs.Opening.{opening}

-- the file a.csv, with the defaults of all options
abbrev plain : SeenOptions
plain = record { files = codes "a.csv" ∷ []; delimiter = 44; size = Rows 20000; missing = []; selected = None; formats = None; header = true }

abbrev over : List ℕ → Files
over bytes = (codes "a.csv", bytes) ∷ []

-- the names, formats and places of a datastore
abbrev variables : Result SeenStore StoreFault → Result (List (List ℕ) × List Format × List ℕ) StoreFault
variables (Ok store) = Ok (store.names, store.formats, store.selected)
variables (Err fault) = Err fault

detection : variables (opening (over (codes "x,y,z\n1,a, \n")) plain) ≡ Ok (codes "x" ∷ codes "y" ∷ codes "z" ∷ [], Double ∷ Text ∷ Double ∷ [], 0 ∷ 1 ∷ 2 ∷ [])
unfolding csv_on_literals is_utf8 chars encode
detection = refl

-- the formats are those of the first data record, and never of the header
short_first_record : variables (opening (over (codes "1,y\nb\n2,3\n")) plain) ≡ Ok (codes "1" ∷ codes "y" ∷ [], Text ∷ Double ∷ [], 0 ∷ 1 ∷ [])
unfolding csv_on_literals is_utf8 chars encode
short_first_record = refl

no_data_record : variables (opening (over (codes "x\n")) plain) ≡ Ok (codes "x" ∷ [], Double ∷ [], 0 ∷ [])
unfolding csv_on_literals is_utf8 chars encode
no_data_record = refl

missing_spelling : variables (opening (over (codes "x\nNA\n")) (record plain { missing = codes "NA" ∷ [] })) ≡ Ok (codes "x" ∷ [], Double ∷ [], 0 ∷ [])
unfolding csv_on_literals is_utf8 chars encode
missing_spelling = refl

without_names : variables (opening (over (codes "a,5\n")) (record plain { header = false })) ≡ Ok (codes "Var1" ∷ codes "Var2" ∷ [], Text ∷ Double ∷ [], 0 ∷ 1 ∷ [])
unfolding csv_on_literals is_utf8 chars encode digits
without_names = refl

repeated_names : variables (opening (over (codes "x,x,\n")) plain) ≡ Ok (codes "x" ∷ codes "x_1" ∷ codes "Var3" ∷ [], Double ∷ Double ∷ Double ∷ [], 0 ∷ 1 ∷ 2 ∷ [])
unfolding csv_on_literals is_utf8 chars encode least_free digits
repeated_names = refl

selection : variables (opening (over (codes "x,y\n")) (record plain { selected = Some (codes "y" ∷ codes "x" ∷ []) })) ≡ Ok (codes "x" ∷ codes "y" ∷ [], Double ∷ Double ∷ [], 1 ∷ 0 ∷ [])
unfolding csv_on_literals is_utf8 chars encode
selection = refl

given_formats : variables (opening (over (codes "x,y\n1,2\n")) (record plain { formats = Some (Text ∷ Int8 ∷ []) })) ≡ Ok (codes "x" ∷ codes "y" ∷ [], Text ∷ Int8 ∷ [], 0 ∷ 1 ∷ [])
unfolding csv_on_literals is_utf8 chars encode
given_formats = refl

-- ---- refusals

absent_file : opening [] plain ≡ Err NoFile
absent_file = refl

-- before the file is opened
no_files : opening [] (record plain { files = [] }) ≡ Err BadArgument
no_files = refl

repeated_file : opening [] (record plain { files = codes "a.csv" ∷ codes "a.csv" ∷ [] }) ≡ Err BadArgument
repeated_file = refl

quote_as_delimiter : opening [] (record plain { delimiter = 34 }) ≡ Err BadArgument
quote_as_delimiter = refl

no_rows : opening [] (record plain { size = Rows 0 }) ≡ Err BadArgument
no_rows = refl

repeated_selection : opening [] (record plain { selected = Some (codes "x" ∷ codes "x" ∷ []) }) ≡ Err BadArgument
repeated_selection = refl

empty_selection : opening [] (record plain { selected = Some [] }) ≡ Err BadArgument
empty_selection = refl

no_formats : opening [] (record plain { formats = Some [] }) ≡ Err BadArgument
no_formats = refl

-- after it was opened
absent_variable : opening (over (codes "x\n")) (record plain { selected = Some (codes "y" ∷ []) }) ≡ Err BadArgument
unfolding csv_on_literals is_utf8 chars encode
absent_variable = refl

too_few_formats : opening (over (codes "x,y\n")) (record plain { formats = Some (Int8 ∷ []) }) ≡ Err BadArgument
unfolding csv_on_literals is_utf8 chars encode
too_few_formats = refl

-- the file comes first
absent_file_and_variable : opening [] (record plain { selected = Some (codes "y" ∷ []) }) ≡ Err NoFile
absent_file_and_variable = refl

no_record : opening (over (239 ∷ 187 ∷ 191 ∷ codes "\n\n")) plain ≡ Err NoHeader
unfolding csv_on_literals is_utf8 chars encode
no_record = refl

no_record_without_names : opening (over []) (record plain { header = false }) ≡ Err NoHeader
unfolding csv_on_literals is_utf8 chars encode
no_record_without_names = refl

header_of_other_bytes : opening (over (120 ∷ 44 ∷ 255 ∷ 10 ∷ [])) plain ≡ Err NoHeader
unfolding csv_on_literals is_utf8 chars encode
header_of_other_bytes = refl

header_and_variable : opening (over (255 ∷ 10 ∷ [])) (record plain { selected = Some (codes "y" ∷ []) }) ≡ Err NoHeader
unfolding csv_on_literals is_utf8 chars encode
header_and_variable = refl
