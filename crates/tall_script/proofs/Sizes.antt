-- ReadSize says where mapreduce cuts, and nothing else.
use Rattle.std.proofs.Common.{◌≡◌, ℕ, ◌+◌, List, [], ◌∷◌, ◌++◌, refl, ap, ◌∙◌}
use Rattle.std.specs.List.{flat_map}
use Rattle.std.specs.Prelude.{length, get_or, Option, None, Some, Ok}
use Rattle.tall_cut.specs.declared.cutter.ReadSize.{ReadSize}
use Rattle.tall_value.specs.Columns.{numbered}
use Rattle.tall_outside.specs.Shelf.{Files, file_in}
use Rattle.tall_store.specs.ReadingOrder.{first_reading_fault}
use Rattle.tall_store.specs.Records.{data_in}
use Rattle.tall_store.specs.Walk.{WalkedFile, file_faults, walk_from, walked_records}
use Rattle.tall_store.specs.Stored.{cells_at, record_faults, stored_column, unless_fault}
use Rattle.tall_store.specs.Formats.{class_of_format}
use Rattle.tall_store.specs.Stores.{SeenStore, name_at, format_at}
use Rattle.tall_semantics.specs.Talls.{stored_tall}
use Rattle.tall_local.specs.Values.{tall_table}
use Rattle.tall_script.specs.SizeLaws.{in_blocks_of, resized}
use Rattle.tall_script.specs.States.{Store}
use Rattle.tall_stored.specs.StoredColumns.{column_outcome, stored_outcome}
use Rattle.tall_script.specs.TallTables.{stored_variables, tall_of_store}

module _ (size : ReadSize) where
  same_data : (store : SeenStore) (held : Option (List ℕ)) → data_in (in_blocks_of size store) held ≡ data_in store held
  same_data store None = refl
  same_data store (Some bytes) = refl

  same_file_faults : (store : SeenStore) (held : Option (List ℕ)) (file row : ℕ) → file_faults (in_blocks_of size store) held file row ≡ file_faults store held file row
  same_file_faults store None file row = refl
  same_file_faults store (Some bytes) file row = refl

  same_walk : (store : SeenStore) (files : Files) (file row : ℕ) (names : List (List ℕ))
      → walk_from (in_blocks_of size store) files file row names ≡ walk_from store files file row names
  same_walk store files file row [] = refl
  same_walk store files file row (name ∷ names) =
      ap (λ faults. record { file = file; row = row; faults = faults; records = data_in (in_blocks_of size store) (file_in files name) }
      ∷ walk_from (in_blocks_of size store) files (file + 1) (row + length (data_in (in_blocks_of size store) (file_in files name))) names) (same_file_faults store (file_in files name) file row)
      ∙ ap (λ found. record { file = file; row = row; faults = file_faults store (file_in files name) file row; records = found }
      ∷ walk_from (in_blocks_of size store) files (file + 1) (row + length found) names) (same_data store (file_in files name))
      ∙ ap (λ rest. record { file = file; row = row; faults = file_faults store (file_in files name) file row; records = data_in store (file_in files name) } ∷ rest)
      (same_walk store files (file + 1) (row + length (data_in store (file_in files name))) names)

  same_column : (store : SeenStore) (files : Files) (v : ℕ) → stored_column (in_blocks_of size store) files v ≡ stored_column store files v
  same_column store files v =
      ap (λ walked. unless_fault (first_reading_fault (flat_map (λ (f : WalkedFile). f.faults) walked ++ flat_map (record_faults store) (flat_map walked_records walked)))
      (numbered 1 (cells_at store (flat_map walked_records walked) (get_or store.selected v 0)))) (same_walk store files 0 1 store.files)

  same_variables : (d : Store) (files : Files) (place from : ℕ) (vs : List ℕ)
      → stored_variables files place (resized size d) from vs ≡ stored_variables files place d from vs
  same_variables d files place from [] = refl
  same_variables d files place from (v ∷ rest) =
      ap (λ column. (name_at d.store v, stored_tall place from (class_of_format (format_at d.store v)) (stored_outcome place d.at column))
      ∷ stored_variables files place (resized size d) (from + 1) rest) (same_column d.store files from)
      ∙ ap (λ t. (name_at d.store v, stored_tall place from (class_of_format (format_at d.store v)) (column_outcome files place d from)) ∷ t)
      (same_variables d files place (from + 1) rest)

  pub same_table : (d : Store) (files : Files) (place : ℕ) → tall_of_store files place (Some (resized size d)) ≡ tall_of_store files place (Some d)
  same_table d files place = ap (λ t. Ok (tall_table t)) (same_variables d files place 0 d.store.selected)
