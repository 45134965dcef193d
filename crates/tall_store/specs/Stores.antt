-- Datastores as plain data.
use Rattle.std.specs.Prelude.{◌≡◌, ◌<◌, ◌≤◌, ◌^◌, ℕ, Bool, true, List, [], length, map, get_or}
use Rattle.std.specs.List.{All, IsDistinct}
use Rattle.std.specs.Str.{bytes_eq}
use Rattle.tall_value.specs.Names.{are_distinct}
use Rattle.tall_cut.specs.declared.cutter.ReadSize.{ReadSize}
use Rattle.tall_cut.specs.Rows.{Fields}
use Rattle.tall_store.specs.declared.format.Format.{Format}
use Rattle.tall_store.specs.declared.format.Format.TheVariants.{Double}
use Rattle.tall_store.specs.Options.{is_delimiter, is_size}

-- the names of the files; the options; the names and formats of all variables of the file; the places of the selected
-- ones among them, from 0, in the order of the selection; and the first record of the first file as the opening read it
pub record SeenStore : Type 0 where
  pub files : List (List ℕ)
  pub delimiter : ℕ
  pub size : ReadSize
  pub missing : List (List ℕ)
  pub header : Bool
  pub names : List (List ℕ)
  pub formats : List Format
  pub selected : List ℕ
  pub first : Fields

-- the name and the format of the variable at a place among all
abbrev pub name_at : SeenStore → ℕ → List ℕ
name_at store place = get_or store.names place []

abbrev pub format_at : SeenStore → ℕ → Format
format_at store place = get_or store.formats place Double

-- the names of the selected variables, in the order of the selection
abbrev pub selected_names : SeenStore → List (List ℕ)
selected_names store = map (name_at store) store.selected

-- what is true of every datastore
pub record IsStore (store : SeenStore) : Type 0 where
  pub some_files : 0 < length store.files
  pub few_files : length store.files < 2 ^ 20
  pub distinct_files : are_distinct store.files ≡ true
  pub delimiter : is_delimiter store.delimiter ≡ true
  pub size : is_size store.size ≡ true
  pub few_variables : length store.names < 2 ^ 20
  pub formats : length store.formats ≡ length store.names
  pub places : All (λ place. place < length store.names) store.selected
  pub few_selected : length store.selected ≤ length store.names
  pub distinct : IsDistinct bytes_eq (selected_names store)
