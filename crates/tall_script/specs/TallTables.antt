-- The tall table of a datastore: the columns of the variables that are selected, each with its rows or with the first
-- reading fault. docs/LANGUAGE.md, functions.
use Rattle.std.specs.Prelude.{ℕ, ◌+◌, List, [], ◌∷◌, slice_get, Option, None, Some, Result, Ok, Err}
use Rattle.tall_outside.specs.Shelf.{Files}
use Rattle.tall_semantics.specs.Talls.{Tall, stored_tall}
use Rattle.tall_store.specs.Formats.{class_of_format}
use Rattle.tall_store.specs.Stores.{name_at, format_at}
use Rattle.tall_stored.specs.StoredColumns.{column_outcome}
use Rattle.tall_local.specs.Arguments.{Argument, value_given}
use Rattle.tall_local.specs.Lists.{all_of}
use Rattle.tall_local.specs.Refusals.{Refusal, bad_argument, bad_class}
use Rattle.tall_script.specs.ScriptValues.{TallValue}
use Rattle.tall_local.specs.Values.{datastore, tall_table}
use Rattle.tall_script.specs.States.{Store, State}

-- the variables at the places of the selection, from one on
abbrev pub stored_variables : Files → (place : ℕ) → Store → (from : ℕ) → List ℕ → List (List ℕ × Tall)
stored_variables files place d from [] = []
stored_variables files place d from (variable ∷ rest) =
    (name_at d.store variable, stored_tall place from (class_of_format (format_at d.store variable)) (column_outcome files place d from))
    ∷ stored_variables files place d (from + 1) rest

abbrev pub tall_of_store : Files → (place : ℕ) → Option Store → Result TallValue Refusal
tall_of_store files place (Some d) = Ok (tall_table (stored_variables files place d 0 d.store.selected))
tall_of_store files place None = Err bad_class

abbrev pub tall_of : Files → List TallValue → State Tall → Result TallValue Refusal
tall_of files (datastore place ∷ []) s = tall_of_store files place (slice_get s.stores place)
tall_of files (v ∷ []) s = Err bad_class
tall_of files vs s = Err bad_argument

-- tall(ds)
unfoldable pub tall_call : Files → List (Argument TallValue) → State Tall → Result TallValue Refusal
tall_call files args s = elim (all_of value_given args) [ Some vs ↦ tall_of files vs s | None ↦ Err bad_argument ]
