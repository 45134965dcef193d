-- A property statement keeps the files of a datastore, and the number and the line of its call.
use Rattle.std.specs.Prelude.{◌≡◌, refl, ℕ, Bool, true, false, if◌then◌else◌, ◌==◌, length, List, Option, None, Some, Result, Ok, Err}
use Rattle.std.proofs.Common.{subst}
use Rattle.tall_cut.specs.declared.cutter.ReadSize.{ReadSize}
use Rattle.tall_local.specs.Names.{named}
use Rattle.tall_local.specs.Refusals.{Refusal, and_then, bad_argument, or_refuse}
use Rattle.tall_local.specs.Values.{datastore, deferred, in_memory, tall_table}
use Rattle.tall_store.specs.Choices.{places_of}
use Rattle.tall_store.specs.Options.{is_choice, is_size}
use Rattle.tall_store.specs.Properties.{formatted, selecting, sized, with_places}
use Rattle.tall_store.specs.Stores.{SeenStore}
use Rattle.tall_store.specs.declared.faults.StoreFault.{StoreFault}
use Rattle.tall_store.specs.declared.faults.StoreFault.TheVariants.{BadArgument}
use Rattle.tall_store.specs.declared.format.Format.{Format}
use Rattle.tall_store.specs.declared.options.Property.{Property}
use Rattle.tall_store.specs.declared.options.Property.TheVariants as property
use Rattle.tall_stored.specs.StoredColumns.{Store}
use Rattle.tall_script.specs.Datastores.{changed, or_bad}
use Rattle.tall_script.specs.ScriptValues.{TallValue}
use Rattle.tall_script.specs.Statements.{changed_store}
use Rattle.tall_script.specs.StoreArguments.{formats_given, properties, size_given, texts_given}
use Rattle.tall_sources.specs.Changed.{or_refused}

abbrev HasFiles : {E : Type 0} → List (List ℕ) → Result SeenStore E → Type 0
HasFiles files (Ok x) = x.files ≡ files
HasFiles files (Err e) = Unit {0}

or_bad_keeps : {A : Type 0} (files : List (List ℕ)) (change : A → Result SeenStore StoreFault) → ((a : A) → HasFiles files (change a)) → (o : Option A) → HasFiles files (or_bad change o)
or_bad_keeps files change h None = tt
or_bad_keeps files change h (Some a) = step (change a) (h a) where
  step : (r : Result SeenStore StoreFault) → HasFiles files r → HasFiles files (or_refused r)
  step (Ok x) h = h
  step (Err e) h = tt

sized_keeps : (store : SeenStore) (size : ReadSize) → HasFiles store.files (sized store size)
sized_keeps store size = step (is_size size) where
  step : (b : Bool) → HasFiles store.files (if b then Ok (record store { size = size }) else Err BadArgument)
  step true = refl
  step false = tt

selecting_keeps : (store : SeenStore) (names : List (List ℕ)) → HasFiles store.files (selecting store names)
selecting_keeps store names = step (is_choice names) (places_of store.names names) where
  step : (b : Bool) (o : Option (List ℕ)) → HasFiles store.files (if b then with_places store o else Err BadArgument)
  step true (Some places) = refl
  step true None = tt
  step false o = tt

formatted_keeps : (store : SeenStore) (formats : List Format) → HasFiles store.files (formatted store formats)
formatted_keeps store formats = step (length formats == length store.names) where
  step : (b : Bool) → HasFiles store.files (if b then Ok (record store { formats = formats }) else Err BadArgument)
  step true = refl
  step false = tt

property_keeps : (store : SeenStore) (q : Property) (v : TallValue) → HasFiles store.files (changed store q v)
unfolding changed
property_keeps store property.ReadSize (in_memory v) = or_bad_keeps store.files (sized store) (sized_keeps store) (size_given v)
property_keeps store property.ReadSize (datastore place) = tt
property_keeps store property.ReadSize (tall_table t) = tt
property_keeps store property.ReadSize (deferred x) = tt
property_keeps store property.SelectedVariableNames (in_memory v) = or_bad_keeps store.files (selecting store) (selecting_keeps store) (texts_given v)
property_keeps store property.SelectedVariableNames (datastore place) = tt
property_keeps store property.SelectedVariableNames (tall_table t) = tt
property_keeps store property.SelectedVariableNames (deferred x) = tt
property_keeps store property.TextscanFormats (in_memory v) = or_bad_keeps store.files (formatted store) (formatted_keeps store) (formats_given v)
property_keeps store property.TextscanFormats (datastore place) = tt
property_keeps store property.TextscanFormats (tall_table t) = tt
property_keeps store property.TextscanFormats (deferred x) = tt

abbrev IsKept : Store → Result Store Refusal → Type 0
IsKept d (Ok x) = (x.at ≡ d.at) × (x.store.files ≡ d.store.files)
IsKept d (Err e) = Unit {0}

store_kept : (d : Store) (p : List ℕ) (v : TallValue) → IsKept d (changed_store p v d)
store_kept d p v = by (named properties p) where
  with_it : (r : Result SeenStore Refusal) → HasFiles d.store.files r → IsKept d (and_then r (λ store. Ok (record { at = d.at; store = store })))
  with_it (Ok x) h = (refl, h)
  with_it (Err e) h = tt

  by : (o : Option Property) → IsKept d (and_then (or_refuse bad_argument o) (λ q. and_then (changed d.store q v) (λ store. Ok (record { at = d.at; store = store }))))
  by None = tt
  by (Some q) = with_it (changed d.store q v) (property_keeps d.store q v)

pub changed_keeps : (p : List ℕ) (v : TallValue) (d x : Store) → changed_store p v d ≡ Ok x → (x.at ≡ d.at) × (x.store.files ≡ d.store.files)
changed_keeps p v d x h = subst (IsKept d) h (store_kept d p v)
