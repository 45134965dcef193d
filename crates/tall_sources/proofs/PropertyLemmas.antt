-- A property's value is looked at in memory alone.
use Rattle.std.specs.Prelude.{◌≡◌, refl, ℕ, List, Option, Some, Result, Ok, Err}
use Rattle.std.proofs.Common.{sym, subst}
use Rattle.tall_semantics.specs.Faults.{At}
use Rattle.tall_semantics.specs.Talls.{Tall}
use Rattle.tall_stored.specs.StoredColumns.{Store}
use Rattle.tall_local.specs.Names.{named}
use Rattle.tall_local.specs.Values.{in_memory}
use Rattle.tall_local.specs.Refusals.{Refusal, bad_argument, and_then, or_refuse}
use Rattle.tall_store.specs.Stores.{SeenStore}
use Rattle.tall_store.specs.declared.faults.StoreFault.{StoreFault}
use Rattle.tall_store.specs.declared.options.Property.{Property}
use Rattle.tall_store.specs.declared.options.Property.TheVariants as property
use Rattle.tall_script.specs.Datastores.{changed, or_bad}
use Rattle.tall_script.specs.ScriptValues.{TallValue}
use Rattle.tall_script.specs.Statements.{changed_store}
use Rattle.tall_script.specs.StoreArguments.{properties}
use Rattle.tall_deferred.specs.Answers.{Comes}
use Rattle.tall_deferred.specs.declared.faults.ValueFault.{ValueFault}
use Rattle.tall_deferred.specs.declared.values.ScriptRef.{ScriptRef}
use Rattle.tall_deferred.specs.declared.values.ScriptRef.TheVariants as lent
use Rattle.tall_deferred.specs.Values.{lent_at}
use Rattle.tall_sources.specs.Changed.{changed_by, itself, or_refused}
use Rattle.tall_sources.specs.Given.{memory_in}

pub lent_same : (f : ℕ → Tall) (store : SeenStore) (p : Property) (v : ScriptRef) → changed store p (in_memory (memory_in v)) ≡ changed store p (lent_at f v)
unfolding changed
lent_same f store property.ReadSize (lent.Datastore place) = refl
lent_same f store property.ReadSize (lent.Table xs) = refl
lent_same f store property.ReadSize (lent.Tall n) = refl
lent_same f store property.ReadSize (lent.Memory v) = refl
lent_same f store property.SelectedVariableNames (lent.Datastore place) = refl
lent_same f store property.SelectedVariableNames (lent.Table xs) = refl
lent_same f store property.SelectedVariableNames (lent.Tall n) = refl
lent_same f store property.SelectedVariableNames (lent.Memory v) = refl
lent_same f store property.TextscanFormats (lent.Datastore place) = refl
lent_same f store property.TextscanFormats (lent.Table xs) = refl
lent_same f store property.TextscanFormats (lent.Tall n) = refl
lent_same f store property.TextscanFormats (lent.Memory v) = refl

pub some_changed : {A : Type 0} (change : A → Result SeenStore StoreFault) (o : Option A) (a : A) (r : Result SeenStore ValueFault) → o ≡ Some a → Comes itself (or_refused (change a)) r → Comes itself (or_bad change o) r
some_changed change o a r e h = subst (λ x. Comes itself (or_bad change x) r) (sym e) h

pub named_changed : (f : ℕ → Tall) (store : SeenStore) (p : List ℕ) (q : Property) (v : ScriptRef) (r : Result SeenStore ValueFault) → named properties p ≡ Some q → Comes itself (changed store q (in_memory (memory_in v))) r
    → Comes itself (changed_by store p (lent_at f v)) r
named_changed f store p q v r e h =
    subst (λ o. Comes itself (and_then (or_refuse bad_argument o) (λ property. changed store property (lent_at f v))) r) (sym e)
    (subst (λ x. Comes itself x r) (lent_same f store q v) h)

-- ---- one more datastore

abbrev with_its_call : At → SeenStore → Result Store Refusal
with_its_call at s = Ok (record { at = at; store = s })

abbrev pub with_call : At → Result SeenStore Refusal → Result Store Refusal
with_call at r = and_then r (with_its_call at)

stored_by : (at : At) (o : Result Property Refusal) (store : SeenStore) (v : TallValue)
    → and_then o (λ property. and_then (changed store property v) (with_its_call at)) ≡ and_then (and_then o (λ property. changed store property v)) (with_its_call at)
stored_by at (Ok p) store v = refl
stored_by at (Err e) store v = refl

pub changed_is : (p : List ℕ) (v : TallValue) (d : Store) → changed_store p v d ≡ with_call d.at (changed_by d.store p v)
changed_is p v d = stored_by d.at (or_refuse bad_argument (named properties p)) d.store v
