-- The datastores of a script as those of a gather.
use Rattle.std.specs.Prelude.{◌≡◌, ◌<◌, ℕ, zero, suc, get_or, Option, None, Some, Result, Ok, Err, IfErr, List, [], ◌∷◌, length, map, option_map, slice_get}
use Rattle.std.specs.Result.{result_map_both}
use Rattle.std.proofs.Common.{refl, sym, ap, subst, ◌∙◌}
use Rattle.std.proofs.lemmas.Option.{slice_get-map}
use Rattle.tall_outside.specs.Shelf.{Files}
use Rattle.tall_column.specs.Columns.{SeenColumn}
use Rattle.tall_value.specs.declared.class.Class.{Class}
use Rattle.tall_semantics.specs.Deferred.{Vertex}
use Rattle.tall_semantics.specs.Operations.{stored}
use Rattle.tall_semantics.specs.Talls.{Columns, Tall}
use Rattle.tall_store.specs.Stores.{SeenStore}
use Rattle.tall_stored.specs.StoredColumns.{Store, variable_class}
use Rattle.tall_pass.specs.PassPlans.{FitsStore}
use Rattle.tall_sources.specs.Kept.{AreKept}
use Rattle.tall_sources.specs.Sources.{store_in}
use Rattle.tall_gather.specs.Gathered.{TellsGather}
use Rattle.tall_gather.specs.Progress.{FitStores}
use Rattle.tall_gather.specs.Told.{IsTold}
use Rattle.tall_gather.specs.declared.faults.GatherFault.{GatherFault}
use Rattle.tall_gather.specs.declared.faults.GatherFault.TheVariants as fault
use Rattle.tall_environment.specs.Environments.{SeenEnvironment}
use Rattle.tall_environment.specs.Expressions.{IsSense}
use Rattle.tall_script_calls.specs.GatherFailures.{MayBeTold}

one_store : (d e : Store) → Some d ≡ Some e → d ≡ e
one_store d e h = cc

one_seen : (d e : SeenStore) → Some d ≡ Some e → d ≡ e
one_seen d e h = cc

seen_store : (stores : List Store) (s : ℕ) (d : Store) → slice_get stores s ≡ Some d → slice_get (map store_in stores) s ≡ Some d.store
seen_store stores s d e = slice_get-map store_in stores s ∙ ap (option_map store_in) e

kept_store : (stores : List Store) (s : ℕ) (x : SeenStore) → slice_get (map store_in stores) s ≡ Some x → (d : Store) × (slice_get stores s ≡ Some d) × (d.store ≡ x)
kept_store stores s x e = by (slice_get stores s) refl (sym (slice_get-map store_in stores s) ∙ e)
  where
    by : (o : Option Store) → slice_get stores s ≡ o → option_map store_in o ≡ Some x → (d : Store) × (slice_get stores s ≡ Some d) × (d.store ≡ x)
    by None is h = absurd (cc)
    by (Some d) is h = (d, is, one_seen d.store x h)

-- each variable of the graph is of a datastore that is there
pub fit_stores : (stores : List Store) (vs : List Vertex) → AreKept stores vs → FitStores vs (map store_in stores)
fit_stores stores vs kept i v s variable class at made =
    let w = kept.found i v s variable class at made in
    (w.0.store, seen_store stores s w.0 w.1, fits w.0 w.1)
  where
    fits : (d : Store) → slice_get stores s ≡ Some d → FitsStore vs s d.store
    fits d there j u a c at made =
        let w = kept.found j u s a c at made in
        let same : w.0 ≡ d = one_store w.0 d (sym w.1 ∙ there) in
        (subst (λ (x : Store). a < length x.store.selected) same w.3, subst (λ (x : Store). c ≡ variable_class x.store a) same w.4)

-- what the definitions tell over these files
pub is_told : (files : Files) (e : SeenEnvironment) (columns : Columns) (f : ℕ → Tall) → IsSense files e columns f → IsTold files e.stores columns e.graph f (map store_in e.stores)
is_told files e columns f sense = record {
  same = λ s x at. kept_store e.stores s x at;
  stored = sense.stored;
  meaning = sense.solved;
}

-- a fault that is told is one of the files
pub may_be_told : {V : Type 0} (items : V → List SeenColumn) (list : List Store) (f : ℕ → Tall) (roots : List ℕ) (r : Result V GatherFault) → TellsGather list f roots (result_map_both items (λ (x : GatherFault). x) r) → IfErr r MayBeTold
may_be_told items list f roots (Ok v) h = tt
may_be_told items list f roots (Err (fault.Data x)) h = tt
may_be_told items list f roots (Err (fault.Reading store g)) h = tt
may_be_told items list f roots (Err (fault.Read store file)) h = tt
may_be_told items list f roots (Err (fault.TooLarge store file)) h = tt
may_be_told items list f roots (Err (fault.Changed store file first now)) h = h
may_be_told items list f roots (Err fault.Memory) h = tt

pub each_may : {V : Type 0} (r : Result V GatherFault) (P : Files → Type 0) → ((files : Files) → P files → IfErr r MayBeTold) → IfErr r (λ e. (files : Files) → P files → MayBeTold e)
each_may (Ok v) P h = tt
each_may (Err e) P h = h

read_is : (xs : List SeenStore) (k : ℕ) (y d : SeenStore) → slice_get xs k ≡ Some y → get_or xs k d ≡ y
read_is [] k y d e = absurd (cc)
read_is (x ∷ xs) zero y d e = one_seen x y e
read_is (x ∷ xs) (suc k) y d e = read_is xs k y d e

-- the datastore that is read is that of the list
pub element_is : (stores : List Store) (seen : List SeenStore) (k : ℕ) (x : SeenStore) (d : Store) → seen ≡ map store_in stores → x ≡ get_or seen k x → slice_get stores k ≡ Some d → d.store ≡ x
element_is stores seen k x d e read at = sym (read ∙ read_is seen k d.store x (ap (λ xs. slice_get xs k) e ∙ seen_store stores k d at))
