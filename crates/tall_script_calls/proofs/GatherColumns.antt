-- A gather over the datastores and the graph of an environment.
use Rattle.std.specs.Prelude.{◌≡◌, ◌++◌, ℕ, List, length, map}
use Rattle.std.proofs.Common.{sym, subst, ap, ◌∙◌}
use Rattle.tall_outside.specs.declared.shelf.Shelf as shelf
use Rattle.tall_outside.specs.Shelf.{Files}
use Rattle.tall_semantics.specs.Deferred.{AllBelow, Vertex}
use Rattle.tall_semantics.specs.ShapesInOrder.{shape_at}
use Rattle.tall_semantics.specs.Talls.{Columns, Tall}
use Rattle.tall_store.specs.Stores.{SeenStore}
use Rattle.tall_sources.specs.Sources.{store_in}
use Rattle.tall_gather.specs.Gathered.{gather_openings}
use Rattle.tall_gather.specs.Going.{Went}
use Rattle.tall_gather.specs.Progress.{FitStores}
use Rattle.tall_gather.specs.Told.{IsTold}
use Rattle.tall_environment.specs.Environments.{IsEnvironment, SeenEnvironment, opening_of}
use Rattle.tall_environment.specs.Expressions.{IsSense}
use Rattle.tall_environment.specs.Moves.{Moves}
use Rattle.tall_script_calls.specs.GatheredValues.{openings_by}
use Rattle.tall_script_calls.proofs.GatherOpenings.{as_pairs, moved, pair_of, within_allowed}
use Rattle.tall_script_calls.proofs.GatherStores.{fit_stores, is_told}

module _ (e : SeenEnvironment) (stores : List SeenStore) (graph : List Vertex) (es : stores ≡ map store_in e.stores) (eg : graph ≡ e.graph) where
  pub stores_fit : IsEnvironment e → FitStores graph stores
  stores_fit kept = subst (λ s. FitStores graph s) (sym es) (subst (λ vs. FitStores vs (map store_in e.stores)) (sym eg) (fit_stores e.stores e.graph kept.kept))

  pub roots_fit : (roots : List ℕ) → AllBelow (length e.graph) roots → AllBelow (length graph) roots
  roots_fit roots h = subst (λ (vs : List Vertex). AllBelow (length vs) roots) (sym eg) h

  pub told_by : (files : Files) (columns : Columns) (f : ℕ → Tall) → IsSense files e columns f → IsTold files e.stores columns graph f stores
  told_by files columns f sense = subst (λ s. IsTold files e.stores columns graph f s) (sym es) (subst (λ vs. IsTold files e.stores columns vs f (map store_in e.stores)) (sym eg) (is_told files e columns f sense))

  pub columns_moved : {S : Type 0} (s : shelf.Ghosts S) (roots : List ℕ) (new : SeenEnvironment) (before now : S) → new ≡ record e { opened = e.opened ++ openings_by e roots }
      → Went s (gather_openings 0 stores (map (shape_at graph) roots)) before now → Moves s e new before now
  columns_moved s roots new before now same went =
      let w : Went s (gather_openings 0 (map store_in e.stores) (map (shape_at e.graph) roots)) before now =
      subst (λ x. Went s (gather_openings 0 x (map (shape_at e.graph) roots)) before now) es (subst (λ vs. Went s (gather_openings 0 stores (map (shape_at vs) roots)) before now) eg went) in
      moved s e new (openings_by e roots) before now (gather_openings 0 (map store_in e.stores) (map (shape_at e.graph) roots)) same w (λ d name. within_allowed 0 e.stores (map (shape_at e.graph) roots) name d)

pub allowed_same : (e new : SeenEnvironment) (roots : List ℕ) → new ≡ record e { opened = e.opened ++ map opening_of (map pair_of (openings_by e roots)) } → new ≡ record e { opened = e.opened ++ openings_by e roots }
allowed_same e new roots h = h ∙ ap (λ os. record e { opened = e.opened ++ os }) (as_pairs (openings_by e roots))
