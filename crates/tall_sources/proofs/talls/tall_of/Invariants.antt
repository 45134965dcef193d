use Rattle.std.specs.Prelude.{◌≡◌, ℕ, ◌++◌, List, length, drop, take, slice_get, Some}
use Rattle.std.specs.List.{All}
use Rattle.tall_outside.specs.Shelf.{Files}
use Rattle.tall_semantics.specs.Deferred.{IsMeaning}
use Rattle.tall_semantics.specs.Talls.{Tall, Columns}
use Rattle.tall_stored.specs.StoredColumns.{AreStored, Store}
use Rattle.tall_script.specs.TallTables.{stored_variables}
use Rattle.tall_deferred.specs.Values.{IsVariable, at_seen, variables_at}
use Rattle.tall_sources.specs.Talls.{variable_vertices}
use Rattle.tall_sources.proofs.TallLemmas.{store_of}
use Rattle.tall_sources.proofs.talls.tall_of.Given as goal

-- the variables so far, before those that are left
abbrev pub invariant-loop-k : goal.invariant-loop-k
invariant-loop-k l = record {
  grown : l.graph ≡ l.fn.graph ++ take l.k (variable_vertices (at_seen l.at) l.place l.store);
  within : All (IsVariable (length l.graph)) l.variables.items;
  given : (files : Files) (stores : List Store) (columns : Columns) (f : ℕ → Tall) → slice_get stores l.place ≡ Some (store_of (at_seen l.at) l.store) → AreStored files stores l.graph columns → IsMeaning columns l.graph f
      → variables_at f l.variables.items ++ stored_variables files l.place (store_of (at_seen l.at) l.store) l.k (drop l.k l.store.selected) ≡ stored_variables files l.place (store_of (at_seen l.at) l.store) 0 l.store.selected;
}
