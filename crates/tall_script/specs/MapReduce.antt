-- mapreduce: the map function over the blocks of a datastore, in order, on one store; then the reduce function over the
-- keys, in the order of their first adding, on another. docs/LANGUAGE.md, mapreduce.
use Rattle.std.specs.Prelude.{ℕ, List, [], ◌∷◌, map, None, Some, Result, Ok, Err, codes}
use Rattle.tall_value.specs.Cells.{Seen}
use Rattle.tall_column.specs.Columns.{SeenColumn}
use Rattle.tall_outside.specs.Shelf.{Files}
use Rattle.tall_grammar.specs.Trees.{SeenFunction}
use Rattle.tall_store.specs.declared.faults.ReadingFault.{ReadingFault}
use Rattle.tall_store.specs.Blocks.{block_tables}
use Rattle.tall_local.specs.Refusals.{Stop}
use Rattle.tall_local.specs.Memory.{Memory, table}
use Rattle.tall_local.specs.Pairs.{Pair, distinct_keys, values_of, column_of_cells, pair_key, pair_value}
use Rattle.tall_local.specs.Calls.{CallResult, call_map, call_reduce}
use Rattle.tall_script.specs.ReadingFaults.{stop_of_reading}
use Rattle.tall_script.specs.States.{Store}

-- ---- the two phases

abbrev pub go_on_with : CallResult → (List Pair → Result (List Pair) Stop) → Result (List Pair) Stop
go_on_with c f = elim c.stop [ None ↦ f c.pairs | Some stop ↦ Err stop ]

-- by block: its reading fault, else the function's
abbrev pub map_phase : Store → SeenFunction → List (Result (List (List ℕ × SeenColumn)) ReadingFault) → List Pair → Result (List Pair) Stop
map_phase d f [] pairs = Ok pairs
map_phase d f (Err fault ∷ rest) pairs = Err (stop_of_reading d fault)
map_phase d f (Ok block ∷ rest) pairs = go_on_with (call_map f block pairs) (λ more. map_phase d f rest more)

-- by key
abbrev pub reduce_phase : SeenFunction → List Pair → List Seen → List Pair → Result (List Pair) Stop
reduce_phase f pairs [] out = Ok out
reduce_phase f pairs (key ∷ keys) out = go_on_with (call_reduce f key (values_of key pairs) out) (λ more. reduce_phase f pairs keys more)

abbrev pub pairs_table : List Pair → Memory
pairs_table out =
    table ((codes "Key", column_of_cells (map pair_key out)) ∷ (codes "Value", column_of_cells (map pair_value out)) ∷ [])

abbrev pub reduced_table : Result (List Pair) Stop → Result Memory Stop
reduced_table (Ok out) = Ok (pairs_table out)
reduced_table (Err stop) = Err stop

-- mapreduce(ds, @m, @r)
unfoldable pub map_reduced : Files → Store → SeenFunction → SeenFunction → Result Memory Stop
map_reduced files d m r =
    elim (map_phase d m (block_tables d.store files) []) [ Ok pairs ↦ reduced_table (reduce_phase r pairs (distinct_keys pairs) []) | Err stop ↦ Err stop ]
