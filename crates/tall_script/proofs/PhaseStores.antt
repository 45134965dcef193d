-- Both phases of mapreduce keep the rules of a store.
use Rattle.std.proofs.Common.{ℕ, List, [], ◌∷◌}
use Rattle.std.specs.Prelude.{Option, None, Some, Result, Ok, Err}
use Rattle.tall_value.specs.Cells.{Seen}
use Rattle.tall_column.specs.Columns.{SeenColumn}
use Rattle.tall_grammar.specs.Trees.{SeenFunction}
use Rattle.tall_store.specs.declared.faults.ReadingFault.{ReadingFault}
use Rattle.tall_local.specs.Calls.{call_map, call_reduce}
use Rattle.tall_local.specs.Pairs.{Pair, values_of}
use Rattle.tall_local.specs.Refusals.{Stop}
use Rattle.tall_local.specs.StoreLaws.{IsStore}
use Rattle.tall_local.proofs.StoreKept.{call_store}
use Rattle.tall_script.specs.BlockLaws.{IsStoreOrStop}
use Rattle.tall_script.specs.MapReduce.{map_phase, reduce_phase}
use Rattle.tall_script.specs.States.{Store}

by_stop : (stop : Option Stop) (ps : List Pair) (f : List Pair → Result (List Pair) Stop) → IsStoreOrStop (f ps) → IsStoreOrStop (elim stop [ None ↦ f ps | Some s ↦ Err s ])
by_stop None ps f h = h
by_stop (Some s) ps f h = tt

pub mapped_store : (d : Store) (f : SeenFunction) (blocks : List (Result (List (List ℕ × SeenColumn)) ReadingFault)) (pairs : List Pair) → IsStore pairs → IsStoreOrStop (map_phase d f blocks pairs)
mapped_store d f [] pairs h = h
mapped_store d f (Err fault ∷ rest) pairs h = tt
mapped_store d f (Ok block ∷ rest) pairs h =
    let c = call_map f block pairs in by_stop c.stop c.pairs (λ more. map_phase d f rest more) (mapped_store d f rest c.pairs (call_store f _ [] pairs h))

pub reduced_store : (f : SeenFunction) (pairs : List Pair) (keys : List Seen) (out : List Pair) → IsStore out → IsStoreOrStop (reduce_phase f pairs keys out)
reduced_store f pairs [] out h = h
reduced_store f pairs (key ∷ keys) out h =
    let c = call_reduce f key (values_of key pairs) out in by_stop c.stop c.pairs (λ more. reduce_phase f pairs keys more) (reduced_store f pairs keys c.pairs (call_store f _ (values_of key pairs) out h))
