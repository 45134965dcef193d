-- mapreduce from calls on empty stores, which need nothing of each other: each is appended in its turn, and the first pair
-- that doesn't fit, or the call's own fault, ends it.
use Rattle.std.specs.Prelude.{ℕ, List, [], ◌∷◌, Result, Ok, Err}
use Rattle.tall_value.specs.Cells.{Seen}
use Rattle.tall_column.specs.Columns.{SeenColumn}
use Rattle.tall_grammar.specs.Trees.{SeenFunction}
use Rattle.tall_store.specs.declared.faults.ReadingFault.{ReadingFault}
use Rattle.tall_local.specs.Calls.{CallResult, call_map, call_reduce, behind_pairs}
use Rattle.tall_local.specs.Pairs.{Pair, values_of}
use Rattle.tall_local.specs.Refusals.{Stop}
use Rattle.tall_script.specs.MapReduce.{go_on_with}
use Rattle.tall_script.specs.ReadingFaults.{stop_of_reading}
use Rattle.tall_script.specs.States.{Store}

-- results of calls on empty stores, or what ends the walk before a call, in order
abbrev pub joined_results : List (Result CallResult Stop) → List Pair → Result (List Pair) Stop
joined_results [] pairs = Ok pairs
joined_results (Err stop ∷ rest) pairs = Err stop
joined_results (Ok c ∷ rest) pairs = go_on_with (behind_pairs pairs c) (λ more. joined_results rest more)

-- of a block or its reading fault
abbrev pub mapped_block : Store → SeenFunction → Result (List (List ℕ × SeenColumn)) ReadingFault → Result CallResult Stop
mapped_block d f (Ok block) = Ok (call_map f block [])
mapped_block d f (Err fault) = Err (stop_of_reading d fault)

abbrev pub reduced_key : SeenFunction → List Pair → Seen → Result CallResult Stop
reduced_key f pairs key = Ok (call_reduce f key (values_of key pairs) [])
