-- mapreduce from calls on empty stores.
use Rattle.std.proofs.Common.{◌≡◌, ℕ, List, [], ◌∷◌, refl, ap, ◌∙◌}
use Rattle.std.specs.Prelude.{map, Option, None, Some, Result, Ok, Err}
use Rattle.tall_value.specs.Cells.{Seen}
use Rattle.tall_column.specs.Columns.{SeenColumn}
use Rattle.tall_grammar.specs.Trees.{SeenFunction}
use Rattle.tall_store.specs.declared.faults.ReadingFault.{ReadingFault}
use Rattle.tall_local.specs.Calls.{CallResult, call_map, call_reduce, behind_pairs}
use Rattle.tall_local.specs.Pairs.{Pair, values_of}
use Rattle.tall_local.specs.Refusals.{Stop}
use Rattle.tall_local.proofs.CallsAppended.{call_appended}
use Rattle.tall_script.specs.MapReduce.{go_on_with, map_phase, reduce_phase}
use Rattle.tall_script.specs.MapReduceLaws.{joined_results, mapped_block, reduced_key}
use Rattle.tall_script.specs.States.{Store}

abbrev by_stop : Option Stop → List Pair → (List Pair → Result (List Pair) Stop) → Result (List Pair) Stop
by_stop stop ps f = elim stop [ None ↦ f ps | Some s ↦ Err s ]

same_further : (stop : Option Stop) (ps : List Pair) (f g : List Pair → Result (List Pair) Stop) → f ps ≡ g ps → by_stop stop ps f ≡ by_stop stop ps g
same_further None ps f g same = same
same_further (Some s) ps f g same = refl

further : (c : CallResult) (f g : List Pair → Result (List Pair) Stop) → ((ps : List Pair) → f ps ≡ g ps) → go_on_with c f ≡ go_on_with c g
further c f g same = same_further c.stop c.pairs f g (same c.pairs)

pub mapped_apart : (d : Store) (f : SeenFunction) (blocks : List (Result (List (List ℕ × SeenColumn)) ReadingFault)) (pairs : List Pair)
    → map_phase d f blocks pairs ≡ joined_results (map (mapped_block d f) blocks) pairs
mapped_apart d f [] pairs = refl
mapped_apart d f (Err fault ∷ rest) pairs = refl
mapped_apart d f (Ok block ∷ rest) pairs =
    ap (λ c. go_on_with c (λ more. map_phase d f rest more)) (call_appended f _ [] pairs)
    ∙ further (behind_pairs pairs (call_map f block [])) _ _ (λ more. mapped_apart d f rest more)

pub reduced_apart : (f : SeenFunction) (pairs : List Pair) (keys : List Seen) (out : List Pair) → reduce_phase f pairs keys out ≡ joined_results (map (reduced_key f pairs) keys) out
reduced_apart f pairs [] out = refl
reduced_apart f pairs (key ∷ keys) out =
    ap (λ c. go_on_with c (λ more. reduce_phase f pairs keys more)) (call_appended f _ (values_of key pairs) out)
    ∙ further (behind_pairs out (call_reduce f key (values_of key pairs) [])) _ _ (λ more. reduced_apart f pairs keys more)
