-- Calls on empty stores, appended one after the other.
use Rattle.std.proofs.Common.{ℕ, ◌≡◌, ◌∙◌, List, [], ◌∷◌, ◌++◌, Ok, Err, Result, sym, ap, subst, refl, map}
use Rattle.std.specs.Prelude.{IfErr, IfOk, Option, Some, None}
use Rattle.std.proofs.lemmas.List.{append-nil}
use Rattle.tall_grammar.specs.Trees.{SeenFunction}
use Rattle.tall_kv.specs.ByKey.{Group, class_of_values, groups_of, values_column}
use Rattle.tall_kv.specs.declared.faults.PairFault.{PairFault}
use Rattle.tall_kv.specs.declared.faults.PairFault.TheVariants as pair
use Rattle.tall_kv.specs.Faults.{IsFaultOf}
use Rattle.tall_value.specs.Cells.{Seen}
use Rattle.tall_local.specs.Calls.{CallResult}
use Rattle.tall_local.specs.Memory as memory
use Rattle.tall_outside.specs.Shelf.{Files}
use Rattle.tall_local.specs.Pairs.{Pair, appended, distinct_keys}
use Rattle.tall_local.specs.Refusals.{Stop, bad_key, bad_value, stop_at, too_many_rows}
use Rattle.tall_script.specs.MapReduce.{go_on_with, map_reduced, pairs_table, reduce_phase, reduced_table}
use Rattle.tall_script.specs.MapReduceLaws.{joined_results, reduced_key}
use Rattle.tall_script.specs.States.{Store}
use Rattle.tall_fun.specs.Faults.{refusal_at}
use Rattle.tall_fun.specs.declared.faults.FunFault.TheVariants as fun
use Rattle.tall_fun.specs.declared.faults.FunKind.{FunKind}
use Rattle.tall_mapred.specs.declared.faults.MapFault.{MapFault}
use Rattle.tall_mapred.specs.declared.faults.MapFault.TheVariants as map
use Rattle.tall_mapred.specs.Answers.{Answer, Tells}
use Rattle.tall_mapred.specs.Phases.{Ends, EndsWith, Maps, Reduces, Wants, reduce_wants}
use Rattle.tall_mapred.specs.Pieces.{ComesFrom, IsOfFunctions, IsPairFault}
use Rattle.tall_mapred.specs.declared.calls.CallPiece.{CallPiece}
use Rattle.tall_mapred.specs.declared.calls.CallPiece.TheVariants as call

-- ---- one call more

-- a pair does not fit, whatever fault the call has
pair_stops : (want : Result CallResult Stop) (own old : List Pair) (s : Option Stop) (stop : Stop) → want ≡ Ok (record { pairs = own; stop = s }) → (appended old own).stop ≡ Some stop
    → (rest : Wants) → joined_results (want ∷ rest) old ≡ Err stop
pair_stops want own old s stop w a rest =
    ap (λ x. joined_results (x ∷ rest) old) w
    ∙ ap (λ x. go_on_with (elim x [ None ↦ record { pairs = (appended old own).pairs; stop = s } | Some other ↦ record { pairs = (appended old own).pairs; stop = Some other } ]) (λ more. joined_results rest more)) a

pub pair_refused : (d : Store) (want : Result CallResult Stop) (own old : List Pair) (s : Option Stop) (f : PairFault) (e : MapFault) → want ≡ Ok (record { pairs = own; stop = s }) → IsFaultOf (appended old own).stop f → IsPairFault f e
    → Ends d want old e
pair_refused d want own old s (pair.KeyClass line) e w f i rest = subst (λ x. EndsWith d (joined_results (want ∷ rest) old) x) (sym i) (pair_stops want own old s (stop_at line bad_key) w f rest, refl)
pair_refused d want own old s (pair.ValueClass line) e w f i rest = subst (λ x. EndsWith d (joined_results (want ∷ rest) old) x) (sym i) (pair_stops want own old s (stop_at line bad_value) w f rest, refl)
pair_refused d want own old s (pair.TooManyRows line) e w f i rest = subst (λ x. EndsWith d (joined_results (want ∷ rest) old) x) (sym i) (pair_stops want own old s (stop_at line too_many_rows) w f rest, refl)
pair_refused d want own old s pair.Memory e w f i rest = subst (λ x. EndsWith d (joined_results (want ∷ rest) old) x) (sym i) tt

-- where the call has a fault of its own
pub refused_call : (d : Store) (want : Result CallResult Stop) (piece : CallPiece) (own old : List Pair) (line : ℕ) (row : Option ℕ) (kind : FunKind) (e : MapFault)
    → ((d : Store) (want : Result CallResult Stop) (stop : Option Stop) → want ≡ Ok (record { pairs = own; stop = stop }) → Ends d want old e)
    → piece ≡ call.Called own (Err (fun.At line row kind)) → ComesFrom d want piece → Ends d want old e
refused_call d want piece own old line row kind e refused is w =
    let v : ComesFrom d want (call.Called own (Err (fun.At line row kind))) = subst (ComesFrom d want) is w in
    refused d want (Some (stop_at line (refusal_at row kind))) (v.1 ∙ ap (λ c. Ok c) v.2.0)

-- ---- the reduce phase

groups_apart : (f : SeenFunction) (pairs : List Pair) (keys : List Seen) → reduce_wants f (map (λ key. record { key = key; values = values_column (class_of_values pairs) pairs key }) keys) ≡ map (reduced_key f pairs) keys
groups_apart f pairs [] = refl
groups_apart f pairs (key ∷ keys) = ap (λ ws. reduced_key f pairs key ∷ ws) (groups_apart f pairs keys)

-- a law of tall_script
abbrev pub ReducesApart : Type 0
ReducesApart = (f : SeenFunction) (pairs : List Pair) (keys : List Seen) (out : List Pair) → reduce_phase f pairs keys out ≡ joined_results (map (reduced_key f pairs) keys) out

pub reduce_apart : ReducesApart → (f : SeenFunction) (pairs : List Pair) → joined_results (reduce_wants f (groups_of pairs)) [] ≡ reduce_phase f pairs (distinct_keys pairs) []
reduce_apart apart f pairs = ap (λ ws. joined_results ws []) (groups_apart f pairs (distinct_keys pairs)) ∙ sym (apart f pairs (distinct_keys pairs) [])

-- so many groups were reduced
abbrev pub HasReduced : SeenFunction → List Group → List Pair → Type 0
HasReduced f groups out = Store → (rest : Wants) → joined_results (reduce_wants f groups ++ rest) [] ≡ joined_results rest out

pub reduces_all : (f : SeenFunction) (groups : List Group) (out : List Pair) → HasReduced f groups out → Store → joined_results (reduce_wants f groups) [] ≡ Ok out
reduces_all f groups out before d = ap (λ ws. joined_results ws []) (sym (append-nil (reduce_wants f groups))) ∙ before d []

-- ---- the answer

pub reduce_told : ReducesApart → (d : Store) (f : SeenFunction) (pairs : List Pair) (groups : List Group) (fault : MapFault) → groups ≡ groups_of pairs → IsOfFunctions fault → Reduces d f groups (Err fault)
    → Tells d (reduced_table (reduce_phase f pairs (distinct_keys pairs) [])) (Err fault)
reduce_told apart d f pairs groups (map.At line row kind) e only r = (ap reduced_table (sym (reduce_apart apart f pairs) ∙ ap (λ gs. joined_results (reduce_wants f gs) []) (sym e) ∙ r.0), r.1)
reduce_told apart d f pairs groups (map.Reading g) e only r = absurd only
reduce_told apart d f pairs groups (map.Read file) e only r = absurd only
reduce_told apart d f pairs groups (map.TooLarge file) e only r = absurd only
reduce_told apart d f pairs groups map.Memory e only r = tt

pub table_told : ReducesApart → (d : Store) (f : SeenFunction) (pairs out : List Pair) (groups : List Group) (r : Answer) → groups ≡ groups_of pairs → Reduces d f groups (Ok out)
    → IfOk r (λ t. memory.table t ≡ pairs_table out) → IfErr r (λ fault. fault ≡ map.Memory) → Tells d (reduced_table (reduce_phase f pairs (distinct_keys pairs) [])) r
table_told apart d f pairs out groups (Ok t) e r same only = ap reduced_table (sym (reduce_apart apart f pairs) ∙ ap (λ gs. joined_results (reduce_wants f gs) []) (sym e) ∙ r) ∙ ap (λ m. Ok m) (sym same)
table_told apart d f pairs out groups (Err fault) e r same only = subst (λ x. Tells d (reduced_table (reduce_phase f pairs (distinct_keys pairs) [])) (Err x)) (sym only) tt

pub not_mapped : (files : Files) (d : Store) (f g : SeenFunction) (fault : MapFault) → Maps files d f (Err fault) → Tells d (map_reduced files d f g) (Err fault)
unfolding map_reduced
not_mapped files d f g (map.At line row kind) m = (ap (λ r. elim r [ Ok pairs ↦ reduced_table (reduce_phase g pairs (distinct_keys pairs) []) | Err stop ↦ Err stop ]) m.0, m.1)
not_mapped files d f g (map.Reading fault) m = ap (λ r. elim r [ Ok pairs ↦ reduced_table (reduce_phase g pairs (distinct_keys pairs) []) | Err stop ↦ Err stop ]) m
not_mapped files d f g (map.Read file) m = tt
not_mapped files d f g (map.TooLarge file) m = tt
not_mapped files d f g map.Memory m = tt

pub mapped_told : (files : Files) (d : Store) (f g : SeenFunction) (pairs : List Pair) (r : Answer) → Maps files d f (Ok pairs) → Tells d (reduced_table (reduce_phase g pairs (distinct_keys pairs) [])) r → Tells d (map_reduced files d f g) r
unfolding map_reduced
mapped_told files d f g pairs r m told =
    subst (λ w. Tells d w r) (sym (ap (λ x. elim x [ Ok pairs ↦ reduced_table (reduce_phase g pairs (distinct_keys pairs) []) | Err stop ↦ Err stop ]) m)) told
