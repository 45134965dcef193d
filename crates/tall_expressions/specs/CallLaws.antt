-- Calls of a script only add to what may be opened.
use Rattle.std.proofs.Common.{ℕ, List, [], ◌∷◌, refl}
use Rattle.std.specs.List.{flat_map}
use Rattle.std.specs.Prelude.{slice_get, Option, None, Some, Result, Ok, Err}
use Rattle.tall_outside.specs.Shelf.{Files}
use Rattle.tall_semantics.specs.Faults.{At}
use Rattle.tall_semantics.specs.Talls.{Tall, shapes}
use Rattle.tall_grammar.specs.Trees.{SeenFunction}
use Rattle.tall_store.specs.declared.faults.StoreFault.{StoreFault}
use Rattle.tall_store.specs.Opening.{opening}
use Rattle.tall_store.specs.Options.{SeenOptions}
use Rattle.tall_store.specs.Stores.{SeenStore}
use Rattle.tall_local.specs.Arguments.{Argument, value_given}
use Rattle.tall_local.specs.Expressions.{Valued, gives, stops, go_on, answered}
use Rattle.tall_local.specs.Lists.{all_of}
use Rattle.tall_local.specs.Memory.{Memory}
use Rattle.tall_local.specs.Refusals.{Refusal, Stop}
use Rattle.tall_local.specs.StateLaws.{state_after, IsKept, CallsKeep}
use Rattle.tall_local.specs.Values.{in_memory}
use Rattle.tall_local.specs.declared.functions.ScriptFunction.TheVariants.{OfValues, TabularTextDatastore, Tall as TallOf, Gather, MapReduce, ReadAll, Elsewhere}
use Rattle.tall_script.specs.Datastores.{datastore_call, options_in, first_opening, made_store, store_with}
use Rattle.tall_script.specs.Gathers.{answered_all, gathered_value, gather_if, gather_one, gather_openings, gather_value, talls_in}
use Rattle.tall_script.specs.ScriptLanguage.{Setting, function_in, mapreduce_with, place, reduced_arguments, reduce_store, script_call, script_language, table_or_stop}
use Rattle.tall_script.specs.ScriptValues.{TallValue}
use Rattle.tall_script.specs.States.{Openings, State, Store, with_openings}
use Rattle.tall_environment.specs.EvaluationLaws.{opens_both, opens_same}
use Rattle.tall_environment.specs.Expressions.{OpensOn}

pub opens_on_kept : IsKept OpensOn
opens_on_kept = record { nothing = opens_same; both = opens_both }

more_on : (more : List Openings) (s : State Tall) → OpensOn s (with_openings more s)
more_on more s = (more, refl)

answer_on : (line : ℕ) (s : State Tall) (r : Result TallValue Refusal) → OpensOn s (state_after (answered line s r))
answer_on line s (Ok v) = opens_same s
answer_on line s (Err e) = opens_same s

-- ---- datastores

made_on : (at : At) (files : List (List ℕ)) (r : Result SeenStore StoreFault) (s t : State Tall) → OpensOn s t → OpensOn s (state_after (made_store at files r t))
made_on at files (Ok store) s t h = h
made_on at files (Err f) s t h = h

stored_on : (files : Files) (at : At) (o : Option SeenOptions) (s : State Tall) → OpensOn s (state_after (store_with files at o s))
stored_on files at None s = opens_same s
stored_on files at (Some o) s = made_on at o.files (opening files o) s (with_openings (first_opening o) s) (more_on (first_opening o) s)

datastore_on : (files : Files) (at : At) (args : List (Argument TallValue)) (s : State Tall) → OpensOn s (state_after (datastore_call files at args s))
unfolding datastore_call
datastore_on files at args s = stored_on files at (options_in args) s

-- ---- gathers

all_answered_on : {W : Type 0} (s t : State Tall) (r : Result W Stop) → OpensOn s t → OpensOn s (state_after (answered_all t r))
all_answered_on s t (Ok w) h = h
all_answered_on s t (Err stop) h = h

gathered_on : {W : Type 0} (line : ℕ) (vs : List TallValue) (r : Result W Refusal) (s : State Tall) → OpensOn s (state_after (gather_if line vs r s))
gathered_on line vs (Err e) s = opens_same s
gathered_on line vs (Ok w) s =
    let more = gather_openings 0 s.stores (shapes (flat_map talls_in vs)) in all_answered_on s (with_openings more s) _ (more_on more s)

one_value_on : (line : ℕ) (v : TallValue) (s : State Tall) → OpensOn s (state_after (gather_value line v s))
unfolding gather_value
one_value_on line v s = gathered_on line (v ∷ []) (gathered_value v) s

in_memory_on : (s : State Tall) (r : Valued Memory (State Tall)) → OpensOn s (state_after r) → OpensOn s (state_after {V = TallValue} (go_on r (λ m t. gives (in_memory m) t)))
in_memory_on s (gives m t) h = h
in_memory_on s (stops stop t) h = h

one_gather_on : (at : At) (vs : Option (List TallValue)) (s : State Tall) → OpensOn s (state_after (gather_one at vs s))
one_gather_on at None s = opens_same s
one_gather_on at (Some []) s = opens_same s
one_gather_on at (Some (v ∷ [])) s = in_memory_on s (gather_value at.line v s) (one_value_on at.line v s)
one_gather_on at (Some (v ∷ w ∷ vs)) s = opens_same s

-- ---- mapreduce

tabled_on : (r : Result Memory Stop) (s t : State Tall) → OpensOn s t → OpensOn s (state_after (table_or_stop r t))
tabled_on (Ok v) s t h = h
tabled_on (Err stop) s t h = h

reduces_on : (files : Files) (at : At) (d : Option Store) (m r : Option SeenFunction) (s : State Tall) → OpensOn s (state_after (reduce_store files at d m r s))
reduces_on files at None m r s = opens_same s
reduces_on files at (Some d) None r s = opens_same s
reduces_on files at (Some d) (Some m) None s = opens_same s
reduces_on files at (Some d) (Some m) (Some r) s =
    let more = record { files = d.store.files; times = 1 } ∷ [] in tabled_on _ s (with_openings more s) (more_on more s)

mapreduces_on : (setting : Setting) (at : At) (a : Result (ℕ × List ℕ × List ℕ) Refusal) (s : State Tall) → OpensOn s (state_after (mapreduce_with setting at a s))
mapreduces_on setting at (Ok a) s = reduces_on setting.files at (slice_get s.stores a.0) (function_in setting.functions a.1) (function_in setting.functions a.2) s
mapreduces_on setting at (Err e) s = opens_same s

-- ---- all calls

pub calls_open_on : (setting : Setting) → CallsKeep (script_language setting) OpensOn
unfolding script_call
calls_open_on setting n l (OfValues f) args s = answer_on l s _
calls_open_on setting n l TabularTextDatastore args s = datastore_on setting.files (place n l) args s
calls_open_on setting n l TallOf args s = answer_on l s _
calls_open_on setting n l Gather args s = one_gather_on (place n l) (all_of value_given args) s
calls_open_on setting n l MapReduce args s = mapreduces_on setting (place n l) (reduced_arguments args) s
calls_open_on setting n l ReadAll args s = answer_on l s _
calls_open_on setting n l Elsewhere args s = opens_same s
