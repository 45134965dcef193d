-- A run in which no mapreduce ran is the same with other ReadSizes.
use Rattle.std.proofs.Common.{◌≡◌, ℕ, zero, suc, ◌+◌, List, [], ◌∷◌, ◌++◌, Bool, true, false, refl, ap, sym, subst, ◌∙◌}
use Rattle.std.proofs.lemmas.Bool.{and_parts, true≢false}
use Rattle.std.proofs.lemmas.List.{length-map, append-nil, append_assoc}
use Rattle.std.proofs.lemmas.List.Elements.{All-nil, All-cons, All-head, All-tail, All-append}
use Rattle.std.specs.List.{All, flat_map}
use Rattle.std.specs.Option.{is_some}
use Rattle.std.specs.Prelude.{if◌then◌else◌, ◌==◌, ◌&&◌, not, map, length, slice_get, codes, Option, None, Some, option_map, Result, Ok, Err}
use Rattle.tall_cut.specs.declared.cutter.ReadSize.{ReadSize}
use Rattle.tall_cut.specs.declared.cutter.ReadSize.TheVariants.{File}
use Rattle.tall_grammar.specs.Trees.{Tree, tree, Args, no_args, value_arg, colon_arg, Body, assigned, property, bare, SeenStatement, SeenFunction}
use Rattle.tall_grammar.specs.Trees as trees
use Rattle.tall_outside.specs.Shelf.{Files}
use Rattle.tall_semantics.specs.Faults.{At, Cause, computed, reading, Fault, least_fault}
use Rattle.tall_semantics.specs.Outcomes.{fault_of}
use Rattle.tall_semantics.specs.Openings.{share}
use Rattle.tall_semantics.specs.Shapes.{Shape}
use Rattle.tall_semantics.specs.Talls.{Tall, outcomes, shapes}
use Rattle.tall_store.specs.declared.faults.StoreFault.{StoreFault}
use Rattle.tall_store.specs.declared.faults.StoreFault.TheVariants.{BadArgument}
use Rattle.tall_store.specs.declared.format.Format.{Format}
use Rattle.tall_store.specs.declared.options.Property.{Property}
use Rattle.tall_store.specs.declared.options.Property.TheVariants as store_property
use Rattle.tall_store.specs.Choices.{places_of}
use Rattle.tall_store.specs.Opening.{opening}
use Rattle.tall_store.specs.Options.{SeenOptions, is_choice, is_size}
use Rattle.tall_store.specs.Properties.{sized, selecting, formatted, with_places}
use Rattle.tall_store.specs.Stores.{SeenStore}
use Rattle.tall_value.specs.declared.faults.ReadingKind.{ReadingKind}
use Rattle.tall_value.specs.declared.faults.ReadingKind.TheVariants as kind
use Rattle.tall_local.specs.Arguments.{Argument, colon, function, given, value_given}
use Rattle.tall_local.specs.Expressions.{Language, Valued, gives, stops, go_on, answered, a_value, callee_named, callee, handle_in, call_value, argument, value, arguments}
use Rattle.tall_local.specs.Functions.{script_function_named}
use Rattle.tall_local.specs.Lists.{all_of, each_of}
use Rattle.tall_local.specs.Memory.{Memory}
use Rattle.tall_local.specs.Names.{named}
use Rattle.tall_local.specs.Refusals.{Refusal, undefined, bad_argument, Stop, stop_at, and_then, or_refuse}
use Rattle.tall_local.specs.CallsMade.{with_calls, listing, unlisted, calls_made, calls_in_arguments}
use Rattle.tall_local.specs.StateLaws.{state_after, IsKept, CallsKeep, CallsKeepBut, calls_none}
use Rattle.tall_local.proofs.ListedCalls.{value_unlisted, arguments_unlisted}
use Rattle.tall_local.proofs.StatesKept.{value_kept, arguments_kept, value_kept_but, arguments_kept_but}
use Rattle.tall_local.specs.Values.{datastore, tall_table, deferred, in_memory}
use Rattle.tall_local.specs.declared.functions.ScriptFunction.{ScriptFunction}
use Rattle.tall_local.specs.declared.functions.ScriptFunction.TheVariants.{OfValues, TabularTextDatastore, Tall as TallOf, Gather, MapReduce, ReadAll, Elsewhere}
use Rattle.tall_script.specs.Datastores.{datastore_call, options_in, first_opening, made_store, store_with, or_bad, changed}
use Rattle.tall_script.specs.Gathers.{answered_all, values_or_fault, gathered_value, gather_all, gather_if, gather_one, gather_openings, gather_value, talls_in}
use Rattle.tall_script.specs.ReadingFaults.{reading_in, refusal_of_cause}
use Rattle.tall_script.specs.Runs.{Run, behind, next, run_from}
use Rattle.tall_script.specs.ScriptLanguage.{Setting, function_in, place, read_name, is_mapreduce, mapreduce_with, reduce_store, reduced_arguments, script_call, script_language, script_value}
use Rattle.tall_script.specs.ScriptValues.{TallValue}
use Rattle.tall_script.specs.OpeningLaws.{ScriptCall, reduces_store}
use Rattle.tall_script.specs.SizeLaws.{in_blocks_of, sizeless, sizeless_state, sizeless_valued, sizeless_done, sizeless_run, reduces, is_reducing, reduces_none, reduce_none, ReducesNothing, calls_in_body, AfterDone, RunsNone}
use Rattle.tall_script.specs.Statements.{Done, shows, fails, then_do, set_name, set_names, shown_text, assign, gather_into, datastore_named, changed_store, put_store, alone, body, statement}
use Rattle.tall_script.specs.StoreArguments.{properties, size_given, texts_given, formats_given}
use Rattle.tall_script.specs.States.{Openings, State, Store, with_openings}
use Rattle.tall_script.specs.TallTables.{tall_of, tall_of_store, tall_call}
use Rattle.tall_script.proofs.Sizes.{same_table}

-- ---- lists of datastores

twice_each : (ds : List Store) → map sizeless (map sizeless ds) ≡ map sizeless ds
twice_each [] = refl
twice_each (d ∷ ds) = ap (λ es. sizeless d ∷ es) (twice_each ds)

put_behind : (ds : List Store) (d : Store) → map sizeless (map sizeless ds ++ d ∷ []) ≡ map sizeless (ds ++ d ∷ [])
put_behind [] d = refl
put_behind (e ∷ ds) d = ap (λ es. sizeless e ∷ es) (put_behind ds d)

put_alike : (ds : List Store) (d e : Store) → sizeless d ≡ sizeless e → map sizeless (ds ++ d ∷ []) ≡ map sizeless (ds ++ e ∷ [])
put_alike [] d e h = ap (λ x. x ∷ []) h
put_alike (x ∷ ds) d e h = ap (λ es. sizeless x ∷ es) (put_alike ds d e h)

get_each : (ds : List Store) (i : ℕ) → slice_get (map sizeless ds) i ≡ option_map sizeless (slice_get ds i)
get_each [] i = refl
get_each (d ∷ ds) zero = refl
get_each (d ∷ ds) (suc i) = get_each ds i

-- ---- states

abbrev with_stores : State Tall → List Store → State Tall
with_stores s ds = record s { stores = ds }

twice : (s : State Tall) → sizeless_state (sizeless_state s) ≡ sizeless_state s
twice s = ap (with_stores s) (twice_each s.stores)

abbrev Same : {W : Type 0} → Valued W (State Tall) → Valued W (State Tall) → Type 0
Same u v = sizeless_valued u ≡ sizeless_valued v

what_given : {W : Type 0} → W → Valued W (State Tall) → W
what_given w (gives x s) = x
what_given w (stops stop s) = w

step : {W X : Type 0} (u v : Valued W (State Tall)) (f : W → State Tall → Valued X (State Tall)) → Same u v
    → ((w : W) (t : State Tall) → Same (f w (sizeless_state t)) (f w t)) → Same (go_on u f) (go_on v f)
unfolding what_given
step (gives w s) (gives x t) f e k =
    let same_states : sizeless_state s ≡ sizeless_state t = ap (λ (r : Valued _ (State Tall)). state_after r) e in
    let same_values : w ≡ x = ap (λ r. what_given w r) e in
    sym (k w s) ∙ ap (λ y. sizeless_valued (f w y)) same_states ∙ ap (λ y. sizeless_valued (f y (sizeless_state t))) same_values ∙ k x t
step (gives w s) (stops stop t) f e k = absurd cc
step (stops stop s) (gives x t) f e k = absurd cc
step (stops stop s) (stops other t) f e k =
    let same_states : sizeless_state s ≡ sizeless_state t = ap (λ (r : Valued _ (State Tall)). state_after r) e in
    let same_stops : stop ≡ other = ap (λ (r : Valued _ (State Tall)). elim r [ gives y z ↦ stop | stops p z ↦ p ]) e in
    ap (λ p. stops p (sizeless_state s)) same_stops ∙ ap (λ y. stops other y) same_states

given_twice : {W : Type 0} (w : W) (s : State Tall) → Same (gives w (sizeless_state s)) (gives w s)
given_twice w s = ap (λ t. gives w t) (twice s)

stopped_twice : {W : Type 0} (stop : Stop) (s : State Tall) → ◌≡◌ {A = Valued W (State Tall)} (stops stop (sizeless_state (sizeless_state s))) (stops stop (sizeless_state s))
stopped_twice stop s = ap (λ t. stops stop t) (twice s)

an_answer : (line : ℕ) (s : State Tall) (q r : Result TallValue Refusal) → q ≡ r → Same (answered line (sizeless_state s) q) (answered line s r)
an_answer line s q (Ok v) e = ap (λ x. sizeless_valued (answered line (sizeless_state s) x)) e ∙ given_twice v s
an_answer line s q (Err f) e = ap (λ x. sizeless_valued (answered line (sizeless_state s) x)) e ∙ stopped_twice (stop_at line f) s

-- ---- calls

made : (at : At) (files : List (List ℕ)) (r : Result SeenStore StoreFault) (s : State Tall) → Same (made_store at files r (sizeless_state s)) (made_store at files r s)
made at files (Ok store) s =
    let d : Store = record { at = at; store = store } in
    ap (λ n. gives (datastore n) (with_stores s (map sizeless (map sizeless s.stores ++ d ∷ [])))) (length-map s.stores sizeless)
    ∙ ap (λ ds. gives (datastore (length s.stores)) (with_stores s ds)) (put_behind s.stores d)
made at files (Err f) s = stopped_twice _ s

stored : (files : Files) (at : At) (o : Option SeenOptions) (s : State Tall) → Same (store_with files at o (sizeless_state s)) (store_with files at o s)
stored files at None s = stopped_twice _ s
stored files at (Some o) s = made at o.files (opening files o) (with_openings (first_opening o) s)

table_of : (files : Files) (place : ℕ) (d : Option Store) → tall_of_store files place (option_map sizeless d) ≡ tall_of_store files place d
table_of files place None = refl
table_of files place (Some d) = same_table File d files place

tall_same : (files : Files) (vs : List TallValue) (s : State Tall) → tall_of files vs (sizeless_state s) ≡ tall_of files vs s
tall_same files [] s = refl
tall_same files (datastore place ∷ []) s = ap (tall_of_store files place) (get_each s.stores place) ∙ table_of files place (slice_get s.stores place)
tall_same files (tall_table t ∷ []) s = refl
tall_same files (deferred x ∷ []) s = refl
tall_same files (in_memory v ∷ []) s = refl
tall_same files (datastore place ∷ v ∷ vs) s = refl
tall_same files (tall_table t ∷ v ∷ vs) s = refl
tall_same files (deferred x ∷ v ∷ vs) s = refl
tall_same files (in_memory w ∷ v ∷ vs) s = refl

tall_given : (files : Files) (args : List (Argument TallValue)) (s : State Tall) → tall_call files args (sizeless_state s) ≡ tall_call files args s
unfolding tall_call
tall_given files args s = by_values (all_of value_given args) where
  by_values : (vs : Option (List TallValue)) → ◌≡◌ {A = Result TallValue Refusal} (elim vs [ Some ws ↦ tall_of files ws (sizeless_state s) | None ↦ Err bad_argument ]) (elim vs [ Some ws ↦ tall_of files ws s | None ↦ Err bad_argument ])
  by_values None = refl
  by_values (Some ws) = tall_same files ws s

same_openings : (n : ℕ) (ds : List Store) (xs : List Shape) → gather_openings n (map sizeless ds) xs ≡ gather_openings n ds xs
same_openings n [] xs = refl
same_openings n (d ∷ ds) xs = ap (λ os. record { files = d.store.files; times = share n xs } ∷ os) (same_openings (n + 1) ds xs)

same_reading : (d : Option Store) (k : ReadingKind) (file : ℕ) (f : Fault) → reading_in (option_map sizeless d) k file f ≡ reading_in d k file f
same_reading None k file f = refl
same_reading (Some d) k file f = by_kind k where
  by_kind : (j : ReadingKind) → reading_in (Some (sizeless d)) j file f ≡ reading_in (Some d) j file f
  by_kind kind.NoFile = refl
  by_kind kind.HeaderDiffers = refl
  by_kind kind.TooManyRows = refl
  by_kind kind.TooManyFields = refl
  by_kind kind.BadField = refl
  by_kind kind.BadText = refl
  by_kind kind.NotWhole = refl
  by_kind kind.Inexact = refl

same_cause : (ds : List Store) (c : Cause) (f : Fault) → refusal_of_cause (map sizeless ds) c f ≡ refusal_of_cause ds c f
same_cause ds (computed k) f = refl
same_cause ds (reading k file) f = ap (λ d. reading_in d k file f) (get_each ds f.store) ∙ same_reading (slice_get ds f.store) k file f

values_same : {W : Type 0} (ds : List Store) (f : Option Fault) (w : W) → values_or_fault (map sizeless ds) f w ≡ values_or_fault ds f w
values_same ds None w = refl
values_same ds (Some f) w = ap (λ e. Err (stop_at f.line e)) (same_cause ds f.cause f)

answered_same : {W : Type 0} (s : State Tall) (os : List Openings) (r : Result W Stop) → Same (answered_all (with_openings os (sizeless_state s)) r) (answered_all (with_openings os s) r)
answered_same s os (Ok w) = given_twice w (with_openings os s)
answered_same s os (Err stop) = stopped_twice stop (with_openings os s)

if_gathered : {W : Type 0} (line : ℕ) (vs : List TallValue) (r : Result W Refusal) (s : State Tall) → Same (gather_if line vs r (sizeless_state s)) (gather_if line vs r s)
if_gathered line vs (Err e) s = stopped_twice _ s
if_gathered line vs (Ok w) s =
    let xs = flat_map talls_in vs in let f = least_fault (map fault_of (outcomes xs)) in
    ap (λ os. sizeless_valued (answered_all (with_openings os (sizeless_state s)) (values_or_fault (map sizeless s.stores) f w))) (same_openings 0 s.stores (shapes xs))
    ∙ ap (λ r. sizeless_valued (answered_all (with_openings (gather_openings 0 s.stores (shapes xs)) (sizeless_state s)) r)) (values_same s.stores f w)
    ∙ answered_same s (gather_openings 0 s.stores (shapes xs)) (values_or_fault s.stores f w)

one_value : (line : ℕ) (v : TallValue) (s : State Tall) → Same (gather_value line v (sizeless_state s)) (gather_value line v s)
unfolding gather_value
one_value line v s = if_gathered line (v ∷ []) (gathered_value v) s

all_gathered : (line : ℕ) (vs : List TallValue) (s : State Tall) → Same (gather_all line vs (sizeless_state s)) (gather_all line vs s)
unfolding gather_all
all_gathered line vs s = if_gathered line vs (each_of gathered_value vs) s

abbrev held_value : Memory → State Tall → Valued TallValue (State Tall)
held_value m t = gives (in_memory m) t

one_gather : (at : At) (vs : Option (List TallValue)) (s : State Tall) → Same (gather_one at vs (sizeless_state s)) (gather_one at vs s)
one_gather at None s = stopped_twice _ s
one_gather at (Some []) s = stopped_twice _ s
one_gather at (Some (v ∷ [])) s =
    step (gather_value at.line v (sizeless_state s)) (gather_value at.line v s) held_value (one_value at.line v s) (λ m t. given_twice (in_memory m) t)
one_gather at (Some (v ∷ w ∷ vs)) s = stopped_twice _ s

-- ---- properties

abbrev sizeless_result : Result Store Refusal → Result Store Refusal
sizeless_result (Ok d) = Ok (sizeless d)
sizeless_result (Err e) = Err e

abbrev in_one_block : Result SeenStore Refusal → Result SeenStore Refusal
in_one_block (Ok store) = Ok (in_blocks_of File store)
in_one_block (Err e) = Err e

abbrev or_refused : Result SeenStore StoreFault → Result SeenStore Refusal
or_refused r = elim r [ Ok store ↦ Ok store | Err f ↦ Err bad_argument ]

if_so : (b : Bool) (p q r s : Result SeenStore StoreFault) → in_one_block (or_refused p) ≡ in_one_block (or_refused r) → in_one_block (or_refused q) ≡ in_one_block (or_refused s)
    → in_one_block (or_refused (if b then p else q)) ≡ in_one_block (or_refused (if b then r else s))
if_so true p q r s h k = h
if_so false p q r s h k = k

of_size : (store : SeenStore) (size : Option ReadSize) → in_one_block (or_bad (sized (in_blocks_of File store)) size) ≡ in_one_block (or_bad (sized store) size)
of_size store None = refl
of_size store (Some size) = if_so (is_size size) (Ok (in_blocks_of size store)) (Err BadArgument) (Ok (in_blocks_of size store)) (Err BadArgument) refl refl

of_places : (store : SeenStore) (places : Option (List ℕ)) → in_one_block (or_refused (with_places (in_blocks_of File store) places)) ≡ in_one_block (or_refused (with_places store places))
of_places store None = refl
of_places store (Some places) = refl

of_names : (store : SeenStore) (names : Option (List (List ℕ))) → in_one_block (or_bad (selecting (in_blocks_of File store)) names) ≡ in_one_block (or_bad (selecting store) names)
of_names store None = refl
of_names store (Some names) =
    if_so (is_choice names) (with_places (in_blocks_of File store) (places_of store.names names)) (Err BadArgument) (with_places store (places_of store.names names)) (Err BadArgument)
    (of_places store (places_of store.names names)) refl

of_formats : (store : SeenStore) (formats : Option (List Format)) → in_one_block (or_bad (formatted (in_blocks_of File store)) formats) ≡ in_one_block (or_bad (formatted store) formats)
of_formats store None = refl
of_formats store (Some formats) =
    if_so (length formats == length store.names) (Ok (record (in_blocks_of File store) { formats = formats })) (Err BadArgument) (Ok (record store { formats = formats })) (Err BadArgument) refl refl

changed_same : (store : SeenStore) (p : Property) (v : TallValue) → in_one_block (changed (in_blocks_of File store) p v) ≡ in_one_block (changed store p v)
unfolding changed
changed_same store store_property.ReadSize (in_memory v) = of_size store (size_given v)
changed_same store store_property.ReadSize (datastore place) = refl
changed_same store store_property.ReadSize (tall_table t) = refl
changed_same store store_property.ReadSize (deferred x) = refl
changed_same store store_property.SelectedVariableNames (in_memory v) = of_names store (texts_given v)
changed_same store store_property.SelectedVariableNames (datastore place) = refl
changed_same store store_property.SelectedVariableNames (tall_table t) = refl
changed_same store store_property.SelectedVariableNames (deferred x) = refl
changed_same store store_property.TextscanFormats (in_memory v) = of_formats store (formats_given v)
changed_same store store_property.TextscanFormats (datastore place) = refl
changed_same store store_property.TextscanFormats (tall_table t) = refl
changed_same store store_property.TextscanFormats (deferred x) = refl

abbrev called_at : At → Result SeenStore Refusal → Result Store Refusal
called_at at r = and_then r (λ store. Ok (record { at = at; store = store }))

called_so : (at : At) (r : Result SeenStore Refusal) → sizeless_result (called_at at r) ≡ called_at at (in_one_block r)
called_so at (Ok store) = refl
called_so at (Err e) = refl

of_property : (o : Option Property) (v : TallValue) (d : Store)
    → sizeless_result (and_then (or_refuse bad_argument o) (λ p. called_at d.at (changed (in_blocks_of File d.store) p v))) ≡ sizeless_result (and_then (or_refuse bad_argument o) (λ p. called_at d.at (changed d.store p v)))
of_property None v d = refl
of_property (Some p) v d =
    called_so d.at (changed (in_blocks_of File d.store) p v) ∙ ap (called_at d.at) (changed_same d.store p v) ∙ sym (called_so d.at (changed d.store p v))

of_store : (p : List ℕ) (v : TallValue) (o : Option Store)
    → sizeless_result (and_then (or_refuse bad_argument (option_map sizeless o)) (changed_store p v)) ≡ sizeless_result (and_then (or_refuse bad_argument o) (changed_store p v))
of_store p v None = refl
of_store p v (Some d) = of_property (named properties p) v d

same_inside : (d e : Store) → ◌≡◌ {A = Result Store Refusal} (Ok (sizeless d)) (Ok (sizeless e)) → sizeless d ≡ sizeless e
same_inside d e h = ap (λ r. elim r as (λ x. Store) [ Ok x ↦ x | Err f ↦ sizeless d ]) h

same_refusal : (e f : Refusal) → ◌≡◌ {A = Result Store Refusal} (Err e) (Err f) → e ≡ f
same_refusal e f h = ap (λ r. elim r as (λ x. Refusal) [ Ok x ↦ e | Err g ↦ g ]) h

-- ---- states without a look at ReadSizes

abbrev AreAlike : State Tall → State Tall → Type 0
AreAlike s t = sizeless_state s ≡ sizeless_state t

same_names : (s t : State Tall) → AreAlike s t → s.names ≡ t.names
same_names s t e = ap (λ (x : State Tall). x.names) e

same_gives : {W : Type 0} (w : W) (s t : State Tall) → AreAlike s t → Same (gives w s) (gives w t)
same_gives w s t e = ap (λ x. gives w x) e

same_stops : {W : Type 0} (stop : Stop) (s t : State Tall) → AreAlike s t → ◌≡◌ {A = Valued W (State Tall)} (stops stop (sizeless_state s)) (stops stop (sizeless_state t))
same_stops stop s t e = ap (λ x. stops stop x) e

-- ---- mapreduce

none_there : (d : Option Store) → is_some (option_map sizeless d) ≡ is_some d
none_there None = refl
none_there (Some d) = refl

refused_alike : (files : Files) (at : At) (d : Option Store) (m r : Option SeenFunction) (s : State Tall) → (is_some d && (is_some m && is_some r)) ≡ false
    → Same (reduce_store files at (option_map sizeless d) m r (sizeless_state s)) (reduce_store files at d m r s)
refused_alike files at None m r s h = stopped_twice _ s
refused_alike files at (Some d) None r s h = stopped_twice _ s
refused_alike files at (Some d) (Some m) None s h = stopped_twice _ s
refused_alike files at (Some d) (Some m) (Some r) s h = absurd (true≢false h)

reduces_alike : (setting : Setting) (a : Result (ℕ × List ℕ × List ℕ) Refusal) (s : State Tall) → reduces_store setting a (sizeless_state s) ≡ reduces_store setting a s
reduces_alike setting (Ok a) s =
    ap (λ b. b && (is_some (function_in setting.functions a.1) && is_some (function_in setting.functions a.2))) (ap (λ (d : Option Store). is_some d) (get_each s.stores a.0) ∙ none_there (slice_get s.stores a.0))
reduces_alike setting (Err e) s = refl

mapreduce_same : (setting : Setting) (at : At) (a : Result (ℕ × List ℕ × List ℕ) Refusal) (s : State Tall) → reduces_store setting a s ≡ false
    → Same (mapreduce_with setting at a (sizeless_state s)) (mapreduce_with setting at a s)
mapreduce_same setting at (Ok a) s h =
    ap (λ d. sizeless_valued (reduce_store setting.files at d (function_in setting.functions a.1) (function_in setting.functions a.2) (sizeless_state s))) (get_each s.stores a.0)
    ∙ refused_alike setting.files at (slice_get s.stores a.0) (function_in setting.functions a.1) (function_in setting.functions a.2) s h
mapreduce_same setting at (Err e) s h = stopped_twice _ s

-- ---- lists of calls

all_behind : {X : Type 0} (P : X → Type 0) (xs ys : List X) → All P (xs ++ ys) → All P ys
all_behind P [] ys h = h
all_behind P (x ∷ xs) ys h = all_behind P xs ys (All-tail P x (xs ++ ys) h)

unlisted_with : {W S C : Type 0} (calls : C) (v : Valued W S) → unlisted (with_calls calls v) ≡ v
unlisted_with calls (gives w s) = refl
unlisted_with calls (stops stop s) = refl

all_front : {X : Type 0} (P : X → Type 0) (xs ys : List X) → All P (xs ++ ys) → All P xs
all_front P [] ys h = All-nil P
all_front P (x ∷ xs) ys h = All-cons P x xs (All-head P x (xs ++ ys) h) (all_front P xs ys (All-tail P x (xs ++ ys) h))

module _ (setting : Setting) where
  abbrev L : Language ScriptFunction TallValue (State Tall)
  L = script_language setting

  abbrev Listed : Type 0
  Listed = State Tall × List ScriptCall

  abbrev LL : Language ScriptFunction TallValue Listed
  LL = listing L

  -- no call that is listed runs a mapreduce
  abbrev Quiet : {W : Type 0} → Valued W Listed → Type 0
  Quiet v = All (ReducesNothing setting) (state_after v).1

  abbrev Grows : Listed → Listed → Type 0
  Grows s t = (more : List ScriptCall) × (t.1 ≡ s.1 ++ more)

  grows_kept : IsKept Grows
  grows_kept = record {
    nothing = λ s. ([], sym (append-nil s.1));
    both = λ s t u h k. (h.0 ++ k.0, k.1 ∙ ap (λ cs. cs ++ k.0) h.1 ∙ append_assoc s.1 h.0 k.0);
  }

  one_listed : (calls : List ScriptCall) (c : ScriptCall) (s : State Tall) (r : Valued TallValue (State Tall)) → Grows (s, calls) (state_after (with_calls (calls ++ c ∷ []) r))
  one_listed calls c s (gives v t) = (c ∷ [], refl)
  one_listed calls c s (stops stop t) = (c ∷ [], refl)

  calls_grow : CallsKeep LL Grows
  calls_grow n l f args s = one_listed s.1 (record { function = f; arguments = args; state = s.0 }) s.0 (L.call n l f args s.0)

  value_grows : (e : Tree) (s : Listed) → Grows s (state_after (value LL e s))
  value_grows = value_kept LL Grows grows_kept calls_grow

  arguments_grow : (args : Args) (takes : Bool) (s : Listed) → Grows s (state_after (arguments LL args takes s))
  arguments_grow = arguments_kept LL Grows grows_kept calls_grow

  -- ---- one call

  one_call : (n l : ℕ) (f : ScriptFunction) (args : List (Argument TallValue)) (s : State Tall) → ReducesNothing setting (record { function = f; arguments = args; state = s })
      → Same (script_call setting (place n l) f args (sizeless_state s)) (script_call setting (place n l) f args s)
  unfolding script_call datastore_call
  one_call n l (OfValues f) args s h = an_answer l s _ _ refl
  one_call n l TabularTextDatastore args s h = stored setting.files (place n l) (options_in args) s
  one_call n l TallOf args s h = an_answer l s _ _ (tall_given setting.files args s)
  one_call n l Gather args s h = one_gather (place n l) (all_of value_given args) s
  one_call n l MapReduce args s h = mapreduce_same setting (place n l) (reduced_arguments args) s h
  one_call n l ReadAll args s h = an_answer l s _ _ refl
  one_call n l Elsewhere args s h = stopped_twice _ s

  -- the same call reduces nothing in a state that differs in ReadSizes alone
  still_none : (f : ScriptFunction) (args : List (Argument TallValue)) (s t : State Tall) → AreAlike s t → ReducesNothing setting (record { function = f; arguments = args; state = t })
      → ReducesNothing setting (record { function = f; arguments = args; state = s })
  still_none f args s t e h =
      ap (λ b. is_mapreduce f && b) (sym (reduces_alike setting (reduced_arguments args) s) ∙ ap (reduces_store setting (reduced_arguments args)) e ∙ reduces_alike setting (reduced_arguments args) t) ∙ h

  two_calls : (n l : ℕ) (f : ScriptFunction) (args : List (Argument TallValue)) (s t : State Tall) → AreAlike s t → ReducesNothing setting (record { function = f; arguments = args; state = t })
      → Same (L.call n l f args s) (L.call n l f args t)
  two_calls n l f args s t e h =
      sym (one_call n l f args s (still_none f args s t e h)) ∙ ap (λ x. sizeless_valued (L.call n l f args x)) e ∙ one_call n l f args t h

  -- ---- expressions

  -- the run from one state does what the listed one from another does, where no listed call runs a mapreduce
  abbrev Follows : {W : Type 0} → Valued W (State Tall) → Valued W Listed → Type 0
  Follows u v = Quiet v → Same u (unlisted v)

  two_steps : {W X : Type 0} (u : Valued W (State Tall)) (v : Valued W Listed) (f : W → State Tall → Valued X (State Tall)) (g : W → Listed → Valued X Listed) → Follows u v
      → ((w : W) (t : Listed) → Grows t (state_after (g w t))) → ((w : W) (s : State Tall) (t : Listed) → AreAlike s t.0 → Follows (f w s) (g w t)) → Follows (go_on u f) (go_on v g)
  unfolding what_given
  two_steps (gives w s) (gives x t) f g e grows k q =
      let more = grows x t in
      let same = e (all_front (ReducesNothing setting) t.1 more.0 (subst (All (ReducesNothing setting)) more.1 q)) in
      let same_states : sizeless_state s ≡ sizeless_state t.0 = ap (λ (r : Valued _ (State Tall)). state_after r) same in
      let same_values : w ≡ x = ap (λ r. what_given w r) same in
      ap (λ y. sizeless_valued (f y s)) same_values ∙ k x s t same_states q
  two_steps (gives w s) (stops stop t) f g e grows k q = absurd (let same = e q in cc)
  two_steps (stops stop s) (gives x t) f g e grows k q =
      let more = grows x t in
      absurd (let same = e (all_front (ReducesNothing setting) t.1 more.0 (subst (All (ReducesNothing setting)) more.1 q)) in cc)
  two_steps (stops stop s) (stops other t) f g e grows k q =
      let same = e q in
      let same_states : sizeless_state s ≡ sizeless_state t.0 = ap (λ (r : Valued _ (State Tall)). state_after r) same in
      let same_stops : stop ≡ other = ap (λ (r : Valued _ (State Tall)). elim r [ gives y z ↦ stop | stops p z ↦ p ]) same in
      ap (λ p. stops p (sizeless_state s)) same_stops ∙ ap (λ y. stops other y) same_states

  two_answers : {W : Type 0} (line : ℕ) (s : State Tall) (t : Listed) (q r : Result W Refusal) → AreAlike s t.0 → q ≡ r → Same (answered line s q) (unlisted (answered line t r))
  two_answers line s t q (Ok v) e h = ap (λ x. sizeless_valued (answered line s x)) h ∙ same_gives v s t.0 e
  two_answers line s t q (Err f) e h = ap (λ x. sizeless_valued (answered line s x)) h ∙ same_stops (stop_at line f) s t.0 e

  answer_grows : {W : Type 0} (line : ℕ) (t : Listed) (r : Result W Refusal) → Grows t (state_after (answered line t r))
  answer_grows line t (Ok v) = grows_kept.nothing t
  answer_grows line t (Err e) = grows_kept.nothing t

  -- a call that is listed last
  last_call : (c : ScriptCall) (calls : List ScriptCall) (r : Valued TallValue (State Tall)) → Quiet (with_calls (calls ++ c ∷ []) r) → ReducesNothing setting c
  last_call c calls (gives v t) q = All-head (ReducesNothing setting) c [] (all_behind (ReducesNothing setting) calls (c ∷ []) q)
  last_call c calls (stops stop t) q = All-head (ReducesNothing setting) c [] (all_behind (ReducesNothing setting) calls (c ∷ []) q)

  call_follows : (n l : ℕ) (f : ScriptFunction) (args : List (Argument TallValue)) (s : State Tall) (t : Listed) → AreAlike s t.0 → Follows (L.call n l f args s) (LL.call n l f args t)
  call_follows n l f args s t e q =
      let c : ScriptCall = record { function = f; arguments = args; state = t.0 } in
      two_calls n l f args s t.0 e (last_call c t.1 (L.call n l f args t.0) q) ∙ ap (λ x. sizeless_valued x) (sym (unlisted_with (t.1 ++ c ∷ []) (L.call n l f args t.0)))

  on_grows : {W X : Type 0} (t : Listed) (v : Valued W Listed) (g : W → Listed → Valued X Listed) → Grows t (state_after v) → ((w : W) (u : Listed) → Grows u (state_after (g w u)))
      → Grows t (state_after (go_on v g))
  on_grows t (gives w u) g h k = grows_kept.both t u (state_after (g w u)) h (k w u)
  on_grows t (stops stop u) g h k = h

  abbrev Rest : Type 0
  Rest = Bool → State Tall → Valued (List (Argument TallValue)) (State Tall)

  abbrev ListedRest : Type 0
  ListedRest = Bool → Listed → Valued (List (Argument TallValue)) Listed

  argument_follows : (a : Option (ℕ × List ℕ)) (first : State Tall → Valued TallValue (State Tall)) (listed : Listed → Valued TallValue Listed)
      → ((s : State Tall) (t : Listed) → AreAlike s t.0 → Follows (first s) (listed t)) → (s : State Tall) (t : Listed) → AreAlike s t.0 → Follows (argument L a first s) (argument LL a listed t)
  argument_follows None first listed h s t e =
      two_steps (first s) (listed t) (λ v x. gives (given v) x) (λ v x. gives (given v) x) (h s t e) (λ v u. grows_kept.nothing u) (λ v x u i q. same_gives (given v) x u.0 i)
  argument_follows (Some a) first listed h s t e = by_test (L.function_is_there a.1) where
    by_test : (b : Bool) → Follows {W = Argument TallValue} (if b then gives (function a.1) s else stops (stop_at a.0 (undefined a.1)) s) (if b then gives (function a.1) t else stops (stop_at a.0 (undefined a.1)) t)
    by_test true = λ q. same_gives _ s t.0 e
    by_test false = λ q. same_stops _ s t.0 e

  module _ (n l : ℕ) (first : State Tall → Valued TallValue (State Tall)) (listed : Listed → Valued TallValue Listed) (rest : Rest) (listed_rest : ListedRest)
      (firsts : (s : State Tall) (t : Listed) → AreAlike s t.0 → Follows (first s) (listed t))
      (rests : (takes : Bool) (s : State Tall) (t : Listed) → AreAlike s t.0 → Follows (rest takes s) (listed_rest takes t))
      (rest_grows : (takes : Bool) (t : Listed) → Grows t (state_after (listed_rest takes t))) where
    index_follows : (s : State Tall) (t : Listed) → AreAlike s t.0 → Follows (call_value L n l a_value first rest s) (call_value LL n l a_value listed listed_rest t)
    index_follows s t e =
        two_steps (first s) (listed t) (λ v x. go_on (rest false x) (λ args u. answered l u (L.index n l v args))) (λ v x. go_on (listed_rest false x) (λ args u. answered l u (LL.index n l v args))) (firsts s t e)
        (λ v u. on_grows u (listed_rest false u) (λ args y. answered l y (LL.index n l v args)) (rest_grows false u) (λ args y. answer_grows l y (LL.index n l v args)))
        (λ v x u i. two_steps (rest false x) (listed_rest false u) (λ args y. answered l y (L.index n l v args)) (λ args y. answered l y (LL.index n l v args)) (rests false x u i)
        (λ args y. answer_grows l y (LL.index n l v args)) (λ args y z j q. two_answers l y z (L.index n l v args) (L.index n l v args) j refl))

    named_follows : (line : ℕ) (name : List ℕ) (has listed_has : Bool) → has ≡ listed_has → (found : Option ScriptFunction) (s : State Tall) (t : Listed) → AreAlike s t.0
        → Follows (call_value L n l (if has then a_value else callee_named line name found) first rest s) (call_value LL n l (if listed_has then a_value else callee_named line name found) listed listed_rest t)
    named_follows line name true true same found s t e = index_follows s t e
    named_follows line name true false same found s t e = absurd (true≢false same)
    named_follows line name false true same found s t e = absurd (true≢false (sym same))
    named_follows line name false false same None s t e = λ q. same_stops _ s t.0 e
    named_follows line name false false same (Some f) s t e =
        two_steps (rest (L.takes_handles f) s) (listed_rest (L.takes_handles f) t) (λ args x. L.call n l f args x) (λ args x. LL.call n l f args x) (rests (L.takes_handles f) s t e)
        (λ args u. calls_grow n l f args u) (λ args x u i. call_follows n l f args x u i)

    callee_follows : (e : Tree) (s : State Tall) (t : Listed) → AreAlike s t.0 → Follows (call_value L n l (callee L s e) first rest s) (call_value LL n l (callee LL t e) listed listed_rest t)
    callee_follows (tree i j (trees.number d)) s t e = index_follows s t e
    callee_follows (tree i j (trees.text x)) s t e = index_follows s t e
    callee_follows (tree i j (trees.name x)) s t e =
        named_follows j x (L.has_value s x) (L.has_value t.0 x) (ap (λ (names : List (List ℕ × TallValue)). is_some (named names x)) (same_names s t.0 e)) (script_function_named x) s t e
    callee_follows (tree i j (trees.list es)) s t e = index_follows s t e
    callee_follows (tree i j (trees.handle x)) s t e = index_follows s t e
    callee_follows (tree i j (trees.prefixed op a)) s t e = index_follows s t e
    callee_follows (tree i j (trees.joined op a b)) s t e = index_follows s t e
    callee_follows (tree i j (trees.member a x)) s t e = index_follows s t e
    callee_follows (tree i j (trees.call a args)) s t e = index_follows s t e

  mutual
    value_follows : (a : Tree) (s : State Tall) (t : Listed) → AreAlike s t.0 → Follows (value L a s) (value LL a t)
    value_follows (tree n l (trees.number d)) s t e = λ q. same_gives _ s t.0 e
    value_follows (tree n l (trees.text x)) s t e = λ q. same_gives _ s t.0 e
    value_follows (tree n l (trees.name x)) s t e = λ q. two_answers l s t (L.name s x) (L.name t.0 x) e (ap (λ (names : List (List ℕ × TallValue)). read_name x (named names x)) (same_names s t.0 e))
    value_follows (tree n l (trees.list es)) s t e = λ q. same_gives _ s t.0 e
    value_follows (tree n l (trees.handle x)) s t e = λ q. same_stops _ s t.0 e
    value_follows (tree n l (trees.prefixed op a)) s t e =
        two_steps (value L a s) (value LL a t) (λ v x. answered l x (L.prefix_value n l op v)) (λ v x. answered l x (LL.prefix_value n l op v)) (value_follows a s t e)
        (λ v u. answer_grows l u (LL.prefix_value n l op v)) (λ v x u i q. two_answers l x u (L.prefix_value n l op v) (L.prefix_value n l op v) i refl)
    value_follows (tree n l (trees.joined op a b)) s t e =
        two_steps (value L a s) (value LL a t) (λ v x. go_on (value L b x) (λ w y. answered l y (L.infix_value n l op v w))) (λ v x. go_on (value LL b x) (λ w y. answered l y (LL.infix_value n l op v w)))
        (value_follows a s t e)
        (λ v u. on_grows u (value LL b u) (λ w y. answered l y (LL.infix_value n l op v w)) (value_grows b u) (λ w y. answer_grows l y (LL.infix_value n l op v w)))
        (λ v x u i. two_steps (value L b x) (value LL b u) (λ w y. answered l y (L.infix_value n l op v w)) (λ w y. answered l y (LL.infix_value n l op v w)) (value_follows b x u i)
        (λ w y. answer_grows l y (LL.infix_value n l op v w)) (λ w y z j q. two_answers l y z (L.infix_value n l op v w) (L.infix_value n l op v w) j refl))
    value_follows (tree n l (trees.member a x)) s t e =
        two_steps (value L a s) (value LL a t) (λ v y. answered l y (L.member v x)) (λ v y. answered l y (LL.member v x)) (value_follows a s t e)
        (λ v u. answer_grows l u (LL.member v x)) (λ v y u i q. two_answers l y u (L.member v x) (L.member v x) i refl)
    value_follows (tree n l (trees.call a args)) s t e =
        callee_follows n l (λ x. value L a x) (λ x. value LL a x) (λ takes x. arguments L args takes x) (λ takes x. arguments LL args takes x)
        (λ x y i. value_follows a x y i) (λ takes x y i. arguments_follow args takes x y i) (λ takes y. arguments_grow args takes y) a s t e

    arguments_follow : (args : Args) (takes : Bool) (s : State Tall) (t : Listed) → AreAlike s t.0 → Follows (arguments L args takes s) (arguments LL args takes t)
    arguments_follow no_args takes s t e = λ q. same_gives _ s t.0 e
    arguments_follow (value_arg a args) takes s t e =
        two_steps (argument L (handle_in takes a) (λ x. value L a x) s) (argument LL (handle_in takes a) (λ x. value LL a x) t)
        (λ b x. go_on (arguments L args takes x) (λ rest u. gives (b ∷ rest) u)) (λ b x. go_on (arguments LL args takes x) (λ rest u. gives (b ∷ rest) u))
        (argument_follows (handle_in takes a) (λ x. value L a x) (λ x. value LL a x) (λ x y i. value_follows a x y i) s t e)
        (λ b u. on_grows u (arguments LL args takes u) (λ rest y. gives (b ∷ rest) y) (arguments_grow args takes u) (λ rest y. grows_kept.nothing y))
        (λ b x u i. two_steps (arguments L args takes x) (arguments LL args takes u) (λ rest y. gives (b ∷ rest) y) (λ rest y. gives (b ∷ rest) y) (arguments_follow args takes x u i)
        (λ rest y. grows_kept.nothing y) (λ rest y z j q. same_gives (b ∷ rest) y z.0 j))
    arguments_follow (colon_arg args) takes s t e =
        two_steps (arguments L args takes s) (arguments LL args takes t) (λ rest x. gives (colon ∷ rest) x) (λ rest x. gives (colon ∷ rest) x) (arguments_follow args takes s t e)
        (λ rest y. grows_kept.nothing y) (λ rest x u i q. same_gives (colon ∷ rest) x u.0 i)

  -- without lists
  plain_value : (a : Tree) (s t : State Tall) → AreAlike s t → All (ReducesNothing setting) (calls_made L a t) → Same (script_value setting a s) (script_value setting a t)
  plain_value a s t e q = value_follows a s (t, []) e q ∙ ap (λ r. sizeless_valued r) (value_unlisted L a (t, []))

  plain_arguments : (args : Args) (s t : State Tall) → AreAlike s t → All (ReducesNothing setting) (calls_in_arguments L args false t) → Same (arguments L args false s) (arguments L args false t)
  plain_arguments args s t e q = arguments_follow args false s (t, []) e q ∙ ap (λ r. sizeless_valued r) (arguments_unlisted L args false (t, []))

  -- ---- statements

  abbrev Alike : Done → Done → Type 0
  Alike d e = sizeless_done d ≡ sizeless_done e

  do_step : {W : Type 0} (u v : Valued W (State Tall)) (f : W → State Tall → Done) → Same u v → ((w : W) (t : State Tall) → Alike (f w (sizeless_state t)) (f w t)) → Alike (then_do u f) (then_do v f)
  unfolding what_given
  do_step (gives w s) (gives x t) f e k =
      let same_states : sizeless_state s ≡ sizeless_state t = ap (λ (r : Valued _ (State Tall)). state_after r) e in
      let same_values : w ≡ x = ap (λ r. what_given w r) e in
      sym (k w s) ∙ ap (λ y. sizeless_done (f w y)) same_states ∙ ap (λ y. sizeless_done (f y (sizeless_state t))) same_values ∙ k x t
  do_step (gives w s) (stops stop t) f e k = absurd cc
  do_step (stops stop s) (gives x t) f e k = absurd cc
  do_step (stops stop s) (stops other t) f e k =
      ap (λ (r : Valued _ (State Tall)). elim r as (λ x. Done) [ gives y z ↦ fails stop z | stops p z ↦ fails p z ]) e

  shown_twice : (text : List ℕ) (s : State Tall) → Alike (shows text (sizeless_state s)) (shows text s)
  shown_twice text s = ap (λ t. shows text t) (twice s)

  failed_twice : (stop : Stop) (s : State Tall) → Alike (fails stop (sizeless_state s)) (fails stop s)
  failed_twice stop s = ap (λ t. fails stop t) (twice s)

  assigns : (shown : Bool) (name : List ℕ) (v : TallValue) (s : State Tall) → Alike (assign shown name v (sizeless_state s)) (assign shown name v s)
  assigns shown name v s = shown_twice (shown_text shown name v) (set_name name v s)

  all_named : (shown : Bool) (names : List (List ℕ)) (vs : List Memory) (text : List ℕ) (s : State Tall) → Alike (set_names shown names vs text (sizeless_state s)) (set_names shown names vs text s)
  all_named shown [] vs text s = shown_twice text s
  all_named shown (name ∷ names) [] text s = shown_twice text s
  all_named shown (name ∷ names) (v ∷ vs) text s = all_named shown names vs _ (set_name name (in_memory v) s)

  into : (line : ℕ) (shown : Bool) (names : List (List ℕ)) (vs : Option (List TallValue)) (s : State Tall) → Alike (gather_into line shown names vs (sizeless_state s)) (gather_into line shown names vs s)
  into line shown names None s = failed_twice _ s
  into line shown names (Some vs) s = by_test (length names == length vs) where
    by_test : (b : Bool) → Alike (if b then then_do (gather_all line vs (sizeless_state s)) (λ ms t. set_names shown names ms [] t) else fails (stop_at line bad_argument) (sizeless_state s))
        (if b then then_do (gather_all line vs s) (λ ms t. set_names shown names ms [] t) else fails (stop_at line bad_argument) s)
    by_test true = do_step (gather_all line vs (sizeless_state s)) (gather_all line vs s) (λ ms t. set_names shown names ms [] t) (all_gathered line vs s) (λ ms t. all_named shown names ms [] t)
    by_test false = failed_twice _ s

  -- ---- properties

  put_same : (line : ℕ) (shown : Bool) (name : List ℕ) (q r : Result Store Refusal) (s : State Tall) → sizeless_result q ≡ sizeless_result r
      → Alike (put_store line shown name q (sizeless_state s)) (put_store line shown name r s)
  put_same line shown name (Ok d) (Ok e) s h =
      let n = length s.stores in
      ap (λ k. shows (shown_text shown name (datastore k)) (set_name name (datastore k) (with_stores s (map sizeless (map sizeless s.stores ++ d ∷ []))))) (length-map s.stores sizeless)
      ∙ ap (λ ds. shows (shown_text shown name (datastore n)) (set_name name (datastore n) (with_stores s ds))) (put_behind s.stores d ∙ put_alike s.stores d e (same_inside d e h))
  put_same line shown name (Ok d) (Err e) s h = absurd cc
  put_same line shown name (Err e) (Ok d) s h = absurd cc
  put_same line shown name (Err e) (Err f) s h =
      ap (λ x. fails (stop_at line x) (sizeless_state (sizeless_state s))) (same_refusal e f h) ∙ failed_twice (stop_at line f) s

  property_same : (name p : List ℕ) (v : TallValue) (stores : List Store) (r : Result TallValue Refusal)
      → sizeless_result (and_then (datastore_named (map sizeless stores) name r) (changed_store p v)) ≡ sizeless_result (and_then (datastore_named stores name r) (changed_store p v))
  property_same name p v stores (Ok (datastore place)) =
      ap (λ d. sizeless_result (and_then (or_refuse bad_argument d) (changed_store p v))) (get_each stores place) ∙ of_store p v (slice_get stores place)
  property_same name p v stores (Ok (tall_table t)) = refl
  property_same name p v stores (Ok (deferred x)) = refl
  property_same name p v stores (Ok (in_memory m)) = refl
  property_same name p v stores (Err e) = refl

  -- ---- all forms

  by_itself : (shown : Bool) (e : Tree) (v : TallValue) (s : State Tall) → Alike (alone shown e v (sizeless_state s)) (alone shown e v s)
  by_itself shown (tree n l (trees.number d)) v s = assigns shown (codes "ans") v s
  by_itself shown (tree n l (trees.text t)) v s = assigns shown (codes "ans") v s
  by_itself shown (tree n l (trees.name x)) v s = shown_twice (shown_text shown x v) s
  by_itself shown (tree n l (trees.list es)) v s = assigns shown (codes "ans") v s
  by_itself shown (tree n l (trees.handle x)) v s = assigns shown (codes "ans") v s
  by_itself shown (tree n l (trees.prefixed op e)) v s = assigns shown (codes "ans") v s
  by_itself shown (tree n l (trees.joined op e f)) v s = assigns shown (codes "ans") v s
  by_itself shown (tree n l (trees.member e x)) v s = assigns shown (codes "ans") v s
  by_itself shown (tree n l (trees.call e args)) v s = assigns shown (codes "ans") v s

  body_same : (line : ℕ) (shown : Bool) (b : Body) (s t : State Tall) → AreAlike s t → All (ReducesNothing setting) (calls_in_body setting b t) → Alike (body setting line shown b s) (body setting line shown b t)
  body_same line shown (assigned name e) s t h q = do_step (script_value setting e s) (script_value setting e t) (assign shown name) (plain_value e s t h q) (λ v x. assigns shown name v x)
  body_same line shown (trees.gathered names args) s t h q =
      do_step (arguments L args false s) (arguments L args false t) (λ ws x. gather_into line shown names (all_of value_given ws) x) (plain_arguments args s t h q) (λ ws x. into line shown names (all_of value_given ws) x)
  body_same line shown (property name p e) s t h q =
      do_step (script_value setting e s) (script_value setting e t)
      (λ v x. put_store line shown name (and_then (datastore_named x.stores name (read_name name (named x.names name))) (changed_store p v)) x) (plain_value e s t h q)
      (λ v x. put_same line shown name (and_then (datastore_named (map sizeless x.stores) name (read_name name (named x.names name))) (changed_store p v))
      (and_then (datastore_named x.stores name (read_name name (named x.names name))) (changed_store p v)) x (property_same name p v x.stores (read_name name (named x.names name))))
  body_same line shown (bare e) s t h q = do_step (script_value setting e s) (script_value setting e t) (alone shown e) (plain_value e s t h q) (λ v x. by_itself shown e v x)

  -- ---- runs

  run_step : (d e : Done) (rest : State Tall → Run) (P : State Tall → Type 0) → Alike d e → AfterDone e P
      → ((s t : State Tall) → AreAlike s t → P t → sizeless_run (rest s) ≡ sizeless_run (rest t)) → sizeless_run (next d rest) ≡ sizeless_run (next e rest)
  run_step (shows text s) (shows other t) rest P h p k =
      let same_states : sizeless_state s ≡ sizeless_state t = ap (λ d. elim d as (λ x. State Tall) [ shows x y ↦ y | fails x y ↦ y ]) h in
      let same_texts : text ≡ other = ap (λ d. elim d as (λ x. List ℕ) [ shows x y ↦ x | fails x y ↦ text ]) h in
      ap (λ x. sizeless_run (behind x (rest s))) same_texts ∙ ap (λ r. behind other r) (k s t same_states p)
  run_step (shows text s) (fails stop t) rest P h p k = absurd cc
  run_step (fails stop s) (shows text t) rest P h p k = absurd cc
  run_step (fails stop s) (fails other t) rest P h p k =
      ap (λ d. elim d as (λ x. Run) [ shows x y ↦ record { text = []; ending = None; state = y } | fails x y ↦ record { text = []; ending = Some x; state = y } ]) h

  runs_alike : (entries : List SeenStatement) (s t : State Tall) → AreAlike s t → RunsNone setting entries t → sizeless_run (run_from setting entries s) ≡ sizeless_run (run_from setting entries t)
  runs_alike [] s t e none = ap (λ x. record { text = []; ending = None; state = x }) e
  runs_alike (entry ∷ entries) s t e none =
      run_step (statement setting entry s) (statement setting entry t) (λ x. run_from setting entries x) (RunsNone setting entries) (body_same entry.line entry.shown entry.form s t e none.0) none.1
      (λ x y i p. runs_alike entries x y i p)

  pub same_run : (entries : List SeenStatement) (s t : State Tall) → RunsNone setting entries s → sizeless_state s ≡ sizeless_state t
      → sizeless_run (run_from setting entries s) ≡ sizeless_run (run_from setting entries t)
  same_run entries s t none e = sym (runs_alike entries t s (sym e) none)

  -- ---- by names

  abbrev NoneMore : Listed → Listed → Type 0
  NoneMore s t = (more : List ScriptCall) × (t.1 ≡ s.1 ++ more) × All (ReducesNothing setting) more

  none_more_kept : IsKept NoneMore
  none_more_kept = record {
    nothing = λ s. ([], sym (append-nil s.1), All-nil (ReducesNothing setting));
    both = λ s t u h k. (h.0 ++ k.0, k.1 ∙ ap (λ cs. cs ++ k.0) h.1 ∙ append_assoc s.1 h.0 k.0, All-append (ReducesNothing setting) h.0 k.0 h.2 k.2);
  }

  other_call : (calls : List ScriptCall) (c : ScriptCall) (s : State Tall) (r : Valued TallValue (State Tall)) → is_mapreduce c.function ≡ false → NoneMore (s, calls) (state_after (with_calls (calls ++ c ∷ []) r))
  other_call calls c s (gives v t) h = (c ∷ [], refl, All-cons (ReducesNothing setting) c [] (ap (λ b. b && reduces_store setting (reduced_arguments c.arguments) c.state) h) (All-nil (ReducesNothing setting)))
  other_call calls c s (stops stop t) h = (c ∷ [], refl, All-cons (ReducesNothing setting) c [] (ap (λ b. b && reduces_store setting (reduced_arguments c.arguments) c.state) h) (All-nil (ReducesNothing setting)))

  other_names : CallsKeepBut is_reducing LL NoneMore
  other_names name n l f args s there untold =
      other_call s.1 (record { function = f; arguments = args; state = s.0 }) s.0 (L.call n l f args s.0) (sym (ap reduces there) ∙ untold)

  from_list : (s : State Tall) (t : Listed) → NoneMore (s, []) t → All (ReducesNothing setting) t.1
  from_list s t h = subst (All (ReducesNothing setting)) (sym h.1) h.2

  quiet_value : (e : Tree) (s : State Tall) → calls_none is_reducing e ≡ true → All (ReducesNothing setting) (calls_made L e s)
  quiet_value e s none = from_list s (state_after (value LL e (s, []))) (value_kept_but LL NoneMore none_more_kept is_reducing other_names e (s, []) none)

  quiet_body : (b : Body) (s : State Tall) → reduces_none b ≡ true → All (ReducesNothing setting) (calls_in_body setting b s)
  quiet_body (assigned name e) s none = quiet_value e s none
  quiet_body (trees.gathered names args) s none = from_list s (state_after (arguments LL args false (s, []))) (arguments_kept_but LL NoneMore none_more_kept is_reducing other_names args false (s, []) none)
  quiet_body (property name p e) s none = quiet_value e s none
  quiet_body (bare e) s none = quiet_value e s none

  after_any : (d : Done) (P : State Tall → Type 0) → ((t : State Tall) → P t) → AfterDone d P
  after_any (shows text t) P h = h t
  after_any (fails stop t) P h = tt

  pub uncalled : (entries : List SeenStatement) (s : State Tall) → reduce_none entries ≡ true → RunsNone setting entries s
  uncalled [] s none = tt
  uncalled (entry ∷ entries) s none =
      let both = and_parts (reduces_none entry.form) (reduce_none entries) none in
      (quiet_body entry.form s both.0, after_any (statement setting entry s) (RunsNone setting entries) (λ t. uncalled entries t both.1))
