-- Datastores and openings are only added in a run.
use Rattle.std.proofs.Common.{ℕ, List, [], ◌∷◌, ◌++◌, Bool, true, false, refl, ap, sym, ◌∙◌}
use Rattle.std.proofs.lemmas.List.{append-nil, append_assoc}
use Rattle.std.specs.List.{flat_map}
use Rattle.std.specs.Prelude.{if◌then◌else◌, ◌==◌, length, Option, None, Some, Result, Ok, Err, codes}
use Rattle.tall_outside.specs.Shelf.{Files}
use Rattle.tall_semantics.specs.Faults.{At}
use Rattle.tall_semantics.specs.Talls.{Tall, shapes}
use Rattle.tall_local.specs.Lists.{each_of}
use Rattle.tall_store.specs.declared.faults.StoreFault.{StoreFault}
use Rattle.tall_store.specs.Opening.{opening}
use Rattle.tall_store.specs.Options.{SeenOptions}
use Rattle.tall_store.specs.Stores.{SeenStore}
use Rattle.tall_grammar.specs.Trees.{Args, Body, assigned, property, bare, SeenStatement, SeenFunction, Tree, tree}
use Rattle.tall_grammar.specs.Trees as trees
use Rattle.tall_local.specs.Arguments.{Argument}
use Rattle.tall_script.specs.Datastores.{datastore_call, options_in, first_opening, made_store, store_with}
use Rattle.tall_local.specs.Expressions.{Valued, gives, stops, go_on, answered, arguments}
use Rattle.tall_local.specs.declared.functions.ScriptFunction.TheVariants.{OfValues, TabularTextDatastore, Tall as TallOf, Gather, MapReduce, ReadAll, Elsewhere}
use Rattle.tall_script.specs.Gathers.{answered_all, gathered_value, gather_all, gather_if, gather_one, gather_openings, gather_value, talls_in}
use Rattle.tall_local.specs.Memory.{Memory}
use Rattle.tall_local.specs.Refusals.{Refusal, Stop}
use Rattle.tall_local.specs.StateLaws.{state_after, IsKept, CallsKeep}
use Rattle.tall_script.specs.StatesFollow.{done_state, Follows}
use Rattle.tall_script.specs.ScriptLanguage.{Setting, place, mapreduce_with, reduced_arguments, reduce_store, script_call, script_language, script_value, table_or_stop}
use Rattle.tall_script.specs.Runs.{Run, next, run_from}
use Rattle.tall_script.specs.Statements.{Done, shows, fails, then_do, set_name, set_names, gather_into, put_store, alone, body, statement}
use Rattle.tall_script.specs.ScriptValues.{TallValue}
use Rattle.tall_local.specs.Values.{in_memory}
use Rattle.tall_script.specs.States.{Openings, State, Store, with_openings, with_store}
use Rattle.tall_local.proofs.StatesKept.{value_kept, arguments_kept}

same_state : (s : State Tall) → Follows s s
same_state s = record { more_stores = []; stores = sym (append-nil s.stores); more_openings = []; opened = sym (append-nil s.opened) }

pub follows_kept : IsKept Follows
follows_kept = record {
  nothing = same_state;
  both = λ s t u h k. record {
    more_stores = h.more_stores ++ k.more_stores;
    stores = k.stores ∙ ap (λ stores. stores ++ k.more_stores) h.stores ∙ append_assoc s.stores h.more_stores k.more_stores;
    more_openings = h.more_openings ++ k.more_openings;
    opened = k.opened ∙ ap (λ opened. opened ++ k.more_openings) h.opened ∙ append_assoc s.opened h.more_openings k.more_openings;
  };
}

more_openings : (more : List Openings) (s : State Tall) → Follows s (with_openings more s)
more_openings more s = record { more_stores = []; stores = sym (append-nil s.stores); more_openings = more; opened = refl }

one_store : (d : Store) (s : State Tall) → Follows s (with_store d s)
one_store d s = record { more_stores = d ∷ []; stores = refl; more_openings = []; opened = sym (append-nil s.opened) }

answer : (line : ℕ) (s : State Tall) (r : Result TallValue Refusal) → Follows s (state_after (answered line s r))
answer line s (Ok v) = same_state s
answer line s (Err e) = same_state s

-- ---- datastores

made : (at : At) (files : List (List ℕ)) (r : Result SeenStore StoreFault) (s : State Tall) → Follows s (state_after (made_store at files r s))
made at files (Ok store) s = one_store (record { at = at; store = store }) s
made at files (Err f) s = same_state s

stored : (files : Files) (at : At) (o : Option SeenOptions) (s : State Tall) → Follows s (state_after (store_with files at o s))
stored files at None s = same_state s
stored files at (Some o) s =
    let t = with_openings (first_opening o) s in
    follows_kept.both s t (state_after (made_store at o.files (opening files o) t)) (more_openings (first_opening o) s) (made at o.files (opening files o) t)

datastores : (files : Files) (at : At) (args : List (Argument TallValue)) (s : State Tall) → Follows s (state_after (datastore_call files at args s))
unfolding datastore_call
datastores files at args s = stored files at (options_in args) s

-- ---- gathers

all_answered : {W : Type 0} (s t : State Tall) (r : Result W Stop) → Follows s t → Follows s (state_after (answered_all t r))
all_answered s t (Ok w) h = h
all_answered s t (Err stop) h = h

if_gathered : {W : Type 0} (line : ℕ) (vs : List TallValue) (r : Result W Refusal) (s : State Tall) → Follows s (state_after (gather_if line vs r s))
if_gathered line vs (Err e) s = same_state s
if_gathered line vs (Ok w) s = let xs = flat_map talls_in vs in all_answered s (with_openings (gather_openings 0 s.stores (shapes xs)) s) _ (more_openings (gather_openings 0 s.stores (shapes xs)) s)

pub gathers : (line : ℕ) (vs : List TallValue) (s : State Tall) → Follows s (state_after (gather_all line vs s))
unfolding gather_all
gathers line vs s = if_gathered line vs (each_of gathered_value vs) s

one_value : (line : ℕ) (v : TallValue) (s : State Tall) → Follows s (state_after (gather_value line v s))
unfolding gather_value
one_value line v s = if_gathered line (v ∷ []) (gathered_value v) s

in_memory_then : (s : State Tall) (r : Valued Memory (State Tall)) → Follows s (state_after r) → Follows s (state_after {V = TallValue} (go_on r (λ m t. gives (in_memory m) t)))
in_memory_then s (gives m t) h = h
in_memory_then s (stops stop t) h = h

one_gather : (at : At) (vs : Option (List TallValue)) (s : State Tall) → Follows s (state_after (gather_one at vs s))
one_gather at None s = same_state s
one_gather at (Some []) s = same_state s
one_gather at (Some (v ∷ [])) s = in_memory_then s (gather_value at.line v s) (one_value at.line v s)
one_gather at (Some (v ∷ w ∷ vs)) s = same_state s

-- ---- mapreduce

tabled : (r : Result Memory Stop) (s : State Tall) → Follows s (state_after (table_or_stop r s))
tabled (Ok v) s = same_state s
tabled (Err stop) s = same_state s

reduces : (files : Files) (at : At) (d : Option Store) (m r : Option SeenFunction) (s : State Tall) → Follows s (state_after (reduce_store files at d m r s))
reduces files at None m r s = same_state s
reduces files at (Some d) None r s = same_state s
reduces files at (Some d) (Some m) None s = same_state s
reduces files at (Some d) (Some m) (Some r) s = let t = with_openings _ s in follows_kept.both s t _ (more_openings _ s) (tabled _ t)

mapreduces : (setting : Setting) (at : At) (a : Result (ℕ × List ℕ × List ℕ) Refusal) (s : State Tall) → Follows s (state_after (mapreduce_with setting at a s))
mapreduces setting at (Ok a) s = reduces setting.files at _ _ _ s
mapreduces setting at (Err e) s = same_state s

-- ---- all calls, and expressions

calls_follow : (setting : Setting) → CallsKeep (script_language setting) Follows
unfolding script_call
calls_follow setting n l (OfValues f) args s = answer l s _
calls_follow setting n l TabularTextDatastore args s = datastores setting.files (place n l) args s
calls_follow setting n l TallOf args s = answer l s _
calls_follow setting n l Gather args s = one_gather (place n l) _ s
calls_follow setting n l MapReduce args s = mapreduces setting (place n l) (reduced_arguments args) s
calls_follow setting n l ReadAll args s = answer l s _
calls_follow setting n l Elsewhere args s = same_state s

expression_follows : (setting : Setting) (e : Tree) (s : State Tall) → Follows s (state_after (script_value setting e s))
expression_follows setting e s = value_kept (script_language setting) Follows follows_kept (calls_follow setting) e s

-- ---- statements

named : (name : List ℕ) (v : TallValue) (s : State Tall) → Follows s (set_name name v s)
named name v s = record { more_stores = []; stores = sym (append-nil s.stores); more_openings = []; opened = sym (append-nil s.opened) }

after_value : {V : Type 0} (s : State Tall) (v : Valued V (State Tall)) (f : V → State Tall → Done) → Follows s (state_after v)
    → ((w : V) (t : State Tall) → Follows t (done_state (f w t))) → Follows s (done_state (then_do v f))
after_value s (gives w t) f h k = follows_kept.both s t (done_state (f w t)) h (k w t)
after_value s (stops stop t) f h k = h

all_named : (shown : Bool) (names : List (List ℕ)) (vs : List Memory) (text : List ℕ) (s : State Tall) → Follows s (done_state (set_names shown names vs text s))
all_named shown [] vs text s = same_state s
all_named shown (name ∷ names) [] text s = same_state s
all_named shown (name ∷ names) (v ∷ vs) text s =
    follows_kept.both s (set_name name (in_memory v) s) _ (named name (in_memory v) s) (all_named shown names vs _ (set_name name (in_memory v) s))

choice : (b : Bool) (s : State Tall) (d e : Done) → Follows s (done_state d) → Follows s (done_state e) → Follows s (done_state (if b then d else e))
choice true s d e h k = h
choice false s d e h k = k

gathered_into : (line : ℕ) (shown : Bool) (names : List (List ℕ)) (vs : Option (List TallValue)) (s : State Tall) → Follows s (done_state (gather_into line shown names vs s))
gathered_into line shown names None s = same_state s
gathered_into line shown names (Some vs) s =
    choice (length names == length vs) s _ _ (after_value s (gather_all line vs s) _ (gathers line vs s) (λ ms t. all_named shown names ms [] t)) (same_state s)

put : (line : ℕ) (shown : Bool) (name : List ℕ) (d : Result Store Refusal) (s : State Tall) → Follows s (done_state (put_store line shown name d s))
put line shown name (Ok d) s = record { more_stores = d ∷ []; stores = refl; more_openings = []; opened = sym (append-nil s.opened) }
put line shown name (Err e) s = same_state s

by_itself : (shown : Bool) (e : Tree) (v : TallValue) (s : State Tall) → Follows s (done_state (alone shown e v s))
by_itself shown (tree n l (trees.number d)) v s = named (codes "ans") v s
by_itself shown (tree n l (trees.text t)) v s = named (codes "ans") v s
by_itself shown (tree n l (trees.name x)) v s = same_state s
by_itself shown (tree n l (trees.list es)) v s = named (codes "ans") v s
by_itself shown (tree n l (trees.handle x)) v s = named (codes "ans") v s
by_itself shown (tree n l (trees.prefixed op e)) v s = named (codes "ans") v s
by_itself shown (tree n l (trees.joined op e f)) v s = named (codes "ans") v s
by_itself shown (tree n l (trees.member e x)) v s = named (codes "ans") v s
by_itself shown (tree n l (trees.call e args)) v s = named (codes "ans") v s

body_follows : (setting : Setting) (line : ℕ) (shown : Bool) (b : Body) (s : State Tall) → Follows s (done_state (body setting line shown b s))
body_follows setting line shown (assigned name e) s =
    after_value s (script_value setting e s) _ (expression_follows setting e s) (λ v t. named name v t)
body_follows setting line shown (trees.gathered names args) s =
    after_value s (arguments (script_language setting) args false s) _
    (arguments_kept (script_language setting) Follows follows_kept (calls_follow setting) args false s) (λ given t. gathered_into line shown names _ t)
body_follows setting line shown (property name p e) s =
    after_value s (script_value setting e s) _ (expression_follows setting e s) (λ v t. put line shown name _ t)
body_follows setting line shown (bare e) s =
    after_value s (script_value setting e s) _ (expression_follows setting e s) (λ v t. by_itself shown e v t)

-- ---- runs

next_follows : (s : State Tall) (d : Done) (rest : State Tall → Run) → Follows s (done_state d) → ((t : State Tall) → Follows t (rest t).state) → Follows s (next d rest).state
next_follows s (shows text t) rest h k = follows_kept.both s t (rest t).state h (k t)
next_follows s (fails stop t) rest h k = h

pub run_follows : (setting : Setting) (entries : List SeenStatement) (s : State Tall) → Follows s (run_from setting entries s).state
run_follows setting [] s = same_state s
run_follows setting (entry ∷ entries) s =
    next_follows s (statement setting entry s) _ (body_follows setting entry.line entry.shown entry.form s) (run_follows setting entries)
