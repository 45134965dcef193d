-- A run keeps its state well formed.
use Rattle.std.proofs.Common.{◌≡◌, ℕ, zero, suc, ◌≤◌, ◌<◌, ◌+◌, List, [], ◌∷◌, ◌++◌, Bool, true, false, refl, sym, subst, arith}
use Rattle.std.proofs.lemmas.Bool.{eqb-true}
use Rattle.std.proofs.lemmas.Option.{none-some}
use Rattle.std.proofs.lemmas.List.Elements.{All-nil, All-cons}
use Rattle.std.proofs.lemmas.List.{length-append}
use Rattle.std.specs.List.{flat_map}
use Rattle.std.specs.Prelude.{if◌then◌else◌, ◌==◌, map, length, slice_get, codes, Option, None, Some, Result, Ok, Err}
use Rattle.std.specs.Str.{bytes_eq}
use Rattle.tall_value.specs.Cells.{Seen}
use Rattle.tall_outside.specs.Shelf.{Files}
use Rattle.tall_grammar.specs.Trees.{Args, Body, assigned, property, bare, SeenStatement, SeenFunction, Tree, tree}
use Rattle.tall_grammar.specs.Trees as trees
use Rattle.tall_semantics.specs.Faults.{At, Cause, computed, reading, Fault, earlier, least_fault, precedes}
use Rattle.tall_semantics.specs.Outcomes.{Outcome, rows, scalar, fault, fault_of}
use Rattle.tall_semantics.specs.Talls.{Tall, outcomes, shapes}
use Rattle.tall_store.specs.declared.faults.ReadingFault.{ReadingFault}
use Rattle.tall_store.specs.declared.faults.StoreFault.{StoreFault}
use Rattle.tall_store.specs.Opening.{opening}
use Rattle.tall_store.specs.Options.{SeenOptions}
use Rattle.tall_store.specs.Stored.{stored_column}
use Rattle.tall_store.specs.Stores.{SeenStore}
use Rattle.tall_local.specs.declared.functions.ScriptFunction.{ScriptFunction}
use Rattle.tall_local.specs.declared.functions.ScriptFunction.TheVariants.{OfValues, TabularTextDatastore, Tall as TallOf, Gather, MapReduce, ReadAll, Elsewhere}
use Rattle.tall_local.specs.Arguments.{Argument, value_given}
use Rattle.tall_local.specs.Arguments as argument
use Rattle.tall_local.specs.Constants.{constant_named}
use Rattle.tall_local.specs.Expressions.{Valued, gives, stops, go_on, answered, arguments}
use Rattle.tall_local.specs.Lists.{all_of, each_of}
use Rattle.tall_local.specs.Memory.{Memory, table}
use Rattle.tall_local.specs.Memory as memory
use Rattle.tall_local.specs.Names.{named, put_name}
use Rattle.tall_local.specs.Refusals.{Refusal, undefined, bad_argument, Stop, stop_at}
use Rattle.tall_local.specs.StateLaws.{IsKept}
use Rattle.tall_local.specs.Values.{datastore, tall_table, deferred, in_memory}
use Rattle.tall_local.specs.MemoryLaws.{OnGiven}
use Rattle.tall_local.proofs.ValuesKept.{ArgumentsAre, Gives, value_is, arguments_are}
use Rattle.tall_script.specs.Datastores.{datastore_call, options_in, first_opening, made_store, store_with}
use Rattle.tall_script.specs.Gathers.{answered_all, values_or_fault, gathered_value, gather_all, gather_if, gather_one, gather_openings, gather_value, talls_in}
use Rattle.tall_script.specs.Runs.{Run, next, run_from}
use Rattle.tall_script.specs.ScriptLanguage.{Setting, place, read_name, readall_answer, mapreduce_with, reduced_arguments, reduce_store, script_call, script_language, script_value, table_or_stop}
use Rattle.tall_script.specs.ScriptValues.{TallValue}
use Rattle.tall_script.specs.Statements.{Done, shows, fails, then_do, set_name, set_names, gather_into, put_store, alone, body, statement}
use Rattle.tall_script.specs.States.{State, Store, with_openings}
use Rattle.tall_script.specs.StatesFollow.{done_state}
use Rattle.tall_stored.specs.StoredColumns.{stored_outcome}
use Rattle.tall_script.specs.TallTables.{stored_variables, tall_of, tall_of_store, tall_call}
use Rattle.tall_script.specs.WellFormed.{IsReadingOf, OutcomeStands, TallStands, TallsStand, Stands, NamesStand, IsWellFormed, GivesStanding, ArgumentsStand, GiveStanding, HasNoFault, HaveNoFault}
use Rattle.tall_script.proofs.CallsStand.{AreStanding, ValuesStand, all_values, function_stands}
use Rattle.tall_script.proofs.StatesStand.{prefix_stands, infix_stands, member_stands, index_stands}

-- ---- more datastores

lower : (a b c : ℕ) → a ≤ b → c < a → c < b
lower a b c h i = omega (arith, h, i)

later_cause : (n m : ℕ) (c : Cause) (store : ℕ) (row : Option ℕ) → n ≤ m → IsReadingOf n c store row → IsReadingOf m c store row
later_cause n m (computed kind) store row h i = tt
later_cause n m (reading kind file) store row h i = (lower n m store h i.0, i.1)

later_outcome : (n m : ℕ) (x : Outcome) → n ≤ m → OutcomeStands n x → OutcomeStands m x
later_outcome n m (rows rs) h i = tt
later_outcome n m (scalar c) h i = tt
later_outcome n m (fault f) h i = later_cause n m f.cause f.store f.row h i

later_tall : (n m : ℕ) (x : Tall) → n ≤ m → TallStands n x → TallStands m x
later_tall n m x h i = (later_outcome n m x.outcome h i.0, λ store e. lower n m store h (i.1 store e))

later_talls : (n m : ℕ) (t : List (List ℕ × Tall)) → n ≤ m → TallsStand n t → TallsStand m t
later_talls n m [] h i = tt
later_talls n m (entry ∷ t) h i = (later_tall n m entry.1 h i.0, later_talls n m t h i.1)

later_value : (n m : ℕ) (v : TallValue) → n ≤ m → Stands n v → Stands m v
later_value n m (datastore place) h i = lower n m place h i
later_value n m (tall_table t) h i = later_talls n m t h i
later_value n m (deferred x) h i = later_tall n m x h i
later_value n m (in_memory v) h i = tt

later_names : (n m : ℕ) (names : List (List ℕ × TallValue)) → n ≤ m → NamesStand n names → NamesStand m names
later_names n m [] h i = tt
later_names n m (entry ∷ names) h i = (later_value n m entry.1 h i.0, later_names n m names h i.1)

abbrev Later : State Tall → State Tall → Type 0
Later s t = length s.stores ≤ length t.stores

abbrev StandsIn : State Tall → TallValue → Type 0
StandsIn s v = Stands (length s.stores) v

later_kept : IsKept Later
later_kept = record { nothing = λ s. itself (length s.stores); both = λ s t u h k. at_most (length s.stores) (length t.stores) (length u.stores) h k } where
  itself : (n : ℕ) → n ≤ n
  itself n = omega arith

  at_most : (a b c : ℕ) → a ≤ b → b ≤ c → a ≤ c
  at_most a b c h i = omega (arith, h, i)

-- ---- names

of_name : (n : ℕ) (names : List (List ℕ × TallValue)) (name : List ℕ) → NamesStand n names → OnGiven (Stands n) (read_name name (named names name))
of_name n [] name h = by_constant (constant_named name) where
  by_constant : (c : Option Seen) → OnGiven (Stands n) (elim c [ Some c ↦ Ok (in_memory (memory.scalar c)) | None ↦ Err (undefined name) ])
  by_constant None = tt
  by_constant (Some c) = tt
of_name n (entry ∷ names) name h = by_test (bytes_eq entry.0 name) (of_name n names name h.1) where
  by_test : (b : Bool) → OnGiven (Stands n) (read_name name (named names name)) → OnGiven (Stands n) (read_name name (if b then Some entry.1 else named names name))
  by_test true rest = h.0
  by_test false rest = rest

-- ---- calls

abbrev Leaves : State Tall → Valued TallValue (State Tall) → Type 0
Leaves s r = Gives Later IsWellFormed StandsIn s r

same : (s : State Tall) → Later s s
same s = later_kept.nothing s

an_answer : (line : ℕ) (s : State Tall) (r : Result TallValue Refusal) → IsWellFormed s → OnGiven (StandsIn s) r → Leaves s (answered line s r)
an_answer line s (Ok v) w h = (same s, w, h)
an_answer line s (Err e) w h = (same s, w)

one_more : (stores : List Store) (d : Store) → suc (length stores) ≡ length (stores ++ d ∷ [])
one_more stores d = let e : length (stores ++ d ∷ []) ≡ length stores + 1 = length-append stores (d ∷ []) in one (length stores) (length (stores ++ d ∷ [])) e where
  one : (a b : ℕ) → b ≡ a + 1 → suc a ≡ b
  one a b e = omega (arith, e)

above : (a b : ℕ) → suc a ≡ b → a ≤ b
above a b e = omega (arith, e)

below : (a b : ℕ) → suc a ≡ b → a < b
below a b e = omega (arith, e)

made : (at : At) (files : List (List ℕ)) (r : Result SeenStore StoreFault) (s : State Tall) → IsWellFormed s → Leaves s (made_store at files r s)
made at files (Ok store) s w =
    let d : Store = record { at = at; store = store } in
    let e : suc (length s.stores) ≡ length (s.stores ++ d ∷ []) = one_more s.stores d in
    (above _ _ e, later_names (length s.stores) (length (s.stores ++ d ∷ [])) s.names (above _ _ e) w, below _ _ e)
made at files (Err f) s w = (same s, w)

stored : (files : Files) (at : At) (o : Option SeenOptions) (s : State Tall) → IsWellFormed s → Leaves s (store_with files at o s)
stored files at None s w = (same s, w)
stored files at (Some o) s w = by_result (opening files o) where
  by_result : (r : Result SeenStore StoreFault) → Leaves s (made_store at o.files r (with_openings (first_opening o) s))
  by_result r = made at o.files r (with_openings (first_opening o) s) w

datastores : (files : Files) (at : At) (args : List (Argument TallValue)) (s : State Tall) → IsWellFormed s → Leaves s (datastore_call files at args s)
unfolding datastore_call
datastores files at args s w = stored files at (options_in args) s w

an_outcome : (n place : ℕ) (d : Store) (r : Result (List (ℕ × Seen)) ReadingFault) → place < n → OutcomeStands n (stored_outcome place d.at r)
an_outcome n place d (Ok rs) h = tt
an_outcome n place d (Err f) h = (h, refl)

variables : (n : ℕ) (files : Files) (place : ℕ) (d : Store) (from : ℕ) (vs : List ℕ) → place < n → TallsStand n (stored_variables files place d from vs)
variables n files place d from [] h = tt
variables n files place d from (v ∷ vs) h = ((an_outcome n place d (stored_column d.store files from) h, λ store e. subst (λ p. p < n) (eqb-true place store e) h), variables n files place d (from + 1) vs h)

of_store : (n : ℕ) (files : Files) (place : ℕ) (d : Option Store) → place < n → OnGiven (Stands n) (tall_of_store files place d)
of_store n files place None h = tt
of_store n files place (Some d) h = variables n files place d 0 d.store.selected h

of_values : (files : Files) (vs : List TallValue) (s : State Tall) → AreStanding (length s.stores) vs → OnGiven (StandsIn s) (tall_of files vs s)
of_values files [] s h = tt
of_values files (datastore place ∷ []) s h = of_store (length s.stores) files place (slice_get s.stores place) h.0
of_values files (tall_table t ∷ []) s h = tt
of_values files (deferred x ∷ []) s h = tt
of_values files (in_memory v ∷ []) s h = tt
of_values files (datastore place ∷ v ∷ vs) s h = tt
of_values files (tall_table t ∷ v ∷ vs) s h = tt
of_values files (deferred x ∷ v ∷ vs) s h = tt
of_values files (in_memory w ∷ v ∷ vs) s h = tt

talls : (files : Files) (vs : Option (List TallValue)) (s : State Tall) → ValuesStand (length s.stores) vs
    → OnGiven (StandsIn s) (elim vs [ Some vs ↦ tall_of files vs s | None ↦ Err bad_argument ])
talls files None s h = tt
talls files (Some vs) s h = of_values files vs s h

a_tall : (files : Files) (args : List (Argument TallValue)) (s : State Tall) → ArgumentsAre (StandsIn s) args → OnGiven (StandsIn s) (tall_call files args s)
unfolding tall_call
a_tall files args s h = talls files (all_of value_given args) s (all_values (length s.stores) args h)

all_answered : {W : Type 0} (s t : State Tall) (r : Result W Stop) → Later s t → IsWellFormed t → Gives Later IsWellFormed (λ u vs. Unit {0}) s (answered_all t r)
all_answered s t (Ok vs) h w = (h, w, tt)
all_answered s t (Err stop) h w = (h, w)

if_gathered : {W : Type 0} (line : ℕ) (vs : List TallValue) (r : Result W Refusal) (s : State Tall) → IsWellFormed s → Gives Later IsWellFormed (λ u ms. Unit {0}) s (gather_if line vs r s)
if_gathered line vs (Ok ms) s w = let xs = flat_map talls_in vs in all_answered s (with_openings (gather_openings 0 s.stores (shapes xs)) s) _ (same s) w
if_gathered line vs (Err e) s w = (same s, w)

all_gathered : (line : ℕ) (vs : List TallValue) (s : State Tall) → IsWellFormed s → Gives Later IsWellFormed (λ u vs. Unit {0}) s (gather_all line vs s)
unfolding gather_all
all_gathered line vs s w = if_gathered line vs (each_of gathered_value vs) s w

value_gathered : (line : ℕ) (v : TallValue) (s : State Tall) → IsWellFormed s → Gives Later IsWellFormed (λ u m. Unit {0}) s (gather_value line v s)
unfolding gather_value
value_gathered line v s w = if_gathered line (v ∷ []) (gathered_value v) s w

in_memory_then : (s : State Tall) (r : Valued Memory (State Tall)) → Gives Later IsWellFormed (λ u m. Unit {0}) s r → Leaves s (go_on r (λ m t. gives (in_memory m) t))
in_memory_then s (gives m t) h = (h.0, h.1, tt)
in_memory_then s (stops stop t) h = h

one_gathered : (at : At) (vs : Option (List TallValue)) (s : State Tall) → IsWellFormed s → Leaves s (gather_one at vs s)
one_gathered at None s w = (same s, w)
one_gathered at (Some []) s w = (same s, w)
one_gathered at (Some (v ∷ [])) s w = in_memory_then s (gather_value at.line v s) (value_gathered at.line v s w)
one_gathered at (Some (v ∷ u ∷ vs)) s w = (same s, w)

tabled : (r : Result Memory Stop) (s t : State Tall) → Later s t → IsWellFormed t → Leaves s (table_or_stop r t)
tabled (Ok v) s t h w = (h, w, tt)
tabled (Err stop) s t h w = (h, w)

reduces : (files : Files) (at : At) (d : Option Store) (m r : Option SeenFunction) (s : State Tall) → IsWellFormed s → Leaves s (reduce_store files at d m r s)
reduces files at None m r s w = (same s, w)
reduces files at (Some d) None r s w = (same s, w)
reduces files at (Some d) (Some m) None s w = (same s, w)
reduces files at (Some d) (Some m) (Some r) s w = tabled _ s (with_openings _ s) (same s) w

mapreduces : (setting : Setting) (at : At) (a : Result (ℕ × List ℕ × List ℕ) Refusal) (s : State Tall) → IsWellFormed s → Leaves s (mapreduce_with setting at a s)
mapreduces setting at (Ok a) s w = reduces setting.files at _ _ _ s w
mapreduces setting at (Err e) s w = (same s, w)

a_readall : (n : ℕ) (vs : Option (List TallValue)) → OnGiven (Stands n) (readall_answer vs)
a_readall n None = tt
a_readall n (Some []) = tt
a_readall n (Some (in_memory (memory.scalar c) ∷ [])) = tt
a_readall n (Some (in_memory (memory.column x) ∷ [])) = tt
a_readall n (Some (in_memory (table t) ∷ [])) = tt
a_readall n (Some (in_memory (memory.texts ts) ∷ [])) = tt
a_readall n (Some (datastore place ∷ [])) = tt
a_readall n (Some (tall_table t ∷ [])) = tt
a_readall n (Some (deferred x ∷ [])) = tt
a_readall n (Some (in_memory (memory.scalar c) ∷ v ∷ vs)) = tt
a_readall n (Some (in_memory (memory.column x) ∷ v ∷ vs)) = tt
a_readall n (Some (in_memory (table t) ∷ v ∷ vs)) = tt
a_readall n (Some (in_memory (memory.texts ts) ∷ v ∷ vs)) = tt
a_readall n (Some (datastore place ∷ v ∷ vs)) = tt
a_readall n (Some (tall_table t ∷ v ∷ vs)) = tt
a_readall n (Some (deferred x ∷ v ∷ vs)) = tt

calls_stand : (setting : Setting) (n l : ℕ) (f : ScriptFunction) (args : List (Argument TallValue)) (s : State Tall) → IsWellFormed s → ArgumentsAre (StandsIn s) args
    → Leaves s (script_call setting (place n l) f args s)
unfolding script_call
calls_stand setting n l (OfValues f) args s w h = an_answer l s _ w (function_stands (length s.stores) (place n l) f args h)
calls_stand setting n l TabularTextDatastore args s w h = datastores setting.files (place n l) args s w
calls_stand setting n l TallOf args s w h = an_answer l s _ w (a_tall setting.files args s h)
calls_stand setting n l Gather args s w h = one_gathered (place n l) _ s w
calls_stand setting n l MapReduce args s w h = mapreduces setting (place n l) (reduced_arguments args) s w
calls_stand setting n l ReadAll args s w h = an_answer l s _ w (a_readall (length s.stores) (all_of value_given args))
calls_stand setting n l Elsewhere args s w h = (same s, w)

module _ (setting : Setting) where
  an_expression : (e : Tree) (s : State Tall) → IsWellFormed s → Leaves s (script_value setting e s)
  an_expression e s w = value_is (script_language setting) Later later_kept IsWellFormed StandsIn (λ s t v h i. later_value (length s.stores) (length t.stores) v h i) (λ s m l. tt)
      (λ s x w. of_name (length s.stores) s.names x w) (λ s n l o v h. prefix_stands (length s.stores) (place n l) o v h)
      (λ s n l o v x h k. infix_stands (length s.stores) (place n l) o v x h k) (λ s v x h. member_stands (length s.stores) v x h)
      (λ s n l v args h k. index_stands (length s.stores) (place n l) v args h k) (λ n l f args s w h. calls_stand setting n l f args s w h) e s w

  some_arguments : (args : Args) (takes : Bool) (s : State Tall) → IsWellFormed s → Gives Later IsWellFormed (λ t given. ArgumentsAre (StandsIn t) given) s (arguments (script_language setting) args takes s)
  some_arguments args takes s w = arguments_are (script_language setting) Later later_kept IsWellFormed StandsIn (λ s t v h i. later_value (length s.stores) (length t.stores) v h i) (λ s m l. tt)
      (λ s x w. of_name (length s.stores) s.names x w) (λ s n l o v h. prefix_stands (length s.stores) (place n l) o v h)
      (λ s n l o v x h k. infix_stands (length s.stores) (place n l) o v x h k) (λ s v x h. member_stands (length s.stores) v x h)
      (λ s n l v args h k. index_stands (length s.stores) (place n l) v args h k) (λ n l f args s w h. calls_stand setting n l f args s w h) args takes s w

  -- ---- statements

  put : (n : ℕ) (name : List ℕ) (v : TallValue) (names : List (List ℕ × TallValue)) → Stands n v → NamesStand n names → NamesStand n (put_name name v names)
  put n name v [] h i = (h, tt)
  put n name v (entry ∷ names) h i = by_test (bytes_eq entry.0 name) (put n name v names h i.1) where
    by_test : (b : Bool) → NamesStand n (put_name name v names) → NamesStand n (if b then (name, v) ∷ names else entry ∷ put_name name v names)
    by_test true rest = (h, i.1)
    by_test false rest = (i.0, rest)

  after : {V : Type 0} (Is : State Tall → V → Type 0) (s : State Tall) (r : Valued V (State Tall)) (f : V → State Tall → Done) → Gives Later IsWellFormed Is s r
      → ((v : V) (t : State Tall) → IsWellFormed t → Is t v → IsWellFormed (done_state (f v t))) → IsWellFormed (done_state (then_do r f))
  after Is s (gives v t) f h k = k v t h.1 h.2
  after Is s (stops stop t) f h k = h.1

  all_set : (shown : Bool) (names : List (List ℕ)) (vs : List Memory) (text : List ℕ) (s : State Tall) → IsWellFormed s → IsWellFormed (done_state (set_names shown names vs text s))
  all_set shown [] vs text s w = w
  all_set shown (name ∷ names) [] text s w = w
  all_set shown (name ∷ names) (v ∷ vs) text s w = all_set shown names vs _ (set_name name (in_memory v) s) (put (length s.stores) name (in_memory v) s.names tt w)

  gathered_into : (line : ℕ) (shown : Bool) (names : List (List ℕ)) (vs : Option (List TallValue)) (s : State Tall) → IsWellFormed s
      → IsWellFormed (done_state (gather_into line shown names vs s))
  gathered_into line shown names None s w = w
  gathered_into line shown names (Some vs) s w = by_test (length names == length vs) where
    by_test : (b : Bool) → IsWellFormed (done_state (if b then then_do (gather_all line vs s) (λ ms t. set_names shown names ms [] t) else fails (stop_at line bad_argument) s))
    by_test true = after (λ t vs. Unit {0}) s (gather_all line vs s) _ (all_gathered line vs s w) (λ vs t u i. all_set shown names vs [] t u)
    by_test false = w

  a_store : (line : ℕ) (shown : Bool) (name : List ℕ) (d : Result Store Refusal) (s : State Tall) → IsWellFormed s → IsWellFormed (done_state (put_store line shown name d s))
  a_store line shown name (Ok d) s w =
      let e : suc (length s.stores) ≡ length (s.stores ++ d ∷ []) = one_more s.stores d in
      put (length (s.stores ++ d ∷ [])) name (datastore (length s.stores)) s.names (below _ _ e) (later_names (length s.stores) (length (s.stores ++ d ∷ [])) s.names (above _ _ e) w)
  a_store line shown name (Err e) s w = w

  by_itself : (shown : Bool) (e : Tree) (v : TallValue) (s : State Tall) → IsWellFormed s → StandsIn s v → IsWellFormed (done_state (alone shown e v s))
  by_itself shown (tree n l (trees.number d)) v s w h = put (length s.stores) (codes "ans") v s.names h w
  by_itself shown (tree n l (trees.text t)) v s w h = put (length s.stores) (codes "ans") v s.names h w
  by_itself shown (tree n l (trees.name x)) v s w h = w
  by_itself shown (tree n l (trees.list es)) v s w h = put (length s.stores) (codes "ans") v s.names h w
  by_itself shown (tree n l (trees.handle x)) v s w h = put (length s.stores) (codes "ans") v s.names h w
  by_itself shown (tree n l (trees.prefixed op e)) v s w h = put (length s.stores) (codes "ans") v s.names h w
  by_itself shown (tree n l (trees.joined op e f)) v s w h = put (length s.stores) (codes "ans") v s.names h w
  by_itself shown (tree n l (trees.member e x)) v s w h = put (length s.stores) (codes "ans") v s.names h w
  by_itself shown (tree n l (trees.call e args)) v s w h = put (length s.stores) (codes "ans") v s.names h w

  a_body : (line : ℕ) (shown : Bool) (b : Body) (s : State Tall) → IsWellFormed s → IsWellFormed (done_state (body setting line shown b s))
  a_body line shown (assigned name e) s w =
      after StandsIn s (script_value setting e s) _ (an_expression e s w) (λ v t u i. put (length t.stores) name v t.names i u)
  a_body line shown (trees.gathered names args) s w =
      after (λ t given. ArgumentsAre (StandsIn t) given) s (arguments (script_language setting) args false s) _ (some_arguments args false s w) (λ given t u i. gathered_into line shown names _ t u)
  a_body line shown (property name p e) s w =
      after StandsIn s (script_value setting e s) _ (an_expression e s w) (λ v t u i. a_store line shown name _ t u)
  a_body line shown (bare e) s w = after StandsIn s (script_value setting e s) _ (an_expression e s w) (λ v t u i. by_itself shown e v t u i)

  -- ---- runs

  then_run : (d : Done) (rest : State Tall → Run) → IsWellFormed (done_state d) → ((t : State Tall) → IsWellFormed t → IsWellFormed (rest t).state) → IsWellFormed (next d rest).state
  then_run (shows text t) rest w k = k t w
  then_run (fails stop t) rest w k = w

  pub run_stands : (entries : List SeenStatement) (s : State Tall) → IsWellFormed s → IsWellFormed (run_from setting entries s).state
  run_stands [] s w = w
  run_stands (entry ∷ entries) s w =
      then_run (statement setting entry s) _ (a_body entry.line entry.shown entry.form s w) (λ t u. run_stands entries t u)

-- ---- values inside a statement

given_standing : (s : State Tall) (r : Valued TallValue (State Tall)) → Leaves s r → GivesStanding r
given_standing s (gives v t) h = (h.1, h.2)
given_standing s (stops stop t) h = h.1

pub expression_stands : (setting : Setting) (e : Tree) (s : State Tall) → IsWellFormed s → GivesStanding (script_value setting e s)
expression_stands setting e s w = given_standing s (script_value setting e s) (an_expression setting e s w)

as_arguments : (n : ℕ) (args : List (Argument TallValue)) → ArgumentsAre (Stands n) args → ArgumentsStand n args
as_arguments n [] h = tt
as_arguments n (argument.given v ∷ args) h = (h.0, as_arguments n args h.1)
as_arguments n (argument.colon ∷ args) h = as_arguments n args h.1
as_arguments n (argument.function name ∷ args) h = as_arguments n args h.1

given_all_standing : (s : State Tall) (r : Valued (List (Argument TallValue)) (State Tall)) → Gives Later IsWellFormed (λ t given. ArgumentsAre (StandsIn t) given) s r → GiveStanding r
given_all_standing s (gives args t) h = (h.1, as_arguments (length t.stores) args h.2)
given_all_standing s (stops stop t) h = h.1

pub arguments_stand : (setting : Setting) (args : Args) (takes : Bool) (s : State Tall) → IsWellFormed s → GiveStanding (arguments (script_language setting) args takes s)
arguments_stand setting args takes s w = given_all_standing s (arguments (script_language setting) args takes s) (some_arguments setting args takes s w)

-- ---- what is there

pub store_there : (stores : List Store) (place : ℕ) → place < length stores → (d : Store) × (slice_get stores place ≡ Some d)
store_there [] place h = absurd (omega (arith, h))
store_there (d ∷ stores) zero h = (d, refl)
store_there (d ∷ stores) (suc place) h = (let w = store_there stores place (omega (arith, h)) in (w.0, w.1))

-- ---- what a gather gives

no_fault : (f g : Option Fault) → earlier f g ≡ None → (f ≡ None) × (g ≡ None)
no_fault None None h = (refl, refl)
no_fault None (Some g) h = absurd (none-some g (sym h))
no_fault (Some f) None h = absurd (none-some f (sym h))
no_fault (Some f) (Some g) h = absurd (none-some (if precedes g f then g else f) (sym h))

none_least : (xs : List Tall) → least_fault (map fault_of (outcomes xs)) ≡ None → HaveNoFault xs
none_least [] h = All-nil HasNoFault
none_least (x ∷ xs) h = (let w = no_fault (fault_of x.outcome) (least_fault (map fault_of (outcomes xs))) h in All-cons HasNoFault x xs w.0 (none_least xs w.1))

abbrev given_by : {W : Type 0} → W → State Tall → Valued W (State Tall)
given_by w s = gives w s

known_gives : {W : Type 0} (t u : State Tall) (stores : List Store) (f : Option Fault) (w x : W) → answered_all t (values_or_fault stores f w) ≡ given_by x u → f ≡ None
known_gives t u stores None w x h = refl
known_gives t u stores (Some f) w x h = absurd cc

gives_without_fault : {W : Type 0} (line : ℕ) (vs : List TallValue) (r : Result W Refusal) (s u : State Tall) (x : W) → gather_if line vs r s ≡ given_by x u → HaveNoFault (flat_map talls_in vs)
gives_without_fault line vs (Ok w) s u x h =
    let xs = flat_map talls_in vs in none_least xs (known_gives (with_openings (gather_openings 0 s.stores (shapes xs)) s) u s.stores (least_fault (map fault_of (outcomes xs))) w x h)
gives_without_fault line vs (Err e) s u x h = absurd cc

pub gathered_without_fault : (line : ℕ) (vs : List TallValue) (s u : State Tall) (ms : List Memory) → gather_all line vs s ≡ given_by ms u → HaveNoFault (flat_map talls_in vs)
unfolding gather_all
gathered_without_fault line vs s u ms h = gives_without_fault line vs (each_of gathered_value vs) s u ms h

pub value_without_fault : (line : ℕ) (v : TallValue) (s u : State Tall) (m : Memory) → gather_value line v s ≡ given_by m u → HaveNoFault (flat_map talls_in (v ∷ []))
unfolding gather_value
value_without_fault line v s u m h = gives_without_fault line (v ∷ []) (gathered_value v) s u m h
