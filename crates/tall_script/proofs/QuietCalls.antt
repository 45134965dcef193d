-- What was opened is left by calls that make no datastore, gather no tall value and run no mapreduce.
use Rattle.std.proofs.Common.{◌≡◌, ℕ, ◌+◌, List, [], ◌∷◌, ◌++◌, Bool, true, false, refl, ap, sym, ◌∙◌, subst, arith}
use Rattle.std.proofs.lemmas.Bool.{true≢false}
use Rattle.std.proofs.lemmas.List.{append-nil, append_assoc}
use Rattle.std.proofs.lemmas.List.Elements.{All-nil, All-head, All-tail, All-cons}
use Rattle.std.specs.List.{All, flat_map}
use Rattle.std.specs.Option.{is_some}
use Rattle.std.specs.Prelude.{if◌then◌else◌, ◌==◌, ◌&&◌, length, slice_get, Option, None, Some, Result, Ok, Err}
use Rattle.tall_grammar.specs.Trees.{Tree, tree, Args, Body, assigned, property, bare, SeenFunction}
use Rattle.tall_grammar.specs.Trees as trees
use Rattle.tall_outside.specs.Shelf.{Files}
use Rattle.tall_semantics.specs.Faults.{At}
use Rattle.tall_semantics.specs.Talls.{Tall, shapes}
use Rattle.tall_store.specs.declared.faults.StoreFault.{StoreFault}
use Rattle.tall_store.specs.Opening.{opening}
use Rattle.tall_store.specs.Options.{SeenOptions, is_accepted, is_nonempty}
use Rattle.tall_store.specs.Stores.{SeenStore}
use Rattle.tall_local.specs.Arguments.{Argument, value_given}
use Rattle.tall_local.specs.CallsMade.{with_calls, listing, unlisted}
use Rattle.tall_local.specs.Expressions.{Valued, gives, stops, go_on, answered, value, arguments}
use Rattle.tall_local.specs.Lists.{all_of, each_of}
use Rattle.tall_local.specs.Memory.{Memory}
use Rattle.tall_value.specs.Names.{has_name}
use Rattle.tall_local.specs.Refusals.{Refusal, bad_argument, Stop, stop_at}
use Rattle.tall_local.specs.StateLaws.{state_after, IsKept, CallsKeep}
use Rattle.tall_local.specs.Values.{in_memory}
use Rattle.tall_local.specs.declared.functions.ScriptFunction.{ScriptFunction}
use Rattle.tall_local.specs.declared.functions.ScriptFunction.TheVariants.{OfValues, TabularTextDatastore, Tall as TallOf, Gather, MapReduce, ReadAll, Elsewhere}
use Rattle.tall_local.proofs.ListedCalls.{value_unlisted, arguments_unlisted}
use Rattle.tall_local.proofs.StatesKept.{value_kept, arguments_kept}
use Rattle.tall_script.specs.Datastores.{datastore_call, options_in, first_opening, made_store, store_with}
use Rattle.tall_script.specs.Gathers.{answered_all, gathered_value, gather_all, gather_if, gather_one, gather_openings, gather_value, talls_in}
use Rattle.tall_script.specs.OpeningLaws.{ScriptCall, makes_datastore, gathers_tall, gathers_one, gathers_into, reduces_store, call_opens, OpensNothing, GathersNothing, IsQuiet}
use Rattle.tall_script.specs.ScriptLanguage.{Setting, place, mapreduce_with, function_in, reduced_arguments, reduce_store, script_call, script_language, script_value}
use Rattle.tall_script.specs.ScriptValues.{TallValue}
use Rattle.tall_script.specs.Statements.{Done, fails, then_do, set_names, set_name, gather_into, put_store, alone, body}
use Rattle.tall_script.specs.States.{Openings, State, Store, times_allowed, with_openings}
use Rattle.tall_script.specs.StatesFollow.{done_state}
use Rattle.tall_script.proofs.OpeningsKept.{both_allowed}

all_front : {X : Type 0} (P : X → Type 0) (xs ys : List X) → All P (xs ++ ys) → All P xs
all_front P [] ys h = All-nil P
all_front P (x ∷ xs) ys h = All-cons P x xs (All-head P x (xs ++ ys) h) (all_front P xs ys (All-tail P x (xs ++ ys) h))

all_behind : {X : Type 0} (P : X → Type 0) (xs ys : List X) → All P (xs ++ ys) → All P ys
all_behind P [] ys h = h
all_behind P (x ∷ xs) ys h = all_behind P xs ys (All-tail P x (xs ++ ys) h)

module _ (file : List ℕ) where
  abbrev Leaves : State Tall → State Tall → Type 0
  Leaves s t = times_allowed file t.opened ≡ times_allowed file s.opened

  left : (line : ℕ) (s : State Tall) (r : Result TallValue Refusal) → Leaves s (state_after (answered line s r))
  left line s (Ok v) = refl
  left line s (Err e) = refl

  no_more : (n m : ℕ) → m ≡ 0 → n + m ≡ n
  no_more n m e = omega (arith, e)

  -- openings that allow nothing
  nothing : (more : List Openings) (s : State Tall) → times_allowed file more ≡ 0 → Leaves s (with_openings more s)
  nothing more s e = both_allowed file s.opened more ∙ no_more (times_allowed file s.opened) (times_allowed file more) e

  -- ---- datastores

  made : (at : At) (files : List (List ℕ)) (r : Result SeenStore StoreFault) (s t : State Tall) → Leaves s t → Leaves s (state_after (made_store at files r t))
  made at files (Ok store) s t h = h
  made at files (Err f) s t h = h

  first_is_none : (b : Bool) (names : List (List ℕ)) → b ≡ false → times_allowed file (if b then record { files = names; times = 1 } ∷ [] else []) ≡ 0
  first_is_none false names h = refl
  first_is_none true names h = absurd (true≢false h)

  stored : (files : Files) (at : At) (o : Option SeenOptions) (s : State Tall) → makes_datastore o ≡ false → Leaves s (state_after (store_with files at o s))
  stored files at None s h = refl
  stored files at (Some o) s h =
      made at o.files (opening files o) s (with_openings (first_opening o) s) (nothing (first_opening o) s (first_is_none (is_accepted o) _ h))

  -- ---- gathers

  none_read : (place : ℕ) (stores : List Store) → times_allowed file (gather_openings place stores []) ≡ 0
  none_read place [] = refl
  none_read place (d ∷ stores) = either_zero (has_name d.store.files file) (times_allowed file (gather_openings (place + 1) stores [])) (none_read (place + 1) stores) where
    either_zero : (b : Bool) (n : ℕ) → n ≡ 0 → (if b then 0 else 0) + n ≡ 0
    either_zero true n e = omega (arith, e)
    either_zero false n e = omega (arith, e)

  answered_so : {W : Type 0} (s t : State Tall) (r : Result W Stop) → Leaves s t → Leaves s (state_after (answered_all t r))
  answered_so s t (Ok w) h = h
  answered_so s t (Err stop) h = h

  of_talls : (xs : List Tall) (s : State Tall) → is_nonempty xs ≡ false → Leaves s (with_openings (gather_openings 0 s.stores (shapes xs)) s)
  of_talls [] s h = nothing (gather_openings 0 s.stores []) s (none_read 0 s.stores)
  of_talls (x ∷ xs) s h = absurd (true≢false h)

  if_gathered : {W : Type 0} (line : ℕ) (vs : List TallValue) (r : Result W Refusal) (s : State Tall) → gathers_tall r vs ≡ false → Leaves s (state_after (gather_if line vs r s))
  if_gathered line vs (Err e) s h = refl
  if_gathered line vs (Ok w) s h =
      let xs = flat_map talls_in vs in answered_so s (with_openings (gather_openings 0 s.stores (shapes xs)) s) _ (of_talls xs s h)

  in_memory_then : (s : State Tall) (r : Valued Memory (State Tall)) → Leaves s (state_after r) → Leaves s (state_after {V = TallValue} (go_on r (λ m t. gives (in_memory m) t)))
  in_memory_then s (gives m t) h = h
  in_memory_then s (stops stop t) h = h

  one_value : (line : ℕ) (v : TallValue) (s : State Tall) → gathers_tall (gathered_value v) (v ∷ []) ≡ false → Leaves s (state_after (gather_value line v s))
  unfolding gather_value
  one_value line v s h = if_gathered line (v ∷ []) (gathered_value v) s h

  one_gather : (at : At) (vs : Option (List TallValue)) (s : State Tall) → gathers_one vs ≡ false → Leaves s (state_after (gather_one at vs s))
  one_gather at None s h = refl
  one_gather at (Some []) s h = refl
  one_gather at (Some (v ∷ [])) s h = in_memory_then s (gather_value at.line v s) (one_value at.line v s h)
  one_gather at (Some (v ∷ w ∷ vs)) s h = refl

  all_gathered : (line : ℕ) (vs : List TallValue) (s : State Tall) → gathers_tall (each_of gathered_value vs) vs ≡ false → Leaves s (state_after (gather_all line vs s))
  unfolding gather_all
  all_gathered line vs s h = if_gathered line vs (each_of gathered_value vs) s h

  -- ---- mapreduce

  reduces : (files : Files) (at : At) (d : Option Store) (m r : Option SeenFunction) (s : State Tall) → (is_some d && (is_some m && is_some r)) ≡ false → Leaves s (state_after (reduce_store files at d m r s))
  reduces files at None m r s h = refl
  reduces files at (Some d) None r s h = refl
  reduces files at (Some d) (Some m) None s h = refl
  reduces files at (Some d) (Some m) (Some r) s h = absurd (true≢false h)

  mapreduces : (setting : Setting) (at : At) (a : Result (ℕ × List ℕ × List ℕ) Refusal) (s : State Tall) → reduces_store setting a s ≡ false → Leaves s (state_after (mapreduce_with setting at a s))
  mapreduces setting at (Ok a) s h = reduces setting.files at (slice_get s.stores a.0) (function_in setting.functions a.1) (function_in setting.functions a.2) s h
  mapreduces setting at (Err e) s h = refl

  -- ---- calls

  one_call : (setting : Setting) (n l : ℕ) (f : ScriptFunction) (args : List (Argument TallValue)) (s : State Tall) → call_opens setting f args s ≡ false
      → Leaves s (state_after (script_call setting (place n l) f args s))
  unfolding script_call datastore_call
  one_call setting n l (OfValues f) args s h = left l s _
  one_call setting n l TabularTextDatastore args s h = stored setting.files (place n l) (options_in args) s h
  one_call setting n l TallOf args s h = left l s _
  one_call setting n l Gather args s h = one_gather (place n l) (all_of value_given args) s h
  one_call setting n l MapReduce args s h = mapreduces setting (place n l) (reduced_arguments args) s h
  one_call setting n l ReadAll args s h = left l s _
  one_call setting n l Elsewhere args s h = refl

  -- ---- states that list their calls

  abbrev Listed : Type 0
  Listed = State Tall × List ScriptCall

  -- more calls are listed, and where these open nothing, what was opened is left
  pub record Quietly (setting : Setting) (s t : Listed) : Type 0 where
    pub more : List ScriptCall
    pub calls : t.1 ≡ s.1 ++ more
    pub left : All (OpensNothing setting) more → Leaves s.0 t.0

  module _ (setting : Setting) where
    nothing_done : (s : Listed) → Quietly setting s s
    nothing_done s = record { more = []; calls = sym (append-nil s.1); left = λ h. refl }

    quietly_kept : IsKept (Quietly setting)
    quietly_kept = record {
      nothing = nothing_done;
      both = λ s t u h k. record {
        more = h.more ++ k.more;
        calls = k.calls ∙ ap (λ cs. cs ++ k.more) h.calls ∙ append_assoc s.1 h.more k.more;
        left = λ all. k.left (all_behind (OpensNothing setting) h.more k.more all) ∙ h.left (all_front (OpensNothing setting) h.more k.more all);
      };
    }

    after_call : (s : Listed) (c : ScriptCall) (r : Valued TallValue (State Tall)) → (OpensNothing setting c → Leaves s.0 (state_after r)) → Quietly setting s (state_after (with_calls (s.1 ++ c ∷ []) r))
    after_call s c (gives v t) h = record { more = c ∷ []; calls = refl; left = λ all. h (All-head (OpensNothing setting) c [] all) }
    after_call s c (stops stop t) h = record { more = c ∷ []; calls = refl; left = λ all. h (All-head (OpensNothing setting) c [] all) }

    calls_quietly : CallsKeep (listing (script_language setting)) (Quietly setting)
    calls_quietly n l f args s =
        after_call s (record { function = f; arguments = args; state = s.0 }) (script_call setting (place n l) f args s.0) (λ h. one_call setting n l f args s.0 h)

    -- the state without the list is that of the expression
    state_unlisted : {W : Type 0} (r : Valued W Listed) → state_after (unlisted r) ≡ (state_after r).0
    state_unlisted (gives w s) = refl
    state_unlisted (stops stop s) = refl

    by_list : {W : Type 0} (s : State Tall) (r : Valued W Listed) (v : Valued W (State Tall)) → unlisted r ≡ v → Quietly setting (s, []) (state_after r)
        → All (OpensNothing setting) (state_after r).1 → Leaves s (state_after v)
    by_list s r v e q all =
        ap (λ (x : Valued _ (State Tall)). times_allowed file (state_after x).opened) (sym e) ∙ ap (λ (t : State Tall). times_allowed file t.opened) (state_unlisted r)
        ∙ q.left (subst (All (OpensNothing setting)) q.calls all)

    quiet_value : (e : Tree) (s : State Tall) → All (OpensNothing setting) (state_after (value (listing (script_language setting)) e (s, []))).1 → Leaves s (state_after (script_value setting e s))
    quiet_value e s all =
        by_list s (value (listing (script_language setting)) e (s, [])) (script_value setting e s) (value_unlisted (script_language setting) e (s, []))
        (value_kept (listing (script_language setting)) (Quietly setting) quietly_kept calls_quietly e (s, [])) all

    quiet_arguments : (args : Args) (s : State Tall) → All (OpensNothing setting) (state_after (arguments (listing (script_language setting)) args false (s, []))).1
        → Leaves s (state_after (arguments (script_language setting) args false s))
    quiet_arguments args s all =
        by_list s (arguments (listing (script_language setting)) args false (s, [])) (arguments (script_language setting) args false s) (arguments_unlisted (script_language setting) args false (s, []))
        (arguments_kept (listing (script_language setting)) (Quietly setting) quietly_kept calls_quietly args false (s, [])) all

    -- ---- statements

    after_value : {V : Type 0} (s : State Tall) (v : Valued V (State Tall)) (f : V → State Tall → Done) → Leaves s (state_after v)
        → ((w : V) (t : State Tall) → v ≡ gives w t → Leaves t (done_state (f w t))) → Leaves s (done_state (then_do v f))
    after_value s (gives w t) f h k = k w t refl ∙ h
    after_value s (stops stop t) f h k = h

    all_named : (shown : Bool) (names : List (List ℕ)) (vs : List Memory) (text : List ℕ) (s : State Tall) → Leaves s (done_state (set_names shown names vs text s))
    all_named shown [] vs text s = refl
    all_named shown (name ∷ names) [] text s = refl
    all_named shown (name ∷ names) (v ∷ vs) text s = all_named shown names vs _ (set_name name (in_memory v) s)

    into : (line : ℕ) (shown : Bool) (names : List (List ℕ)) (vs : Option (List TallValue)) (s : State Tall) → gathers_into names vs ≡ false → Leaves s (done_state (gather_into line shown names vs s))
    into line shown names None s h = refl
    into line shown names (Some vs) s h = by_test (length names == length vs) h where
      by_test : (b : Bool) → (b && gathers_tall (each_of gathered_value vs) vs) ≡ false
          → Leaves s (done_state (if b then then_do (gather_all line vs s) (λ ms t. set_names shown names ms [] t) else fails (stop_at line bad_argument) s))
      by_test true i = after_value s (gather_all line vs s) (λ ms t. set_names shown names ms [] t) (all_gathered line vs s i) (λ ms t e. all_named shown names ms [] t)
      by_test false i = refl

    put_leaves : (line : ℕ) (shown : Bool) (name : List ℕ) (d : Result Store Refusal) (s : State Tall) → Leaves s (done_state (put_store line shown name d s))
    put_leaves line shown name (Ok d) s = refl
    put_leaves line shown name (Err e) s = refl

    alone_leaves : (shown : Bool) (e : Tree) (v : TallValue) (s : State Tall) → Leaves s (done_state (alone shown e v s))
    alone_leaves shown (tree n l (trees.number d)) v s = refl
    alone_leaves shown (tree n l (trees.text t)) v s = refl
    alone_leaves shown (tree n l (trees.name x)) v s = refl
    alone_leaves shown (tree n l (trees.list es)) v s = refl
    alone_leaves shown (tree n l (trees.handle x)) v s = refl
    alone_leaves shown (tree n l (trees.prefixed op e)) v s = refl
    alone_leaves shown (tree n l (trees.joined op e f)) v s = refl
    alone_leaves shown (tree n l (trees.member e x)) v s = refl
    alone_leaves shown (tree n l (trees.call e args)) v s = refl

    given_none : (names : List (List ℕ)) (r : Valued (List (Argument TallValue)) (State Tall)) (args : List (Argument TallValue)) (t : State Tall) → GathersNothing names r → r ≡ gives args t
        → gathers_into names (all_of value_given args) ≡ false
    given_none names r args t h e = subst (GathersNothing names) e h

    pub quiet_body : (line : ℕ) (shown : Bool) (b : Body) (s : State Tall) → IsQuiet setting b s → Leaves s (done_state (body setting line shown b s))
    quiet_body line shown (assigned name e) s q = after_value s (script_value setting e s) _ (quiet_value e s q) (λ v t is. refl)
    quiet_body line shown (trees.gathered names args) s q =
        after_value s (arguments (script_language setting) args false s) _ (quiet_arguments args s q.0)
        (λ given t is. into line shown names (all_of value_given given) t (given_none names (arguments (script_language setting) args false s) given t q.1 is))
    quiet_body line shown (property name p e) s q = after_value s (script_value setting e s) _ (quiet_value e s q) (λ v t is. put_leaves line shown name _ t)
    quiet_body line shown (bare e) s q = after_value s (script_value setting e s) _ (quiet_value e s q) (λ v t is. alone_leaves shown e v t)
