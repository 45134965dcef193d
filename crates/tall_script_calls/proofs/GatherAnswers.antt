-- What a gather in code answers, clause by clause of its call.
use Rattle.std.specs.Prelude.{◌≡◌, ℕ, Bool, true, Option, None, Some, Result, Ok, Err, IfOk, List, [], ◌∷◌, ◌++◌, length, map, option_map, Vec}
use Rattle.std.proofs.Common.{refl, sym, ap, subst, ◌∙◌, append-nil}
use Rattle.std.specs.List.{All, flat_map, list_all}
use Rattle.std.specs.Option.{is_some, option_to_list}
use Rattle.tall_outside.specs.Shelf.{Files}
use Rattle.tall_column.specs.Columns.{SeenColumn}
use Rattle.tall_semantics.specs.Deferred.{AllBelow, least_in}
use Rattle.tall_semantics.specs.Faults.{At, Fault}
use Rattle.tall_semantics.specs.ShapesInOrder.{IsMade, shape_at}
use Rattle.tall_semantics.specs.Talls.{Columns, Tall, shapes}
use Rattle.tall_stored.specs.StoredColumns.{Store}
use Rattle.tall_local.specs.Arguments.{Argument, value_given}
use Rattle.tall_local.specs.Expressions.{Valued, gives, go_on, stops}
use Rattle.tall_local.specs.Lists.{ahead, all_of, in_front_of}
use Rattle.tall_local.specs.Memory.{Memory, texts}
use Rattle.tall_local.specs.Refusals.{Refusal, Stop, bad_argument, stop_at}
use Rattle.tall_local.specs.StateLaws.{state_after}
use Rattle.tall_local.specs.Values.{in_memory}
use Rattle.tall_deferred.specs.declared.values.ScriptValue.{ScriptValue}
use Rattle.tall_deferred.specs.declared.values.ScriptValue.TheVariants as kept
use Rattle.tall_deferred.specs.Values.{IsValue, Shared, shared_seen, value_at}
use Rattle.tall_script.specs.Gathers.{answered_all, gather_all, gather_call, gather_if, gather_one, gather_value, gathered_value, values_or_fault}
use Rattle.tall_script.specs.ReadingFaults.{stop_of_fault}
use Rattle.tall_script.specs.ScriptValues.{TallValue}
use Rattle.tall_script.specs.States.{Openings, State, with_openings}
use Rattle.tall_gather.specs.Gathered.{TellsGather}
use Rattle.tall_gather.specs.declared.faults.GatherFault.{GatherFault}
use Rattle.tall_evaluate.specs.Senses.{argument_seen}
use Rattle.tall_evaluate.specs.declared.languages.Argument as evaluate
use Rattle.tall_environment.specs.declared.failures.Failure.{Failure}
use Rattle.tall_environment.specs.declared.failures.Failure.TheVariants as failure
use Rattle.tall_environment.specs.declared.failures.Refusal as refusal
use Rattle.tall_environment.specs.Environments.{SeenEnvironment, state_at}
use Rattle.tall_environment.specs.Expressions.{Answers, IsSense, OpensOn, memories_at, values_at}
use Rattle.tall_environment.specs.Failures.{refusal_seen, stop_of}
use Rattle.tall_environment.specs.Values.{arguments_at}
use Rattle.tall_script_calls.specs.GatheredValues.{may_gather, memories_by, nodes_in, only_given, only_of, openings_by, single_in}
use Rattle.tall_script_calls.proofs.GatheredLaws.{columns_are, columns_by, gathered, gathered_are, root_shapes, roots_below}
use Rattle.tall_script_calls.proofs.GatherTells.{gives_all, opens_all, opens_from, stops_all}

-- ---- answers of any call

none_stop : {P : Type 0} (o : Option Stop) (stop : Stop) → o ≡ Some stop → o ≡ None → P
none_stop o stop e h = absurd (cc)

one_failure : {W : Type 0} (x y : Failure) → ◌≡◌ {A = Result W Failure} (Err x) (Err y) → x ≡ y
one_failure x y e = cc

no_failure : {W P : Type 0} (w : W) (y : Failure) → ◌≡◌ {A = Result W Failure} (Ok w) (Err y) → P
no_failure w y e = absurd (cc)

one_stop : (a b : Stop) → Some a ≡ Some b → a ≡ b
one_stop a b e = cc

pub same_opens : (s : State Tall) → OpensOn s s
same_opens s = ([], sym (append-nil s.opened))

module _ {W V : Type 0} (shown : W → V) (want : Valued V (State Tall)) (t : State Tall) where
  pub failed : (x : Failure) → ((stop : Stop) → stop_of x ≡ Some stop → want ≡ stops stop t) → OpensOn t (state_after want) → Answers shown want (Err x) t
  failed x h opens = record { agrees = h; unfinished = λ y same none. opens }

  pub memory : OpensOn t (state_after want) → Answers shown want (Err failure.Memory) t
  memory opens = record { agrees = λ stop e. none_stop None stop e refl; unfinished = λ y same none. opens }

  pub refused : (line : ℕ) (e : refusal.Refusal) → want ≡ stops (stop_at line (refusal_seen e)) t → Answers shown want (Err (failure.Refused line e)) t
  refused line e h = record {
    agrees = λ stop named. h ∙ ap (λ x. stops x t) (one_stop (stop_at line (refusal_seen e)) stop named);
    unfinished = λ y same none. subst (λ s. OpensOn t s) (sym (ap state_after h)) (same_opens t);
  }

  pub given : (w : W) → want ≡ gives (shown w) t → Answers shown want (Ok w) t
  given w h = record { agrees = h; unfinished = λ y same none. no_failure w y same }

-- ---- several values

pub tested_all : (xs vs : List ScriptValue) (b due : Bool) → xs ≡ vs → b ≡ list_all may_gather xs → b ≡ due → list_all may_gather vs ≡ due
tested_all xs vs b due e is h = sym (ap (list_all may_gather) e) ∙ (sym is ∙ h)

pub roots_are : (roots items : List ℕ) (xs vs : List ScriptValue) → roots ≡ items → items ≡ flat_map nodes_in xs → xs ≡ vs → roots ≡ flat_map nodes_in vs
roots_are roots items xs vs e is h = e ∙ (is ∙ ap (flat_map nodes_in) h)

-- a sense of the environment behind the call is one before it
pub sense_before : (files : Files) (old new : SeenEnvironment) (columns : Columns) (f : ℕ → Tall) (opened : List Openings) → new ≡ record old { opened = opened } → IsSense files new columns f → IsSense files old columns f
sense_before files old new columns f opened same sense =
    let s : IsSense files (record old { opened = opened }) columns f = subst (λ e. IsSense files e columns f) same sense in
    record { stored = s.stored; solved = s.solved }

module _ (line : ℕ) (files : Files) (old new : SeenEnvironment) (columns : Columns) (f : ℕ → Tall) (vs : List ScriptValue) (roots : List ℕ) (accepted : list_all may_gather vs ≡ true) (are : roots ≡ flat_map nodes_in vs) (made : IsMade old.graph)
    (within : All (IsValue (length old.graph)) vs) (same : new ≡ record old { opened = old.opened ++ openings_by old roots }) (sense : IsSense files new columns f) where
  before : IsSense files old columns f
  before = sense_before files old new columns f (old.opened ++ openings_by old roots) same sense

  below : AllBelow (length old.graph) roots
  below = subst (AllBelow (length old.graph)) (sym are) (roots_below (length old.graph) vs within)

  shaped : shapes (map f roots) ≡ map (shape_at old.graph) roots
  shaped = root_shapes files old.stores old.graph columns f made before.stored before.solved roots below

  state_is : state_at f new ≡ with_openings (openings_by old roots) (state_at f old)
  state_is = ap (state_at f) same

  opens : OpensOn (state_at f new) (state_after (gather_all line (values_at f vs) (state_at f old)))
  opens = opens_all line f old vs roots accepted are shaped (state_at f new) state_is

  pub answered_memory : {Z : Type 0} → Answers (memories_at {Z = Z} f) (gather_all line (values_at f vs) (state_at f old)) (Err failure.Memory) (state_at f new)
  answered_memory {Z} = memory (memories_at {Z = Z} f) (gather_all line (values_at f vs) (state_at f old)) (state_at f new) opens

  pub answered_failure : {Z : Type 0} (e : GatherFault) (x : Failure) → TellsGather old.stores f roots (Err e)
      → ((g : ℕ → Tall) (rs : List ℕ) (stop : Stop) → TellsGather old.stores g rs (Err e) → stop_of x ≡ Some stop → option_map (stop_of_fault old.stores) (least_in g rs) ≡ Some stop)
      → Answers (memories_at {Z = Z} f) (gather_all line (values_at f vs) (state_at f old)) (Err x) (state_at f new)
  answered_failure {Z} e x told stopped =
      failed (memories_at {Z = Z} f) (gather_all line (values_at f vs) (state_at f old)) (state_at f new) x
      (λ stop named. stops_all line f old vs roots accepted are shaped stop (state_at f new) state_is (stopped f roots stop told named)) opens

  pub answered_values : {Z : Type 0} (ms : Vec Shared Z) (xs : List SeenColumn) → TellsGather old.stores f roots (Ok xs) → length xs ≡ length roots
      → ((g : ℕ → SeenColumn) → xs ≡ map g (flat_map nodes_in vs) → map shared_seen ms.items ≡ memories_by (single_in old.graph) g vs)
      → Answers (memories_at {Z = Z} f) (gather_all line (values_at f vs) (state_at f old)) (Ok ms) (state_at f new)
  answered_values {Z} ms xs told many put =
      let cols : xs ≡ map (columns_by f) (flat_map nodes_in vs) = columns_are f roots xs many told.1 ∙ ap (map (columns_by f)) are in
      let values = put (columns_by f) cols ∙ gathered_are files old.stores old.graph columns f made before.stored before.solved roots below vs are told.0 in
      given (memories_at {Z = Z} f) (gather_all line (values_at f vs) (state_at f old)) (state_at f new) ms
      (gives_all line f old vs roots accepted are shaped (map shared_seen ms.items) (state_at f new) state_is told.0 values)

-- ---- one value

abbrev pub as_value : Valued (List Memory) (State Tall) → Valued TallValue (State Tall)
as_value (gives [] t) = gives (in_memory (texts [])) t
as_value (gives (m ∷ []) t) = gives (in_memory m) t
as_value (gives (m ∷ n ∷ ms) t) = gives (in_memory (texts [])) t
as_value (stops stop t) = stops stop t

abbrev pub one_wanted : ℕ → TallValue → State Tall → Valued TallValue (State Tall)
one_wanted line v s = go_on (gather_value line v s) (λ m t. gives (in_memory m) t)

pub one_is : (line : ℕ) (v : TallValue) (s : State Tall) → one_wanted line v s ≡ as_value (gather_all line (v ∷ []) s)
unfolding gather_value gather_all
one_is line v s = by (gathered_value v)
  where
    known : (stores : List Store) (least : Option Fault) (m : Memory) (t : State Tall) → go_on (answered_all t (values_or_fault stores least m)) (λ m t. gives (in_memory m) t) ≡ as_value (answered_all t (values_or_fault stores least (m ∷ [])))
    known stores None m t = refl
    known stores (Some x) m t = refl

    by : (a : Result Memory Refusal) → go_on (gather_if line (v ∷ []) a s) (λ m t. gives (in_memory m) t) ≡ as_value (gather_if line (v ∷ []) (ahead a (Ok [])) s)
    by (Ok m) = known _ _ m _
    by (Err e) = refl

state_same : (a : Valued (List Memory) (State Tall)) → state_after (as_value a) ≡ state_after a
state_same (gives [] t) = refl
state_same (gives (m ∷ []) t) = refl
state_same (gives (m ∷ n ∷ ms) t) = refl
state_same (stops stop t) = refl

one_state : (line : ℕ) (v : TallValue) (s : State Tall) → state_after (one_wanted line v s) ≡ state_after (gather_all line (v ∷ []) s)
one_state line v s = ap state_after (one_is line v s) ∙ state_same (gather_all line (v ∷ []) s)

pub one_opens : (line : ℕ) (v : TallValue) (s : State Tall) → OpensOn s (state_after (one_wanted line v s))
one_opens line v s = subst (λ x. OpensOn s x) (sym (one_state line v s)) (opens_from line (v ∷ []) s)

inside_gives : (xs ys : List Memory) (s t : State Tall) → ◌≡◌ {A = Valued (List Memory) (State Tall)} (gives xs s) (gives ys t) → xs ≡ ys
inside_gives xs ys s t e = cc

-- one value gives one
pub single_gives : (line : ℕ) (v : TallValue) (s t : State Tall) (ms : List Memory) → gather_all line (v ∷ []) s ≡ gives ms t → (m : Memory) × (ms ≡ m ∷ [])
unfolding gather_all
single_gives line v s t ms e = by (gathered_value v) e
  where
    known : (stores : List Store) (least : Option Fault) (m : Memory) (u : State Tall) → answered_all u (values_or_fault stores least (m ∷ [])) ≡ gives ms t → ms ≡ m ∷ []
    known stores None m u h = sym (inside_gives (m ∷ []) ms u t h)
    known stores (Some x) m u h = absurd (cc)

    by : (a : Result Memory Refusal) → gather_if line (v ∷ []) (ahead a (Ok [])) s ≡ gives ms t → (m : Memory) × (ms ≡ m ∷ [])
    by (Ok m) h = (m, known _ _ m _ h)
    by (Err x) h = absurd (cc)

module _ {Z : Type 0} (line : ℕ) (f : ℕ → Tall) (v : ScriptValue) (s t : State Tall) where
  pub one_failed : (x : Failure) → Answers (memories_at {Z = Z} f) (gather_all line (values_at f (v ∷ [])) s) (Err x) t → Answers (value_at f) (one_wanted line (value_at f v) s) (Err x) t
  one_failed x a = record {
    agrees = λ stop named. one_is line (value_at f v) s ∙ ap as_value (a.agrees stop named);
    unfinished = λ y same none. subst (λ z. OpensOn t z) (sym (one_state line (value_at f v) s)) (a.unfinished y (ap (λ z. Err z) (one_failure x y same)) none);
  }

  module _ (ms : Vec Shared Z) (a : Answers (memories_at {Z = Z} f) (gather_all line (values_at f (v ∷ [])) s) (Ok ms) t) where
    single : (m : Memory) × (map shared_seen ms.items ≡ m ∷ [])
    single = single_gives line (value_at f v) s t (map shared_seen ms.items) a.agrees

    one_gives : (m : Memory) → map shared_seen ms.items ≡ m ∷ [] → one_wanted line (value_at f v) s ≡ gives (in_memory m) t
    one_gives m e = one_is line (value_at f v) s ∙ (ap as_value a.agrees ∙ ap (λ x. as_value (gives x t)) e)

    pub one_value : (one : Shared) → ((m : Memory) → map shared_seen ms.items ≡ m ∷ [] → shared_seen one ≡ m) → Answers (value_at f) (one_wanted line (value_at f v) s) (Ok (kept.Memory one)) t
    one_value one is =
        let w = single in
        given (value_at f) (one_wanted line (value_at f v) s) t (kept.Memory one) (one_gives w.0 w.1 ∙ ap (λ m. gives (in_memory m) t) (sym (is w.0 w.1)))

    pub one_lost : Answers (value_at f) (one_wanted line (value_at f v) s) (Err failure.Memory) t
    one_lost =
        let w = single in
        memory (value_at f) (one_wanted line (value_at f v) s) t (subst (λ x. OpensOn t x) (sym (ap state_after (one_gives w.0 w.1))) (same_opens t))

pub of_one : {Z : Type 0} (line : ℕ) (f : ℕ → Tall) (vs : List ScriptValue) (v : ScriptValue) (s t : State Tall) (a : Result (Vec Shared Z) Failure) → vs ≡ v ∷ [] → Answers (memories_at {Z = Z} f) (gather_all line (values_at f vs) s) a t
    → Answers (memories_at {Z = Z} f) (gather_all line (values_at f (v ∷ [])) s) a t
of_one {Z} line f vs v s t a e h = subst (λ xs. Answers (memories_at {Z = Z} f) (gather_all line (values_at f xs) s) a t) e h

pub pushed_one : (xs ys : List ScriptValue) (v : ScriptValue) → ys ≡ xs ++ v ∷ [] → xs ≡ [] → ys ≡ v ∷ []
pushed_one xs ys v e h = e ∙ ap (λ zs. zs ++ v ∷ []) h

-- ---- a call

only_is : (at : At) (o : Option (List TallValue)) (v : TallValue) (s : State Tall) → Some v ≡ only_of o → gather_one at o s ≡ one_wanted at.line v s
only_is at None v s e = absurd (cc)
only_is at (Some []) v s e = absurd (cc)
only_is at (Some (w ∷ [])) v s e = ap (λ x. one_wanted at.line x s) (sym (same v w e))
  where
    same : (v w : TallValue) → Some v ≡ Some w → v ≡ w
    same v w e = cc
only_is at (Some (w ∷ x ∷ vs)) v s e = absurd (cc)

none_is : (at : At) (o : Option (List TallValue)) (s : State Tall) → None ≡ only_of o → gather_one at o s ≡ stops (stop_at at.line bad_argument) s
none_is at None s e = refl
none_is at (Some []) s e = refl
none_is at (Some (w ∷ [])) s e = absurd (cc)
none_is at (Some (w ∷ x ∷ vs)) s e = refl

pub call_is : (at : At) (args : List (Argument TallValue)) (v : TallValue) (s : State Tall) → Some v ≡ only_given args → gather_call at args s ≡ one_wanted at.line v s
call_is at args v s e = only_is at (all_of value_given args) v s e

pub call_refused : (at : At) (args : List (Argument TallValue)) (s : State Tall) → None ≡ only_given args → gather_call at args s ≡ stops (stop_at at.line bad_argument) s
call_refused at args s e = none_is at (all_of value_given args) s e

-- behind the first argument there is another
two_given : (o : Option TallValue) (p : Option TallValue) (q : Option (List TallValue)) → None ≡ only_of (in_front_of o (in_front_of p q))
two_given None p q = refl
two_given (Some v) None q = refl
two_given (Some v) (Some w) None = refl
two_given (Some v) (Some w) (Some vs) = refl

pub more_given : (f : ℕ → Tall) (args rest behind : List (evaluate.Argument ScriptValue)) (x : evaluate.Argument ScriptValue) (o : Option (evaluate.Argument ScriptValue)) → args ≡ x ∷ rest → rest ≡ option_to_list o ++ behind → is_some o ≡ true
    → None ≡ only_given (arguments_at f args)
more_given f args rest behind x None e h some = absurd (cc)
more_given f args rest behind x (Some y) e h some =
    two_given (value_given (argument_seen (value_at f) x)) (value_given (argument_seen (value_at f) y)) (all_of value_given (arguments_at f behind)) ∙ sym (ap (λ xs. only_given (arguments_at f xs)) (e ∙ ap (λ xs. x ∷ xs) h))

pub call_answers : (at : At) (args : List (Argument TallValue)) (f : ℕ → Tall) (v : ScriptValue) (s t : State Tall) (a : Result ScriptValue Failure) → Some (value_at f v) ≡ only_given args → Answers (value_at f) (one_wanted at.line (value_at f v) s) a t
    → Answers (value_at f) (gather_call at args s) a t
call_answers at args f v s t a e h = subst (λ want. Answers (value_at f) want a t) (sym (call_is at args (value_at f v) s e)) h

pub each_ok : {W E P : Type 0} (a : Result W E) → P → IfOk a (λ w. P)
each_ok (Ok w) p = p
each_ok (Err e) p = tt
