-- A call of `tabularTextDatastore`: what it leaves of an environment, and that it answers the definitions.
use Rattle.std.proofs.Common.{◌≡◌, ◌∙◌, ◌++◌, ◌∷◌, [], ◌≤◌, ℕ, List, length, map, Option, Some, None, refl, sym, ap, subst, arith}
use Rattle.std.specs.Prelude.{Bool, true, false, if◌then◌else◌, Result, Ok, Err, MatchResult, option_and_then, option_map}
use Rattle.std.proofs.lemmas.List.{append-nil}
use Rattle.tall_outside.specs.declared.shelf.Shelf as shelf
use Rattle.tall_outside.specs.Shelf.{Files}
use Rattle.tall_semantics.specs.Faults as semantics
use Rattle.tall_semantics.specs.Talls.{Columns, Tall}
use Rattle.tall_store.specs.Opening.{first_name}
use Rattle.tall_store.specs.Options.{SeenOptions, is_accepted}
use Rattle.tall_store.specs.Stores.{SeenStore}
use Rattle.tall_stored.specs.StoredColumns.{AreStored, Store}
use Rattle.tall_local.specs.Expressions.{Valued, gives, stops}
use Rattle.tall_local.specs.Arguments.{Argument, value_given}
use Rattle.tall_local.specs.Lists.{all_of}
use Rattle.tall_local.specs.Refusals.{Refusal, Stop, bad_argument, stop_at}
use Rattle.tall_local.specs.StateLaws.{state_after}
use Rattle.tall_local.specs.Values.{datastore}
use Rattle.tall_script.specs.Datastores.{datastore_call, options_in, value_in_memory}
use Rattle.tall_script.specs.ScriptValues.{TallValue}
use Rattle.tall_script.specs.StoreArguments.{options_given}
use Rattle.tall_script.specs.States.{State, with_openings, with_store}
use Rattle.tall_deferred.specs.Values.{lent_at, value_at}
use Rattle.tall_deferred.specs.declared.values.ScriptRef.{ScriptRef}
use Rattle.tall_deferred.specs.declared.values.ScriptValue.{ScriptValue}
use Rattle.tall_deferred.specs.declared.values.ScriptValue.TheVariants as value
use Rattle.tall_sources.specs.Opened.{OpensTo, makes, openings_due, store_due}
use Rattle.tall_sources.specs.declared.opening.OpenFault.{OpenFault}
use Rattle.tall_sources.specs.declared.opening.OpenFault.TheVariants as fault
use Rattle.tall_environment.specs.declared.failures.Failure.{Failure}
use Rattle.tall_environment.specs.declared.failures.Failure.TheVariants as failure
use Rattle.tall_environment.specs.declared.failures.Refusal.TheVariants as refusal
use Rattle.tall_environment.specs.Environments.{IsNext, SeenEnvironment, opening_of, state_at}
use Rattle.tall_environment.specs.EvaluationLaws.{evaluates_as, failed_evaluates}
use Rattle.tall_environment.specs.NumberLaws.{more_is_last, next_is_last}
use Rattle.tall_environment.specs.Expressions.{Answers, Evaluates, OpensOn}
use Rattle.tall_environment.specs.Failures.{stop_of}
use Rattle.tall_environment.specs.Moves.{Moves}
use Rattle.tall_environment.specs.MoveLaws.{moves_both, moves_made, moves_opened}
use Rattle.tall_script_calls.specs.Making.{allowed_first, failing}
use Rattle.tall_script_calls.specs.Openings.{IsOpening}
use Rattle.tall_script_calls.proofs.OpenedLaws.{opening_blames, opening_due, opening_grows, opening_made, opening_within}

-- ---- the openings

accepted_first : (b : Bool) (first : List ℕ) → map opening_of (if b then (first ∷ [], 1) ∷ [] else []) ≡ (if b then record { files = first ∷ []; times = 1 } ∷ [] else [])
accepted_first true first = refl
accepted_first false first = refl

-- what an environment is told is what is due
pub allowed_due : (wanted : Option SeenOptions) → map opening_of (allowed_first wanted) ≡ openings_due wanted
allowed_due None = refl
allowed_due (Some o) = accepted_first (is_accepted o) (first_name o.files)

-- the environment with the openings that are due
abbrev pub allowing : Option SeenOptions → SeenEnvironment → SeenEnvironment
allowing wanted e = record e { opened = e.opened ++ openings_due wanted }

-- and with a datastore more
abbrev pub making : Option SeenOptions → Store → SeenEnvironment → SeenEnvironment
making wanted d e = record e { stores = e.stores ++ d ∷ []; opened = e.opened ++ openings_due wanted }

-- ---- answers

opens_equal : (s t : State Tall) → t.opened ≡ s.opened → OpensOn s t
opens_equal s t e = ([], e ∙ sym (append-nil s.opened))

-- a call opens no more than what is due
makes_opened : (at : semantics.At) (r : Result SeenStore Refusal) (s : State Tall) → (state_after (makes at r s)).opened ≡ s.opened
makes_opened at (Ok store) s = refl
makes_opened at (Err e) s = refl

no_failure : {A : Type 0} {W : Type 0} (w : W) (e : Failure) → ◌≡◌ {A = Result W Failure} (Ok w) (Err e) → A
no_failure w e h = absurd cc

pub answers_made : (f : ℕ → Tall) (at : semantics.At) (due : Result SeenStore Refusal) (store : SeenStore) (place : ℕ) (s : State Tall) → due ≡ Ok store → place ≡ length s.stores
    → Answers (value_at f) (makes at due s) (Ok (value.Datastore place)) (with_store (record { at = at; store = store }) s)
answers_made f at due store place s is here = record {
  agrees = ap (λ r. makes at r s) is ∙ ap (λ n. gives (datastore n) (with_store (record { at = at; store = store }) s)) (sym here);
  unfinished = λ e is. no_failure (value.Datastore place) e is;
}

inside : (x y : Stop) → Some x ≡ Some y → x ≡ y
inside x y e = cc

no_stop : {A : Type 0} (stop : Stop) → ◌≡◌ {A = Option Stop} None (Some stop) → A
no_stop stop e = absurd cc

stops_due : (at : semantics.At) (due : Result SeenStore Refusal) (s : State Tall) (e : OpenFault) → OpensTo due (Err e) → (stop : Stop) → stop_of (failing at.line e) ≡ Some stop → makes at due s ≡ stops stop s
stops_due at due s fault.BadArgument is stop named = ap (λ r. makes at r s) is ∙ ap (λ x. stops x s) (inside _ stop named)
stops_due at due s (fault.NoFile name) is stop named = ap (λ r. makes at r s) is ∙ ap (λ x. stops x s) (inside _ stop named)
stops_due at due s (fault.NoHeader name) is stop named = ap (λ r. makes at r s) is ∙ ap (λ x. stops x s) (inside _ stop named)
stops_due at due s (fault.Failed name) is stop named = no_stop stop named
stops_due at due s (fault.TooLarge name) is stop named = no_stop stop named
stops_due at due s fault.Memory is stop named = no_stop stop named

pub answers_failing : (f : ℕ → Tall) (at : semantics.At) (due : Result SeenStore Refusal) (s : State Tall) (e : OpenFault) → OpensTo due (Err e)
    → Answers (value_at f) (makes at due s) (Err (failing at.line e)) s
answers_failing f at due s e is = record {
  agrees = stops_due at due s e is;
  unfinished = λ x other free. opens_equal s (state_after (makes at due s)) (makes_opened at due s);
}

-- ---- the state that is left

pub next_allowing : (wanted : Option SeenOptions) (old mid : SeenEnvironment) (n : ℕ) → mid ≡ allowing wanted old → IsNext n old → IsNext n mid
next_allowing wanted old mid n is next = subst (IsNext n) (sym is) (record { graph = next.graph; calls = next.calls })

same_size : (n : ℕ) → n ≤ n
same_size n = omega arith

module _ {S : Type 0} (s : shelf.Ghosts S) (wanted : Option SeenOptions) (old : SeenEnvironment) (before now : S) where
  moves_allowing : (r : Result SeenStore OpenFault) → IsOpening s wanted before now r → Moves s old (allowing wanted old) before now
  moves_allowing r o =
      moves_opened s old (allowing wanted old) (openings_due wanted) before now refl o.held o.later (opening_grows s wanted before now r o) (λ files told are. opening_within s wanted before now r o)

  moves_making : (store : SeenStore) (at : semantics.At) → IsOpening s wanted before now (Ok store)
      → ((files : Files) (columns : Columns) → AreStored files (old.stores ++ record { at = at; store = store } ∷ []) old.graph columns → AreStored files old.stores old.graph columns)
      → Moves s old (making wanted (record { at = at; store = store }) old) before now
  moves_making store at o stored =
      moves_both s old (allowing wanted old) (making wanted (record { at = at; store = store }) old) before now now (moves_allowing (Ok store) o)
      (moves_made s (allowing wanted old) (making wanted (record { at = at; store = store }) old) (record { at = at; store = store }) now refl stored
      (λ files told are. opening_made s wanted before now store o files (sym o.held ∙ told)))

  -- ---- the call

  abbrev pub called : semantics.At → Files → (ℕ → Tall) → State Tall → Valued TallValue (State Tall)
  called at files f t = makes at (store_due files wanted) (with_openings (openings_due wanted) t)

  pub evaluates_made : (at : semantics.At) (store : SeenStore) (place : ℕ) → IsNext at.number old → IsOpening s wanted before now (Ok store)
      → ((files : Files) (columns : Columns) → AreStored files (old.stores ++ record { at = at; store = store } ∷ []) old.graph columns → AreStored files old.stores old.graph columns)
      → place ≡ length old.stores
      → Evaluates s at.number (called at) old (making wanted (record { at = at; store = store }) old) before now (Ok (value.Datastore place))
  evaluates_made at store place next o stored here = record {
    moves = moves_making store at o stored;
    within = tt;
    last = more_is_last at.number (allowing wanted old) (making wanted (record { at = at; store = store }) old) (record { at = at; store = store }) refl (same_size at.number)
        (next_is_last at.number (allowing wanted old) (next_allowing wanted old (allowing wanted old) at.number refl next));
    tells = λ files told columns f sense.
        answers_made f at (store_due files wanted) store place (with_openings (openings_due wanted) (state_at f old)) (opening_due s wanted before now (Ok store) o files told) here;
    blames = tt;
  }

  pub evaluates_unmade : (at : semantics.At) (r : Result SeenStore OpenFault) → IsOpening s wanted before now r
      → Evaluates s at.number (called at) old (allowing wanted old) before now (Err failure.Memory)
  evaluates_unmade at r o = record {
    moves = moves_allowing r o;
    within = tt;
    last = tt;
    tells = λ files told columns f sense. record {
      agrees = λ stop named. no_stop stop named;
      unfinished = λ x other free.
          opens_equal (state_at f (allowing wanted old)) (state_after (called at files f (state_at f old))) (makes_opened at (store_due files wanted) (with_openings (openings_due wanted) (state_at f old)));
    };
    blames = tt;
  }

  pub evaluates_failing : (at : semantics.At) (e : OpenFault) → IsOpening s wanted before now (Err e)
      → Evaluates s at.number (called at) old (allowing wanted old) before now (Err (failing at.line e))
  evaluates_failing at e o = record {
    moves = moves_allowing (Err e) o;
    within = tt;
    last = tt;
    tells = λ files told columns f sense.
        answers_failing f at (store_due files wanted) (with_openings (openings_due wanted) (state_at f old)) e (opening_due s wanted before now (Err e) o files told);
    blames = opening_blames s wanted before now at.line e o;
  }

-- ---- by what each step left

module _ {S : Type 0} (s : shelf.Ghosts S) (wanted : Option SeenOptions) (old mid : SeenEnvironment) (before now : S) (at : semantics.At) (is : mid ≡ allowing wanted old) where
  pub added_answer : (store : SeenStore) (new : SeenEnvironment) (r : Result ScriptValue Failure) → IsNext at.number old → IsOpening s wanted before now (Ok store)
      → ((files : Files) (columns : Columns) → AreStored files new.stores new.graph columns → AreStored files mid.stores mid.graph columns)
      → MatchResult r (λ v. (v ≡ value.Datastore (length mid.stores)) × (new ≡ record mid { stores = mid.stores ++ record { at = at; store = store } ∷ [] })) (λ e. (e ≡ failure.Memory) × (new ≡ mid))
      → Evaluates s at.number (called s wanted old before now at) old new before now r
  added_answer store new (Ok v) next o stored added =
      let made : new ≡ making wanted (record { at = at; store = store }) old = added.1 ∙ ap (λ (e : SeenEnvironment). record e { stores = e.stores ++ record { at = at; store = store } ∷ [] }) is in
      subst (λ w. Evaluates s at.number (called s wanted old before now at) old new before now (Ok w)) (sym (added.0 ∙ ap (λ (e : SeenEnvironment). value.Datastore (length e.stores)) is))
      (subst (λ e. Evaluates s at.number (called s wanted old before now at) old e before now (Ok (value.Datastore (length old.stores)))) (sym made)
      (evaluates_made s wanted old before now at store (length old.stores) next o
      (λ files columns h. subst (λ (e : SeenEnvironment). AreStored files e.stores e.graph columns) is (stored files columns (subst (λ (e : SeenEnvironment). AreStored files e.stores e.graph columns) (sym made) h)))
      refl))
  added_answer store new (Err e) next o stored added =
      subst (λ x. Evaluates s at.number (called s wanted old before now at) old new before now (Err x)) (sym added.0)
      (subst (λ y. Evaluates s at.number (called s wanted old before now at) old y before now (Err failure.Memory)) (sym (added.1 ∙ is)) (evaluates_unmade s wanted old before now at (Ok store) o))

  pub failing_answer : (e : OpenFault) (x : Failure) → IsOpening s wanted before now (Err e) → x ≡ failing at.line e
      → Evaluates s at.number (called s wanted old before now at) old mid before now (Err x)
  failing_answer e x o named =
      subst (λ y. Evaluates s at.number (called s wanted old before now at) old mid before now (Err y)) (sym named)
      (subst (λ y. Evaluates s at.number (called s wanted old before now at) old y before now (Err (failing at.line e))) (sym is) (evaluates_failing s wanted old before now at e o))

-- ---- by the arguments

abbrev pub CallsMake : Type 0
CallsMake = (files : Files) (at : semantics.At) (args : List (Argument TallValue)) (t : State Tall)
    → datastore_call files at args t ≡ makes at (store_due files (options_in args)) (with_openings (openings_due (options_in args)) t)

-- the values that are lent, where there are any
module _ {W : Type 0} (items : W → List ScriptRef) (f : ℕ → Tall) (o : Option W) (want : Option (List TallValue)) (h : option_map (λ w. map (lent_at f) (items w)) o ≡ want) where
  pub some_lent : (w : W) → o ≡ Some w → Some (map (lent_at f) (items w)) ≡ want
  some_lent w is = sym (ap (option_map (λ v. map (lent_at f) (items v))) is) ∙ h

  pub none_lent : o ≡ None → None ≡ want
  none_lent is = sym (ap (option_map (λ v. map (lent_at f) (items v))) is) ∙ h

-- the options by the values that are lent
options_by : (args : List (Argument TallValue)) (vs : List TallValue) (wanted : Option SeenOptions) → Some vs ≡ all_of value_given args
    → option_and_then options_given (all_of value_in_memory vs) ≡ wanted → options_in args ≡ wanted
options_by args vs wanted is given = ap (λ o. option_and_then options_given (option_and_then (all_of value_in_memory) o)) (sym is) ∙ given

no_options : (args : List (Argument TallValue)) → None ≡ all_of value_given args → options_in args ≡ None
no_options args is = ap (λ o. option_and_then options_given (option_and_then (all_of value_in_memory) o)) (sym is)

module _ {S : Type 0} (s : shelf.Ghosts S) (at : semantics.At) (args : (ℕ → Tall) → List (Argument TallValue)) (law : CallsMake) where
  abbrev pub wanted_call : Files → (ℕ → Tall) → State Tall → Valued TallValue (State Tall)
  wanted_call files f t = datastore_call files at (args f) t

  pub given_answer : (vs : List ScriptRef) (wanted : Option SeenOptions) (old new : SeenEnvironment) (before now : S) (r : Result ScriptValue Failure)
      → ((f : ℕ → Tall) → Some (map (lent_at f) vs) ≡ all_of value_given (args f))
      → ((f : ℕ → Tall) → option_and_then options_given (all_of value_in_memory (map (lent_at f) vs)) ≡ wanted)
      → Evaluates s at.number (λ files f t. makes at (store_due files wanted) (with_openings (openings_due wanted) t)) old new before now r
      → Evaluates s at.number wanted_call old new before now r
  given_answer vs wanted old new before now r is given h =
      evaluates_as s at.number (λ files f t. makes at (store_due files wanted) (with_openings (openings_due wanted) t)) wanted_call old new before now r
      (λ files f. sym (law files at (args f) (state_at f old) ∙ ap (λ o. makes at (store_due files o) (with_openings (openings_due o) (state_at f old))) (options_by (args f) (map (lent_at f) vs) wanted (is f) (given f)))) h

  pub refused_answer : (e : SeenEnvironment) (now : S) → ((f : ℕ → Tall) → None ≡ all_of value_given (args f))
      → Evaluates s at.number wanted_call e e now now (Err (failure.Refused at.line refusal.BadArgument))
  refused_answer e now is =
      failed_evaluates s at.number wanted_call e now (failure.Refused at.line refusal.BadArgument) tt
      (λ files f stop named. stops_bad files f ∙ ap (λ x. stops x (state_at f e)) (inside (stop_at at.line bad_argument) stop named))
      (λ files f free. opens_equal (state_at f e) (state_after (wanted_call files f (state_at f e))) (ap (λ (w : Valued TallValue (State Tall)). (state_after w).opened) (stops_bad files f)))
    where
      stops_bad : (files : Files) (f : ℕ → Tall) → wanted_call files f (state_at f e) ≡ stops (stop_at at.line bad_argument) (state_at f e)
      stops_bad files f =
          law files at (args f) (state_at f e)
          ∙ (ap (λ o. makes at (store_due files o) (with_openings (openings_due o) (state_at f e))) (no_options (args f) (is f))
          ∙ ap (λ os. stops (stop_at at.line bad_argument) (record (state_at f e) { opened = os })) (append-nil e.opened))

  pub memory_answer : (e : SeenEnvironment) (now : S) → Evaluates s at.number wanted_call e e now now (Err failure.Memory)
  memory_answer e now =
      failed_evaluates s at.number wanted_call e now failure.Memory tt
      (λ files f stop named. no_stop stop named)
      (λ files f free. let wanted = options_in (args f) in
      (openings_due wanted, ap (λ (w : Valued TallValue (State Tall)). (state_after w).opened) (law files at (args f) (state_at f e)) ∙ makes_opened at (store_due files wanted) (with_openings (openings_due wanted) (state_at f e))))
