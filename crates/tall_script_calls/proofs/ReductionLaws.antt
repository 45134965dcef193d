-- What mapreduce says of the shelf, in words of an environment.
use Rattle.std.proofs.Common.{◌≡◌, ◌<◌, ◌≤◌, ◌+◌, ℕ, List, [], ◌∷◌, ◌++◌, length, refl, sym, ap, subst, ◌∙◌, arith}
use Rattle.std.proofs.lemmas.Option.{slice_get_read}
use Rattle.std.specs.Prelude.{true, get_or, map, zero, suc, slice_get, Option, None, Some, Result, Ok, Err, IfOk}
use Rattle.tall_value.specs.Names.{are_distinct}
use Rattle.tall_outside.specs.declared.shelf.Shelf as shelf
use Rattle.tall_outside.specs.Shelf.{Files, openings_of}
use Rattle.tall_outside.specs.ShelfCounts.{IsLater, shelf_counts}
use Rattle.tall_column.specs.Columns.{SeenColumn}
use Rattle.tall_semantics.specs.Faults.{At}
use Rattle.tall_semantics.specs.Talls.{Tall}
use Rattle.tall_grammar.specs.Trees.{SeenFunction}
use Rattle.tall_local.specs.Memory.{Memory, table}
use Rattle.tall_local.specs.Refusals.{Stop, bad_argument, stop_at}
use Rattle.tall_local.specs.Expressions.{Valued, gives, stops}
use Rattle.tall_local.specs.StateLaws.{state_after}
use Rattle.tall_local.specs.Values.{in_memory}
use Rattle.tall_store.specs.Stores.{SeenStore}
use Rattle.tall_script.specs.MapReduce.{map_reduced}
use Rattle.tall_script.specs.ScriptLanguage.{function_in, reduce_store, table_or_stop}
use Rattle.tall_script.specs.ScriptValues.{TallValue}
use Rattle.tall_script.specs.States.{State, Store, times_allowed, with_openings}
use Rattle.tall_deferred.specs.declared.values.ScriptValue.{ScriptValue}
use Rattle.tall_deferred.specs.declared.values.ScriptValue.TheVariants as kept
use Rattle.tall_deferred.specs.Values.{IsInMemory, IsValue, value_at}
use Rattle.tall_sources.specs.Sources.{store_in}
use Rattle.tall_mapred.specs.declared.faults.MapFault.{MapFault}
use Rattle.tall_mapred.specs.declared.faults.MapFault.TheVariants as fault
use Rattle.tall_mapred.specs.Answers.{Answer, NamesOne, OpensFiles}
use Rattle.tall_gather.proofs.OnePass.{opens_most}
use Rattle.tall_environment.specs.declared.failures.Failure.{Failure}
use Rattle.tall_environment.specs.declared.failures.Failure.TheVariants as failure
use Rattle.tall_environment.specs.Environments.{IsNext, SeenEnvironment, opening_of, state_at}
use Rattle.tall_environment.specs.Expressions.{Answers, Evaluates, OpensOn}
use Rattle.tall_environment.specs.Failures.{Blames, IsInside, stop_of}
use Rattle.tall_environment.specs.Moves.{OpensMore, OpensWithin}
use Rattle.tall_environment.specs.EvaluationLaws.{evaluates_as, failed_evaluates, opens_same}
use Rattle.tall_environment.specs.NumberLaws.{last_stays, next_is_last}
use Rattle.tall_script_calls.specs.Reductions.{Reduces, StopsWith, TellsValue, files_at, files_of, opened_once}
use Rattle.tall_script_calls.proofs.GatherOpenings as openings

at_least : (n : ℕ) → n ≤ n
at_least n = omega arith

-- ---- the shelf

pub more_opened : (files : List (List ℕ)) (answer : Answer) (before now : Option (List (List ℕ))) → OpensFiles files answer before now → OpensMore before now
more_opened files answer before now h names told =
    let w = opens_most files h.opened before now h.opens names told in (w.0, w.1, λ name. (w.2 name).0)

some_same : (a b : List (List ℕ)) → Some a ≡ Some b → a ≡ b
some_same a b e = cc

pub within_opened : (d : Store) (answer : Answer) (before now : Option (List (List ℕ))) → OpensFiles d.store.files answer before now → are_distinct d.store.files ≡ true → OpensWithin (opened_once d) before now
unfolding openings.once
within_opened d answer before now h distinct names all told end name =
    let w = opens_most d.store.files h.opened before now h.opens names told in
    let same : w.0 ≡ all = some_same w.0 all (sym w.1 ∙ end) in
    let most = (w.2 name).1 in
    let one = openings.opened_once d.store.files name distinct in
    subst (λ a. openings_of name a ≤ openings_of name names + times_allowed name (opened_once d)) same (omega (arith, most, one))

pub names_below : (failed : MapFault) (n m : ℕ) → n ≤ m → NamesOne (Err failed) n → NamesOne (Err failed) m
names_below (fault.At line row kind) n m h k = tt
names_below (fault.Reading g) n m h k = tt
names_below (fault.Read file) n m h k = omega (arith, h, k)
names_below (fault.TooLarge file) n m h k = omega (arith, h, k)
names_below fault.Memory n m h k = tt

-- ---- a table of a datastore

module _ {S : Type 0} (s : shelf.Ghosts S) (d : Store) (store : SeenStore) (same : d.store ≡ store) (want : Files → Result Memory Stop) (before now : S) where
  of_store : (answer : Answer) → OpensFiles store.files answer (s.opened before) (s.opened now) → OpensFiles d.store.files answer (s.opened before) (s.opened now)
  of_store answer opens = subst (λ x. OpensFiles x.files answer (s.opened before) (s.opened now)) (sym same) opens

  pub reduces_to : (t : List (List ℕ × SeenColumn)) (v : ScriptValue) → IsInMemory v → ((f : ℕ → Tall) → value_at f v ≡ in_memory (table t)) → s.held now ≡ s.held before → IsLater (shelf_counts s before) (shelf_counts s now)
      → OpensFiles store.files (Ok t) (s.opened before) (s.opened now) → ((files : Files) → s.held before ≡ Some files → want files ≡ Ok (table t))
      → Reduces s d want before now (Ok v)
  reduces_to t v inside seen held counts opens told = record {
    held = held;
    counts = counts;
    grows = more_opened d.store.files (Ok t) (s.opened before) (s.opened now) (of_store (Ok t) opens);
    within = within_opened d (Ok t) (s.opened before) (s.opened now) (of_store (Ok t) opens);
    kept = inside;
    tells = λ files is. (table t, told files is, seen);
    blames = tt;
  }

  -- the table is there, and no memory for its value
  pub reduces_lost : (t : List (List ℕ × SeenColumn)) → s.held now ≡ s.held before → IsLater (shelf_counts s before) (shelf_counts s now) → OpensFiles store.files (Ok t) (s.opened before) (s.opened now)
      → Reduces s d want before now (Err failure.Memory)
  reduces_lost t held counts opens = record {
    held = held;
    counts = counts;
    grows = more_opened d.store.files (Ok t) (s.opened before) (s.opened now) (of_store (Ok t) opens);
    within = within_opened d (Ok t) (s.opened before) (s.opened now) (of_store (Ok t) opens);
    kept = tt;
    tells = λ files is stop named. absurd (cc);
    blames = tt;
  }

  pub reduces_not : (failed : MapFault) (e : Failure) → s.held now ≡ s.held before → IsLater (shelf_counts s before) (shelf_counts s now) → OpensFiles store.files (Err failed) (s.opened before) (s.opened now)
      → ((files : Files) → s.held before ≡ Some files → StopsWith (want files) e) → Blames s e before now → Reduces s d want before now (Err e)
  reduces_not failed e held counts opens told blames = record {
    held = held;
    counts = counts;
    grows = more_opened d.store.files (Err failed) (s.opened before) (s.opened now) (of_store (Err failed) opens);
    within = within_opened d (Err failed) (s.opened before) (s.opened now) (of_store (Err failed) opens);
    kept = tt;
    tells = told;
    blames = blames;
  }

-- ---- in an environment

one_stop : (a b : Stop) → Some a ≡ Some b → a ≡ b
one_stop a b e = cc

named_or_none : (o : Option Stop) (stop : Stop) → o ≡ Some stop → o ≡ None → ⊥
named_or_none o stop e n = (let q : None ≡ Some stop = sym n ∙ e in absurd (cc))

-- a stop before anything was done
pub stopped_at : {S : Type 0} (s : shelf.Ghosts S) (n : ℕ) (want : Files → (ℕ → Tall) → State Tall → Valued TallValue (State Tall)) (e : SeenEnvironment) (now : S) (failure : Failure) (stop : Stop)
    → stop_of failure ≡ Some stop → IsInside failure → ((files : Files) (f : ℕ → Tall) → want files f (state_at f e) ≡ stops stop (state_at f e)) → Evaluates s n want e e now now (Err failure)
stopped_at s n want e now failure stop named inside same =
    failed_evaluates s n want e now failure inside (λ files f other is. same files f ∙ ap (λ k. stops k (state_at f e)) (one_stop stop other (sym named ∙ is)))
    (λ files f none. absurd (named_or_none (stop_of failure) stop named none))

in_memory_fits : (n : ℕ) (r : Result ScriptValue Failure) → IfOk r IsInMemory → IfOk r (IsValue n)
in_memory_fits n (Ok (kept.Datastore place)) h = absurd h
in_memory_fits n (Ok (kept.Table xs)) h = absurd h
in_memory_fits n (Ok (kept.Tall x)) h = absurd h
in_memory_fits n (Ok (kept.Memory v)) h = tt
in_memory_fits n (Err e) h = tt

if_ok : {W E A : Type 0} (r : Result W E) → A → IfOk r (λ w. A)
if_ok (Ok w) a = a
if_ok (Err e) a = tt

no_more : (want : Result Memory Stop) (t : State Tall) → OpensOn t (state_after (table_or_stop want t))
no_more (Ok m) t = opens_same t
no_more (Err stop) t = opens_same t

answers_by : (f : ℕ → Tall) (want : Result Memory Stop) (t : State Tall) (r : Result ScriptValue Failure) → TellsValue want r → Answers (value_at f) (table_or_stop want t) r t
answers_by f want t (Ok v) (m, is, seen) = record {
  agrees = ap (λ w. table_or_stop w t) is ∙ ap (λ x. gives x t) (sym (seen f));
  unfinished = λ e never none. absurd (cc);
}
answers_by f want t (Err e) h = record {
  agrees = λ stop named. ap (λ w. table_or_stop w t) (h stop named);
  unfinished = λ y is none. no_more want t;
}

pub evaluates_to : {S : Type 0} (s : shelf.Ghosts S) (n place : ℕ) (e : SeenEnvironment) (d : Store) (want : Files → Result Memory Stop) (before now : S) (r : Result ScriptValue Failure)
    → slice_get e.stores place ≡ Some d → IsNext n e → Reduces s d want before now r
    → Evaluates s n (λ files f st. table_or_stop (want files) (with_openings (opened_once d) st)) e (record e { opened = e.opened ++ opened_once d }) before now r
evaluates_to s n place e d want before now r there next h = record {
  moves = record {
    names = refl;
    size = at_least (length e.graph);
    stored = λ files columns k. k;
    meant = λ columns f k. k;
    held = h.held;
    counts = h.counts;
    opens = record {
      more = opened_once d;
      allowed = refl;
      grows = h.grows;
      distinct = λ files told are. are;
      within = λ files told are. h.within (are place d there);
    };
  };
  within = in_memory_fits (length e.graph) r h.kept;
  last = if_ok r (last_stays n e (record e { opened = e.opened ++ opened_once d }) refl refl (next_is_last n e next));
  tells = λ files told columns f sense. answers_by f (want files) (with_openings (opened_once d) (state_at f e)) r (h.tells files told);
  blames = h.blames;
}

-- ---- the call

pub there_is : {A : Type 0} (xs : List A) (i : ℕ) → i < length xs → (x : A) × (slice_get xs i ≡ Some x)
there_is [] i h = absurd (omega (arith, h))
there_is (x ∷ xs) zero h = (x, refl)
there_is (x ∷ xs) (suc i) h = there_is xs i (omega (arith, h))

in_stores : (stores : List Store) (i : ℕ) → i < length stores → i < length (map store_in stores)
in_stores [] i h = absurd (omega (arith, h))
in_stores (x ∷ xs) zero h = omega arith
in_stores (x ∷ xs) (suc i) h = (let k = in_stores xs i (omega (arith, h)) in omega (arith, k))

none_there : {A : Type 0} (xs : List A) (i : ℕ) → length xs ≤ i → slice_get xs i ≡ None
none_there [] i h = refl
none_there (x ∷ xs) zero h = absurd (omega (arith, h))
none_there (x ∷ xs) (suc i) h = none_there xs i (omega (arith, h))

store_is : (stores : List Store) (i : ℕ) (d : Store) (store : SeenStore) → slice_get stores i ≡ Some d → slice_get (map store_in stores) i ≡ Some store → d.store ≡ store
store_is [] i d store h k = absurd (cc)
store_is (x ∷ xs) zero d store h k = (let a : x ≡ d = inside x d h in let b : x.store ≡ store = within x.store store k in sym (ap (λ (y : Store). y.store) a) ∙ b) where
  inside : (a b : Store) → Some a ≡ Some b → a ≡ b
  inside a b e = cc

  within : (a b : SeenStore) → Some a ≡ Some b → a ≡ b
  within a b e = cc
store_is (x ∷ xs) (suc i) d store h k = store_is xs i d store h k

-- the datastore that is lent at its place
pub store_read : (stores : List Store) (lent : List SeenStore) (i : ℕ) (d : Store) (store : SeenStore) → lent ≡ map store_in stores → slice_get stores i ≡ Some d → store ≡ get_or lent i store → i < length stores → d.store ≡ store
store_read stores lent i d store same there is below =
    store_is stores i d store there (slice_get_read (map store_in stores) (length (map store_in stores)) i store refl (in_stores stores i below) (subst (λ l. store ≡ get_or l i store) same is))

pub store_evaluates : {S : Type 0} (s : shelf.Ghosts S) (at : At) (place : ℕ) (e new : SeenEnvironment) (d : Store) (m r : SeenFunction) (before now : S) (answer : Result ScriptValue Failure)
    → slice_get e.stores place ≡ Some d → IsNext at.number e → new ≡ record e { opened = e.opened ++ map opening_of ((files_at e.stores place, 1) ∷ []) }
    → Reduces s d (λ files. map_reduced files d m r) before now answer
    → Evaluates s at.number (λ files f st. reduce_store files at (slice_get st.stores place) (Some m) (Some r) st) e new before now answer
store_evaluates s at place e new d m r before now answer there next is h =
    let opened : new ≡ record e { opened = e.opened ++ opened_once d } = is ∙ ap (λ o. record e { opened = e.opened ++ record { files = files_of o; times = 1 } ∷ [] }) there in
    evaluates_as s at.number (λ files f st. table_or_stop (map_reduced files d m r) (with_openings (opened_once d) st))
    (λ files f st. reduce_store files at (slice_get st.stores place) (Some m) (Some r) st) e new before now answer
    (λ files f. sym (ap (λ o. reduce_store files at o (Some m) (Some r) (state_at f e)) there))
    (subst (λ x. Evaluates s at.number (λ files f st. table_or_stop (map_reduced files d m r) (with_openings (opened_once d) st)) e x before now answer) (sym opened)
    (evaluates_to s at.number place e d (λ files. map_reduced files d m r) before now answer there next h))

no_map : (files : Files) (at : At) (o : Option Store) (r : Option SeenFunction) (st : State Tall) → reduce_store files at o None r st ≡ stops (stop_at at.line bad_argument) st
no_map files at None r st = refl
no_map files at (Some d) r st = refl

no_reduce : (files : Files) (at : At) (o : Option Store) (m : Option SeenFunction) (st : State Tall) → reduce_store files at o m None st ≡ stops (stop_at at.line bad_argument) st
no_reduce files at None m st = refl
no_reduce files at (Some d) None st = refl
no_reduce files at (Some d) (Some m) st = refl

pub function_named : (functions : List SeenFunction) (found : Option SeenFunction) (read name : List ℕ) → found ≡ function_in functions read → read ≡ name → found ≡ function_in functions name
function_named functions found read name is same = is ∙ ap (function_in functions) same

-- what a call wants by a place and what the script has of the names
abbrev pub wanted : At → ℕ → Option SeenFunction → Option SeenFunction → Files → (ℕ → Tall) → State Tall → Valued TallValue (State Tall)
wanted at place m r = λ files f st. reduce_store files at (slice_get st.stores place) m r st

module _ {S : Type 0} (s : shelf.Ghosts S) (at : At) (place : ℕ) (m r : Option SeenFunction) (e : SeenEnvironment) where
  pub by_functions : (seen second : Option SeenFunction) (new : SeenEnvironment) (before now : S) (answer : Result ScriptValue Failure) → seen ≡ m → second ≡ r
      → Evaluates s at.number (wanted at place seen second) e new before now answer → Evaluates s at.number (wanted at place m r) e new before now answer
  by_functions seen second new before now answer is same h =
      subst (λ x. Evaluates s at.number (wanted at place m x) e new before now answer) same (subst (λ x. Evaluates s at.number (wanted at place x second) e new before now answer) is h)

  module _ (now : S) (failure : Failure) (named : stop_of failure ≡ Some (stop_at at.line bad_argument)) (inside : IsInside failure) where
    pub no_store_there : length e.stores ≤ place → Evaluates s at.number (wanted at place m r) e e now now (Err failure)
    no_store_there h = stopped_at s at.number (wanted at place m r) e now failure (stop_at at.line bad_argument) named inside
        (λ files f. ap (λ o. reduce_store files at o m r (state_at f e)) (none_there e.stores place h))

    pub no_map_there : None ≡ m → Evaluates s at.number (wanted at place m r) e e now now (Err failure)
    no_map_there is = stopped_at s at.number (wanted at place m r) e now failure (stop_at at.line bad_argument) named inside
        (λ files f. ap (λ o. reduce_store files at (slice_get e.stores place) o r (state_at f e)) (sym is) ∙ no_map files at (slice_get e.stores place) r (state_at f e))

    pub no_reduce_there : None ≡ r → Evaluates s at.number (wanted at place m r) e e now now (Err failure)
    no_reduce_there is = stopped_at s at.number (wanted at place m r) e now failure (stop_at at.line bad_argument) named inside
        (λ files f. ap (λ o. reduce_store files at (slice_get e.stores place) m o (state_at f e)) (sym is) ∙ no_reduce files at (slice_get e.stores place) m (state_at f e))
