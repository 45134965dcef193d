-- Datastores with a property changed.
use Rattle.std.proofs.Common.{ℕ, zero, suc, ◌≡◌, ◌≤◌, ◌<◌, ◌∙◌, List, [], ◌∷◌, ◌++◌, length, inl, inr, refl, ap, sym, subst, arith}
use Rattle.std.specs.Prelude.{Bool, true, slice_get, Option, None, Some, option_map, Result, Ok, Err, Vec}
use Rattle.tall_outside.specs.Shelf.{Files}
use Rattle.tall_semantics.specs.Deferred.{IsMeaning}
use Rattle.tall_semantics.specs.Outcomes.{rows}
use Rattle.tall_semantics.specs.Talls.{Columns, Tall, stored_tall}
use Rattle.tall_semantics.proofs.InOrderLaws.{old_or_new}
use Rattle.tall_value.specs.Cells.{Seen}
use Rattle.tall_value.specs.Names.{are_distinct}
use Rattle.tall_value.specs.declared.class.Class.TheVariants as class
use Rattle.tall_stored.specs.StoredColumns.{AreStored, Store}
use Rattle.tall_local.specs.Constants.{constant_named}
use Rattle.tall_local.specs.Memory.{scalar}
use Rattle.tall_local.specs.Names.{named}
use Rattle.tall_local.specs.Refusals.{Refusal, and_then, bad_argument, or_refuse, undefined}
use Rattle.tall_local.specs.Values.{datastore, deferred, in_memory, tall_table}
use Rattle.tall_script.specs.ScriptLanguage.{read_name}
use Rattle.tall_script.specs.ScriptValues.{TallValue}
use Rattle.tall_script.specs.States.{State, with_store}
use Rattle.tall_script.specs.StatesFollow.{done_state}
use Rattle.tall_script.specs.Statements.{assign, changed_store, datastore_named, fails, put_store}
use Rattle.tall_deferred.specs.declared.faults.ValueFault.{ValueFault}
use Rattle.tall_deferred.specs.declared.values.ScriptValue.{ScriptValue}
use Rattle.tall_deferred.specs.declared.values.ScriptValue.TheVariants as kept
use Rattle.tall_deferred.specs.Faults.{IsDue}
use Rattle.tall_deferred.proofs.Grown.{due_through}
use Rattle.tall_deferred.specs.Values.{value_at}
use Rattle.tall_sources.specs.Changed.{AddsStore}
use Rattle.tall_environment.specs.declared.failures.Failure.{Failure}
use Rattle.tall_environment.specs.Environments.{CallsAreAtMost, SeenEnvironment, names_at, numbered, state_at}
use Rattle.tall_environment.specs.Expressions.{OpensOn}
use Rattle.tall_environment.specs.Failures.{IsInside, Refuses}
use Rattle.tall_environment.specs.Moves.{HaveDistinctFiles}
use Rattle.tall_environment.specs.StoreLaws.{changed_keeps}
use Rattle.tall_statements.specs.Answers.{Answers, Ends}
use Rattle.tall_statements.specs.Endings.{IsPlaceOf}
use Rattle.tall_environment.proofs.NameLaws.{named_at}
use Rattle.tall_statements.proofs.EndLaws.{opens_same}

abbrev value_answer : TallValue → Result TallValue Refusal
value_answer v = Ok v

abbrev value_refusal : Refusal → Result TallValue Refusal
value_refusal e = Err e

abbrev refusal_answer : Refusal → Result Store Refusal
refusal_answer e = Err e

-- ---- the datastore of a name

got : (stores : List Store) (place : ℕ) → place < length stores → (d : Store) × (slice_get stores place ≡ Some d)
got [] place l = absurd (omega (arith, l))
got (d ∷ stores) zero l = (d, refl)
got (d ∷ stores) (suc place) l = got stores place (omega (arith, l))

none_behind : (stores : List Store) (place : ℕ) → length stores ≤ place → slice_get stores place ≡ None
none_behind [] place l = refl
none_behind (d ∷ stores) zero l = absurd (omega (arith, l))
none_behind (d ∷ stores) (suc place) l = none_behind stores place (omega (arith, l))

pub place_there : (stores : List Store) (place : ℕ) → place < length stores → IsPlaceOf stores (or_refuse bad_argument (slice_get stores place)) (Ok place)
place_there stores place l = let d = got stores place l in (d.0, d.1, ap (or_refuse bad_argument) d.1)

pub no_place : (stores : List Store) (place : ℕ) → length stores ≤ place → or_refuse bad_argument (slice_get stores place) ≡ Err bad_argument
no_place stores place l = ap (or_refuse bad_argument) (none_behind stores place l)

within_place : (stores : List Store) (place : ℕ) (d : Store) → slice_get stores place ≡ Some d → place < length stores
within_place [] place d h = absurd cc
within_place (e ∷ stores) zero d h = omega arith
within_place (e ∷ stores) (suc place) d h = let l = within_place stores place d h in omega (arith, l)

pub found_at_name : (f : ℕ → Tall) (xs : List (List ℕ × ScriptValue)) (name : List ℕ) (o : Option ScriptValue) → o ≡ named xs name → named (names_at f xs) name ≡ option_map (value_at f) o
found_at_name f xs name o e = named_at f xs name ∙ ap (option_map (value_at f)) (sym e)

pub constant_refused : (stores : List Store) (name : List ℕ) (c : Seen) → Some c ≡ constant_named name → datastore_named stores name (read_name name None) ≡ Err bad_argument
constant_refused stores name c e = ap (λ o. datastore_named stores name (elim o [ Some c ↦ value_answer (in_memory (scalar c)) | None ↦ Err (undefined name) ])) (sym e)

pub nothing_named : (stores : List Store) (name kept : List ℕ) → None ≡ constant_named name → kept ≡ name → datastore_named stores name (read_name name None) ≡ Err (undefined kept)
nothing_named stores name kept e same =
    ap (λ o. datastore_named stores name (elim o [ Some c ↦ value_answer (in_memory (scalar c)) | None ↦ Err (undefined name) ])) (sym e) ∙ ap (λ n. refusal_answer (undefined n)) (sym same)

there : (stores : List Store) (name : List ℕ) (r : Result TallValue Refusal) (d : Store) → datastore_named stores name r ≡ Ok d → (place : ℕ) × (slice_get stores place ≡ Some d)
there stores name (Ok (datastore place)) d h = (place, at (slice_get stores place) d h) where
  at : (o : Option Store) (d : Store) → or_refuse bad_argument o ≡ Ok d → o ≡ Some d
  at (Some x) d h = cc
  at None d h = absurd cc
there stores name (Ok (tall_table t)) d h = absurd cc
there stores name (Ok (deferred x)) d h = absurd cc
there stores name (Ok (in_memory v)) d h = absurd cc
there stores name (Err x) d h = absurd cc

-- a property was changed: of a datastore that is there
abbrev pub ChangesOne : List Store → Store → Type 0
ChangesOne stores e = (place : ℕ) × (d : Store) × (slice_get stores place ≡ Some d) × (e.at ≡ d.at) × (e.store.files ≡ d.store.files)

changes_one : (stores : List Store) (name p : List ℕ) (r : Result TallValue Refusal) (v : TallValue) (e : Store) → and_then (datastore_named stores name r) (changed_store p v) ≡ Ok e → ChangesOne stores e
changes_one stores name p r v e = by (datastore_named stores name r) (there stores name r) where
  by : (q : Result Store Refusal) → ((d : Store) → q ≡ Ok d → (place : ℕ) × (slice_get stores place ≡ Some d)) → and_then q (changed_store p v) ≡ Ok e → ChangesOne stores e
  by (Ok d) k h = let t = k d refl in let k = changed_keeps p v d e h in (t.0, d, t.1, k.0, k.1)
  by (Err x) k h = absurd cc

module _ (stores : List Store) (e : Store) (one : ChangesOne stores e) where
  more_distinct : HaveDistinctFiles stores → HaveDistinctFiles (stores ++ e ∷ [])
  more_distinct h place d there = elim (old_or_new stores e d place there) [
    | inl old ↦ h place d old
    | inr new ↦ subst (λ (x : Store). are_distinct x.store.files ≡ true) new.1 (ap are_distinct one.4 ∙ h one.0 one.1 one.2)
  ]

  more_calls : (n : ℕ) → CallsAreAtMost (numbered n) stores → CallsAreAtMost (numbered n) (stores ++ e ∷ [])
  more_calls n h place d there = elim (old_or_new stores e d place there) [
    | inl old ↦ h place d old
    | inr new ↦ subst (λ (x : Store). x.at.number ≤ n) new.1 (subst (λ at. at.number ≤ n) (sym one.3) (h one.0 one.1 one.2))
  ]

-- ---- the change

-- some value, where no clause tells one
abbrev pub any_value : ℕ → Tall
any_value n = stored_tall 0 0 class.Double (rows [])

pub within_found : (stores : List Store) (want : Result Store Refusal) (place : ℕ) → IsPlaceOf stores want (Ok place) → place < length stores
within_found stores want place h = within_place stores place h.0 h.1

pub change_found : (old new : List Store) (want : Result Store Refusal) (change : Store → Result Store Refusal) (place : ℕ) (r : Result ℕ ValueFault) → IsPlaceOf old want (Ok place)
    → ((d : Store) → slice_get old place ≡ Some d → AddsStore (change d) old r new) → AddsStore (and_then want change) old r new
change_found old new want change place r h k = subst (λ w. AddsStore (and_then w change) old r new) (sym h.2) (k h.0 h.1)

pub change_refused : (stores : List Store) (want : Result Store Refusal) (change : Store → Result Store Refusal) (e : ValueFault) → IsDue want e → AddsStore (and_then want change) stores (Err e) stores
change_refused stores want change e h = (due_through (λ w. and_then w change) (λ r. refl) want e h, refl)

abbrev as_value : Result Store Refusal → Result TallValue Refusal
as_value (Ok d) = Ok (datastore 0)
as_value (Err e) = Err e

refused_as : (want : Result Store Refusal) (e : Refusal) → as_value want ≡ Err e → want ≡ Err e
refused_as (Ok d) e h = absurd cc
refused_as (Err x) e h = ap refusal_answer (same x e h) where
  same : (a b : Refusal) → value_refusal a ≡ value_refusal b → a ≡ b
  same a b i = cc

put_opens : (line : ℕ) (shown : Bool) (name : List ℕ) (w : Result Store Refusal) (s : State Tall) → (done_state (put_store line shown name w s)).opened ≡ s.opened
put_opens line shown name (Ok d) s = refl
put_opens line shown name (Err e) s = refl

pub put_on : (line : ℕ) (shown : Bool) (name : List ℕ) (w : Result Store Refusal) (s : State Tall) → OpensOn s (done_state (put_store line shown name w s))
put_on line shown name w s = opens_same s (done_state (put_store line shown name w s)) (put_opens line shown name w s)

-- what values mean later they meant before
abbrev pub StoredBefore : (old mid : SeenEnvironment) → Type 0
StoredBefore old mid = (files : Files) (columns : Columns) → AreStored files mid.stores mid.graph columns → AreStored files old.stores old.graph columns

-- what is wanted of the datastores and the names of a state
abbrev pub wanted : (name p : List ℕ) → TallValue → State Tall → Result Store Refusal
wanted name p v s = and_then (datastore_named s.stores name (read_name name (named s.names name))) (changed_store p v)

abbrev pub Adds : (name p : List ℕ) → ScriptValue → (old mid : SeenEnvironment) → Result ℕ ValueFault → Type 0
Adds name p v old mid r = (f : ℕ → Tall) → AddsStore (wanted name p (value_at f v) (state_at f old)) old.stores r mid.stores

module _ (old mid : SeenEnvironment) (same : mid ≡ record old { stores = mid.stores }) where
  same_graph : mid.graph ≡ old.graph
  same_graph = ap (λ (e : SeenEnvironment). e.graph) same

  same_opened : mid.opened ≡ old.opened
  same_opened = ap (λ (e : SeenEnvironment). e.opened) same

  state_with : (f : ℕ → Tall) (d : Store) → mid.stores ≡ old.stores ++ d ∷ [] → state_at f mid ≡ with_store d (state_at f old)
  state_with f d h = ap (state_at f) same ∙ ap (λ ds. record (state_at f old) { stores = ds }) h

module _ {Z : Type 0} (line : ℕ) (shown : Bool) (name p : List ℕ) (v : ScriptValue) (old mid new : SeenEnvironment) (same : mid ≡ record old { stores = mid.stores }) where
  pub property_ends : (place : ℕ) (a : Result (Vec ℕ Z) Failure) → StoredBefore old mid → Adds name p v old mid (Ok place)
      → Ends (λ f s. assign shown name (value_at f (kept.Datastore place)) s) mid new a → Ends (λ f s. put_store line shown name (wanted name p (value_at f v) s) s) old new a
  property_ends place a before adds h =
      let some = adds any_value in
      let one = changes_one old.stores name p (read_name name (named (names_at any_value old.names) name)) (value_at any_value v) some.0 some.1 in
      record {
        graph = h.graph ∙ (same_graph old mid same);
        opened = h.opened ∙ (same_opened old mid same);
        stored = λ files columns j. before files columns (h.stored files columns (subst (λ g. AreStored files new.stores g columns) (sym (same_graph old mid same)) j));
        distinct = λ j. h.distinct (subst HaveDistinctFiles (sym some.3) (more_distinct old.stores some.0 one j));
        calls = λ n j. h.calls n (subst (CallsAreAtMost (numbered n)) (sym some.3) (more_calls old.stores some.0 one n j));
        inside = h.inside;
        tells = λ columns f m.
            let b = adds f in
            subst (λ w. Answers w a (state_at f new))
            (ap (λ s. assign shown name (datastore place) s) (state_with old mid same f b.0 b.3)
            ∙ (ap (λ n. assign shown name (datastore n) (with_store b.0 (state_at f old))) b.2
            ∙ sym (ap (λ w. put_store line shown name w (state_at f old)) b.1)))
            (h.tells columns f (subst (λ g. IsMeaning columns g f) (sym (same_graph old mid same)) m));
      }

  pub property_refused : (e : ValueFault) (failure : Failure) → Adds name p v old mid (Err e) → IsInside failure → ((want : Result TallValue Refusal) → IsDue want e → Refuses line want failure)
      → Ends {Z = Z} (λ f s. put_store line shown name (wanted name p (value_at f v) s) s) old mid (Err failure)
  property_refused e failure adds inside refuses =
      let stays : mid.stores ≡ old.stores = (adds any_value).1 in
      let all : mid ≡ old = same ∙ ap (λ ds. record old { stores = ds }) stays in
      record {
        graph = (same_graph old mid same);
        opened = (same_opened old mid same);
        stored = λ files columns j. subst (λ ds. AreStored files ds old.graph columns) stays j;
        distinct = λ j. subst HaveDistinctFiles (sym stays) j;
        calls = λ n j. subst (CallsAreAtMost (numbered n)) (sym stays) j;
        inside = inside;
        tells = λ columns f m.
            let s = state_at f old in
            let want = wanted name p (value_at f v) s in
            record {
              agrees = λ stop is.
                  let x = refuses (as_value want) (due_through as_value (λ r. refl) want e (adds f).0) stop is in
                  ap (λ w. put_store line shown name w s) (refused_as want x.0 x.1) ∙ (ap (λ z. fails z s) x.2 ∙ ap (λ t. fails stop (state_at f t)) (sym all));
              unfinished = λ g is none. opens_same (state_at f mid) (done_state (put_store line shown name want s)) (put_opens line shown name want s ∙ sym (same_opened old mid same));
            };
      }
