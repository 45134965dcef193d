-- What each change of an environment keeps.
use Rattle.std.proofs.Common.{◌≡◌, ◌<◌, ◌≤◌, ◌+◌, ℕ, List, [], ◌∷◌, ◌++◌, length, take, zero, suc, refl, sym, ap, subst, ◌∙◌, append-nil, arith}
use Rattle.std.specs.Prelude.{MatchResult, slice_get, Option, None, Some, Result, Ok, Err, IfOk, IfErr}
use Rattle.std.specs.List.{All}
use Rattle.std.proofs.lemmas.List.{length-append}
use Rattle.tall_outside.specs.Shelf.{Files}
use Rattle.tall_semantics.specs.Deferred.{IsMeaning, Vertex}
use Rattle.tall_semantics.specs.Faults.{At}
use Rattle.tall_semantics.specs.Outcomes.{Outcome, rows}
use Rattle.tall_semantics.specs.Talls.{Columns, Tall}
use Rattle.tall_stored.specs.StoredColumns.{AreStored, Store, column_outcome}
use Rattle.tall_local.specs.Refusals.{Refusal}
use Rattle.tall_local.specs.Values.{tall_table}
use Rattle.tall_store.specs.Stores.{SeenStore}
use Rattle.tall_script.specs.ScriptValues.{TallValue}
use Rattle.tall_script.specs.Statements.{changed_store}
use Rattle.tall_script.specs.TallTables.{stored_variables, tall_of_store}
use Rattle.tall_script.specs.VertexLaws.{IsLower}
use Rattle.tall_deferred.specs.Answers.{Comes, Extends, Means}
use Rattle.tall_deferred.specs.declared.faults.ValueFault.{ValueFault}
use Rattle.tall_deferred.specs.declared.faults.ValueFault.TheVariants as fault
use Rattle.tall_deferred.specs.declared.values.ScriptValue.{ScriptValue}
use Rattle.tall_deferred.specs.Values.{IsValue, value_at}
use Rattle.tall_deferred.proofs.Grown.{meaning_before}
use Rattle.tall_deferred.proofs.TurnLaws.{extended_at_most}
use Rattle.tall_sources.specs.Changed.{AddsStore}
use Rattle.tall_sources.specs.Kept.{AreKept, CallsAreLower}
use Rattle.tall_sources.specs.Talls.{AddsVariables, variable_vertices}
use Rattle.tall_environment.specs.Computations.{Computes}
use Rattle.tall_environment.specs.Environments.{IsEnvironment, IsNext, SeenEnvironment}
use Rattle.tall_environment.specs.NumberLaws.{next_is_last}
use Rattle.tall_environment.specs.StoreLaws.{changed_keeps}
use Rattle.tall_environment.proofs.TableLaws.{names_stay}

-- what the datastores' laws say
abbrev pub StaysKept : Type 0
StaysKept = (stores : List Store) (at : At) (old new : List Vertex) → AreKept stores old → CallsAreLower at stores → Extends at old new → AreKept stores new

abbrev pub StoredBefore : Type 0
StoredBefore =
    (files : Files) (stores later : List Store) (old more : List Vertex) (columns : Columns) → AreKept stores old → AreStored files (stores ++ later) (old ++ more) columns → AreStored files stores old columns

longer : (old new ws : List Vertex) → new ≡ old ++ ws → length old ≤ length new
longer old new ws e = let l : length new ≡ length old + length ws = ap length e ∙ length-append old ws in omega (arith, l)

-- ---- operations

pub operated : StaysKept → (at : At) (e : SeenEnvironment) (vs : List Vertex) → IsEnvironment e → IsNext at.number e → Extends at e.graph vs → IsEnvironment (record e { graph = vs })
operated law at e vs is next grown = record {
  names = names_stay (length e.graph) (length vs) e.names (longer e.graph vs grown.0 grown.2) is.names;
  kept = law e.stores at e.graph vs is.kept next.calls grown;
}

stored_before : StoredBefore → (e : SeenEnvironment) (vs ws : List Vertex) (files : Files) (columns : Columns) → AreKept e.stores e.graph → vs ≡ e.graph ++ ws → AreStored files e.stores vs columns → AreStored files e.stores e.graph columns
stored_before law e vs ws files columns kept is h =
    law files e.stores [] e.graph ws columns kept
    (subst (λ ds. AreStored files ds (e.graph ++ ws) columns) (sym (append-nil e.stores)) (subst (λ us. AreStored files e.stores us columns) is h))

pub computes : StoredBefore → (at : At) (want : (ℕ → Tall) → Result TallValue Refusal) (e : SeenEnvironment) (vs : List Vertex) (r : Result ScriptValue ValueFault)
    → IsEnvironment e → IsNext at.number e → Extends at e.graph vs → IfOk r (IsValue (length vs)) → Means vs value_at want r
    → Computes at.number (λ files f. want f) e (record e { graph = vs }) r
computes law at want e vs r is next grown within means = record {
  same = refl;
  size = longer e.graph vs grown.0 grown.2;
  stored = λ files columns h. stored_before law e vs grown.0 files columns is.kept grown.2 h;
  meant = λ columns f h. meaning_before at e.graph vs columns f grown h;
  within = within;
  last = record { graph = extended_at_most at e.graph vs grown next.graph; calls = λ place d there. below d.at.number at.number (next.calls place d there) };
  given = λ files columns f stored solved. means columns f solved;
} where
  below : (a b : ℕ) → a < b → a ≤ b
  below a b h = omega (arith, h)

-- ---- a sense for any files

abbrev column_by : Files → (place : ℕ) → Option Store → (variable : ℕ) → Outcome
column_by files place (Some d) variable = column_outcome files place d variable
column_by files place None variable = rows []

abbrev pub columns_by : Files → List Store → Columns
columns_by files stores place variable = column_by files place (slice_get stores place) variable

pub columns_stored : (files : Files) (stores : List Store) (vs : List Vertex) → AreKept stores vs → AreStored files stores vs (columns_by files stores)
columns_stored files stores vs kept i v place variable class there made =
    let h = kept.found i v place variable class there made in
    record {
      found = h.0;
      there = h.1;
      called = h.2;
      selected = h.3;
      kind = h.4;
      told = ap (λ d. column_by files place d variable) h.1;
    }

-- ---- what changes nothing

pub stays_same : (n : ℕ) (want : Files → (ℕ → Tall) → Result TallValue Refusal) (e : SeenEnvironment) (r : Result ScriptValue ValueFault)
    → IsNext n e → IfOk r (IsValue (length e.graph)) → ((files : Files) (f : ℕ → Tall) → Comes (value_at f) (want files f) r) → Computes n want e e r
stays_same n want e r next within comes = record {
  same = refl;
  size = at_least (length e.graph);
  stored = λ files columns h. h;
  meant = λ columns f h. h;
  within = within;
  last = next_is_last n e next;
  given = λ files columns f stored solved. comes files f;
} where
  at_least : (n : ℕ) → n ≤ n
  at_least n = omega arith

pub computes_as : (n : ℕ) (want due : Files → (ℕ → Tall) → Result TallValue Refusal) (old new : SeenEnvironment) (r : Result ScriptValue ValueFault)
    → ((files : Files) (f : ℕ → Tall) → want files f ≡ due files f) → Computes n want old new r → Computes n due old new r
computes_as n want due old new r same h = record {
  same = h.same;
  size = h.size;
  stored = h.stored;
  meant = h.meant;
  within = h.within;
  last = h.last;
  given = λ files columns f stored solved. subst (λ w. Comes (value_at f) w r) (same files f) (h.given files columns f stored solved);
}

-- ---- datastores more

pub a_place : {A : Type 0} (xs : List A) (i : ℕ) → i < length xs → (x : A) × (slice_get xs i ≡ Some x)
a_place [] i l = absurd (omega (arith, l))
a_place (x ∷ xs) zero l = (x, refl)
a_place (x ∷ xs) (suc i) l = a_place xs i (omega (arith, l))

abbrev pub StaysMade : Type 0
StaysMade = (stores : List Store) (at : At) (store : SeenStore) (vs : List Vertex) → AreKept stores vs → All (IsLower at) vs → AreKept (stores ++ record { at = at; store = store } ∷ []) vs

abbrev pub StaysChanged : Type 0
StaysChanged = (stores : List Store) (place : ℕ) (d : Store) (store : SeenStore) (vs : List Vertex) → AreKept stores vs → slice_get stores place ≡ Some d → AreKept (stores ++ record { at = d.at; store = store } ∷ []) vs

pub changed_kept : StaysChanged → (stores new : List Store) (place : ℕ) (p : List ℕ) (v : TallValue) (d : Store) (r : Result ℕ ValueFault) (vs : List Vertex)
    → AreKept stores vs → slice_get stores place ≡ Some d → AddsStore (changed_store p v d) stores r new → AreKept new vs
changed_kept law stores new place p v d (Ok k) vs kept there h =
    subst (λ ds. AreKept ds vs) (sym h.3)
    (subst (λ at. AreKept (stores ++ record { at = at; store = h.0.store } ∷ []) vs) (sym (changed_keeps p v d h.0 h.1).0) (law stores place d h.0.store vs kept there))
changed_kept law stores new place p v d (Err e) vs kept there h = subst (λ ds. AreKept ds vs) (sym h.1) kept

pub adds_more : (want : Result Store Refusal) (old : List Store) (r : Result ℕ ValueFault) (new : List Store) → AddsStore want old r new → (later : List Store) × (new ≡ old ++ later)
adds_more want old (Ok place) new h = (h.0 ∷ [], h.3)
adds_more want old (Err e) new h = ([], h.1 ∙ sym (append-nil old))

module _ {E : Type 0} (stores new : List Store) where
  pub made_kept : StaysMade → (at : At) (store : SeenStore) (vs : List Vertex) → AreKept stores vs → All (IsLower at) vs → (r : Result ℕ E)
      → MatchResult r (λ place. (place ≡ length stores) × (new ≡ stores ++ record { at = at; store = store } ∷ [])) (λ _. new ≡ stores) → AreKept new vs
  made_kept law at store vs kept lower (Ok place) h = subst (λ ds. AreKept ds vs) (sym h.1) (law stores at store vs kept lower)
  made_kept law at store vs kept lower (Err e) h = subst (λ ds. AreKept ds vs) (sym h) kept

  pub made_more : (d : Store) (r : Result ℕ E) → MatchResult r (λ place. (place ≡ length stores) × (new ≡ stores ++ d ∷ [])) (λ _. new ≡ stores) → (later : List Store) × (new ≡ stores ++ later)
  made_more d (Ok place) h = (d ∷ [], h.1)
  made_more d (Err e) h = ([], h ∙ sym (append-nil stores))

pub made_seen : {E : Type 0} (e o : SeenEnvironment) → e ≡ o → (new : List Store) (d : Store) (r : Result ℕ E)
    → MatchResult r (λ place. (place ≡ length e.stores) × (new ≡ e.stores ++ d ∷ [])) (λ _. new ≡ e.stores)
    → MatchResult r (λ place. (place ≡ length o.stores) × (record e { stores = new } ≡ record o { stores = o.stores ++ d ∷ [] })) (λ _. record e { stores = new } ≡ o)
made_seen e o is new d (Ok place) h =
    (h.0 ∙ ap (λ (x : SeenEnvironment). length x.stores) is, ap (λ ds. record e { stores = ds }) h.1 ∙ ap (λ (x : SeenEnvironment). record x { stores = x.stores ++ d ∷ [] }) is)
made_seen e o is new d (Err f) h = ap (λ ds. record e { stores = ds }) h ∙ is

pub stored_more : StoredBefore → (files : Files) (stores new later : List Store) (vs : List Vertex) (columns : Columns) → AreKept stores vs → new ≡ stores ++ later → AreStored files new vs columns → AreStored files stores vs columns
stored_more law files stores new later vs columns kept is h =
    law files stores later vs [] columns kept (subst (λ us. AreStored files (stores ++ later) us columns) (sym (append-nil vs)) (subst (λ ds. AreStored files ds vs columns) is h))

-- ---- tall tables

abbrev pub MeantBefore : Type 0
MeantBefore = (at : At) (place : ℕ) (store : SeenStore) (old new : List Vertex) (columns : Columns) (f : ℕ → Tall) → AddsVariables at place store old new → IsMeaning columns new f → IsMeaning columns old f

abbrev pub StaysLower : Type 0
StaysLower = (at next : At) (place : ℕ) (store : SeenStore) (old new : List Vertex) → at.number < next.number → AddsVariables at place store old new → All (IsLower next) old → All (IsLower next) new

pub extended : (at : At) (place : ℕ) (store : SeenStore) (e : SeenEnvironment) (vs : List Vertex) → IsEnvironment e → AddsVariables at place store e.graph vs → AreKept e.stores vs → IsEnvironment (record e { graph = vs })
extended at place store e vs is added kept = record {
  names = names_stay (length e.graph) (length vs) e.names (longer e.graph vs (take added.0 (variable_vertices at place store)) added.1) is.names;
  kept = kept;
}

pub tall_computes : StoredBefore → MeantBefore → StaysLower → (at : At) (place : ℕ) (want : Files → Result TallValue Refusal) (d : Store) (e : SeenEnvironment) (vs : List Vertex) (r : Result ScriptValue ValueFault)
    → IsEnvironment e → IsNext at.number e → slice_get e.stores place ≡ Some d → AddsVariables d.at place d.store e.graph vs → IfOk r (IsValue (length vs))
    → ((files : Files) (columns : Columns) (f : ℕ → Tall) → AreStored files e.stores vs columns → IsMeaning columns vs f → Comes (value_at f) (want files) r)
    → Computes at.number (λ files f. want files) e (record e { graph = vs }) r
tall_computes stored meant lower at place want d e vs r is next there added within given =
    let ws = take added.0 (variable_vertices d.at place d.store) in
    record {
      same = refl;
      size = longer e.graph vs ws added.1;
      stored = λ files columns h. stored_before stored e vs ws files columns is.kept added.1 h;
      meant = λ columns f h. meant d.at place d.store e.graph vs columns f added h;
      within = within;
      last = next_is_last at.number (record e { graph = vs }) (record { graph = lower d.at at place d.store e.graph vs (next.calls place d there) added next.graph; calls = next.calls });
      given = given;
    }

-- what is due is a value
pub memory_alone : (f : ℕ → Tall) (v : TallValue) (r : Result ScriptValue ValueFault) → Comes (value_at f) (Ok v) r → IfErr r (λ e. e ≡ fault.Memory)
memory_alone f v (Ok w) h = tt
memory_alone f v (Err (fault.Undefined name)) h = absurd (cc)
memory_alone f v (Err fault.MixedClass) h = absurd (cc)
memory_alone f v (Err fault.BadClass) h = absurd (cc)
memory_alone f v (Err fault.Incompatible) h = absurd (cc)
memory_alone f v (Err fault.BadSize) h = absurd (cc)
memory_alone f v (Err fault.BadArgument) h = absurd (cc)
memory_alone f v (Err fault.BadIndex) h = absurd (cc)
memory_alone f v (Err (fault.Data row kind)) h = absurd (cc)
memory_alone f v (Err fault.Memory) h = refl

pub tall_memory : (files : Files) (f : ℕ → Tall) (place : ℕ) (stores : List Store) (d : Store) (r : Result ScriptValue ValueFault) → slice_get stores place ≡ Some d → Comes (value_at f) (tall_of_store files place (slice_get stores place)) r
    → IfErr r (λ e. e ≡ fault.Memory)
tall_memory files f place stores d r there h =
    memory_alone f (tall_table (stored_variables files place d 0 d.store.selected)) r (subst (λ o. Comes (value_at f) (tall_of_store files place o) r) there h)
