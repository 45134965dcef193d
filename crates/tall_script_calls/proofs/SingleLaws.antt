-- Calls of one argument answer the definitions.
use Rattle.std.proofs.Common.{◌≡◌, [], ◌∷◌, ◌≤◌, ℕ, List, length, Option, Some, None, refl, sym, ap, subst, arith}
use Rattle.std.specs.Prelude.{true, false, slice_get, Result, Ok, Err, IfOk}
use Rattle.tall_outside.specs.Shelf.{Files}
use Rattle.tall_semantics.specs.Talls.{Tall}
use Rattle.tall_local.specs.Arguments.{Argument, given, colon, function, value_given}
use Rattle.tall_local.specs.Lists.{all_of, in_front_of}
use Rattle.tall_local.specs.Memory.{scalar, column, table, texts}
use Rattle.tall_local.specs.Refusals.{Refusal, bad_argument, bad_class}
use Rattle.tall_local.specs.Values.{datastore, tall_table, deferred, in_memory}
use Rattle.tall_script.specs.ScriptLanguage.{readall_answer}
use Rattle.tall_script.specs.ScriptValues.{TallValue}
use Rattle.tall_script.specs.States.{State}
use Rattle.tall_script.specs.TallTables.{tall_call, tall_of, tall_of_store}
use Rattle.tall_deferred.specs.Answers.{Comes}
use Rattle.tall_deferred.specs.Values.{IsValue, value_at}
use Rattle.tall_deferred.specs.declared.faults.ValueFault.{ValueFault}
use Rattle.tall_deferred.specs.declared.values.ScriptValue.{ScriptValue}
use Rattle.tall_environment.specs.Computations.{Computes}
use Rattle.tall_environment.specs.Environments.{IsNext, SeenEnvironment}
use Rattle.tall_environment.specs.NumberLaws.{next_is_last}
use Rattle.tall_script_calls.specs.Single.{is_table, single_given, store_place}

-- ---- arguments of another form

no_value : {A : Type 0} (v : TallValue) → ◌≡◌ {A = Option TallValue} None (Some v) → A
no_value v e = absurd cc

some_value : {A : Type 0} (v : TallValue) → ◌≡◌ {A = Option TallValue} (Some v) None → A
some_value v e = absurd cc

inside : (v w : TallValue) → Some v ≡ Some w → v ≡ w
inside v w e = cc

two_bad : (files : Files) (s : State Tall) (v w : TallValue) (ws : List TallValue) → tall_of files (v ∷ w ∷ ws) s ≡ Err bad_argument
two_bad files s (datastore place) w ws = refl
two_bad files s (tall_table xs) w ws = refl
two_bad files s (deferred d) w ws = refl
two_bad files s (in_memory m) w ws = refl

abbrev tall_given : Files → State Tall → Option (List TallValue) → Result TallValue Refusal
tall_given files s o = elim o [ Some vs ↦ tall_of files vs s | None ↦ Err bad_argument ]

front_bad : (files : Files) (s : State Tall) (v : TallValue) (o : Option TallValue) (p : Option (List TallValue)) → tall_given files s (in_front_of (Some v) (in_front_of o p)) ≡ Err bad_argument
front_bad files s v None p = refl
front_bad files s v (Some w) None = refl
front_bad files s v (Some w) (Some ws) = two_bad files s v w ws

pub tall_not_one : (files : Files) (args : List (Argument TallValue)) (s : State Tall) → single_given args ≡ None → tall_call files args s ≡ Err bad_argument
unfolding tall_call
tall_not_one files [] s e = refl
tall_not_one files (given v ∷ []) s e = some_value v e
tall_not_one files (given v ∷ a ∷ rest) s e = front_bad files s v (value_given a) (all_of value_given rest)
tall_not_one files (colon ∷ rest) s e = refl
tall_not_one files (function name ∷ rest) s e = refl

pub tall_one : (files : Files) (args : List (Argument TallValue)) (v : TallValue) (s : State Tall) → single_given args ≡ Some v → tall_call files args s ≡ tall_of files (v ∷ []) s
unfolding tall_call
tall_one files [] v s e = no_value v e
tall_one files (given w ∷ []) v s e = ap (λ x. tall_of files (x ∷ []) s) (inside w v e)
tall_one files (given w ∷ a ∷ rest) v s e = no_value v e
tall_one files (colon ∷ rest) v s e = no_value v e
tall_one files (function name ∷ rest) v s e = no_value v e

some_place : {A : Type 0} (place : ℕ) → ◌≡◌ {A = Option ℕ} (Some place) None → A
some_place place e = absurd cc

no_place : {A : Type 0} (place : ℕ) → ◌≡◌ {A = Option ℕ} None (Some place) → A
no_place place e = absurd cc

pub other_bad : (files : Files) (v : TallValue) (s : State Tall) → store_place v ≡ None → tall_of files (v ∷ []) s ≡ Err bad_class
other_bad files (datastore place) s e = some_place place e
other_bad files (tall_table xs) s e = refl
other_bad files (deferred d) s e = refl
other_bad files (in_memory m) s e = refl

pub store_is : (files : Files) (v : TallValue) (place : ℕ) (s : State Tall) → store_place v ≡ Some place → tall_of files (v ∷ []) s ≡ tall_of_store files place (slice_get s.stores place)
store_is files (datastore n) place s e = ap (λ k. tall_of_store files k (slice_get s.stores k)) (same e) where
  same : Some n ≡ Some place → n ≡ place
  same e = cc
store_is files (tall_table xs) place s e = no_place place e
store_is files (deferred d) place s e = no_place place e
store_is files (in_memory m) place s e = no_place place e

-- ---- readall

two_tables : (v w : TallValue) (ws : List TallValue) → readall_answer (Some (v ∷ w ∷ ws)) ≡ Err bad_argument
two_tables (datastore place) w ws = refl
two_tables (tall_table xs) w ws = refl
two_tables (deferred d) w ws = refl
two_tables (in_memory (scalar c)) w ws = refl
two_tables (in_memory (column c)) w ws = refl
two_tables (in_memory (table t)) w ws = refl
two_tables (in_memory (texts t)) w ws = refl

front_tables : (v : TallValue) (o : Option TallValue) (p : Option (List TallValue)) → readall_answer (in_front_of (Some v) (in_front_of o p)) ≡ Err bad_argument
front_tables v None p = refl
front_tables v (Some w) None = refl
front_tables v (Some w) (Some ws) = two_tables v w ws

pub readall_not_one : (args : List (Argument TallValue)) → single_given args ≡ None → readall_answer (all_of value_given args) ≡ Err bad_argument
readall_not_one [] e = refl
readall_not_one (given v ∷ []) e = some_value v e
readall_not_one (given v ∷ a ∷ rest) e = front_tables v (value_given a) (all_of value_given rest)
readall_not_one (colon ∷ rest) e = refl
readall_not_one (function name ∷ rest) e = refl

pub readall_one : (args : List (Argument TallValue)) (v : TallValue) → single_given args ≡ Some v → readall_answer (all_of value_given args) ≡ readall_answer (Some (v ∷ []))
readall_one [] v e = no_value v e
readall_one (given w ∷ []) v e = ap (λ x. readall_answer (Some (x ∷ []))) (inside w v e)
readall_one (given w ∷ a ∷ rest) v e = no_value v e
readall_one (colon ∷ rest) v e = no_value v e
readall_one (function name ∷ rest) v e = no_value v e

not_true : {A : Type 0} → false ≡ true → A
not_true e = absurd cc

not_false : {A : Type 0} → true ≡ false → A
not_false e = absurd cc

pub table_itself : (v : TallValue) → is_table v ≡ true → readall_answer (Some (v ∷ [])) ≡ Ok v
table_itself (datastore place) e = not_true e
table_itself (tall_table xs) e = not_true e
table_itself (deferred d) e = not_true e
table_itself (in_memory (scalar c)) e = not_true e
table_itself (in_memory (column c)) e = not_true e
table_itself (in_memory (table t)) e = refl
table_itself (in_memory (texts t)) e = not_true e

pub no_table : (v : TallValue) → is_table v ≡ false → readall_answer (Some (v ∷ [])) ≡ Err bad_class
no_table (datastore place) e = refl
no_table (tall_table xs) e = refl
no_table (deferred d) e = refl
no_table (in_memory (scalar c)) e = refl
no_table (in_memory (column c)) e = refl
no_table (in_memory (table t)) e = not_false e
no_table (in_memory (texts t)) e = refl

-- ---- what adds nothing to the graph

same_size : (n : ℕ) → n ≤ n
same_size n = omega arith

pub computes_same : (n : ℕ) (want : Files → (ℕ → Tall) → Result TallValue Refusal) (e : SeenEnvironment) (r : Result ScriptValue ValueFault)
    → IsNext n e → IfOk r (IsValue (length e.graph)) → ((files : Files) (f : ℕ → Tall) → Comes (value_at f) (want files f) r) → Computes n want e e r
computes_same n want e r next within comes = record {
  same = refl;
  size = same_size (length e.graph);
  stored = λ files columns h. h;
  meant = λ columns f h. h;
  within = within;
  last = next_is_last n e next;
  given = λ files columns f stored means. comes files f;
}

pub computes_as : (n : ℕ) (want other : Files → (ℕ → Tall) → Result TallValue Refusal) (old new : SeenEnvironment) (r : Result ScriptValue ValueFault)
    → ((files : Files) (f : ℕ → Tall) → want files f ≡ other files f) → Computes n other old new r → Computes n want old new r
computes_as n want other old new r is h = record {
  same = h.same;
  size = h.size;
  stored = h.stored;
  meant = h.meant;
  within = h.within;
  last = h.last;
  given = λ files columns f stored means. subst (λ w. Comes (value_at f) w r) (sym (is files f)) (h.given files columns f stored means);
}
