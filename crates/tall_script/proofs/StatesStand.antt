-- What is named in a script's state is there.
use Rattle.std.proofs.Common.{ℕ, List, [], ◌∷◌, Bool, true, false}
use Rattle.std.specs.Prelude.{if◌then◌else◌, Option, None, Some, Result, Ok, Err}
use Rattle.std.specs.Str.{bytes_eq}
use Rattle.tall_value.specs.declared.class.Class.{Class}
use Rattle.tall_value.specs.declared.faults.ClassFault.{ClassFault}
use Rattle.tall_value.specs.declared.operators.Binary.{Binary}
use Rattle.tall_value.specs.declared.operators.Unary.{Unary}
use Rattle.tall_value.specs.Cells.{Seen}
use Rattle.tall_grammar.specs.declared.expressions.Infix.{Infix}
use Rattle.tall_grammar.specs.declared.expressions.Prefix.{Prefix}
use Rattle.tall_semantics.specs.Faults.{At}
use Rattle.tall_semantics.specs.Operations.{Op, Part}
use Rattle.tall_semantics.specs.Operations as op
use Rattle.tall_semantics.specs.Talls.{Tall}
use Rattle.tall_local.specs.Arguments.{Argument, given, colon, function, Index, rows_at, all_variables_at, index_of}
use Rattle.tall_local.specs.Lists.{ahead}
use Rattle.tall_local.specs.Memory.{Memory, scalar, column, table, texts}
use Rattle.tall_local.specs.MemoryIndexing.{is_logical}
use Rattle.tall_local.specs.MemoryOperators.{binary_of, unary_of, scalars_fit}
use Rattle.tall_local.specs.Names.{named}
use Rattle.tall_local.specs.Refusals.{Refusal, undefined, bad_argument, bad_class, incompatible, and_then, or_refuse}
use Rattle.tall_local.specs.Values.{datastore, tall_table, deferred, in_memory, memory_answer}
use Rattle.tall_local.specs.MemoryLaws.{OnGiven}
use Rattle.tall_local.proofs.ValuesKept.{ArgumentsAre}
use Rattle.tall_script.specs.ScriptValues.{TallValue, computed, tall_answer, deferring, beside_scalar, beside_column, unary_value, binary_value, prefix_value, infix_value, is_scalar_value, is_tall_scalar, tall_variable, member_value, over_columns, table_answer, tall_index_of_memory, memory_index_of_tall, tall_column_index, tall_table_index, index_value_of, index_value}
use Rattle.tall_script.specs.WellFormed.{TallStands, TallsStand, Stands}
use Rattle.tall_script.proofs.Standing.{AllStand, made_stands}

module _ (n : ℕ) where
  abbrev pub IsTall : Tall → Type 0
  IsTall x = TallStands n x

  abbrev pub Answers : Result TallValue Refusal → Type 0
  Answers r = OnGiven (Stands n) r

  pub memory : (r : Result Memory Refusal) → Answers (memory_answer r)
  memory (Ok v) = tt
  memory (Err e) = tt

  a_tall : (r : Result Tall Refusal) → OnGiven IsTall r → Answers (tall_answer r)
  a_tall (Ok x) h = h
  a_tall (Err e) h = tt

  pub defers : (at : At) (o : Op) (xs : List Tall) → AllStand n xs → Answers (deferring at o xs)
  defers at o xs h = a_tall (computed at o xs) (made_stands n at o xs h)

  pub then_answers : {A : Type 0} (Is : A → Type 0) (r : Result A Refusal) (f : A → Result TallValue Refusal) → OnGiven Is r → ((a : A) → Is a → Answers (f a)) → Answers (and_then r f)
  then_answers Is (Ok a) f h k = k a h
  then_answers Is (Err e) f h k = tt

  beside : (at : At) (c : Seen) (f : Tall → Result TallValue Refusal) → ((x : Tall) → IsTall x → Answers (f x)) → Answers (beside_scalar at c f)
  beside at c f k = then_answers IsTall (computed at (op.constant c) []) f (made_stands n at (op.constant c) [] tt) k

  beside_a_column : (r : Result Class ClassFault) → Answers (beside_column r)
  beside_a_column (Ok c) = tt
  beside_a_column (Err e) = tt

  either : (b : Bool) (q r : Result TallValue Refusal) → Answers q → Answers r → Answers (if b then q else r)
  either true q r h k = h
  either false q r h k = k

  -- ---- operators

  pub one : (at : At) (o : Unary) (v : TallValue) → Stands n v → Answers (unary_value at o v)
  one at o (in_memory v) h = memory _
  one at o (deferred x) h = defers at (op.unary o) (x ∷ []) (h, tt)
  one at o (datastore place) h = tt
  one at o (tall_table t) h = tt

  two_deferred : (at : At) (o : Binary) (x : Tall) (v : Memory) → IsTall x → Answers (binary_value at o (deferred x) (in_memory v))
  two_deferred at o x (scalar c) h = beside at c _ (λ y k. defers at (op.binary o) (x ∷ y ∷ []) (h, (k, tt)))
  two_deferred at o x (column y) h = beside_a_column _
  two_deferred at o x (table t) h = tt
  two_deferred at o x (texts ts) h = tt

  memory_deferred : (at : At) (o : Binary) (v : Memory) (y : Tall) → IsTall y → Answers (binary_value at o (in_memory v) (deferred y))
  memory_deferred at o (scalar c) y k = beside at c _ (λ x h. defers at (op.binary o) (x ∷ y ∷ []) (h, (k, tt)))
  memory_deferred at o (column x) y k = beside_a_column _
  memory_deferred at o (table t) y k = tt
  memory_deferred at o (texts ts) y k = tt

  memory_store : (at : At) (o : Binary) (v : Memory) (place : ℕ) → Answers (binary_value at o (in_memory v) (datastore place))
  memory_store at o (scalar c) place = tt
  memory_store at o (column x) place = tt
  memory_store at o (table t) place = tt
  memory_store at o (texts ts) place = tt

  memory_table : (at : At) (o : Binary) (v : Memory) (t : List (List ℕ × Tall)) → Answers (binary_value at o (in_memory v) (tall_table t))
  memory_table at o (scalar c) t = tt
  memory_table at o (column x) t = tt
  memory_table at o (table u) t = tt
  memory_table at o (texts ts) t = tt

  pub two : (at : At) (o : Binary) (v w : TallValue) → Stands n v → Stands n w → Answers (binary_value at o v w)
  two at o (in_memory v) (in_memory w) h k = memory _
  two at o (in_memory v) (deferred y) h k = memory_deferred at o v y k
  two at o (in_memory v) (datastore place) h k = memory_store at o v place
  two at o (in_memory v) (tall_table t) h k = memory_table at o v t
  two at o (deferred x) (deferred y) h k = defers at (op.binary o) (x ∷ y ∷ []) (h, (k, tt))
  two at o (deferred x) (in_memory w) h k = two_deferred at o x w h
  two at o (deferred x) (datastore place) h k = tt
  two at o (deferred x) (tall_table t) h k = tt
  two at o (datastore place) w h k = tt
  two at o (tall_table t) w h k = tt

  pub prefix_stands : (at : At) (o : Prefix) (v : TallValue) → Stands n v → Answers (prefix_value at o v)
  unfolding prefix_value
  prefix_stands at o v h = one at (unary_of o) v h

  pub infix_stands : (at : At) (o : Infix) (v w : TallValue) → Stands n v → Stands n w → Answers (infix_value at o v w)
  unfolding infix_value
  infix_stands at o v w h k = either (scalars_fit o (is_scalar_value v) (is_scalar_value w)) (binary_value at (binary_of o) v w) (Err bad_argument) (two at (binary_of o) v w h k) tt

  -- ---- tables and indexes

  pub of_name : (t : List (List ℕ × Tall)) (name : List ℕ) → TallsStand n t → OnGiven IsTall (tall_variable t name)
  of_name [] name h = tt
  of_name (entry ∷ t) name h = by_test (bytes_eq entry.0 name) (of_name t name h.1) where
    by_test : (b : Bool) → OnGiven IsTall (tall_variable t name) → OnGiven IsTall (or_refuse (undefined name) (if b then Some entry.1 else named t name))
    by_test true rest = h.0
    by_test false rest = rest

  pub member_stands : (v : TallValue) (name : List ℕ) → Stands n v → Answers (member_value v name)
  unfolding member_value
  member_stands (in_memory v) name h = memory _
  member_stands (tall_table t) name h = a_tall (tall_variable t name) (of_name t name h)
  member_stands (datastore place) name h = tt
  member_stands (deferred x) name h = tt

  pub columns_stand : (f : Tall → Result Tall Refusal) → ((x : Tall) → IsTall x → OnGiven IsTall (f x)) → (t : List (List ℕ × Tall)) → TallsStand n t
      → OnGiven (TallsStand n) (over_columns f t)
  columns_stand f k [] h = tt
  columns_stand f k (entry ∷ t) h = with_first (f entry.1) (k entry.1 h.0) (over_columns f t) (columns_stand f k t h.1) where
    with_first : (r : Result Tall Refusal) → OnGiven IsTall r → (rest : Result (List (List ℕ × Tall)) Refusal) → OnGiven (TallsStand n) rest
        → OnGiven (TallsStand n) (ahead (elim r [ Ok x ↦ Ok (entry.0, x) | Err e ↦ Err e ]) rest)
    with_first (Ok x) i (Ok u) j = (i, j)
    with_first (Ok x) i (Err e) j = tt
    with_first (Err e) i rest j = tt

  pub a_table : (r : Result (List (List ℕ × Tall)) Refusal) → OnGiven (TallsStand n) r → Answers (table_answer r)
  a_table (Ok t) h = h
  a_table (Err e) h = tt

  refused : (b : Bool) (e f : Refusal) → Answers (if b then Err e else Err f)
  refused true e f = tt
  refused false e f = tt

  of_memory : (i : Memory) → Answers (memory_index_of_tall i)
  of_memory (scalar c) = tt
  of_memory (column x) = refused (is_logical x.class) incompatible bad_argument
  of_memory (table t) = tt
  of_memory (texts ts) = tt

  of_tall : (i : Tall) → Answers (tall_index_of_memory i)
  of_tall i = either (is_tall_scalar i) (Err bad_argument) (if is_logical i.shape.class then Err incompatible else Err bad_class) tt (refused (is_logical i.shape.class) incompatible bad_class)

  column_index : (at : At) (x : Tall) (i : TallValue) → IsTall x → Stands n i → Answers (tall_column_index at x i)
  column_index at x (deferred m) h k = defers at op.filter (x ∷ m ∷ []) (h, (k, tt))
  column_index at x (in_memory i) h k = either (is_tall_scalar x) (Err bad_argument) (memory_index_of_tall i) tt (of_memory i)
  column_index at x (datastore place) h k = tt
  column_index at x (tall_table t) h k = tt

  table_index : (at : At) (t : List (List ℕ × Tall)) (i : TallValue) → TallsStand n t → Stands n i → Answers (tall_table_index at t i)
  table_index at t (deferred m) h k =
      a_table (over_columns (λ x. computed at op.filter (x ∷ m ∷ [])) t) (columns_stand _ (λ x j. made_stands n at op.filter (x ∷ m ∷ []) (j, (k, tt))) t h)
  table_index at t (in_memory i) h k = of_memory i
  table_index at t (datastore place) h k = tt
  table_index at t (tall_table u) h k = tt

  abbrev IndexStands : Option (Index TallValue) → Type 0
  IndexStands None = Unit {0}
  IndexStands (Some (rows_at i)) = Stands n i
  IndexStands (Some (all_variables_at i)) = Stands n i

  indexed : (at : At) (v : TallValue) (i : Option (Index TallValue)) → Stands n v → IndexStands i → Answers (index_value_of at v i)
  indexed at (in_memory v) None h k = no_index v where
    no_index : (v : Memory) → Answers (index_value_of at (in_memory v) None)
    no_index (scalar c) = tt
    no_index (column x) = tt
    no_index (table t) = tt
    no_index (texts ts) = tt
  indexed at (in_memory v) (Some (rows_at (in_memory i))) h k = memory _
  indexed at (in_memory v) (Some (all_variables_at (in_memory i))) h k = memory _
  indexed at (in_memory (scalar c)) (Some (rows_at (deferred i))) h k = tt
  indexed at (in_memory (column x)) (Some (rows_at (deferred i))) h k = of_tall i
  indexed at (in_memory (table t)) (Some (rows_at (deferred i))) h k = tt
  indexed at (in_memory (texts ts)) (Some (rows_at (deferred i))) h k = tt
  indexed at (in_memory (scalar c)) (Some (all_variables_at (deferred i))) h k = tt
  indexed at (in_memory (column x)) (Some (all_variables_at (deferred i))) h k = tt
  indexed at (in_memory (table t)) (Some (all_variables_at (deferred i))) h k = of_tall i
  indexed at (in_memory (texts ts)) (Some (all_variables_at (deferred i))) h k = tt
  indexed at (in_memory (scalar c)) (Some (rows_at (datastore place))) h k = tt
  indexed at (in_memory (column x)) (Some (rows_at (datastore place))) h k = tt
  indexed at (in_memory (table t)) (Some (rows_at (datastore place))) h k = tt
  indexed at (in_memory (texts ts)) (Some (rows_at (datastore place))) h k = tt
  indexed at (in_memory (scalar c)) (Some (rows_at (tall_table u))) h k = tt
  indexed at (in_memory (column x)) (Some (rows_at (tall_table u))) h k = tt
  indexed at (in_memory (table t)) (Some (rows_at (tall_table u))) h k = tt
  indexed at (in_memory (texts ts)) (Some (rows_at (tall_table u))) h k = tt
  indexed at (in_memory (scalar c)) (Some (all_variables_at (datastore place))) h k = tt
  indexed at (in_memory (column x)) (Some (all_variables_at (datastore place))) h k = tt
  indexed at (in_memory (table t)) (Some (all_variables_at (datastore place))) h k = tt
  indexed at (in_memory (texts ts)) (Some (all_variables_at (datastore place))) h k = tt
  indexed at (in_memory (scalar c)) (Some (all_variables_at (tall_table u))) h k = tt
  indexed at (in_memory (column x)) (Some (all_variables_at (tall_table u))) h k = tt
  indexed at (in_memory (table t)) (Some (all_variables_at (tall_table u))) h k = tt
  indexed at (in_memory (texts ts)) (Some (all_variables_at (tall_table u))) h k = tt
  indexed at (deferred x) None h k = tt
  indexed at (deferred x) (Some (rows_at i)) h k = column_index at x i h k
  indexed at (deferred x) (Some (all_variables_at i)) h k = tt
  indexed at (tall_table t) None h k = tt
  indexed at (tall_table t) (Some (rows_at i)) h k = tt
  indexed at (tall_table t) (Some (all_variables_at i)) h k = table_index at t i h k
  indexed at (datastore place) i h k = tt

  index_stands_in : (args : List (Argument TallValue)) → ArgumentsAre (Stands n) args → IndexStands (index_of args)
  index_stands_in [] h = tt
  index_stands_in (given i ∷ []) h = h.0
  index_stands_in (given i ∷ colon ∷ []) h = h.0
  index_stands_in (given i ∷ colon ∷ a ∷ args) h = tt
  index_stands_in (given i ∷ given j ∷ args) h = tt
  index_stands_in (given i ∷ function name ∷ args) h = tt
  index_stands_in (colon ∷ args) h = tt
  index_stands_in (function name ∷ args) h = tt

  pub index_stands : (at : At) (v : TallValue) (args : List (Argument TallValue)) → Stands n v → ArgumentsAre (Stands n) args → Answers (index_value at v args)
  unfolding index_value
  index_stands at v args h k = indexed at v (index_of args) h (index_stands_in args k)
