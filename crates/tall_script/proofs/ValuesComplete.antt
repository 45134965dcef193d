-- Each value of an application is in memory, or one of those that its vertices have.
use Rattle.std.proofs.Common.{◌≡◌, ℕ, List, [], ◌∷◌, refl, ap, sym, subst, ◌∙◌, inl, inr}
use Rattle.std.specs.Prelude.{◌≢◌, ◌⊎◌, true, false, if◌then◌else◌, Bool, bytes_eq, map, Option, None, Some, option_map, Result, Ok, Err}
use Rattle.tall_value.specs.declared.class.Class.{Class}
use Rattle.tall_value.specs.declared.faults.ClassFault.{ClassFault}
use Rattle.tall_value.specs.declared.functions.Method.{Method}
use Rattle.tall_value.specs.declared.functions.Method.TheVariants as method
use Rattle.tall_value.specs.declared.operators.Binary.{Binary}
use Rattle.tall_value.specs.Names.{are_distinct}
use Rattle.tall_value.specs.SummaryNames.{summary_names}
use Rattle.tall_semantics.specs.Deferred.{Vertex}
use Rattle.tall_semantics.specs.Faults.{At}
use Rattle.tall_semantics.specs.Outcomes.{rows}
use Rattle.tall_semantics.specs.Talls.{Tall}
use Rattle.tall_local.specs.Applications.{Operation, reduce, height, scan, head, tail, distinct, groups, unary, Application, constant, to_one, to_two}
use Rattle.tall_local.specs.Arguments.{Index, rows_at, all_variables_at, index_by}
use Rattle.tall_local.specs.Memory.{Memory}
use Rattle.tall_local.specs.MemoryIndexing.{is_logical, memory_index}
use Rattle.tall_local.specs.Memory as memory
use Rattle.tall_local.specs.MemoryFunctions.{memory_operation, paired}
use Rattle.tall_local.specs.MemoryOperators.{memory_binary}
use Rattle.tall_local.specs.Names.{named, each_named}
use Rattle.tall_local.specs.Refusals.{Refusal, undefined, incompatible, bad_class, bad_argument, and_then, or_refuse}
use Rattle.tall_local.specs.Values.{datastore, tall_table, deferred, in_memory, memory_answer}
use Rattle.tall_script.specs.ScriptValues.{TallValue, is_tall_scalar, beside_column, tall_index_of_memory, memory_index_of_tall, index_value_of, tall_variable, group_columns, summary_table, groups_value, application_value}
use Rattle.tall_script.specs.AddedValues as added
use Rattle.tall_script.specs.AddedValues.{PlacedValue, value_by, application_by, AddsFor, AddsForIndex, IsInMemory}
use Rattle.tall_script.proofs.ValuesAdded.{with_data}

abbrev pub HasForm : At → ℕ → Application PlacedValue → Type 0
HasForm at n a = (ws : List Vertex) × (v : PlacedValue) × AddsFor at n a ws v

abbrev Answered : At → ℕ → Application PlacedValue → TallValue → Type 0
Answered at n a w = IsInMemory w ⊎ HasForm at n a

in_memory_so : {A : Type 0} (r : Result Memory Refusal) (w : TallValue) → memory_answer r ≡ Ok w → IsInMemory w ⊎ A
in_memory_so (Ok v) w e = inl (subst IsInMemory (within (in_memory v) w e) tt) where
  within : (x y : TallValue) → ◌≡◌ {A = Result TallValue Refusal} (Ok x) (Ok y) → x ≡ y
  within x y e = ap (λ (r : Result TallValue Refusal). elim r [ Ok z ↦ z | Err f ↦ x ]) e
in_memory_so (Err f) w e = absurd cc

named_seen : (f : ℕ → Tall) (t : List (List ℕ × ℕ)) (name : List ℕ) → named (each_named f t) name ≡ option_map f (named t name)
named_seen f [] name = refl
named_seen f (x ∷ t) name = by_test (bytes_eq x.0 name) (named_seen f t name) where
  by_test : (b : Bool) → named (each_named f t) name ≡ option_map f (named t name) → (if b then Some (f x.1) else named (each_named f t) name) ≡ option_map f (if b then Some x.1 else named t name)
  by_test true rest = refl
  by_test false rest = rest

-- what an answer that was given says of a variable
found : (f : ℕ → Tall) (t : List (List ℕ × ℕ)) (name : List ℕ) (k : Tall → Result TallValue Refusal) (w : TallValue) → and_then (tall_variable (each_named f t) name) k ≡ Ok w
    → (i : ℕ) × (named t name ≡ Some i) × (k (f i) ≡ Ok w)
found f t name k w e = by_name (named t name) refl where
  by_name : (o : Option ℕ) → named t name ≡ o → (i : ℕ) × (named t name ≡ Some i) × (k (f i) ≡ Ok w)
  by_name None h = absurd (let z = sym (ap (λ o. and_then (or_refuse (undefined name) o) k) (named_seen f t name ∙ ap (option_map f) h)) ∙ e in cc)
  by_name (Some i) h = (i, h, sym (ap (λ o. and_then (or_refuse (undefined name) o) k) (named_seen f t name ∙ ap (option_map f) h)) ∙ e)

apart : (names : List (List ℕ)) (r : Result (List Tall) Refusal) (w : TallValue) → summary_table names r ≡ Ok w → are_distinct names ≡ true
apart names (Ok columns) w e = by_test (are_distinct names) e where
  by_test : (b : Bool) → ◌≡◌ {A = Result TallValue Refusal} (if b then Ok (tall_table (paired names columns)) else Err bad_argument) (Ok w) → b ≡ true
  by_test true e = refl
  by_test false e = absurd cc
apart names (Err f) w e = absurd cc

abbrev IsNoTable : TallValue → Type 0
IsNoTable (datastore place) = Unit {0}
IsNoTable (tall_table t) = ⊥
IsNoTable (deferred x) = Unit {0}
IsNoTable (in_memory v) = Unit {0}

module _ (at : At) (n : ℕ) (f : ℕ → Tall) where
  counted : (t : List (List ℕ × ℕ)) (key value : List ℕ) (w : TallValue) → groups_value at (tall_table (each_named f t)) key method.Count value ≡ Ok w
      → HasForm at n (to_one (groups key method.Count value) (tall_table t))
  counted t key value w e =
      let names = summary_names method.Count key value in
      let g = found f t key (λ x. summary_table names (group_columns at method.Count (x ∷ []))) w e in
      (_, _, added.of_counts t key value g.0 g.1 (apart names (group_columns at method.Count (f g.0 ∷ [])) w g.2))

  grouped : (t : List (List ℕ × ℕ)) (key value : List ℕ) (m : Method) (w : TallValue) → m ≢ method.Count → groups_value at (tall_table (each_named f t)) key m value ≡ Ok w
      → HasForm at n (to_one (groups key m value) (tall_table t))
  grouped t key value m w other e =
      let names = summary_names m key value in
      let g = found f t key (λ x. and_then (tall_variable (each_named f t) value) (λ y. summary_table names (group_columns at m (x ∷ y ∷ [])))) w (sym (with_data (λ s v. rows []) f at t key value m other) ∙ e) in
      let v = found f t value (λ y. summary_table names (group_columns at m (f g.0 ∷ y ∷ []))) w g.2 in
      (_, _, added.of_groups t key value m g.0 v.0 other g.1 v.1 (apart names (group_columns at m (f g.0 ∷ f v.0 ∷ [])) w v.2))

  by_method : (t : List (List ℕ × ℕ)) (key value : List ℕ) (m : Method) (w : TallValue) → groups_value at (tall_table (each_named f t)) key m value ≡ Ok w
      → HasForm at n (to_one (groups key m value) (tall_table t))
  by_method t key value method.Count w e = counted t key value w e
  by_method t key value method.Sum w e = grouped t key value method.Sum w (λ z. absurd cc) e
  by_method t key value method.SumNative w e = grouped t key value method.SumNative w (λ z. absurd cc) e
  by_method t key value method.Min w e = grouped t key value method.Min w (λ z. absurd cc) e
  by_method t key value method.Max w e = grouped t key value method.Max w (λ z. absurd cc) e
  by_method t key value method.Nnz w e = grouped t key value method.Nnz w (λ z. absurd cc) e
  by_method t key value method.Nummissing w e = grouped t key value method.Nummissing w (λ z. absurd cc) e

  no_groups : (key : List ℕ) (m : Method) (value : List ℕ) (v : TallValue) (w : TallValue) → IsNoTable v → groups_value at v key m value ≡ Ok w → ⊥
  no_groups key m value (datastore p) w no_table e = by_any m e where
    by_any : (m : Method) → groups_value at (datastore p) key m value ≡ Ok w → ⊥
    by_any m e = absurd cc
  no_groups key m value (deferred x) w no_table e = by_any m e where
    by_any : (m : Method) → groups_value at (deferred x) key m value ≡ Ok w → ⊥
    by_any m e = absurd cc
  no_groups key m value (in_memory x) w no_table e = absurd cc
  no_groups key m value (tall_table t) w no_table e = absurd no_table

  no_column : {A : Type 0} (r : Result Class ClassFault) (w : TallValue) → beside_column r ≡ Ok w → A
  no_column (Ok c) w e = absurd cc
  no_column (Err x) w e = absurd cc

  pub application_has_form : (a : Application PlacedValue) (w : TallValue) → application_value at (application_by f a) ≡ Ok w → Answered at n a w
  unfolding application_value
  application_has_form (constant c) w e = in_memory_so (Ok (memory.scalar c)) w e
  application_has_form (to_one o (in_memory v)) w e = in_memory_so (memory_operation o v) w e
  application_has_form (to_one (reduce r) (deferred i)) w e = inr (_, _, added.of_reduction r i)
  application_has_form (to_one (reduce r) (datastore p)) w e = absurd cc
  application_has_form (to_one (reduce r) (tall_table t)) w e = absurd cc
  application_has_form (to_one height (deferred i)) w e = absurd cc
  application_has_form (to_one height (datastore p)) w e = absurd cc
  application_has_form (to_one height (tall_table [])) w e = absurd cc
  application_has_form (to_one height (tall_table (x ∷ t))) w e = inr (_, _, added.of_height x t)
  application_has_form (to_one (scan s) (deferred i)) w e = inr (_, _, added.of_scan s i)
  application_has_form (to_one (scan s) (datastore p)) w e = absurd cc
  application_has_form (to_one (scan s) (tall_table t)) w e = absurd cc
  application_has_form (to_one (head k) (deferred i)) w e = inr (_, _, added.of_head k i)
  application_has_form (to_one (head k) (datastore p)) w e = absurd cc
  application_has_form (to_one (head k) (tall_table t)) w e = inr (_, _, added.of_head_rows k t)
  application_has_form (to_one (tail k) (deferred i)) w e = inr (_, _, added.of_tail k i)
  application_has_form (to_one (tail k) (datastore p)) w e = absurd cc
  application_has_form (to_one (tail k) (tall_table t)) w e = inr (_, _, added.of_tail_rows k t)
  application_has_form (to_one distinct (deferred i)) w e = inr (_, _, added.of_distinct i)
  application_has_form (to_one distinct (datastore p)) w e = absurd cc
  application_has_form (to_one distinct (tall_table t)) w e = absurd cc
  application_has_form (to_one (groups key m value) (deferred i)) w e = absurd (no_groups key m value (deferred (f i)) w tt e)
  application_has_form (to_one (groups key m value) (datastore p)) w e = absurd (no_groups key m value (datastore p) w tt e)
  application_has_form (to_one (groups key m value) (tall_table t)) w e = inr (by_method t key value m w e)
  application_has_form (to_one (unary o) (deferred i)) w e = inr (_, _, added.of_unary o i)
  application_has_form (to_one (unary o) (datastore p)) w e = absurd cc
  application_has_form (to_one (unary o) (tall_table t)) w e = absurd cc
  application_has_form (to_two o (in_memory v) (in_memory x)) w e = in_memory_so (memory_binary o v x) w e
  application_has_form (to_two o (deferred i) (deferred j)) w e = inr (_, _, added.of_binary o i j)
  application_has_form (to_two o (deferred i) (in_memory (memory.scalar c))) w e = inr (_, _, added.of_right_scalar o i c)
  application_has_form (to_two o (deferred i) (in_memory (memory.column x))) w e = no_column _ w e
  application_has_form (to_two o (deferred i) (in_memory (memory.table t))) w e = absurd cc
  application_has_form (to_two o (deferred i) (in_memory (memory.texts ts))) w e = absurd cc
  application_has_form (to_two o (in_memory (memory.scalar c)) (deferred j)) w e = inr (_, _, added.of_left_scalar o c j)
  application_has_form (to_two o (in_memory (memory.column x)) (deferred j)) w e = no_column _ w e
  application_has_form (to_two o (in_memory (memory.table t)) (deferred j)) w e = absurd cc
  application_has_form (to_two o (in_memory (memory.texts ts)) (deferred j)) w e = absurd cc
  application_has_form (to_two o (deferred i) (datastore p)) w e = absurd cc
  application_has_form (to_two o (deferred i) (tall_table t)) w e = absurd cc
  application_has_form (to_two o (datastore p) x) w e = absurd cc
  application_has_form (to_two o (tall_table t) x) w e = absurd cc
  application_has_form (to_two o (in_memory (memory.scalar c)) (datastore p)) w e = absurd cc
  application_has_form (to_two o (in_memory (memory.column x)) (datastore p)) w e = absurd cc
  application_has_form (to_two o (in_memory (memory.table t)) (datastore p)) w e = absurd cc
  application_has_form (to_two o (in_memory (memory.texts ts)) (datastore p)) w e = absurd cc
  application_has_form (to_two o (in_memory (memory.scalar c)) (tall_table t)) w e = absurd cc
  application_has_form (to_two o (in_memory (memory.column x)) (tall_table t)) w e = absurd cc
  application_has_form (to_two o (in_memory (memory.table u)) (tall_table t)) w e = absurd cc
  application_has_form (to_two o (in_memory (memory.texts ts)) (tall_table t)) w e = absurd cc

  -- ---- indexes

  abbrev IndexAnswered : PlacedValue → Index PlacedValue → TallValue → Type 0
  IndexAnswered v i w = IsInMemory w ⊎ ((ws : List Vertex) × (x : PlacedValue) × AddsForIndex at n v i ws x)

  no_tall_index : {A : Type 0} (x : Tall) (w : TallValue) → tall_index_of_memory x ≡ Ok w → A
  no_tall_index {A} x w e = by_tests (is_tall_scalar x) (is_logical x.shape.class) e where
    by_tests : (b c : Bool) → ◌≡◌ {A = Result TallValue Refusal} (if b then Err bad_argument else if c then Err incompatible else Err bad_class) (Ok w) → A
    by_tests true c e = absurd cc
    by_tests false true e = absurd cc
    by_tests false false e = absurd cc

  no_memory_index : {A : Type 0} (i : Memory) (w : TallValue) → memory_index_of_tall i ≡ Ok w → A
  no_memory_index (memory.scalar c) w e = absurd cc
  no_memory_index {A} (memory.column x) w e = by_test (is_logical x.class) e where
    by_test : (b : Bool) → ◌≡◌ {A = Result TallValue Refusal} (if b then Err incompatible else Err bad_argument) (Ok w) → A
    by_test true e = absurd cc
    by_test false e = absurd cc
  no_memory_index (memory.table t) w e = absurd cc
  no_memory_index (memory.texts ts) w e = absurd cc

  no_scalar_index : {A : Type 0} (b : Bool) (i : Memory) (w : TallValue) → (if b then Err bad_argument else memory_index_of_tall i) ≡ Ok w → A
  no_scalar_index true i w e = absurd cc
  no_scalar_index false i w e = no_memory_index i w e

  pub index_has_form : (v : PlacedValue) (i : Index PlacedValue) (w : TallValue) → index_value_of at (value_by f v) (Some (index_by (value_by f) i)) ≡ Ok w → IndexAnswered v i w
  index_has_form (in_memory v) (rows_at (in_memory i)) w e = in_memory_so (memory_index v (Some (rows_at i))) w e
  index_has_form (in_memory v) (all_variables_at (in_memory i)) w e = in_memory_so (memory_index v (Some (all_variables_at i))) w e
  index_has_form (in_memory (memory.scalar c)) (rows_at (deferred i)) w e = absurd cc
  index_has_form (in_memory (memory.column x)) (rows_at (deferred i)) w e = no_tall_index (f i) w e
  index_has_form (in_memory (memory.table t)) (rows_at (deferred i)) w e = absurd cc
  index_has_form (in_memory (memory.texts ts)) (rows_at (deferred i)) w e = absurd cc
  index_has_form (in_memory (memory.scalar c)) (all_variables_at (deferred i)) w e = absurd cc
  index_has_form (in_memory (memory.column x)) (all_variables_at (deferred i)) w e = absurd cc
  index_has_form (in_memory (memory.table t)) (all_variables_at (deferred i)) w e = no_tall_index (f i) w e
  index_has_form (in_memory (memory.texts ts)) (all_variables_at (deferred i)) w e = absurd cc
  index_has_form (in_memory (memory.scalar c)) (rows_at (datastore p)) w e = absurd cc
  index_has_form (in_memory (memory.column x)) (rows_at (datastore p)) w e = absurd cc
  index_has_form (in_memory (memory.table t)) (rows_at (datastore p)) w e = absurd cc
  index_has_form (in_memory (memory.texts ts)) (rows_at (datastore p)) w e = absurd cc
  index_has_form (in_memory (memory.scalar c)) (all_variables_at (datastore p)) w e = absurd cc
  index_has_form (in_memory (memory.column x)) (all_variables_at (datastore p)) w e = absurd cc
  index_has_form (in_memory (memory.table t)) (all_variables_at (datastore p)) w e = absurd cc
  index_has_form (in_memory (memory.texts ts)) (all_variables_at (datastore p)) w e = absurd cc
  index_has_form (in_memory (memory.scalar c)) (rows_at (tall_table u)) w e = absurd cc
  index_has_form (in_memory (memory.column x)) (rows_at (tall_table u)) w e = absurd cc
  index_has_form (in_memory (memory.table t)) (rows_at (tall_table u)) w e = absurd cc
  index_has_form (in_memory (memory.texts ts)) (rows_at (tall_table u)) w e = absurd cc
  index_has_form (in_memory (memory.scalar c)) (all_variables_at (tall_table u)) w e = absurd cc
  index_has_form (in_memory (memory.column x)) (all_variables_at (tall_table u)) w e = absurd cc
  index_has_form (in_memory (memory.table t)) (all_variables_at (tall_table u)) w e = absurd cc
  index_has_form (in_memory (memory.texts ts)) (all_variables_at (tall_table u)) w e = absurd cc
  index_has_form (deferred x) (rows_at (deferred m)) w e = inr (_, _, added.of_column x m)
  index_has_form (deferred x) (rows_at (in_memory i)) w e = no_scalar_index (is_tall_scalar (f x)) i w e
  index_has_form (deferred x) (rows_at (datastore p)) w e = absurd cc
  index_has_form (deferred x) (rows_at (tall_table u)) w e = absurd cc
  index_has_form (deferred x) (all_variables_at i) w e = absurd cc
  index_has_form (tall_table t) (all_variables_at (deferred m)) w e = inr (_, _, added.of_table t m)
  index_has_form (tall_table t) (all_variables_at (in_memory i)) w e = no_memory_index i w e
  index_has_form (tall_table t) (all_variables_at (datastore p)) w e = absurd cc
  index_has_form (tall_table t) (all_variables_at (tall_table u)) w e = absurd cc
  index_has_form (tall_table t) (rows_at i) w e = absurd cc
  index_has_form (datastore p) (rows_at i) w e = absurd cc
  index_has_form (datastore p) (all_variables_at i) w e = absurd cc
