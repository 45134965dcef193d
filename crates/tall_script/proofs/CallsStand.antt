-- What calls of a script give is there, and so is what its statements name.
use Rattle.std.proofs.Common.{ℕ, List, [], ◌∷◌, Bool, true, false}
use Rattle.std.specs.Prelude.{if◌then◌else◌, option_map, option_and_then, Option, None, Some, Result, Ok, Err}
use Rattle.tall_value.specs.declared.functions.Method.{Method}
use Rattle.tall_value.specs.declared.functions.Method.TheVariants as method
use Rattle.tall_value.specs.declared.operators.Binary.TheVariants as binary
use Rattle.tall_value.specs.Cells.{whole}
use Rattle.tall_value.specs.Classes.{least, greatest}
use Rattle.tall_value.specs.SummaryNames.{summary_names}
use Rattle.tall_semantics.specs.Faults.{At}
use Rattle.tall_semantics.specs.Operations.{Op, Part}
use Rattle.tall_semantics.specs.Operations as op
use Rattle.tall_semantics.specs.Talls.{Tall}
use Rattle.tall_local.specs.declared.functions.ValueFunction.{ValueFunction}
use Rattle.tall_local.specs.declared.functions.ValueFunction.TheVariants as function
use Rattle.tall_local.specs.Applications.{Operation, reduce, height, scan, head, tail, distinct, groups, unary, Application, constant, to_one, to_two, application, application_of, groups_by, sum_with, count_of, text_of, choice_of}
use Rattle.tall_local.specs.Functions.{sum_options, integer_classes, roundings}
use Rattle.tall_local.specs.Arguments.{Argument, given, colon, value_given}
use Rattle.tall_local.specs.Arguments as argument
use Rattle.tall_local.specs.Lists.{ahead, each_of, all_of, in_front_of}
use Rattle.tall_local.specs.Memory.{Memory}
use Rattle.tall_local.specs.MemoryFunctions.{paired}
use Rattle.tall_local.specs.Refusals.{Refusal, bad_argument, and_then}
use Rattle.tall_local.specs.Values.{datastore, tall_table, deferred, in_memory}
use Rattle.tall_local.specs.MemoryLaws.{OnGiven}
use Rattle.tall_local.proofs.ValuesKept.{ArgumentsAre}
use Rattle.tall_script.specs.ScriptValues.{TallValue, computed, tall_variable, over_columns, reduce_value, height_value, column_value, rows_value, parts_of, group_columns, summary_table, groups_value, operation_value, application_value, scalar_given}
use Rattle.tall_script.specs.ScriptLanguage.{application_answer}
use Rattle.tall_script.specs.WellFormed.{TallStands, TallsStand, Stands}
use Rattle.tall_script.proofs.Standing.{AllStand, made_stands}
use Rattle.tall_script.proofs.StatesStand.{Answers, IsTall, memory, one, two, defers, columns_stand, a_table, of_name, then_answers}

module _ (n : ℕ) where
  -- ---- operations

  column : (at : At) (o : Op) (v : TallValue) → Stands n v → Answers n (column_value at o v)
  column at o (deferred x) h = defers n at o (x ∷ []) (h, tt)
  column at o (in_memory v) h = tt
  column at o (datastore place) h = tt
  column at o (tall_table t) h = tt

  reduces : (at : At) (r : _) (v : TallValue) → Stands n v → Answers n (reduce_value at r v)
  reduces at r (deferred x) h = defers n at (op.reduce r) (x ∷ []) (h, tt)
  reduces at r (in_memory v) h = tt
  reduces at r (datastore place) h = tt
  reduces at r (tall_table t) h = tt

  heights : (at : At) (v : TallValue) → Stands n v → Answers n (height_value at v)
  heights at (tall_table []) h = tt
  heights at (tall_table (entry ∷ t)) h = reduces at _ (deferred entry.1) h.0
  heights at (deferred x) h = tt
  heights at (in_memory v) h = tt
  heights at (datastore place) h = tt

  some_rows : (at : At) (o : Op) (v : TallValue) → Stands n v → Answers n (rows_value at o v)
  some_rows at o (tall_table t) h = a_table n (over_columns (λ x. computed at o (x ∷ [])) t) (columns_stand n _ (λ x j. made_stands n at o (x ∷ []) (j, tt)) t h)
  some_rows at o (deferred x) h = column at o (deferred x) h
  some_rows at o (in_memory v) h = tt
  some_rows at o (datastore place) h = tt

  -- ---- groups

  columns_of_parts : (at : At) (m : Method) (parts : List Part) (xs : List Tall) → AllStand n xs → OnGiven (AllStand n) (each_of (λ part. computed at (op.group m part) xs) parts)
  columns_of_parts at m [] xs h = tt
  columns_of_parts at m (part ∷ parts) xs h = both (computed at (op.group m part) xs) (made_stands n at (op.group m part) xs h) _ (columns_of_parts at m parts xs h) where
    both : (r : Result Tall Refusal) → OnGiven (IsTall n) r → (rest : Result (List Tall) Refusal) → OnGiven (AllStand n) rest → OnGiven (AllStand n) (ahead r rest)
    both (Ok x) i (Ok ys) j = (i, j)
    both (Ok x) i (Err e) j = tt
    both (Err e) i rest j = tt

  pairs_stand : (names : List (List ℕ)) (xs : List Tall) → AllStand n xs → TallsStand n (paired names xs)
  pairs_stand [] xs h = tt
  pairs_stand (name ∷ names) [] h = tt
  pairs_stand (name ∷ names) (x ∷ xs) h = (h.0, pairs_stand names xs h.1)

  a_summary : (names : List (List ℕ)) (r : Result (List Tall) Refusal) → OnGiven (AllStand n) r → Answers n (summary_table names r)
  a_summary names (Err e) h = tt
  a_summary names (Ok xs) h = by_test _ where
    by_test : (b : Bool) → Answers n (if b then Ok (tall_table (paired names xs)) else Err bad_argument)
    by_test true = pairs_stand names xs h
    by_test false = tt

  with_data : (at : At) (t : List (List ℕ × Tall)) (key : List ℕ) (m : Method) (value : List ℕ) (names : List (List ℕ)) → TallsStand n t
      → Answers n (and_then (tall_variable t key) (λ g. and_then (tall_variable t value) (λ v. summary_table names (group_columns at m (g ∷ v ∷ [])))))
  with_data at t key m value names h =
      then_answers n (IsTall n) (tall_variable t key) _ (of_name n t key h) (λ g i.
      then_answers n (IsTall n) (tall_variable t value) _ (of_name n t value h) (λ v j.
      a_summary names (group_columns at m (g ∷ v ∷ [])) (columns_of_parts at m (parts_of m) (g ∷ v ∷ []) (i, (j, tt)))))

  of_table : (at : At) (t : List (List ℕ × Tall)) (key : List ℕ) (m : Method) (value : List ℕ) → TallsStand n t → Answers n (groups_value at (tall_table t) key m value)
  of_table at t key method.Count value h =
      then_answers n (IsTall n) (tall_variable t key) _ (of_name n t key h) (λ g i.
      a_summary (summary_names method.Count key value) (group_columns at method.Count (g ∷ [])) (columns_of_parts at method.Count (parts_of method.Count) (g ∷ []) (i, tt)))
  of_table at t key method.Sum value h = with_data at t key method.Sum value (summary_names method.Sum key value) h
  of_table at t key method.SumNative value h = with_data at t key method.SumNative value (summary_names method.SumNative key value) h
  of_table at t key method.Min value h = with_data at t key method.Min value (summary_names method.Min key value) h
  of_table at t key method.Max value h = with_data at t key method.Max value (summary_names method.Max key value) h
  of_table at t key method.Nnz value h = with_data at t key method.Nnz value (summary_names method.Nnz key value) h
  of_table at t key method.Nummissing value h = with_data at t key method.Nummissing value (summary_names method.Nummissing key value) h

  grouped : (at : At) (v : TallValue) (key : List ℕ) (m : Method) (value : List ℕ) → Stands n v → Answers n (groups_value at v key m value)
  grouped at (tall_table t) key m value h = of_table at t key m value h
  grouped at (deferred x) key m value h = tt
  grouped at (in_memory v) key m value h = tt
  grouped at (datastore place) key m value h = tt

  in_memory_at_once : (at : At) (o : Operation) (v : Memory) → Answers n (operation_value at o (in_memory v))
  in_memory_at_once at (reduce r) v = memory n _
  in_memory_at_once at height v = memory n _
  in_memory_at_once at (scan s) v = memory n _
  in_memory_at_once at (head k) v = memory n _
  in_memory_at_once at (tail k) v = memory n _
  in_memory_at_once at distinct v = memory n _
  in_memory_at_once at (groups key m value) v = memory n _
  in_memory_at_once at (unary o) v = memory n _

  deferred_operation : (at : At) (o : Operation) (x : Tall) → TallStands n x → Answers n (operation_value at o (deferred x))
  deferred_operation at (reduce r) x h = reduces at r (deferred x) h
  deferred_operation at height x h = tt
  deferred_operation at (scan s) x h = column at (op.scan s) (deferred x) h
  deferred_operation at (head k) x h = some_rows at (op.head k) (deferred x) h
  deferred_operation at (tail k) x h = some_rows at (op.tail k) (deferred x) h
  deferred_operation at distinct x h = column at op.distinct (deferred x) h
  deferred_operation at (groups key m value) x h = grouped at (deferred x) key m value h
  deferred_operation at (unary o) x h = one n at o (deferred x) h

  table_operation : (at : At) (o : Operation) (t : List (List ℕ × Tall)) → TallsStand n t → Answers n (operation_value at o (tall_table t))
  table_operation at (reduce r) t h = tt
  table_operation at height t h = heights at (tall_table t) h
  table_operation at (scan s) t h = tt
  table_operation at (head k) t h = some_rows at (op.head k) (tall_table t) h
  table_operation at (tail k) t h = some_rows at (op.tail k) (tall_table t) h
  table_operation at distinct t h = tt
  table_operation at (groups key m value) t h = of_table at t key m value h
  table_operation at (unary o) t h = tt

  store_operation : (at : At) (o : Operation) (place : ℕ) → Answers n (operation_value at o (datastore place))
  store_operation at (reduce r) place = tt
  store_operation at height place = tt
  store_operation at (scan s) place = tt
  store_operation at (head k) place = tt
  store_operation at (tail k) place = tt
  store_operation at distinct place = tt
  store_operation at (groups key m value) place = tt
  store_operation at (unary o) place = tt

  an_operation : (at : At) (o : Operation) (v : TallValue) → Stands n v → Answers n (operation_value at o v)
  an_operation at o (in_memory v) h = in_memory_at_once at o v
  an_operation at o (deferred x) h = deferred_operation at o x h
  an_operation at o (tall_table t) h = table_operation at o t h
  an_operation at o (datastore place) h = store_operation at o place

  -- ---- applications

  abbrev ApplicationStands : Option (Application TallValue) → Type 0
  ApplicationStands None = Unit {0}
  ApplicationStands (Some (constant c)) = Unit {0}
  ApplicationStands (Some (to_one o v)) = Stands n v
  ApplicationStands (Some (to_two o v w)) = Stands n v × Stands n w

  abbrev pub AreStanding : List TallValue → Type 0
  AreStanding [] = Unit {0}
  AreStanding (v ∷ vs) = Stands n v × AreStanding vs

  mapped : {A : Type 0} (f : A → Application TallValue) (r : Option A) → ((a : A) → ApplicationStands (Some (f a))) → ApplicationStands (option_map f r)
  mapped f None k = tt
  mapped f (Some a) k = k a

  by_method : (v : TallValue) (g : Option (List ℕ)) (m : Option Method) (value : Option (List ℕ)) → Stands n v → ApplicationStands (groups_by scalar_given v g m value)
  by_method v (Some g) (Some m) (Some value) h = h
  by_method v (Some g) (Some m) None h = tt
  by_method v (Some g) None value h = tt
  by_method v None m value h = tt

  applications : (f : ValueFunction) (vs : List TallValue) → AreStanding vs → ApplicationStands (application scalar_given f vs)
  applications function.Sum [] h = tt
  applications function.Sum (x ∷ vs) h =
      mapped (λ r. to_one (reduce r) x) (option_and_then sum_with (all_of (λ o. choice_of sum_options (scalar_given o)) vs)) (λ k. h.0)
  applications (function.Reduction r) [] h = tt
  applications (function.Reduction r) (x ∷ []) h = h.0
  applications (function.Reduction r) (x ∷ v ∷ vs) h = tt
  applications function.Height [] h = tt
  applications function.Height (x ∷ []) h = h.0
  applications function.Height (x ∷ v ∷ vs) h = tt
  applications (function.Scan s) [] h = tt
  applications (function.Scan s) (x ∷ []) h = h.0
  applications (function.Scan s) (x ∷ v ∷ vs) h = tt
  applications function.Head [] h = tt
  applications function.Head (x ∷ []) h = h.0
  applications function.Head (x ∷ y ∷ []) h = mapped (λ k. to_one (head k) x) (count_of (scalar_given y)) (λ k. h.0)
  applications function.Head (x ∷ y ∷ v ∷ vs) h = tt
  applications function.Tail [] h = tt
  applications function.Tail (x ∷ []) h = h.0
  applications function.Tail (x ∷ y ∷ []) h = mapped (λ k. to_one (tail k) x) (count_of (scalar_given y)) (λ k. h.0)
  applications function.Tail (x ∷ y ∷ v ∷ vs) h = tt
  applications function.Unique [] h = tt
  applications function.Unique (x ∷ []) h = h.0
  applications function.Unique (x ∷ v ∷ vs) h = tt
  applications function.GroupSummary [] h = tt
  applications function.GroupSummary (x ∷ []) h = tt
  applications function.GroupSummary (x ∷ y ∷ []) h = mapped (λ g. to_one (groups g method.Count []) x) (text_of (scalar_given y)) (λ k. h.0)
  applications function.GroupSummary (x ∷ y ∷ z ∷ []) h = tt
  applications function.GroupSummary (x ∷ y ∷ z ∷ w ∷ []) h = by_method x _ _ _ h.0
  applications function.GroupSummary (x ∷ y ∷ z ∷ w ∷ v ∷ vs) h = tt
  applications function.IntMax [] h = tt
  applications function.IntMax (x ∷ []) h = mapped (λ k. constant (whole k (greatest k))) (choice_of integer_classes (scalar_given x)) (λ k. tt)
  applications function.IntMax (x ∷ v ∷ vs) h = tt
  applications function.IntMin [] h = tt
  applications function.IntMin (x ∷ []) h = mapped (λ k. constant (whole k (least k))) (choice_of integer_classes (scalar_given x)) (λ k. tt)
  applications function.IntMin (x ∷ v ∷ vs) h = tt
  applications function.Idivide [] h = tt
  applications function.Idivide (x ∷ []) h = tt
  applications function.Idivide (x ∷ y ∷ []) h = (h.0, h.1.0)
  applications function.Idivide (x ∷ y ∷ z ∷ []) h = (let p : Stands n x × Stands n y = (h.0, h.1.0) in mapped (λ r. to_two (binary.Idivide r) x y) (choice_of roundings (scalar_given z)) (λ k. p))
  applications function.Idivide (x ∷ y ∷ z ∷ v ∷ vs) h = tt
  applications (function.Binary b) [] h = tt
  applications (function.Binary b) (x ∷ []) h = tt
  applications (function.Binary b) (x ∷ y ∷ []) h = (h.0, h.1.0)
  applications (function.Binary b) (x ∷ y ∷ v ∷ vs) h = tt
  applications (function.Unary u) [] h = tt
  applications (function.Unary u) (x ∷ []) h = h.0
  applications (function.Unary u) (x ∷ v ∷ vs) h = tt

  abbrev pub ValuesStand : Option (List TallValue) → Type 0
  ValuesStand None = Unit {0}
  ValuesStand (Some vs) = AreStanding vs

  pub all_values : (args : List (Argument TallValue)) → ArgumentsAre (Stands n) args → ValuesStand (all_of value_given args)
  all_values [] h = tt
  all_values (given v ∷ args) h = more (all_of value_given args) (all_values args h.1) where
    more : (vs : Option (List TallValue)) → ValuesStand vs → ValuesStand (in_front_of (Some v) vs)
    more None i = tt
    more (Some vs) i = (h.0, i)
  all_values (colon ∷ args) h = tt
  all_values (argument.function name ∷ args) h = tt

  of_values : (f : ValueFunction) (vs : Option (List TallValue)) → ValuesStand vs → ApplicationStands (option_and_then (application scalar_given f) vs)
  of_values f None h = tt
  of_values f (Some vs) h = applications f vs h

  an_application : (at : At) (a : Option (Application TallValue)) → ApplicationStands a → Answers n (application_answer at a)
  unfolding application_value
  an_application at None h = tt
  an_application at (Some (constant c)) h = tt
  an_application at (Some (to_one o v)) h = an_operation at o v h
  an_application at (Some (to_two o v w)) h = two n at o v w h.0 h.1

  pub function_stands : (at : At) (f : ValueFunction) (args : List (Argument TallValue)) → ArgumentsAre (Stands n) args
      → Answers n (application_answer at (application_of scalar_given f args))
  unfolding application_of
  function_stands at f args h = an_application at _ (of_values f (all_of value_given args) (all_values args h))
