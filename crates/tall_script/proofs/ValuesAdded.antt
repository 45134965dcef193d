-- The value of an application is that of the vertices that it adds, in any solution.
use Rattle.std.proofs.Common.{◌≡◌, ℕ, zero, suc, ◌+◌, ◌<◌, List, [], ◌∷◌, ◌++◌, refl, ap, sym, subst, ◌∙◌, arith}
use Rattle.std.proofs.lemmas.List.{length-append, append_assoc}
use Rattle.std.proofs.lemmas.List.Elements.{All-nil, All-cons, All-head, All-tail}
use Rattle.std.specs.List.{All, range_with_len}
use Rattle.std.specs.Prelude.{true, if◌then◌else◌, Bool, false, length, map, slice_get, bytes_eq, Option, None, Some, option_map, Result, Ok, Err, ◌≢◌}
use Rattle.tall_value.specs.declared.functions.Method.{Method}
use Rattle.tall_value.specs.declared.functions.Method.TheVariants as method
use Rattle.tall_value.specs.declared.functions.Reduction.TheVariants.{Height}
use Rattle.tall_value.specs.Names.{are_distinct}
use Rattle.tall_value.specs.SummaryNames.{summary_names}
use Rattle.tall_semantics.specs.Deferred.{Vertex, IsMeaning, AllBelow}
use Rattle.tall_semantics.specs.Faults.{At}
use Rattle.tall_semantics.specs.Operations.{Op, Part, operation}
use Rattle.tall_semantics.specs.Operations as op
use Rattle.tall_semantics.specs.Shapes.{ShapeRefusal}
use Rattle.tall_semantics.specs.Talls.{Tall, Columns, tall}
use Rattle.tall_local.specs.Applications.{Application}
use Rattle.tall_local.specs.Arguments.{Index, index_by}
use Rattle.tall_local.specs.Lists.{each_of, ahead}
use Rattle.tall_local.specs.MemoryFunctions.{paired, if_distinct}
use Rattle.tall_local.specs.Names.{named, names_of, each_named}
use Rattle.tall_local.specs.Refusals.{Refusal, bad_argument, and_then, or_refuse, undefined}
use Rattle.tall_local.specs.Values.{deferred, tall_table}
use Rattle.tall_script.specs.ScriptValues.{TallValue, computed, refusal_of, tall_answer, deferring, over_columns, table_answer, tall_variable, parts_of, group_columns, summary_table, groups_value, application_value, index_value_of}
use Rattle.tall_script.specs.VertexLaws.{vertex, AllOf, Adds, one_operation, behind_a_scalar, of_groups}
use Rattle.tall_script.specs.VertexLaws as forms
use Rattle.tall_script.specs.AddedValues as added
use Rattle.tall_script.specs.AddedValues.{PlacedValue, value_by, application_by, for_each, for_parts, from_place, columns_from, summary_from, AddsFor, AddsForIndex, IsPlace, IsInGraph, AreInGraph, IndexIsInGraph}

abbrev tall_given : Result Tall ShapeRefusal → Result Tall Refusal
tall_given r = elim r [ Ok x ↦ Ok x | Err e ↦ Err (refusal_of e) ]

at_end : (vs : List Vertex) (w : Vertex) (ws : List Vertex) → slice_get (vs ++ w ∷ ws) (length vs) ≡ Some w
at_end [] w ws = refl
at_end (v ∷ vs) w ws = at_end vs w ws

one_longer : (vs : List Vertex) (w : Vertex) → length (vs ++ w ∷ []) ≡ length vs + 1
one_longer vs w = length-append vs (w ∷ [])

module _ (columns : Columns) (f : ℕ → Tall) where
  -- the next vertex behind those of the graph
  next_value : (vs : List Vertex) (at : At) (o : Op) (args : List ℕ) (ws : List Vertex) → IsMeaning columns (vs ++ vertex at o args ∷ ws) f → computed at o (map f args) ≡ Ok (f (length vs))
  next_value vs at o args ws solves = ap tall_given (solves (length vs) (vertex at o args) (at_end vs (vertex at o args) ws))

  one_further : (vs : List Vertex) (w : Vertex) (ws : List Vertex) → IsMeaning columns (vs ++ w ∷ ws) f → IsMeaning columns ((vs ++ w ∷ []) ++ ws) f
  one_further vs w ws solves = subst (λ us. IsMeaning columns us f) (sym (append_assoc vs (w ∷ []) ws)) solves

  alone : (vs : List Vertex) (at : At) (o : Op) (args : List ℕ) → IsMeaning columns (vs ++ vertex at o args ∷ []) f → deferring at o (map f args) ≡ Ok (deferred (f (length vs)))
  alone vs at o args solves = ap tall_answer (next_value vs at o args [] solves)

  -- ---- columns of a table

  abbrev with_name : List ℕ → Result Tall Refusal → Result (List ℕ × Tall) Refusal
  with_name name r = elim r [ Ok x ↦ Ok (name, x) | Err e ↦ Err e ]

  table_made : (at : At) (o : Op) (operands : ℕ → List ℕ) (g : Tall → Result Tall Refusal) → ((i : ℕ) → g (f i) ≡ computed at o (map f (operands i)))
      → (t : List (List ℕ × ℕ)) (vs : List Vertex) (n : ℕ) → length vs ≡ n → IsMeaning columns (vs ++ for_each at o operands t) f
      → over_columns g (each_named f t) ≡ Ok (each_named f (from_place n (names_of t) (length t)))
  table_made at o operands g is [] vs n long solves = refl
  table_made at o operands g is (x ∷ t) vs n long solves =
      let w = vertex at o (operands x.1) in
      let rest = for_each at o operands t in
      let here : g (f x.1) ≡ Ok (f n) = is x.1 ∙ next_value vs at o (operands x.1) rest solves ∙ ap (λ k. Ok (f k)) long in
      ap (λ r. ahead (with_name x.0 r) (over_columns g (each_named f t))) here
      ∙ ap (ahead (Ok (x.0, f n))) (table_made at o operands g is t (vs ++ w ∷ []) (n + 1) (one_longer vs w ∙ ap (λ k. k + 1) long) (one_further vs w rest solves))

  -- ---- columns of a summary

  parts_made : (at : At) (m : Method) (args : List ℕ) (parts : List Part) (vs : List Vertex) (n : ℕ) → length vs ≡ n → IsMeaning columns (vs ++ map (λ part. vertex at (op.group m part) args) parts) f
      → each_of (λ part. computed at (op.group m part) (map f args)) parts ≡ Ok (map f (range_with_len n (length parts)))
  parts_made at m args [] vs n long solves = refl
  parts_made at m args (part ∷ parts) vs n long solves =
      let w = vertex at (op.group m part) args in
      let rest = map (λ part. vertex at (op.group m part) args) parts in
      let here : computed at (op.group m part) (map f args) ≡ Ok (f n) = next_value vs at (op.group m part) args rest solves ∙ ap (λ k. Ok (f k)) long in
      ap (λ r. ahead r (each_of (λ part. computed at (op.group m part) (map f args)) parts)) here
      ∙ ap (ahead (Ok (f n))) (parts_made at m args parts (vs ++ w ∷ []) (n + 1) (one_longer vs w ∙ ap (λ k. k + 1) long) (one_further vs w rest solves))

  named_so : (names : List (List ℕ)) (ns : List ℕ) → paired names (map f ns) ≡ each_named f (paired names ns)
  named_so [] ns = refl
  named_so (name ∷ names) [] = refl
  named_so (name ∷ names) (n ∷ ns) = ap (λ t. (name, f n) ∷ t) (named_so names ns)

  named_in : (t : List (List ℕ × ℕ)) (name : List ℕ) (i : ℕ) → named t name ≡ Some i → tall_variable (each_named f t) name ≡ Ok (f i)
  named_in [] name i h = absurd cc
  named_in (x ∷ t) name i h = by_test (bytes_eq x.0 name) (λ e. named_in t name i e) h where
    by_test : (b : Bool) → (named t name ≡ Some i → or_refuse (undefined name) (named (each_named f t) name) ≡ Ok (f i)) → (if b then Some x.1 else named t name) ≡ Some i
        → or_refuse (undefined name) (if b then Some (f x.1) else named (each_named f t) name) ≡ Ok (f i)
    by_test true rest h = ap (λ o. or_refuse (undefined name) (option_map f o)) h
    by_test false rest h = rest h

  -- ---- groups

  abbrev seen_table : List (List ℕ × ℕ) → TallValue
  seen_table t = tall_table (each_named f t)

  pub with_data : (at : At) (t : List (List ℕ × ℕ)) (key value : List ℕ) (m : Method) → m ≢ method.Count
      → groups_value at (seen_table t) key m value ≡ and_then (tall_variable (each_named f t) key) (λ g. and_then (tall_variable (each_named f t) value) (λ v. summary_table (summary_names m key value) (group_columns at m (g ∷ v ∷ []))))
  with_data at t key value method.Count h = absurd (h refl)
  with_data at t key value method.Sum h = refl
  with_data at t key value method.SumNative h = refl
  with_data at t key value method.Min h = refl
  with_data at t key value method.Max h = refl
  with_data at t key value method.Nnz h = refl
  with_data at t key value method.Nummissing h = refl

  summary_made : (vs : List Vertex) (at : At) (m : Method) (args : List ℕ) (names : List (List ℕ)) → are_distinct names ≡ true → IsMeaning columns (vs ++ for_parts at m args) f
      → summary_table names (group_columns at m (map f args)) ≡ Ok (tall_table (each_named f (from_place (length vs) names (length (parts_of m)))))
  summary_made vs at m args names apart solves =
      let ns = range_with_len (length vs) (length (parts_of m)) in
      ap (summary_table names) (parts_made at m args (parts_of m) vs (length vs) refl solves)
      ∙ ap (λ (b : Bool). table_if b (paired names (map f ns))) apart
      ∙ ap (λ t. table_ok t) (named_so names ns) where
        table_ok : List (List ℕ × Tall) → Result TallValue Refusal
        table_ok t = Ok (tall_table t)

        table_if : Bool → List (List ℕ × Tall) → Result TallValue Refusal
        table_if b t = if b then Ok (tall_table t) else Err bad_argument

  -- ---- applications

  pub application_is : (vs ws : List Vertex) (at : At) (a : Application PlacedValue) (w : PlacedValue) → AddsFor at (length vs) a ws w → IsMeaning columns (vs ++ ws) f
      → application_value at (application_by f a) ≡ Ok (value_by f w)
  unfolding application_value
  application_is vs _ at _ _ (added.of_unary o i) solves = alone vs at (op.unary o) (i ∷ []) solves
  application_is vs _ at _ _ (added.of_reduction r i) solves = alone vs at (op.reduce r) (i ∷ []) solves
  application_is vs _ at _ _ (added.of_height x t) solves = alone vs at (op.reduce Height) (x.1 ∷ []) solves
  application_is vs _ at _ _ (added.of_scan s i) solves = alone vs at (op.scan s) (i ∷ []) solves
  application_is vs _ at _ _ (added.of_head k i) solves = alone vs at (op.head k) (i ∷ []) solves
  application_is vs _ at _ _ (added.of_tail k i) solves = alone vs at (op.tail k) (i ∷ []) solves
  application_is vs _ at _ _ (added.of_head_rows k t) solves =
      ap table_answer (table_made at (op.head k) (λ i. i ∷ []) (λ x. computed at (op.head k) (x ∷ [])) (λ i. refl) t vs (length vs) refl solves)
  application_is vs _ at _ _ (added.of_tail_rows k t) solves =
      ap table_answer (table_made at (op.tail k) (λ i. i ∷ []) (λ x. computed at (op.tail k) (x ∷ [])) (λ i. refl) t vs (length vs) refl solves)
  application_is vs _ at _ _ (added.of_distinct i) solves = alone vs at op.distinct (i ∷ []) solves
  application_is vs _ at _ _ (added.of_counts t key value g found apart) solves =
      ap (λ r. and_then r (λ x. summary_table (summary_names method.Count key value) (group_columns at method.Count (x ∷ [])))) (named_in t key g found)
      ∙ summary_made vs at method.Count (g ∷ []) (summary_names method.Count key value) apart solves
  application_is vs _ at _ _ (added.of_groups t key value m g v other found data' apart) solves =
      with_data at t key value m other
      ∙ ap (λ r. and_then r (λ x. and_then (tall_variable (each_named f t) value) (λ y. summary_table (summary_names m key value) (group_columns at m (x ∷ y ∷ []))))) (named_in t key g found)
      ∙ ap (λ r. and_then r (λ y. summary_table (summary_names m key value) (group_columns at m (f g ∷ y ∷ [])))) (named_in t value v data')
      ∙ summary_made vs at m (g ∷ v ∷ []) (summary_names m key value) apart solves
  application_is vs _ at _ _ (added.of_binary o i j) solves = alone vs at (op.binary o) (i ∷ j ∷ []) solves
  application_is vs _ at _ _ (added.of_left_scalar o c j) solves =
      let w = vertex at (op.constant c) [] in
      let v = vertex at (op.binary o) (length vs ∷ j ∷ []) in
      ap (λ r. and_then r (λ x. deferring at (op.binary o) (x ∷ f j ∷ []))) (next_value vs at (op.constant c) [] (v ∷ []) solves)
      ∙ alone (vs ++ w ∷ []) at (op.binary o) (length vs ∷ j ∷ []) (one_further vs w (v ∷ []) solves)
      ∙ ap (λ n. Ok (deferred (f n))) (one_longer vs w)
  application_is vs _ at _ _ (added.of_right_scalar o i c) solves =
      let w = vertex at (op.constant c) [] in
      let v = vertex at (op.binary o) (i ∷ length vs ∷ []) in
      ap (λ r. and_then r (λ y. deferring at (op.binary o) (f i ∷ y ∷ []))) (next_value vs at (op.constant c) [] (v ∷ []) solves)
      ∙ alone (vs ++ w ∷ []) at (op.binary o) (i ∷ length vs ∷ []) (one_further vs w (v ∷ []) solves)
      ∙ ap (λ n. Ok (deferred (f n))) (one_longer vs w)

  pub index_is : (vs ws : List Vertex) (at : At) (v : PlacedValue) (i : Index PlacedValue) (w : PlacedValue) → AddsForIndex at (length vs) v i ws w → IsMeaning columns (vs ++ ws) f
      → index_value_of at (value_by f v) (Some (index_by (value_by f) i)) ≡ Ok (value_by f w)
  index_is vs _ at _ _ _ (added.of_column i mask) solves = alone vs at op.filter (i ∷ mask ∷ []) solves
  index_is vs _ at _ _ _ (added.of_table t mask) solves =
      ap table_answer (table_made at op.filter (λ i. i ∷ mask ∷ []) (λ x. computed at op.filter (x ∷ f mask ∷ [])) (λ i. refl) t vs (length vs) refl solves)

-- ---- forms

place_of_name : (n : ℕ) (t : List (List ℕ × ℕ)) (name : List ℕ) (i : ℕ) → All (IsPlace n) t → named t name ≡ Some i → i < n
place_of_name n [] name i h e = absurd cc
place_of_name n (x ∷ t) name i h e = by_test (bytes_eq x.0 name) (λ k. place_of_name n t name i (All-tail (IsPlace n) x t h) k) e where
  inside : (j k : ℕ) → ◌≡◌ {A = Option ℕ} (Some j) (Some k) → j ≡ k
  inside j k e = cc

  by_test : (b : Bool) → (named t name ≡ Some i → i < n) → (if b then Some x.1 else named t name) ≡ Some i → i < n
  by_test true rest e = subst (λ j. j < n) (inside x.1 i e) (All-head (IsPlace n) x t h)
  by_test false rest e = rest e

singles_below : (n : ℕ) (t : List (List ℕ × ℕ)) → All (IsPlace n) t → AllOf (AllBelow n) (map (λ (x : List ℕ × ℕ). x.1 ∷ []) t)
singles_below n [] h = tt
singles_below n (x ∷ t) h = ((All-head (IsPlace n) x t h, tt), singles_below n t (All-tail (IsPlace n) x t h))

masked_below : (n : ℕ) (t : List (List ℕ × ℕ)) (mask : ℕ) → All (IsPlace n) t → mask < n → AllOf (AllBelow n) (map (λ (x : List ℕ × ℕ). x.1 ∷ mask ∷ []) t)
masked_below n [] mask h l = tt
masked_below n (x ∷ t) mask h l = ((All-head (IsPlace n) x t h, (l, tt)), masked_below n t mask (All-tail (IsPlace n) x t h) l)

next_below : (n : ℕ) → n < n + 1
next_below n = omega arith

still_below : (n i : ℕ) → i < n → i < n + 1
still_below n i h = omega (arith, h)

pub application_adds : (at : At) (n : ℕ) (a : Application PlacedValue) (ws : List Vertex) (w : PlacedValue) → AddsFor at n a ws w → AreInGraph n a → Adds at n ws
application_adds at n _ _ _ (added.of_unary o i) h = one_operation (op.unary o) (i ∷ []) (h, tt)
application_adds at n _ _ _ (added.of_reduction r i) h = one_operation (op.reduce r) (i ∷ []) (h, tt)
application_adds at n _ _ _ (added.of_height x t) h = one_operation (op.reduce Height) (x.1 ∷ []) (All-head (IsPlace n) x t h, tt)
application_adds at n _ _ _ (added.of_scan s i) h = one_operation (op.scan s) (i ∷ []) (h, tt)
application_adds at n _ _ _ (added.of_head k i) h = one_operation (op.head k) (i ∷ []) (h, tt)
application_adds at n _ _ _ (added.of_tail k i) h = one_operation (op.tail k) (i ∷ []) (h, tt)
application_adds at n _ _ _ (added.of_head_rows k t) h = forms.over_columns (op.head k) _ refl (singles_below n t h)
application_adds at n _ _ _ (added.of_tail_rows k t) h = forms.over_columns (op.tail k) _ refl (singles_below n t h)
application_adds at n _ _ _ (added.of_distinct i) h = one_operation op.distinct (i ∷ []) (h, tt)
application_adds at n _ _ _ (added.of_counts t key value g found apart) h = of_groups method.Count (parts_of method.Count) (g ∷ []) (place_of_name n t key g h found, tt)
application_adds at n _ _ _ (added.of_groups t key value m g v other found data' apart) h =
    of_groups m (parts_of m) (g ∷ v ∷ []) (place_of_name n t key g h found, (place_of_name n t value v h data', tt))
application_adds at n _ _ _ (added.of_binary o i j) h = one_operation (op.binary o) (i ∷ j ∷ []) (h.0, (h.1, tt))
application_adds at n _ _ _ (added.of_left_scalar o c j) h = behind_a_scalar c (op.binary o) (n ∷ j ∷ []) (next_below n, (still_below n j h.1, tt))
application_adds at n _ _ _ (added.of_right_scalar o i c) h = behind_a_scalar c (op.binary o) (i ∷ n ∷ []) (still_below n i h.0, (next_below n, tt))

pub index_adds : (at : At) (n : ℕ) (v : PlacedValue) (i : Index PlacedValue) (ws : List Vertex) (w : PlacedValue) → AddsForIndex at n v i ws w → IsInGraph n v → IndexIsInGraph n i → Adds at n ws
index_adds at n _ _ _ _ (added.of_column i mask) h k = one_operation op.filter (i ∷ mask ∷ []) (h, (k, tt))
index_adds at n _ _ _ _ (added.of_table t mask) h k = forms.over_columns op.filter _ refl (masked_below n t mask h k)
