-- The values of a gather are those of the definitions.
use Rattle.std.specs.Prelude.{◌≡◌, ◌<◌, ◌&&◌, ℕ, zero, suc, Bool, true, false, None, Some, Result, Ok, Err, List, [], ◌∷◌, ◌++◌, length, map, slice_get}
use Rattle.std.proofs.Common.{refl, sym, ap, subst, ◌∙◌, arith, inl, inr}
use Rattle.std.specs.List.{All, flat_map, list_all}
use Rattle.std.proofs.lemmas.List.{map-append}
use Rattle.std.proofs.lemmas.List.Elements.{All-head, All-tail}
use Rattle.tall_outside.specs.Shelf.{Files}
use Rattle.tall_value.specs.declared.class.Class.{Class}
use Rattle.tall_column.specs.Columns.{SeenColumn}
use Rattle.tall_semantics.specs.Deferred.{AllBelow, IsAmong, IsMeaning, Vertex, fault_in, least_in}
use Rattle.tall_semantics.specs.Faults.{least_fault}
use Rattle.tall_semantics.specs.Outcomes.{Outcome, rows, scalar, fault, cells_in, fault_of}
use Rattle.tall_semantics.specs.RowsOfSpaces.{Fits}
use Rattle.tall_semantics.specs.Shapes.{Shape}
use Rattle.tall_semantics.specs.ShapesInOrder.{IsMade, shape_at}
use Rattle.tall_semantics.specs.Spaces.{is_single}
use Rattle.tall_semantics.specs.Talls.{Columns, Tall, outcomes, shapes}
use Rattle.tall_semantics.proofs.FaultLaws.{none_of_two}
use Rattle.tall_semantics.proofs.OriginLaws.{below_among}
use Rattle.tall_semantics.proofs.ShapesInOrderLaws.{made_ordered, value_shape}
use Rattle.tall_semantics.proofs.SpaceLaws.{value_fits}
use Rattle.tall_stored.specs.StoredColumns.{AreStored, Store, rows_of_stores}
use Rattle.tall_stored.proofs.StoredLaws.{are_columns}
use Rattle.tall_local.specs.Lists.{ahead, each_of}
use Rattle.tall_local.specs.Memory as local
use Rattle.tall_local.specs.Memory.{Memory}
use Rattle.tall_local.specs.Names.{each_named}
use Rattle.tall_local.specs.Refusals.{Refusal, bad_class}
use Rattle.tall_local.specs.Values.{in_memory}
use Rattle.tall_memory.specs.declared.values.MemoryValue.{MemoryValue}
use Rattle.tall_memory.specs.declared.values.MemoryValue.TheVariants as memory
use Rattle.tall_column.specs.declared.table.Value.TheVariants as inside
use Rattle.tall_memory.specs.Values.{value_seen}
use Rattle.tall_deferred.specs.declared.values.ScriptValue.{ScriptValue}
use Rattle.tall_deferred.specs.declared.values.ScriptValue.TheVariants as kept
use Rattle.tall_deferred.specs.declared.values.Variable.{Variable}
use Rattle.tall_deferred.specs.Values.{IsValue, IsVariable, shared_seen, value_at, variables_at}
use Rattle.tall_script.specs.Gathers.{column_in, column_of_tall, gathered_value, memory_of_outcome, talls_in}
use Rattle.tall_gather.specs.Gathered.{column_of}
use Rattle.tall_environment.specs.Expressions.{values_at}
use Rattle.tall_script_calls.specs.GatheredValues.{is_no_list, may_gather, memories_by, memory_by, node_in, nodes_in, root_memory, single_in, variable_by}

abbrev pub ok_memory : Memory → Result Memory Refusal
ok_memory m = Ok m

abbrev pub ok_memories : List Memory → Result (List Memory) Refusal
ok_memories ms = Ok ms

abbrev pub bad_memory : Result Memory Refusal
bad_memory = Err bad_class

abbrev pub bad_memories : Result (List Memory) Refusal
bad_memories = Err bad_class

-- ---- classes

-- what is refused
refused_memory : (v : MemoryValue) → is_no_list v ≡ false → gathered_value (in_memory (value_seen v)) ≡ bad_memory
refused_memory (memory.Value v) h = absurd (cc)
refused_memory (memory.Texts ts) h = refl

refused_value : (f : ℕ → Tall) (v : ScriptValue) → may_gather v ≡ false → gathered_value (value_at f v) ≡ bad_memory
refused_value f (kept.Datastore place) h = refl
refused_value f (kept.Table xs) h = absurd (cc)
refused_value f (kept.Tall n) h = absurd (cc)
refused_value f (kept.Memory v) h = refused_memory v.value h

-- what is accepted
pub gathered : (ℕ → Tall) → ScriptValue → Memory
gathered f (kept.Datastore place) = local.texts []
gathered f (kept.Table xs) = local.table (each_named column_of_tall (variables_at f xs.items))
gathered f (kept.Tall n) = memory_of_outcome (f n).shape.class (f n).outcome
gathered f (kept.Memory v) = shared_seen v

accepted_memory : (v : MemoryValue) → is_no_list v ≡ true → gathered_value (in_memory (value_seen v)) ≡ ok_memory (value_seen v)
accepted_memory (memory.Value (inside.Scalar c)) h = refl
accepted_memory (memory.Value (inside.Column c)) h = refl
accepted_memory (memory.Value (inside.Table t)) h = refl
accepted_memory (memory.Texts ts) h = absurd (cc)

accepted_value : (f : ℕ → Tall) (v : ScriptValue) → may_gather v ≡ true → gathered_value (value_at f v) ≡ ok_memory (gathered f v)
unfolding gathered
accepted_value f (kept.Datastore place) h = absurd (cc)
accepted_value f (kept.Table xs) h = refl
accepted_value f (kept.Tall n) h = refl
accepted_value f (kept.Memory v) h = accepted_memory v.value h

both_true : (a b : Bool) → (a && b) ≡ true → (a ≡ true) × (b ≡ true)
both_true true b h = (refl, h)
both_true false b h = absurd (cc)

in_front_ok : (m : Memory) (ms : List Memory) (r : Result Memory Refusal) (rest : Result (List Memory) Refusal) → r ≡ ok_memory m → rest ≡ ok_memories ms
    → ahead r rest ≡ ok_memories (m ∷ ms)
in_front_ok m ms r rest e h = ap (λ x. ahead x rest) e ∙ ap (λ x. ahead (ok_memory m) x) h

pub accepted_all : (f : ℕ → Tall) (vs : List ScriptValue) → list_all may_gather vs ≡ true → each_of gathered_value (values_at f vs) ≡ ok_memories (map (gathered f) vs)
accepted_all f [] h = refl
accepted_all f (v ∷ vs) h =
    let b = both_true (may_gather v) (list_all may_gather vs) h in
    in_front_ok (gathered f v) (map (gathered f) vs) (gathered_value (value_at f v)) (each_of gathered_value (values_at f vs)) (accepted_value f v b.0) (accepted_all f vs b.1)

-- a value before the refused one is accepted
either_way : (r : Result Memory Refusal) (m : Memory) → r ≡ ok_memory m → ahead r bad_memories ≡ bad_memories
either_way r m e = ap (λ x. ahead x bad_memories) e

pub refused_all : (f : ℕ → Tall) (vs : List ScriptValue) → list_all may_gather vs ≡ false → each_of gathered_value (values_at f vs) ≡ bad_memories
refused_all f [] h = absurd (cc)
refused_all f (v ∷ vs) h = by (may_gather v) refl h (refused_all f vs)
  where
    by : (b : Bool) → may_gather v ≡ b → (b && list_all may_gather vs) ≡ false → (list_all may_gather vs ≡ false → each_of gathered_value (values_at f vs) ≡ bad_memories)
        → each_of gathered_value (values_at f (v ∷ vs)) ≡ bad_memories
    by false is k go = ap (λ x. ahead x (each_of gathered_value (values_at f vs))) (refused_value f v is)
    by true is k go =
        ap (λ x. ahead (gathered_value (value_at f v)) x) (go k) ∙ either_way (gathered_value (value_at f v)) (gathered f v) (accepted_value f v is)

-- ---- roots

pub roots_below : (n : ℕ) (vs : List ScriptValue) → All (IsValue n) vs → AllBelow n (flat_map nodes_in vs)
roots_below n [] h = tt
roots_below n (v ∷ vs) h = both (nodes_in v) (flat_map nodes_in vs) (of_value v (All-head (IsValue n) v vs h)) (roots_below n vs (All-tail (IsValue n) v vs h))
  where
    both : (xs ys : List ℕ) → AllBelow n xs → AllBelow n ys → AllBelow n (xs ++ ys)
    both [] ys a b = b
    both (x ∷ xs) ys a b = (a.0, both xs ys a.1 b)

    of_variables : (xs : List Variable) → All (IsVariable n) xs → AllBelow n (map node_in xs)
    of_variables [] h = tt
    of_variables (x ∷ xs) h = (All-head (IsVariable n) x xs h, of_variables xs (All-tail (IsVariable n) x xs h))

    of_value : (v : ScriptValue) → IsValue n v → AllBelow n (nodes_in v)
    of_value (kept.Datastore place) h = tt
    of_value (kept.Table xs) h = of_variables xs.items h
    of_value (kept.Tall x) h = (h, tt)
    of_value (kept.Memory v) h = tt

nodes_columns : (f : ℕ → Tall) (xs : List Variable) → map column_in (variables_at f xs) ≡ map f (map node_in xs)
nodes_columns f [] = refl
nodes_columns f (x ∷ xs) = ap (λ rest. f x.node ∷ rest) (nodes_columns f xs)

talls_of : (f : ℕ → Tall) (v : ScriptValue) → talls_in (value_at f v) ≡ map f (nodes_in v)
talls_of f (kept.Datastore place) = refl
talls_of f (kept.Table xs) = nodes_columns f xs.items
talls_of f (kept.Tall n) = refl
talls_of f (kept.Memory v) = refl

pub talls_all : (f : ℕ → Tall) (vs : List ScriptValue) → flat_map talls_in (values_at f vs) ≡ map f (flat_map nodes_in vs)
talls_all f [] = refl
talls_all f (v ∷ vs) =
    ap (λ xs. xs ++ flat_map talls_in (values_at f vs)) (talls_of f v)
    ∙ (ap (λ xs. map f (nodes_in v) ++ xs) (talls_all f vs) ∙ sym (map-append f (nodes_in v) (flat_map nodes_in vs)))

-- ---- faults

pub least_of : (f : ℕ → Tall) (roots : List ℕ) → least_fault (map fault_of (outcomes (map f roots))) ≡ least_in f roots
least_of f roots = ap least_fault (each roots)
  where
    each : (xs : List ℕ) → map fault_of (outcomes (map f xs)) ≡ map (fault_in f) xs
    each [] = refl
    each (x ∷ xs) = ap (λ rest. fault_in f x ∷ rest) (each xs)

-- ---- columns

pub columns_are : (f : ℕ → Tall) (roots : List ℕ) (xs : List SeenColumn) → length xs ≡ length roots
    → ((j i : ℕ) (x : SeenColumn) → slice_get roots j ≡ Some i → slice_get xs j ≡ Some x → x ≡ column_of (f i)) → xs ≡ map (λ i. column_of (f i)) roots
columns_are f [] [] l h = refl
columns_are f [] (x ∷ xs) l h = absurd (omega (arith, l))
columns_are f (i ∷ roots) [] l h = absurd (omega (arith, l))
columns_are f (i ∷ roots) (x ∷ xs) l h =
    ap (λ y. y ∷ xs) (h 0 i x refl refl) ∙ ap (λ ys. column_of (f i) ∷ ys) (columns_are f roots xs (omega (arith, l)) (λ j k y e d. h (suc j) k y e d))

-- ---- values

abbrev pub FitsSingle : Bool → Outcome → Type 0
FitsSingle single (rows rs) = single ≡ false
FitsSingle single (scalar c) = single ≡ true
FitsSingle single (fault x) = ⊥

abbrev pub columns_by : (ℕ → Tall) → ℕ → SeenColumn
columns_by f i = column_of (f i)

root_is : (single : Bool) (k : Class) (x : Outcome) → FitsSingle single x → root_memory single (record { class = k; cells = cells_in x }) ≡ memory_of_outcome k x
root_is single k (rows rs) e = ap (λ b. root_memory b (record { class = k; cells = cells_in (rows rs) })) e
root_is single k (scalar c) e = ap (λ b. root_memory b (record { class = k; cells = cells_in (scalar c) })) e
root_is single k (fault x) e = absurd e

variables_are : (f : ℕ → Tall) (xs : List Variable) → map (variable_by (columns_by f)) xs ≡ each_named column_of_tall (variables_at f xs)
variables_are f [] = refl
variables_are f (x ∷ xs) = ap (λ rest. (x.name, columns_by f x.node) ∷ rest) (variables_are f xs)

value_is : (single : ℕ → Bool) (f : ℕ → Tall) (v : ScriptValue) → ((i : ℕ) → IsAmong (nodes_in v) i → FitsSingle (single i) (f i).outcome) → memory_by single (columns_by f) v ≡ gathered f v
unfolding gathered
value_is single f (kept.Datastore place) fit = refl
value_is single f (kept.Table xs) fit = ap local.table (variables_are f xs.items)
value_is single f (kept.Tall n) fit = root_is (single n) (f n).shape.class (f n).outcome (fit n (inl refl))
value_is single f (kept.Memory v) fit = refl

among_front : (xs ys : List ℕ) (i : ℕ) → IsAmong xs i → IsAmong (xs ++ ys) i
among_front [] ys i h = absurd h
among_front (x ∷ xs) ys i (inl e) = inl e
among_front (x ∷ xs) ys i (inr h) = inr (among_front xs ys i h)

among_behind : (xs ys : List ℕ) (i : ℕ) → IsAmong ys i → IsAmong (xs ++ ys) i
among_behind [] ys i h = h
among_behind (x ∷ xs) ys i h = inr (among_behind xs ys i h)

values_are : (single : ℕ → Bool) (f : ℕ → Tall) (vs : List ScriptValue) → ((i : ℕ) → IsAmong (flat_map nodes_in vs) i → FitsSingle (single i) (f i).outcome)
    → memories_by single (columns_by f) vs ≡ map (gathered f) vs
values_are single f [] fit = refl
values_are single f (v ∷ vs) fit =
    ap (λ m. m ∷ memories_by single (columns_by f) vs) (value_is single f v (λ i m. fit i (among_front (nodes_in v) (flat_map nodes_in vs) i m)))
    ∙ ap (λ ms. gathered f v ∷ ms) (values_are single f vs (λ i m. fit i (among_behind (nodes_in v) (flat_map nodes_in vs) i m)))

-- ---- what a solution of the graph tells of the roots

none_each : (f : ℕ → Tall) (roots : List ℕ) → least_in f roots ≡ None → (i : ℕ) → IsAmong roots i → fault_in f i ≡ None
none_each f [] none i m = absurd m
none_each f (r ∷ roots) none i (inl e) = subst (λ n. fault_in f n ≡ None) e (none_of_two (fault_in f r) (least_in f roots) none).0
none_each f (r ∷ roots) none i (inr m) = none_each f roots (none_of_two (fault_in f r) (least_in f roots) none).1 i m

no_fault_fits : (s : Shape) (x : Outcome) → Fits s x → fault_of x ≡ None → FitsSingle (is_single s.space) x
no_fault_fits s (rows rs) h none = h
no_fault_fits s (scalar c) h none = h
no_fault_fits s (fault x) h none = absurd (cc)

get_there : (vs : List Vertex) (i : ℕ) → i < length vs → (v : Vertex) × (slice_get vs i ≡ Some v)
get_there [] i l = absurd (omega (arith, l))
get_there (v ∷ vs) zero l = (v, refl)
get_there (v ∷ vs) (suc i) l = get_there vs i (omega (arith, l))

module _ (files : Files) (list : List Store) (vs : List Vertex) (columns : Columns) (f : ℕ → Tall) (made : IsMade vs) (stored : AreStored files list vs columns) (meaning : IsMeaning columns vs f) (roots : List ℕ) (below : AllBelow (length vs) roots) where
  root_there : (i : ℕ) → IsAmong roots i → (v : Vertex) × (slice_get vs i ≡ Some v)
  root_there i m = get_there vs i (below_among (length vs) roots i below m)

  shapes_each : (xs : List ℕ) → ((i : ℕ) → IsAmong xs i → (f i).shape ≡ shape_at vs i) → shapes (map f xs) ≡ map (shape_at vs) xs
  shapes_each [] h = refl
  shapes_each (x ∷ xs) h = ap (λ s. s ∷ shapes (map f xs)) (h x (inl refl)) ∙ ap (λ ss. shape_at vs x ∷ ss) (shapes_each xs (λ i m. h i (inr m)))

  pub root_shapes : shapes (map f roots) ≡ map (shape_at vs) roots
  root_shapes = shapes_each roots (λ i m. let w = root_there i m in value_shape columns vs f made meaning i w.0 w.1)

  root_fits : least_in f roots ≡ None → (i : ℕ) → IsAmong roots i → FitsSingle (single_in vs i) (f i).outcome
  root_fits none i m =
      let w = root_there i m in
      let free = none_each f roots none i m in
      let fits = value_fits columns (rows_of_stores files list) vs f meaning (made_ordered vs made) (are_columns files list vs columns stored) i w.0 w.1 free in
      subst (λ (s : Shape). FitsSingle (is_single s.space) (f i).outcome) (value_shape columns vs f made meaning i w.0 w.1) (no_fault_fits (f i).shape (f i).outcome fits free)

  pub gathered_are : (values : List ScriptValue) → roots ≡ flat_map nodes_in values → least_in f roots ≡ None → memories_by (single_in vs) (columns_by f) values ≡ map (gathered f) values
  gathered_are values e none = values_are (single_in vs) f values (λ i m. root_fits none i (subst (λ xs. IsAmong xs i) (sym e) m))
