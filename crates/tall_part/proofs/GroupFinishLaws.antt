-- The columns of groups are the outcomes of their parts of a group's operation.
use Rattle.std.specs.Prelude.{◌≡◌, ◌<◌, ℕ, zero, suc, IfOk, Result, Ok, Err, List, [], ◌∷◌, get_or, length, map, slice_get}
use Rattle.std.proofs.Common.{ap, sym, subst, ◌∙◌, refl, arith}
use Rattle.std.proofs.lemmas.List.{length-map}
use Rattle.tall_value.specs.declared.class.Class.{Class}
use Rattle.tall_value.specs.declared.class.Class.TheVariants as class
use Rattle.tall_value.specs.declared.class.Kind.{Kind}
use Rattle.tall_value.specs.declared.class.Kind.TheVariants.{Double}
use Rattle.tall_value.specs.declared.faults.ClassFault.{ClassFault}
use Rattle.tall_value.specs.declared.faults.FaultKind.{FaultKind}
use Rattle.tall_value.specs.declared.functions.Method.{Method}
use Rattle.tall_value.specs.declared.functions.Method.TheVariants as method
use Rattle.tall_value.specs.Cells.{Seen}
use Rattle.tall_value.specs.Classes.{kind_of}
use Rattle.tall_value.specs.Columns.{cells, numbered}
use Rattle.tall_value.specs.FunctionClasses.{class_results, method_kind, summary_classes}
use Rattle.tall_value.specs.GroupSummary.{of_groups, summary_columns}
use Rattle.tall_dense.specs.Columns.{SeenColumn}
use Rattle.tall_group.specs.Folds.{IsGroupFoldOf, class_of_data, class_of_keys, method_of_groups}
use Rattle.tall_group.specs.declared.fold.GroupFold.{GroupFold}
use Rattle.tall_semantics.specs.Equality.{part_place}
use Rattle.tall_semantics.specs.Faults.{At}
use Rattle.tall_semantics.specs.Outcomes.{Outcome, part_of_group, rows}
use Rattle.tall_semantics.specs.Shapes.{part_class}
use Rattle.tall_blocks.specs.Carries.{Rows}
use Rattle.tall_graph.specs.Vertices.{part_of}
use Rattle.tall_part.specs.declared.operation.EndOperation.{EndOperation}
use Rattle.tall_part.specs.declared.operation.EndOperation.TheVariants as end
use Rattle.tall_part.specs.declared.part.EndPart.TheVariants as part
use Rattle.tall_part.specs.declared.results.EndColumn.{EndColumn}
use Rattle.tall_part.specs.declared.results.EndFault.{EndFault}
use Rattle.tall_part.specs.Operations.{method_columns, outcome_of_rows}
use Rattle.tall_part.specs.Parts.{IsPart, IsPartOf}
use Rattle.tall_part.specs.Results.{AreOutcomes, HaveClasses, IsOutcome}
use Rattle.tall_part.specs.Finished.{AreNumbered, numbers_from}
use Rattle.tall_part.proofs.FinishLaws.{numbered_outcome, same_column, some_column}

-- ---- lists of columns

pub classes_of : (xs : List EndColumn) → map (λ (k : SeenColumn). k.class) (map (λ (c : EndColumn). c.column) xs) ≡ map (λ (c : EndColumn). c.column.class) xs
classes_of [] = refl
classes_of (x ∷ xs) = ap (λ (l : List Class). x.column.class ∷ l) (classes_of xs)

pub cells_of : (xs : List EndColumn) → map (λ (k : SeenColumn). k.cells) (map (λ (c : EndColumn). c.column) xs) ≡ map (λ (c : EndColumn). c.column.cells) xs
cells_of [] = refl
cells_of (x ∷ xs) = ap (λ (l : List (List Seen)). x.column.cells ∷ l) (cells_of xs)

there : (xs : List EndColumn) (n : ℕ) → n < length xs → (c : EndColumn) × (slice_get xs n ≡ some_column c)
there [] n h = absurd (omega (arith, h))
there (x ∷ xs) zero h = (x, refl)
there (x ∷ xs) (suc n) h = there xs n (omega (arith, h))

class_got : (xs : List EndColumn) (n : ℕ) (c : EndColumn) (d : Class) → slice_get xs n ≡ some_column c → get_or (map (λ (x : EndColumn). x.column.class) xs) n d ≡ c.column.class
class_got [] n c d h = absurd cc
class_got (x ∷ xs) zero c d h = ap (λ (y : EndColumn). y.column.class) (same_column x c h)
class_got (x ∷ xs) (suc n) c d h = class_got xs n c d h

rows_got : (xs : List EndColumn) (n : ℕ) (c : EndColumn) → slice_get xs n ≡ some_column c → get_or (map (numbered 1) (map (λ (x : EndColumn). x.column.cells) xs)) n [] ≡ numbered 1 c.column.cells
rows_got [] n c h = absurd cc
rows_got (x ∷ xs) zero c h = ap (λ (y : EndColumn). numbered 1 y.column.cells) (same_column x c h)
rows_got (x ∷ xs) (suc n) c h = rows_got xs n c h

pub numbers_got : (xs : List EndColumn) (n : ℕ) (c : EndColumn) → AreNumbered xs → slice_get xs n ≡ some_column c → c.rows.items ≡ numbers_from 1 (length c.column.cells)
numbers_got [] n c are h = absurd cc
numbers_got (x ∷ xs) zero c are h = subst (λ (y : EndColumn). y.rows.items ≡ numbers_from 1 (length y.column.cells)) (same_column x c h) are.0
numbers_got (x ∷ xs) (suc n) c are h = numbers_got xs n c are.1 h

-- ---- how many columns

at_most_three : (m : Method) (n : ℕ) → n < method_columns m → n < 3
at_most_three method.Count n h = omega (arith, h)
at_most_three method.Sum n h = h
at_most_three method.SumNative n h = h
at_most_three method.Min n h = h
at_most_three method.Max n h = h
at_most_three method.Nnz n h = h
at_most_three method.Nummissing n h = h

place_again : (n : ℕ) → n < 3 → part_place (part_of n) ≡ n
place_again zero h = refl
place_again (suc zero) h = refl
place_again (suc (suc zero)) h = refl
place_again (suc (suc (suc n))) h = absurd (omega (arith, h))

abbrev ok_classes : List Class → Result (List Class) ClassFault
ok_classes cs = Ok cs

list_inside : (cs ds : List Class) → ok_classes cs ≡ ok_classes ds → cs ≡ ds
list_inside cs ds h = ap (λ (r : Result (List Class) ClassFault). elim r [ Ok l ↦ l | Err e ↦ cs ]) h

abbrev pub with_values : Kind → Result Kind ClassFault → Result (List Kind) ClassFault
with_values key r = elim r [ Ok k ↦ Ok (key ∷ Double ∷ k ∷ []) | Err e ↦ Err e ]

three : (key : Kind) (r : Result Kind ClassFault) (cs : List Class) → class_results (with_values key r) ≡ ok_classes cs → length cs ≡ 3
three key (Ok k) cs h = sym (ap length (list_inside _ cs h))
three key (Err e) cs h = absurd cc

class_count : (m : Method) (a b : Class) (cs : List Class) → summary_classes m a b ≡ ok_classes cs → length cs ≡ method_columns m
class_count method.Count a b cs h = sym (ap length (list_inside _ cs h))
class_count method.Sum a b cs h = three (kind_of a) (method_kind method.Sum (kind_of b)) cs h
class_count method.SumNative a b cs h = three (kind_of a) (method_kind method.SumNative (kind_of b)) cs h
class_count method.Min a b cs h = three (kind_of a) (method_kind method.Min (kind_of b)) cs h
class_count method.Max a b cs h = three (kind_of a) (method_kind method.Max (kind_of b)) cs h
class_count method.Nnz a b cs h = three (kind_of a) (method_kind method.Nnz (kind_of b)) cs h
class_count method.Nummissing a b cs h = three (kind_of a) (method_kind method.Nummissing (kind_of b)) cs h

-- ---- what a fold gives

have_classes : (m : Method) (a b : Class) (xs : List EndColumn) → summary_classes m a b ≡ Ok (map (λ (c : EndColumn). c.column.class) xs) → HaveClasses (end.Group m) a b xs
have_classes m a b xs e =
    λ n h.
    let count : length xs ≡ method_columns m = sym (length-map xs (λ (c : EndColumn). c.column.class)) ∙ class_count m a b (map (λ (c : EndColumn). c.column.class) xs) e in
    let w = there xs n (omega (arith, h, count)) in (
      w.0,
      w.1,
      ap (part_class (part_of n)) e
          ∙ ap (λ (i : ℕ). Ok (get_or (map (λ (c : EndColumn). c.column.class) xs) i class.Double)) (place_again n (at_most_three m n h))
          ∙ ap Ok (class_got xs n w.0 class.Double w.1),
    )

pub group_classes : {V : Type 0} (items : V → List EndColumn) (r : Result V EndFault) (op : EndOperation) (a b : Class) (n : ℕ) (g : GroupFold) → IsPart op a b n (part.Groups g)
    → IfOk r (λ v. summary_classes (method_of_groups g) (class_of_keys g) (class_of_data g) ≡ Ok (map (λ (c : EndColumn). c.column.class) (items v))) → IfOk r (λ v. HaveClasses op a b (items v))
group_classes items (Err x) op a b n g p h = tt
group_classes items (Ok v) (end.Group m) a b n g p h =
    have_classes m a b (items v)
    (sym (ap (λ (x : Method). summary_classes x (class_of_keys g) (class_of_data g)) p.2.0 ∙ ap (λ (x : Class). summary_classes m x (class_of_data g)) p.2.1 ∙ ap (summary_classes m a) p.2.2) ∙ h)
group_classes items (Ok v) (end.Reduce f) a b n g p h = absurd p.2
group_classes items (Ok v) (end.Head k) a b n g p h = absurd p.2
group_classes items (Ok v) (end.Tail k) a b n g p h = absurd p.2
group_classes items (Ok v) end.Distinct a b n g p h = absurd p.2

abbrev columns_at : GroupFold → List Seen → List Seen → Result (List (List Seen)) FaultKind
columns_at g ks vs = summary_columns (method_of_groups g) (kind_of (class_of_data g)) ks vs

columns_same : (g : GroupFold) (m : Method) (b : Class) (ks vs : List Seen) → method_of_groups g ≡ m → class_of_data g ≡ b → columns_at g ks vs ≡ summary_columns m (kind_of b) ks vs
columns_same g m b ks vs e f = ap (λ (x : Method). summary_columns x (kind_of (class_of_data g)) ks vs) e ∙ ap (λ (x : Class). summary_columns m (kind_of x) ks vs) f

are_outcomes : (at : At) (m : Method) (a b : Class) (rs ss : Rows) (xs : List EndColumn) → summary_columns m (kind_of b) (cells rs) (cells ss) ≡ Ok (map (λ (c : EndColumn). c.column.cells) xs) → AreNumbered xs → AreOutcomes at (end.Group m) a b rs ss xs
are_outcomes at m a b rs ss xs e are =
    λ n c h got.
    let is : outcome_of_rows at (end.Group m) n a b rs ss ≡ rows (numbered 1 c.column.cells) =
    ap (λ (x : Result (List (List Seen)) FaultKind). part_of_group at (part_of n) (of_groups x)) e
    ∙ ap (λ (i : ℕ). rows (get_or (map (numbered 1) (map (λ (x : EndColumn). x.column.cells) xs)) i [])) (place_again n (at_most_three m n h))
    ∙ ap rows (rows_got xs n c got) in
    subst (λ (x : Outcome). IsOutcome x c.column c.rows.items) (sym is) (numbered_outcome c.column.cells c.column c.rows.items refl (numbers_got xs n c are got))

pub group_outcomes : {V : Type 0} (items : V → List EndColumn) (r : Result V EndFault) (at : At) (op : EndOperation) (a b : Class) (rs ss : Rows) (g : GroupFold) → IsPartOf op a b rs ss (part.Groups g)
    → ((ks vs : List Seen) → IsGroupFoldOf g ks vs → IfOk r (λ v. (summary_columns (method_of_groups g) (kind_of (class_of_data g)) ks vs ≡ Ok (map (λ (c : EndColumn). c.column.cells) (items v))) × AreNumbered (items v)))
    → IfOk r (λ v. AreOutcomes at op a b rs ss (items v))
group_outcomes items (Err x) at op a b rs ss g p h = tt
group_outcomes items (Ok v) at (end.Group m) a b rs ss g p h =
    let w = h (cells rs) (cells ss) p.3 in
    are_outcomes at m a b rs ss (items v) (sym (columns_same g m b (cells rs) (cells ss) p.0 p.2) ∙ w.0) w.1
group_outcomes items (Ok v) at (end.Reduce f) a b rs ss g p h = absurd p
group_outcomes items (Ok v) at (end.Head k) a b rs ss g p h = absurd p
group_outcomes items (Ok v) at (end.Tail k) a b rs ss g p h = absurd p
group_outcomes items (Ok v) at end.Distinct a b rs ss g p h = absurd p
