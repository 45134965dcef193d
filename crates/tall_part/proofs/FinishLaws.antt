-- What parts come to is the outcome of the operation over all rows.
use Rattle.std.specs.Prelude.{◌≡◌, ◌+◌, ◌≤◌, ◌<◌, ◌^◌, ℕ, zero, suc, Bool, true, false, IfErr, IfOk, Option, None, Some, Result, Ok, Err, List, [], ◌∷◌, ◌++◌, get_or, length, map, slice_get}
use Rattle.std.proofs.Common.{ap, sym, subst, ◌∙◌, refl, arith}
use Rattle.tall_clamp.specs.declared.faults.FinishFault.{FinishFault}
use Rattle.tall_value.specs.declared.class.Class.{Class}
use Rattle.tall_value.specs.declared.faults.ClassFault.{ClassFault}
use Rattle.tall_value.specs.declared.faults.FaultKind.{FaultKind}
use Rattle.tall_value.specs.declared.functions.Reduction.{Reduction}
use Rattle.tall_value.specs.Cells.{Seen}
use Rattle.tall_value.specs.Classes.{kind_of}
use Rattle.tall_value.specs.Columns.{cells, numbered}
use Rattle.tall_value.specs.Distinct.{distinct}
use Rattle.tall_value.specs.FunctionClasses.{reduction_class}
use Rattle.tall_value.specs.Reductions.{reduced}
use Rattle.tall_dense.specs.Columns.{SeenColumn}
use Rattle.tall_fold.specs.FirstAndLast.{SeenEnds, column_of, ends_of}
use Rattle.tall_fold.specs.Summaries.{Finishes, IsSummary, SeenSummary}
use Rattle.tall_group.specs.UniqueFolds.{IsUniqueOf, class_of_unique}
use Rattle.tall_group.specs.declared.unique.UniqueFold.{UniqueFold}
use Rattle.tall_semantics.specs.Faults.{At}
use Rattle.tall_semantics.specs.Outcomes.{alone, rows}
use Rattle.tall_blocks.specs.Carries.{Rows}
use Rattle.tall_part.specs.declared.operation.EndOperation.{EndOperation}
use Rattle.tall_part.specs.declared.operation.EndOperation.TheVariants as end
use Rattle.tall_part.specs.declared.part.EndPart.TheVariants as part
use Rattle.tall_part.specs.declared.results.EndColumn.{EndColumn}
use Rattle.tall_part.specs.declared.results.EndFault.{EndFault}
use Rattle.tall_part.specs.Operations.{column_count, outcome_of_rows}
use Rattle.tall_part.specs.Parts.{IsPart, IsPartOf, numbers}
use Rattle.tall_part.specs.Results.{AreOutcomes, HaveClasses, IsOutcome, class_of_column}
use Rattle.tall_part.specs.Finished.{IsColumnOf, numbers_from}

-- ---- numbers from 1

numbers_more : (n k : ℕ) → numbers_from n (suc k) ≡ numbers_from n k ++ (n + k) ∷ []
numbers_more n zero = ap (λ (m : ℕ). m ∷ []) (let e : n ≡ n + 0 = omega arith in e)
numbers_more n (suc k) = ap (λ (l : List ℕ). n ∷ l) (numbers_more (n + 1) k ∙ ap (λ (m : ℕ). numbers_from (n + 1) k ++ m ∷ []) (let e : (n + 1) + k ≡ n + suc k = omega arith in e))

pub one_number_more : (k : ℕ) → numbers_from 1 k ++ (k + 1) ∷ [] ≡ numbers_from 1 (k + 1)
one_number_more k =
    ap (λ (m : ℕ). numbers_from 1 k ++ m ∷ []) (let e : k + 1 ≡ 1 + k = omega arith in e)
    ∙ sym (numbers_more 1 k) ∙ ap (numbers_from 1) (let e : suc k ≡ k + 1 = omega arith in e)

numbers_numbered : (n : ℕ) (cs : List Seen) → numbers (numbered n cs) ≡ numbers_from n (length cs)
numbers_numbered n [] = refl
numbers_numbered n (c ∷ cs) = ap (λ (l : List ℕ). n ∷ l) (numbers_numbered (n + 1) cs)

pub cells_numbered : (n : ℕ) (cs : List Seen) → cells (numbered n cs) ≡ cs
cells_numbered n [] = refl
cells_numbered n (c ∷ cs) = ap (λ (l : List Seen). c ∷ l) (cells_numbered (n + 1) cs)

pub numbered_column : (x : EndColumn) (column : SeenColumn) (a : Class) (cs : List Seen) → x.column ≡ column → column.class ≡ a → column.cells ≡ cs → x.rows.items ≡ numbers_from 1 (length column.cells) → IsColumnOf a cs x
numbered_column x column a cs e f g h =
    record {
      class_is = ap (λ (c : SeenColumn). c.class) e ∙ f;
      cells = ap (λ (c : SeenColumn). c.cells) e ∙ g;
      rows = h ∙ ap (λ (l : List Seen). numbers_from 1 (length l)) g;
    }

-- ---- one column

pub one_found : {V E : Type 0} (items : V → List EndColumn) (r : Result V E) (x : EndColumn) (P : EndColumn → Type 0) → IfOk r (λ v. items v ≡ x ∷ []) → P x → IfOk r (λ v. (c : EndColumn) × (items v ≡ c ∷ []) × P c)
one_found items (Ok v) x P e h = (x, e, h)
one_found items (Err y) x P e h = tt

pub both_found : {V E : Type 0} (items : V → List EndColumn) (r : Result V E) (x : EndColumn) (P Q : EndColumn → Type 0) → IfOk r (λ v. items v ≡ x ∷ []) → P x → Q x → IfOk r (λ v. (c : EndColumn) × (items v ≡ c ∷ []) × P c × Q c)
both_found items (Ok v) x P Q e g h = (x, e, g, h)
both_found items (Err y) x P Q e g h = tt

pub first_got : (xs : List EndColumn) (c : EndColumn) (n : ℕ) → xs ≡ c ∷ [] → n < 1 → slice_get xs n ≡ Some c
first_got xs c zero e h = ap (λ (l : List EndColumn). slice_get l 0) e
first_got xs c (suc n) e h = absurd (omega (arith, h))

abbrev pub some_column : EndColumn → Option EndColumn
some_column c = Some c

pub same_column : (c d : EndColumn) → some_column c ≡ some_column d → c ≡ d
same_column c d h = ap (λ o. elim o [ Some x ↦ x | None ↦ c ]) h

one_class : (op : EndOperation) (a b : Class) (xs : List EndColumn) (c : EndColumn) → column_count op ≡ 1 → xs ≡ c ∷ [] → ((n : ℕ) → class_of_column op n a b ≡ Ok c.column.class) → HaveClasses op a b xs
one_class op a b xs c one e h = λ n l. (c, first_got xs c n e (omega (arith, l, one)), h n)

one_outcome : (at : At) (op : EndOperation) (a b : Class) (rs ss : Rows) (xs : List EndColumn) (c : EndColumn) → column_count op ≡ 1 → xs ≡ c ∷ []
    → ((n : ℕ) → IsOutcome (outcome_of_rows at op n a b rs ss) c.column c.rows.items) → AreOutcomes at op a b rs ss xs
one_outcome at op a b rs ss xs c one e h =
    λ n d l got. subst (λ (x : EndColumn). IsOutcome (outcome_of_rows at op n a b rs ss) x.column x.rows.items) (same_column c d (sym (first_got xs c n e (omega (arith, l, one))) ∙ got)) (h n)

-- ---- reductions

abbrev pub Tells : SeenSummary → Result SeenColumn FinishFault → Type 0
Tells s found = (op : Reduction) (a : Class) (cs : List Seen) → IsSummary op a cs s → Finishes (reduced op (kind_of a) cs) op a found

scalar_is : (at : At) (x : Result Seen FaultKind) (r : Reduction) (a : Class) (c : EndColumn) (found : Result SeenColumn FinishFault) → found ≡ Ok c.column → Finishes x r a found → c.rows.items ≡ []
    → IsOutcome (alone at x) c.column c.rows.items × (reduction_class r a ≡ Ok c.column.class)
scalar_is at x r a c found e h none =
    let w : Finishes x r a (Ok c.column) = subst (λ (f : Result SeenColumn FinishFault). Finishes x r a f) e h in
    (subst (λ (y : Result Seen FaultKind). IsOutcome (alone at y) c.column c.rows.items) (sym w.1) (w.2, none), w.3)

pub scalar_classes : {V : Type 0} (items : V → List EndColumn) (r : Result V EndFault) (op : EndOperation) (a b : Class) (n : ℕ) (s : SeenSummary) (found : Result SeenColumn FinishFault) → IsPart op a b n (part.Summary s) → Tells s found
    → IfOk r (λ v. (c : EndColumn) × (items v ≡ c ∷ []) × (found ≡ Ok c.column) × (c.rows.items ≡ [])) → IfOk r (λ v. HaveClasses op a b (items v))
scalar_classes items (Err e) op a b n s found p h w = tt
scalar_classes items (Ok v) (end.Reduce r) a b n s found p h w =
    one_class (end.Reduce r) a b (items v) w.0 refl w.1 (λ m. (scalar_is (record { number = 0; line = 0 }) (reduced r (kind_of a) (cells p.0)) r a w.0 found w.2 (h r a (cells p.0) p.2) w.3).1)
scalar_classes items (Ok v) (end.Head k) a b n s found p h w = absurd p.2
scalar_classes items (Ok v) (end.Tail k) a b n s found p h w = absurd p.2
scalar_classes items (Ok v) end.Distinct a b n s found p h w = absurd p.2
scalar_classes items (Ok v) (end.Group m) a b n s found p h w = absurd p.2

-- ---- the first and the last rows

abbrev ends_at : Bool → ℕ → Class → Rows → SeenEnds
ends_at last most a rs = record { last = last; most = most; class = a; rows = ends_of last most rs }

ends_class : (last : Bool) (most : ℕ) (a : Class) (rs : Rows) (e : SeenEnds) (c : EndColumn) → e ≡ ends_at last most a rs → c.column ≡ column_of e.class e.rows → Rattle.std.specs.Prelude.◌≡◌ {A = Result Class ClassFault} (Ok a) (Ok c.column.class)
ends_class last most a rs e c h w = ap Ok (sym (ap (λ (k : SeenColumn). k.class) w ∙ ap (λ (s : SeenEnds). s.class) h))

pub rows_classes : {V : Type 0} (items : V → List EndColumn) (r : Result V EndFault) (op : EndOperation) (a b : Class) (n : ℕ) (e : SeenEnds) → IsPart op a b n (part.Rows e)
    → IfOk r (λ v. (c : EndColumn) × (items v ≡ c ∷ []) × (c.column ≡ column_of e.class e.rows) × (c.rows.items ≡ numbers e.rows)) → IfOk r (λ v. HaveClasses op a b (items v))
rows_classes items (Err x) op a b n e p w = tt
rows_classes items (Ok v) (end.Head k) a b n e p w = one_class (end.Head k) a b (items v) w.0 refl w.1 (λ m. ends_class false k a p.0 e w.0 p.2 w.2)
rows_classes items (Ok v) (end.Tail k) a b n e p w = one_class (end.Tail k) a b (items v) w.0 refl w.1 (λ m. ends_class true k a p.0 e w.0 p.2 w.2)
rows_classes items (Ok v) (end.Reduce f) a b n e p w = absurd p.2
rows_classes items (Ok v) end.Distinct a b n e p w = absurd p.2
rows_classes items (Ok v) (end.Group m) a b n e p w = absurd p.2

-- ---- distinct cells

pub distinct_classes : {V : Type 0} (items : V → List EndColumn) (r : Result V EndFault) (op : EndOperation) (a b : Class) (n : ℕ) (u : UniqueFold) → IsPart op a b n (part.Distinct u)
    → ((cs : List Seen) → IsUniqueOf u cs → IfOk r (λ v. (c : EndColumn) × (items v ≡ c ∷ []) × IsColumnOf (class_of_unique u) (distinct cs) c)) → IfOk r (λ v. HaveClasses op a b (items v))
distinct_classes items (Err x) op a b n u p h = tt
distinct_classes items (Ok v) end.Distinct a b n u p h =
    let w = h (cells p.0) p.2.1 in
    one_class end.Distinct a b (items v) w.0 refl w.1 (λ m. ap Ok (sym (w.2.class_is ∙ p.2.0)))
distinct_classes items (Ok v) (end.Reduce f) a b n u p h = absurd p.2
distinct_classes items (Ok v) (end.Head k) a b n u p h = absurd p.2
distinct_classes items (Ok v) (end.Tail k) a b n u p h = absurd p.2
distinct_classes items (Ok v) (end.Group m) a b n u p h = absurd p.2

pub numbered_outcome : (cs : List Seen) (column : SeenColumn) (ns : List ℕ) → column.cells ≡ cs → ns ≡ numbers_from 1 (length cs) → IsOutcome (rows (numbered 1 cs)) column ns
numbered_outcome cs column ns e f = (e ∙ sym (cells_numbered 1 cs), f ∙ sym (numbers_numbered 1 cs))

pub distinct_outcomes : {V : Type 0} (items : V → List EndColumn) (r : Result V EndFault) (at : At) (op : EndOperation) (a b : Class) (rs ss : Rows) (u : UniqueFold) → IsPartOf op a b rs ss (part.Distinct u)
    → ((cs : List Seen) → IsUniqueOf u cs → IfOk r (λ v. (c : EndColumn) × (items v ≡ c ∷ []) × IsColumnOf (class_of_unique u) (distinct cs) c)) → IfOk r (λ v. AreOutcomes at op a b rs ss (items v))
distinct_outcomes items (Err x) at op a b rs ss u p h = tt
distinct_outcomes items (Ok v) at end.Distinct a b rs ss u p h =
    let w = h (cells rs) p.1 in
    one_outcome at end.Distinct a b rs ss (items v) w.0 refl w.1 (λ m. numbered_outcome (distinct (cells rs)) w.0.column w.0.rows.items w.2.cells w.2.rows)
distinct_outcomes items (Ok v) at (end.Reduce f) a b rs ss u p h = absurd p
distinct_outcomes items (Ok v) at (end.Head k) a b rs ss u p h = absurd p
distinct_outcomes items (Ok v) at (end.Tail k) a b rs ss u p h = absurd p
distinct_outcomes items (Ok v) at (end.Group m) a b rs ss u p h = absurd p
