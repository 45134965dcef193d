-- Rows of columns in memory are numbered from 1, those of a loop from 0.
use Rattle.std.proofs.Common.{◌≡◌, ◌<◌, ◌+◌, ◌∙◌, ℕ, refl, sym, ap, subst, arith, length, eq-eqb}
use Rattle.std.specs.Prelude.{Bool, true, false, ◌==◌, if◌then◌else◌, List, [], ◌∷◌, map, Result, Ok, Err, IfOk}
use Rattle.std.proofs.lemmas.Bool.{eqb-true}
use Rattle.tall_value.specs.declared.class.Class.{Class}
use Rattle.tall_value.specs.declared.class.IntKind.TheVariants.{Int8, Int16, Int32, Int64, Uint8, Uint16, Uint32, Uint64}
use Rattle.tall_value.specs.declared.class.Kind.{Kind}
use Rattle.tall_value.specs.declared.class.Kind.TheVariants.{Integer, Logical, Double, Text}
use Rattle.tall_value.specs.declared.faults.CellFault.{CellFault}
use Rattle.tall_value.specs.declared.faults.ClassFault.{ClassFault}
use Rattle.tall_value.specs.Cells.{Seen, seen_kind}
use Rattle.tall_value.specs.Classes.{class_of, kind_of}
use Rattle.tall_value.specs.declared.operators.Binary.{Binary}
use Rattle.tall_value.specs.declared.operators.Unary.{Unary}
use Rattle.tall_column.specs.Mapped.{scalar_class}
use Rattle.tall_value.specs.ClassTables.{binary_class, binary_kind, class_result, unary_class, unary_kind}
use Rattle.tall_value.specs.Columns.{numbered, cells}
use Rattle.tall_value.specs.Elementwise.{at_row, each_row, each_pair}
use Rattle.tall_column.specs.Columns.{SeenColumn}
use Rattle.tall_dense.specs.Rows.{Answers}
use Rattle.tall_dense.specs.declared.faults.OpFault.{OpFault}
use Rattle.tall_dense.specs.declared.faults.OpFault.TheVariants as op
use Rattle.tall_value.proofs.KindLaws.{kind_again}
use Rattle.tall_local.specs.Memory.{Memory, column}
use Rattle.tall_local.specs.MemoryOperators.{with_kind, scalar_result, column_result, if_equal_lengths}
use Rattle.tall_local.specs.Refusals.{Refusal, bad_size, refused_class}
use Rattle.tall_memory.specs.declared.faults.MemoryFault.{MemoryFault}
use Rattle.tall_memory.specs.declared.values.MemoryValue.{MemoryValue}
use Rattle.tall_memory.specs.Columns.{IsFaultBelow, IsOfColumn, beside_kind}
use Rattle.tall_memory.specs.Values.{Gives}

abbrev Outcome : Type 0
Outcome = Result (List (ℕ × Seen)) (ℕ × CellFault)

-- the rows numbered by one more
abbrev next_row : (ℕ × Seen) → ℕ × Seen
next_row r = (r.0 + 1, r.1)

abbrev pub next_rows : Outcome → Outcome
next_rows (Ok rows) = Ok (map next_row rows)
next_rows (Err e) = Err (e.0 + 1, e.1)

next_at : (n : ℕ) (r : Result Seen CellFault) (rest : Outcome) → at_row (n + 1) r (next_rows rest) ≡ next_rows (at_row n r rest)
next_at n (Ok c) (Ok rows) = refl
next_at n (Ok c) (Err e) = refl
next_at n (Err e) rest = refl

each_next : (f : Seen → Result Seen CellFault) (n : ℕ) (cs : List Seen) → each_row f (numbered (n + 1) cs) ≡ next_rows (each_row f (numbered n cs))
each_next f n [] = refl
each_next f n (c ∷ cs) = ap (at_row (n + 1) (f c)) (each_next f (n + 1) cs) ∙ next_at n (f c) (each_row f (numbered (n + 1) cs))

pub each_from_one : (f : Seen → Result Seen CellFault) (cs : List Seen) → next_rows (each_row f (numbered 0 cs)) ≡ each_row f (numbered 1 cs)
each_from_one f cs = sym (each_next f 0 cs)

pair_next : (f : Seen → Seen → Result Seen CellFault) (n : ℕ) (cs ds : List Seen) → each_pair f (numbered (n + 1) cs) (numbered (n + 1) ds) ≡ next_rows (each_pair f (numbered n cs) (numbered n ds))
pair_next f n [] ds = refl
pair_next f n (c ∷ cs) [] = refl
pair_next f n (c ∷ cs) (d ∷ ds) = ap (at_row (n + 1) (f c d)) (pair_next f (n + 1) cs ds) ∙ next_at n (f c d) (each_pair f (numbered (n + 1) cs) (numbered (n + 1) ds))

pub pair_from_one : (f : Seen → Seen → Result Seen CellFault) (cs ds : List Seen) → next_rows (each_pair f (numbered 0 cs) (numbered 0 ds)) ≡ each_pair f (numbered 1 cs) (numbered 1 ds)
pair_from_one f cs ds = sym (pair_next f 0 cs ds)

-- ---- a fault is at one of the rows

abbrev FaultsBelow : ℕ → Outcome → Type 0
FaultsBelow bound (Ok rows) = Unit {0}
FaultsBelow bound (Err e) = e.0 < bound

below_at : (n bound : ℕ) (r : Result Seen CellFault) (rest : Outcome) → n < bound → FaultsBelow bound rest → FaultsBelow bound (at_row n r rest)
below_at n bound (Ok c) (Ok rows) h below = tt
below_at n bound (Ok c) (Err e) h below = below
below_at n bound (Err e) rest h below = h

each_below : (f : Seen → Result Seen CellFault) (n bound : ℕ) (cs : List Seen) → n + length cs ≡ bound → FaultsBelow bound (each_row f (numbered n cs))
each_below f n bound [] h = tt
each_below f n bound (c ∷ cs) h = below_at n bound (f c) (each_row f (numbered (n + 1) cs)) (omega (arith, h)) (each_below f (n + 1) bound cs (omega (arith, h)))

pair_below : (f : Seen → Seen → Result Seen CellFault) (n bound : ℕ) (cs ds : List Seen) → n + length cs ≡ bound → FaultsBelow bound (each_pair f (numbered n cs) (numbered n ds))
pair_below f n bound [] ds h = tt
pair_below f n bound (c ∷ cs) [] h = tt
pair_below f n bound (c ∷ cs) (d ∷ ds) h = below_at n bound (f c d) (each_pair f (numbered (n + 1) cs) (numbered (n + 1) ds)) (omega (arith, h)) (pair_below f (n + 1) bound cs ds (omega (arith, h)))

is_below : (bound : ℕ) (outcome : Outcome) (computed : Result SeenColumn OpFault) → Answers outcome (λ x. x.cells) computed → FaultsBelow bound outcome → IsFaultBelow bound computed
is_below bound outcome (Ok x) answers below = tt
is_below bound outcome (Err (op.At row e)) answers below = subst (FaultsBelow bound) answers below
is_below bound outcome (Err op.Memory) answers below = tt

pub each_is_below : (f : Seen → Result Seen CellFault) (x : SeenColumn) (rows : ℕ) (computed : Result SeenColumn OpFault) → rows ≡ length x.cells → Answers (each_row f (numbered 0 x.cells)) (λ x. x.cells) computed → IsFaultBelow rows computed
each_is_below f x rows computed h answers = is_below rows (each_row f (numbered 0 x.cells)) computed answers (each_below f 0 rows x.cells (omega (arith, h)))

pub pair_is_below : (f : Seen → Seen → Result Seen CellFault) (x y : SeenColumn) (rows : ℕ) (computed : Result SeenColumn OpFault) → rows ≡ length x.cells → Answers (each_pair f (numbered 0 x.cells) (numbered 0 y.cells)) (λ x. x.cells) computed → IsFaultBelow rows computed
pair_is_below f x y rows computed h answers = is_below rows (each_pair f (numbered 0 x.cells) (numbered 0 y.cells)) computed answers (pair_below f 0 rows x.cells y.cells (omega (arith, h)))

-- ---- the column, or the fault

cells_next : (n : ℕ) (cs : List Seen) → cells (map next_row (numbered n cs)) ≡ cs
cells_next n [] = refl
cells_next n (c ∷ cs) = ap (λ cs. c ∷ cs) (cells_next (n + 1) cs)

made_column : (k : Kind) (x : SeenColumn) → class_of k ≡ x.class → column_result k (next_rows (Ok (numbered 0 x.cells))) ≡ Ok (column x)
made_column k x h =
    ap (λ class. Ok (column (record { class = class; cells = cells (map next_row (numbered 0 x.cells)) }))) h
    ∙ ap (λ cs. Ok (column (record { class = x.class; cells = cs }))) (cells_next 0 x.cells)

class_inside : (k : Kind) (class : Class) → class_result (Ok k) ≡ Ok class → class_of k ≡ class
class_inside k class h = cc

refused_classes : {A : Type 0} (e : ClassFault) (class : Class) → class_result (Err e) ≡ Ok class → A
refused_classes e class h = absurd cc

given : (k : Kind) (outcome : Outcome) (computed : Result SeenColumn OpFault) (r : Result MemoryValue MemoryFault) → IfOk computed (λ x. class_result (Ok k) ≡ Ok x.class)
    → Answers outcome (λ x. x.cells) computed → IsOfColumn computed r → Gives (column_result k (next_rows outcome)) r
given k outcome (Ok x) (Ok v) class answers is = ap (λ o. column_result k (next_rows o)) answers ∙ made_column k x (class_inside k x.class class) ∙ ap Ok (sym is)
given k outcome (Ok x) (Err f) class answers is = absurd is
given k outcome (Err (op.At row e)) (Ok v) class answers is = absurd is
given k outcome (Err (op.At row e)) (Err f) class answers is =
    subst (λ f. Gives (column_result k (next_rows outcome)) (Err f)) (sym is) (ap (λ o. column_result k (next_rows o)) answers)
given k outcome (Err op.Memory) (Ok v) class answers is = absurd is
given k outcome (Err op.Memory) (Err f) class answers is = subst (λ f. Gives (column_result k (next_rows outcome)) (Err f)) (sym is) tt

pub column_is_given : (kinds : Result Kind ClassFault) (class : Class) (outcome from_one : Outcome) (computed : Result SeenColumn OpFault) (r : Result MemoryValue MemoryFault)
    → class_result kinds ≡ Ok class → IfOk computed (λ x. class_result kinds ≡ Ok x.class) → Answers outcome (λ x. x.cells) computed → next_rows outcome ≡ from_one → IsOfColumn computed r
    → Gives (with_kind kinds (λ k. column_result k from_one)) r
column_is_given (Ok k) class outcome from_one computed r accepted classes answers next is = subst (λ o. Gives (column_result k o) r) next (given k outcome computed r classes answers is)
column_is_given (Err e) class outcome from_one computed r accepted classes answers next is = refused_classes e class accepted

pub pair_is_given : (kinds : Result Kind ClassFault) (x y : SeenColumn) (outcome : Outcome) (r : Result MemoryValue MemoryFault) → length y.cells ≡ length x.cells
    → Gives (with_kind kinds (λ k. column_result k outcome)) r → Gives (with_kind kinds (λ k. if_equal_lengths x y (column_result k outcome))) r
pair_is_given kinds x y outcome r same h =
    subst (λ b. Gives (with_kind kinds (λ k. if b then column_result k outcome else Err bad_size)) r) (sym (eq-eqb (length x.cells) (length y.cells) (sym same))) h

not_equal : (b : Bool) → (b ≡ true → ⊥) → b ≡ false
not_equal true h = absurd (h refl)
not_equal false h = refl

pub lengths_differ : (kinds : Result Kind ClassFault) (class : Class) (x y : SeenColumn) (outcome : Outcome) → class_result kinds ≡ Ok class → (length x.cells ≡ length y.cells → ⊥)
    → with_kind kinds (λ k. if_equal_lengths x y (column_result k outcome)) ≡ Err bad_size
lengths_differ (Ok k) class x y outcome accepted differ = ap (λ b. if b then column_result k outcome else Err bad_size) (not_equal (length x.cells == length y.cells) (λ e. differ (eqb-true (length x.cells) (length y.cells) e)))
lengths_differ (Err e) class x y outcome accepted differ = refused_classes e class accepted

pub class_is_refused : (kinds : Result Kind ClassFault) (f : Kind → Result Memory Refusal) (e : ClassFault) (r : Result MemoryValue MemoryFault) → class_result kinds ≡ Err e → Gives (Err (refused_class e)) r → Gives (with_kind kinds f) r
class_is_refused (Ok k) f e r refused is = absurd cc
class_is_refused (Err d) f e r refused is = let same : d ≡ e = cc in subst (λ e. Gives (Err (refused_class e)) r) (sym same) is

-- ---- scalars

pub scalar_is_given : (kinds : Result Kind ClassFault) (class : Class) (computed : Result Seen CellFault) (r : Result MemoryValue MemoryFault) → class_result kinds ≡ Ok class → Gives (scalar_result computed) r
    → Gives (with_kind kinds (λ k. scalar_result computed)) r
scalar_is_given (Ok k) class computed r accepted is = is
scalar_is_given (Err e) class computed r accepted is = refused_classes e class accepted

-- ---- beside a scalar

pub beside_class : (op : Binary) (scalar_left : Bool) (c : Seen) (x : SeenColumn) → scalar_class op scalar_left (class_of (seen_kind c)) x.class ≡ class_result (beside_kind op scalar_left c x)
beside_class op true c x = ap (λ k. class_result (binary_kind op k true (kind_of x.class) false)) (kind_again (seen_kind c))
beside_class op false c x = ap (λ k. class_result (binary_kind op (kind_of x.class) false k true)) (kind_again (seen_kind c))

pub same_if_ok : {A E : Type 0} (r s : Result Class E) (computed : Result SeenColumn A) → r ≡ s → IfOk computed (λ x. r ≡ Ok x.class) → IfOk computed (λ x. s ≡ Ok x.class)
same_if_ok r s computed same h = subst (λ r. IfOk computed (λ x. r ≡ Ok x.class)) same h

pub of_scalar_class : (op : Unary) (c : Seen) → unary_class op (class_of (seen_kind c)) ≡ class_result (unary_kind op (seen_kind c))
of_scalar_class op c = ap (λ k. class_result (unary_kind op k)) (kind_again (seen_kind c))

pub of_scalar_classes : (op : Binary) (c d : Seen) → binary_class op (class_of (seen_kind c)) true (class_of (seen_kind d)) true ≡ class_result (binary_kind op (seen_kind c) true (seen_kind d) true)
of_scalar_classes op c d =
    ap (λ k. class_result (binary_kind op k true (kind_of (class_of (seen_kind d))) true)) (kind_again (seen_kind c)) ∙ ap (λ k. class_result (binary_kind op (seen_kind c) true k true)) (kind_again (seen_kind d))
