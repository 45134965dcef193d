-- The scan of a column in memory, whose rows are numbered from 1, from a loop over rows that are numbered from 0.
use Rattle.std.proofs.Common.{◌≡◌, ◌∙◌, ◌<◌, ◌+◌, ℕ, refl, sym, ap, subst, arith, length}
use Rattle.std.specs.Prelude.{pos, List, [], ◌∷◌, ◌++◌, map, Result, Ok, Err, IfOk, IsOk}
use Rattle.std.specs.List.{All}
use Rattle.std.proofs.lemmas.List.Elements.{All-cons, All-head, All-nil, All-tail}
use Rattle.tall_value.specs.declared.class.Class.{Class}
use Rattle.tall_value.specs.declared.class.IntKind.TheVariants.{Int8, Int16, Int32, Int64, Uint8, Uint16, Uint32, Uint64}
use Rattle.tall_value.specs.declared.class.Kind.{Kind}
use Rattle.tall_value.specs.declared.class.Kind.TheVariants.{Integer as integer_kind, Logical as logical_kind, Double as double_kind, Text as text_kind}
use Rattle.tall_value.specs.declared.faults.CellFault.{CellFault}
use Rattle.tall_value.specs.declared.faults.ClassFault.{ClassFault}
use Rattle.tall_value.specs.declared.faults.ClassFault.TheVariants.{BadClass}
use Rattle.tall_value.specs.declared.functions.Scan.{Scan}
use Rattle.tall_value.specs.declared.functions.Scan.TheVariants.{CumSum, CumMin, CumMax}
use Rattle.tall_value.specs.Cells.{Seen, whole, logical, double, text}
use Rattle.tall_value.specs.Classes.{class_of, kind_of}
use Rattle.tall_value.specs.ClassTables.{class_result}
use Rattle.tall_value.specs.Columns.{HasKind, RowHasKind, numbered}
use Rattle.tall_value.specs.Elementwise.{at_row}
use Rattle.tall_value.specs.FunctionClasses.{scan_kind}
use Rattle.tall_value.specs.Scans.{scanned}
use Rattle.tall_dense.specs.Columns.{SeenColumn}
use Rattle.tall_dense.specs.Dense.{shown}
use Rattle.tall_dense.specs.Rows.{Answers}
use Rattle.tall_dense.specs.declared.faults.OpFault.{OpFault}
use Rattle.tall_dense.specs.declared.faults.OpFault.TheVariants as op
use Rattle.tall_dense.specs.declared.values.Values.{Values}
use Rattle.tall_dense.specs.declared.values.Values.TheVariants.{I8, I16, I32, I64, U8, U16, U32, U64, Logical, Double, Text}
use Rattle.tall_fold.specs.Carries.{result_kind, scan_cell, scan_rows}
use Rattle.tall_fold.proofs.KeptLemmas.{kinds}
use Rattle.tall_fold.proofs.WholeLemmas.{whole_is}
use Rattle.tall_memory.specs.Columns.{IsFaultBelow}
use Rattle.tall_memory.proofs.ColumnLemmas.{next_rows}
use Rattle.tall_value.proofs.KindLaws.{kind_again}

-- ---- cells have the kind of their class

pub have_kinds : (v : Values) → All (HasKind (kind_of (shown v).class)) (shown v).cells
have_kinds (I8 v) = kinds (integer_kind Int8) (λ n. whole Int8 n) (λ n. refl) v.items
have_kinds (I16 v) = kinds (integer_kind Int16) (λ n. whole Int16 n) (λ n. refl) v.items
have_kinds (I32 v) = kinds (integer_kind Int32) (λ n. whole Int32 n) (λ n. refl) v.items
have_kinds (I64 v) = kinds (integer_kind Int64) (λ n. whole Int64 n) (λ n. refl) v.items
have_kinds (U8 v) = kinds (integer_kind Uint8) (λ n. whole Uint8 (pos n)) (λ n. refl) v.items
have_kinds (U16 v) = kinds (integer_kind Uint16) (λ n. whole Uint16 (pos n)) (λ n. refl) v.items
have_kinds (U32 v) = kinds (integer_kind Uint32) (λ n. whole Uint32 (pos n)) (λ n. refl) v.items
have_kinds (U64 v) = kinds (integer_kind Uint64) (λ n. whole Uint64 (pos n)) (λ n. refl) v.items
have_kinds (Logical v) = kinds logical_kind (λ b. logical b) (λ b. refl) v.items
have_kinds (Double v) = kinds double_kind (λ d. double d) (λ d. refl) v.items
have_kinds (Text t) = kinds text_kind (λ s. text s) (λ s. refl) t

pub column_has_kind : (v : Values) (x : SeenColumn) → shown v ≡ x → All (HasKind (kind_of x.class)) x.cells
column_has_kind v x is = subst (λ (x : SeenColumn). All (HasKind (kind_of x.class)) x.cells) is (have_kinds v)

rows_have_kind : (a : Kind) (n : ℕ) (cs : List Seen) → All (HasKind a) cs → All (RowHasKind a) (numbered n cs)
rows_have_kind a n [] are = All-nil (RowHasKind a)
rows_have_kind a n (c ∷ cs) are =
    All-cons (RowHasKind a) (n, c) (numbered (n + 1) cs) (All-head (HasKind a) c cs are) (rows_have_kind a (n + 1) cs (All-tail (HasKind a) c cs are))

-- ---- rows numbered by one more

abbrev Outcome : Type 0
Outcome = Result (List (ℕ × Seen)) (ℕ × CellFault)

next_at : (n : ℕ) (r : Result Seen CellFault) (rest : Outcome) → at_row (n + 1) r (next_rows rest) ≡ next_rows (at_row n r rest)
next_at n (Ok c) (Ok rows) = refl
next_at n (Ok c) (Err e) = refl
next_at n (Err e) rest = refl

scan_next : (s : Scan) (a : Kind) (before : List Seen) (n : ℕ) (cs : List Seen) → scan_rows s a before (numbered (n + 1) cs) ≡ next_rows (scan_rows s a before (numbered n cs))
scan_next s a before n [] = refl
scan_next s a before n (c ∷ cs) =
    ap (at_row (n + 1) (scan_cell s a (before ++ c ∷ []))) (scan_next s a (before ++ c ∷ []) (n + 1) cs)
    ∙ next_at n (scan_cell s a (before ++ c ∷ [])) (scan_rows s a (before ++ c ∷ []) (numbered (n + 1) cs))

takes_kind : (kinds : Result Kind ClassFault) (class : Class) → class_result kinds ≡ Ok class → IsOk kinds
takes_kind (Ok k) class h = refl
takes_kind (Err e) class h = absurd cc

pub scan_from_one : (s : Scan) (x : SeenColumn) (class : Class) → class_result (scan_kind s (kind_of x.class)) ≡ Ok class → All (HasKind (kind_of x.class)) x.cells
    → next_rows (scan_rows s (result_kind (kind_of x.class)) [] (numbered 0 x.cells)) ≡ scanned s (kind_of x.class) (numbered 1 x.cells)
scan_from_one s x class taken are =
    sym (scan_next s (result_kind (kind_of x.class)) [] 0 x.cells)
    ∙ whole_is s (kind_of x.class) (numbered 1 x.cells) (takes_kind (scan_kind s (kind_of x.class)) class taken) (rows_have_kind (kind_of x.class) 1 x.cells are)

-- ---- the class of the result

inside : (k : Kind) (class : Class) → class_result (Ok k) ≡ Ok class → kind_of class ≡ k
inside k class h = let e : class_of k ≡ class = cc in ap kind_of (sym e) ∙ kind_again k

no_class : {A : Type 0} (e : ClassFault) (class : Class) → class_result (Err e) ≡ Ok class → A
no_class e class h = absurd cc

pub result_of : (s : Scan) (a : Kind) (class : Class) → class_result (scan_kind s a) ≡ Ok class → kind_of class ≡ result_kind a
result_of CumSum (integer_kind k) class h = inside (integer_kind k) class h
result_of CumSum logical_kind class h = inside double_kind class h
result_of CumSum double_kind class h = inside double_kind class h
result_of CumSum text_kind class h = no_class BadClass class h
result_of CumMin (integer_kind k) class h = inside (integer_kind k) class h
result_of CumMin logical_kind class h = no_class BadClass class h
result_of CumMin double_kind class h = inside double_kind class h
result_of CumMin text_kind class h = no_class BadClass class h
result_of CumMax (integer_kind k) class h = inside (integer_kind k) class h
result_of CumMax logical_kind class h = no_class BadClass class h
result_of CumMax double_kind class h = inside double_kind class h
result_of CumMax text_kind class h = no_class BadClass class h

pub classed : (taken : Result Class ClassFault) (class : Class) (computed : Result SeenColumn OpFault) → taken ≡ Ok class → IfOk computed (λ x. x.class ≡ class) → IfOk computed (λ x. taken ≡ Ok x.class)
classed taken class (Ok x) is h = is ∙ ap Ok (sym h)
classed taken class (Err e) is h = tt

-- ---- a fault is at one of the rows

abbrev FaultsBelow : ℕ → Outcome → Type 0
FaultsBelow bound (Ok rows) = Unit {0}
FaultsBelow bound (Err e) = e.0 < bound

below_at : (n bound : ℕ) (r : Result Seen CellFault) (rest : Outcome) → n < bound → FaultsBelow bound rest → FaultsBelow bound (at_row n r rest)
below_at n bound (Ok c) (Ok rows) h below = tt
below_at n bound (Ok c) (Err e) h below = below
below_at n bound (Err e) rest h below = h

scan_below : (s : Scan) (a : Kind) (before : List Seen) (n bound : ℕ) (cs : List Seen) → n + length cs ≡ bound → FaultsBelow bound (scan_rows s a before (numbered n cs))
scan_below s a before n bound [] h = tt
scan_below s a before n bound (c ∷ cs) h =
    below_at n bound (scan_cell s a (before ++ c ∷ [])) (scan_rows s a (before ++ c ∷ []) (numbered (n + 1) cs)) (omega (arith, h)) (scan_below s a (before ++ c ∷ []) (n + 1) bound cs (omega (arith, h)))

is_below : (bound : ℕ) (outcome : Outcome) (computed : Result SeenColumn OpFault) → Answers outcome (λ x. x.cells) computed → FaultsBelow bound outcome → IsFaultBelow bound computed
is_below bound outcome (Ok x) answers below = tt
is_below bound outcome (Err (op.At row e)) answers below = subst (FaultsBelow bound) answers below
is_below bound outcome (Err op.Memory) answers below = tt

pub scan_is_below : (s : Scan) (x : SeenColumn) (rows : ℕ) (computed : Result SeenColumn OpFault) → rows ≡ length x.cells
    → Answers (scan_rows s (result_kind (kind_of x.class)) [] (numbered 0 x.cells)) (λ x. x.cells) computed → IsFaultBelow rows computed
scan_is_below s x rows computed h answers =
    is_below rows (scan_rows s (result_kind (kind_of x.class)) [] (numbered 0 x.cells)) computed answers (scan_below s (result_kind (kind_of x.class)) [] 0 rows x.cells (omega (arith, h)))
