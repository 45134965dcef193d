-- The class of a column is that of its first cell.
use Rattle.std.specs.Prelude.{Bool, false, Result, Ok, Err}
use Rattle.std.proofs.Common.{ℕ, ◌<◌, ◌≡◌, List, [], ◌∷◌, length, map, refl, sym, ◌∙◌, ap, subst, arith}
use Rattle.tall_value.specs.declared.class.Class.{Class}
use Rattle.tall_value.specs.declared.faults.CellFault.{CellFault}
use Rattle.tall_value.specs.declared.operators.Binary.{Binary}
use Rattle.tall_value.specs.declared.operators.Unary.{Unary}
use Rattle.tall_value.specs.Cells.{Seen}
use Rattle.tall_value.specs.CellOperators.{unary_cell, binary_cell}
use Rattle.tall_value.specs.ClassTables.{unary_class, binary_class}
use Rattle.tall_value.specs.Columns.{numbered}
use Rattle.tall_value.specs.Elementwise.{at_row, each_row, each_pair, beside, unary_rows, binary_rows, scalar_rows}
use Rattle.tall_dense.specs.Columns.{SeenColumn, class_of_cell}
use Rattle.tall_dense.specs.Dense.{shown}
use Rattle.tall_column.specs.Mapped.{scalar_class}
use Rattle.tall_dense.specs.declared.values.Values.{Values}
use Rattle.tall_dense.specs.declared.values.Values.TheVariants.{I8, I16, I32, I64, U8, U16, U32, U64, Logical, Double, Text}
use Rattle.tall_dense.proofs.RowLemmas.{Outcome}
use Rattle.tall_column.proofs.ClassLemmas.{class_of_one, class_of_two, class_beside}

abbrev pub IsClassed : SeenColumn → Type 0
IsClassed column = (d : Seen) (ds : List Seen) → column.cells ≡ d ∷ ds → class_of_cell d ≡ column.class

first_of : {A : Type 0} (f : A → Seen) (class : Class) (xs : List A) → ((a : A) → class_of_cell (f a) ≡ class)
    → (d : Seen) (ds : List Seen) → map f xs ≡ d ∷ ds → class_of_cell d ≡ class
first_of f class [] each d ds h = absurd cc
first_of f class (x ∷ xs) each d ds h = let same : f x ≡ d = cc in ap class_of_cell (sym same) ∙ each x

pub classed_values : (v : Values) → IsClassed (shown v)
classed_values (I8 v) = first_of _ _ v.items (λ a. refl)
classed_values (I16 v) = first_of _ _ v.items (λ a. refl)
classed_values (I32 v) = first_of _ _ v.items (λ a. refl)
classed_values (I64 v) = first_of _ _ v.items (λ a. refl)
classed_values (U8 v) = first_of _ _ v.items (λ a. refl)
classed_values (U16 v) = first_of _ _ v.items (λ a. refl)
classed_values (U32 v) = first_of _ _ v.items (λ a. refl)
classed_values (U64 v) = first_of _ _ v.items (λ a. refl)
classed_values (Logical v) = first_of _ _ v.items (λ a. refl)
classed_values (Double v) = first_of _ _ v.items (λ a. refl)
classed_values (Text v) = first_of _ _ v (λ a. refl)

pub classed_column : (v : Values) (column : SeenColumn) → shown v ≡ column → IsClassed column
classed_column v column is = subst IsClassed is (classed_values v)

-- the first row of an outcome is the first cell of the column
first_row : (r : Result Seen CellFault) (rest : Outcome) (cells : List Seen) → at_row 0 r rest ≡ Ok (numbered 0 cells)
    → (d : Seen) × (ds : List Seen) × (r ≡ Ok d) × (cells ≡ d ∷ ds)
first_row (Err e) rest cells h = absurd cc
first_row (Ok c) (Err e) cells h = absurd cc
first_row (Ok c) (Ok rows) [] h = absurd cc
first_row (Ok c) (Ok rows) (d ∷ ds) h = (d, ds, (let same : ◌≡◌ {A = ℕ × Seen} (0, c) (0, d) = cc in ap (λ (p : ℕ × Seen). Ok p.1) same), refl)

pair_class : (op : Binary) (a b v : SeenColumn) (class : Class) (cs es : List Seen) → a.cells ≡ cs → b.cells ≡ es → IsClassed a → IsClassed b → IsClassed v
    → binary_class op a.class false b.class false ≡ Ok class → length es ≡ length cs → 0 < length cs
    → binary_rows op (numbered 0 cs) (numbered 0 es) ≡ Ok (numbered 0 v.cells) → v.class ≡ class
pair_class op a b v class [] es is also ca cb cv table same some rows = absurd (omega (arith, some))
pair_class op a b v class (c ∷ cs) [] is also ca cb cv table same some rows = absurd (omega (arith, same))
pair_class op a b v class (c ∷ cs) (e ∷ es) is also ca cb cv table same some rows =
    let first = first_row (binary_cell op c e) (each_pair (binary_cell op) (numbered 1 cs) (numbered 1 es)) v.cells rows in
    sym (cv first.0 first.1 first.3) ∙ class_of_two op a.class b.class class false false c e first.0 table (ca c cs is) (cb e es also) first.2

pub class_of_pairs : (op : Binary) (a b v : SeenColumn) (class : Class) → IsClassed a → IsClassed b → IsClassed v
    → binary_class op a.class false b.class false ≡ Ok class → length b.cells ≡ length a.cells → 0 < length a.cells
    → binary_rows op (numbered 0 a.cells) (numbered 0 b.cells) ≡ Ok (numbered 0 v.cells) → v.class ≡ class
class_of_pairs op a b v class = pair_class op a b v class a.cells b.cells refl refl

beside_class : (op : Binary) (left : Bool) (s : Seen) (a v : SeenColumn) (class : Class) (cs : List Seen) → a.cells ≡ cs → IsClassed a → IsClassed v
    → scalar_class op left (class_of_cell s) a.class ≡ Ok class → 0 < length cs
    → scalar_rows op left s (numbered 0 cs) ≡ Ok (numbered 0 v.cells) → v.class ≡ class
beside_class op left s a v class [] is ca cv table some rows = absurd (omega (arith, some))
beside_class op left s a v class (c ∷ cs) is ca cv table some rows =
    let first = first_row (beside op left s c) (each_row (beside op left s) (numbered 1 cs)) v.cells rows in
    sym (cv first.0 first.1 first.3) ∙ class_beside op left a.class (class_of_cell s) class s c first.0 table (ca c cs is) refl first.2

pub class_of_beside : (op : Binary) (left : Bool) (s : Seen) (a v : SeenColumn) (class : Class) → IsClassed a → IsClassed v
    → scalar_class op left (class_of_cell s) a.class ≡ Ok class → 0 < length a.cells
    → scalar_rows op left s (numbered 0 a.cells) ≡ Ok (numbered 0 v.cells) → v.class ≡ class
class_of_beside op left s a v class = beside_class op left s a v class a.cells refl

each_class : (op : Unary) (a v : SeenColumn) (class : Class) (cs : List Seen) → a.cells ≡ cs → IsClassed a → IsClassed v
    → unary_class op a.class ≡ Ok class → 0 < length cs → unary_rows op (numbered 0 cs) ≡ Ok (numbered 0 v.cells) → v.class ≡ class
each_class op a v class [] is ca cv table some rows = absurd (omega (arith, some))
each_class op a v class (c ∷ cs) is ca cv table some rows =
    let first = first_row (unary_cell op c) (each_row (unary_cell op) (numbered 1 cs)) v.cells rows in
    sym (cv first.0 first.1 first.3) ∙ class_of_one op a.class class c first.0 table (ca c cs is) first.2

pub class_of_each : (op : Unary) (a v : SeenColumn) (class : Class) → IsClassed a → IsClassed v → unary_class op a.class ≡ Ok class → 0 < length a.cells
    → unary_rows op (numbered 0 a.cells) ≡ Ok (numbered 0 v.cells) → v.class ≡ class
class_of_each op a v class = each_class op a v class a.cells refl
