-- Operators over a block's columns give no more rows than their operands have.
use Rattle.std.specs.Prelude.{◌≡◌, ℕ, zero, suc, ◌≤◌, ◌+◌, ◌-◌, if◌then◌else◌, Bool, true, false, Result, Ok, Err, List, [], ◌∷◌, ◌++◌, length, take, IfOk}
use Rattle.std.proofs.Common.{ap, sym, subst, arith}
use Rattle.tall_value.specs.declared.class.Kind.{Kind}
use Rattle.tall_value.specs.declared.faults.CellFault.{CellFault}
use Rattle.tall_value.specs.declared.functions.Scan.{Scan}
use Rattle.tall_value.specs.declared.operators.Binary.{Binary}
use Rattle.tall_value.specs.declared.operators.Unary.{Unary}
use Rattle.tall_value.specs.Cells.{Seen}
use Rattle.tall_value.specs.CellOperators.{unary_cell, binary_cell}
use Rattle.tall_value.specs.Columns.{numbered}
use Rattle.tall_value.specs.Elementwise.{beside, unary_rows, binary_rows, scalar_rows, each_row, each_pair, in_front, at_row}
use Rattle.tall_value.specs.Filters.{is_true, kept}
use Rattle.tall_dense.specs.Columns.{SeenColumn, rows_between, rows_kept}
use Rattle.tall_dense.specs.Rows.{Answers}
use Rattle.tall_dense.specs.declared.faults.OpFault.{OpFault}
use Rattle.tall_dense.specs.declared.faults.OpFault.TheVariants as op_fault
use Rattle.tall_fold.specs.Carries.{scan_cell, scan_rows}
use Rattle.tall_blocks.specs.Carries.{RowsOrFault}
use Rattle.tall_block.proofs.Operators.{IsLong, each_long, from_none, numbered_long}

pub answered_short : (n bound : ℕ) (z : RowsOrFault) → IsLong n bound z → (result : Result SeenColumn OpFault) → Answers z (λ (c : SeenColumn). c.cells) result → IfOk result (λ (c : SeenColumn). length c.cells ≤ n)
answered_short n bound z long (Ok c) h = (let l : length (numbered 0 c.cells) ≡ n = subst (IsLong n bound) h long in let k = numbered_long 0 c.cells in omega (arith, l, k))
answered_short n bound z long (Err (op_fault.At row e)) h = tt
answered_short n bound z long (Err op_fault.Memory) h = tt

pub unary_short : (op : Unary) (cs : List Seen) (result : Result SeenColumn OpFault) → Answers (unary_rows op (numbered 0 cs)) (λ (c : SeenColumn). c.cells) result → IfOk result (λ (c : SeenColumn). length c.cells ≤ length cs)
unary_short op cs result h = answered_short (length cs) (length cs) (each_row (unary_cell op) (numbered 0 cs)) (each_long (unary_cell op) 0 (length cs) cs (from_none (length cs))) result h

pub scalar_short : (op : Binary) (left : Bool) (d : Seen) (cs : List Seen) (result : Result SeenColumn OpFault) → Answers (scalar_rows op left d (numbered 0 cs)) (λ (c : SeenColumn). c.cells) result → IfOk result (λ (c : SeenColumn). length c.cells ≤ length cs)
scalar_short op left d cs result h = answered_short (length cs) (length cs) (each_row (beside op left d) (numbered 0 cs)) (each_long (beside op left d) 0 (length cs) cs (from_none (length cs))) result h

-- at most so many rows
abbrev IsAtMost : ℕ → RowsOrFault → Type 0
IsAtMost n (Ok rs) = length rs ≤ n
IsAtMost n (Err e) = Unit {0}

front_most : (n k : ℕ) (c : Seen) (x : RowsOrFault) → IsAtMost n x → IsAtMost (suc n) (in_front (k, c) x)
front_most n k c (Ok rs) h = omega (arith, h)
front_most n k c (Err e) h = tt

row_most : (n k : ℕ) (g : Result Seen CellFault) (x : RowsOrFault) → IsAtMost n x → IsAtMost (suc n) (at_row k g x)
row_most n k (Ok c) x h = front_most n k c x h
row_most n k (Err e) x h = tt

pair_most : (g : Seen → Seen → Result Seen CellFault) (m : ℕ) (cs ds : List Seen) → IsAtMost (length cs) (each_pair g (numbered m cs) (numbered m ds))
pair_most g m [] ds = omega (arith)
pair_most g m (c ∷ cs) [] = omega (arith)
pair_most g m (c ∷ cs) (d ∷ ds) = row_most (length cs) m (g c d) (each_pair g (numbered (m + 1) cs) (numbered (m + 1) ds)) (pair_most g (m + 1) cs ds)

scan_most : (s : Scan) (a : Kind) (before : List Seen) (m : ℕ) (cs : List Seen) → IsAtMost (length cs) (scan_rows s a before (numbered m cs))
scan_most s a before m [] = omega (arith)
scan_most s a before m (c ∷ cs) = row_most (length cs) m (scan_cell s a (before ++ c ∷ [])) (scan_rows s a (before ++ c ∷ []) (numbered (m + 1) cs)) (scan_most s a (before ++ c ∷ []) (m + 1) cs)

answered_most : (n : ℕ) (z : RowsOrFault) → IsAtMost n z → (result : Result SeenColumn OpFault) → Answers z (λ (c : SeenColumn). c.cells) result → IfOk result (λ (c : SeenColumn). length c.cells ≤ n)
answered_most n z most (Ok c) h = (let l : length (numbered 0 c.cells) ≤ n = subst (IsAtMost n) h most in let k = numbered_long 0 c.cells in omega (arith, l, k))
answered_most n z most (Err (op_fault.At row e)) h = tt
answered_most n z most (Err op_fault.Memory) h = tt

pub binary_short : (op : Binary) (cs ds : List Seen) (result : Result SeenColumn OpFault) → Answers (binary_rows op (numbered 0 cs) (numbered 0 ds)) (λ (c : SeenColumn). c.cells) result → IfOk result (λ (c : SeenColumn). length c.cells ≤ length cs)
binary_short op cs ds result h = answered_most (length cs) (each_pair (binary_cell op) (numbered 0 cs) (numbered 0 ds)) (pair_most (binary_cell op) 0 cs ds) result h

pub scan_short : (s : Scan) (a : Kind) (before cs : List Seen) (result : Result SeenColumn OpFault) → Answers (scan_rows s a before (numbered 0 cs)) (λ (c : SeenColumn). c.cells) result → IfOk result (λ (c : SeenColumn). length c.cells ≤ length cs)
scan_short s a before cs result h = answered_most (length cs) (scan_rows s a before (numbered 0 cs)) (scan_most s a before 0 cs) result h

-- ---- parts of a column

pub take_short : (n : ℕ) (cs : List Seen) → length (take n cs) ≤ length cs
take_short zero cs = omega (arith)
take_short (suc n) [] = omega (arith)
take_short (suc n) (c ∷ cs) = (let l = take_short n cs in omega (arith, l))

pub kept_short : (cs ms : List Seen) → length (kept cs ms) ≤ length cs
kept_short [] ms = omega (arith)
kept_short (c ∷ cs) [] = omega (arith)
kept_short (c ∷ cs) (m ∷ ms) = by_mark (is_true m) (kept_short cs ms)
  where
    by_mark : (b : Bool) → length (kept cs ms) ≤ length cs → length (if b then c ∷ kept cs ms else kept cs ms) ≤ length (c ∷ cs)
    by_mark true l = omega (arith, l)
    by_mark false l = omega (arith, l)

pub sliced_short : (a x : SeenColumn) (rows : ℕ) → x ≡ rows_between a 0 rows → length x.cells ≤ length a.cells
sliced_short a x rows e = subst (λ (c : SeenColumn). length c.cells ≤ length a.cells) (sym e) (take_short (rows - 0) a.cells)

pub filtered_short : {E : Type 0} (result : Result SeenColumn E) (x mask : SeenColumn) (n : ℕ) → IfOk result (λ (c : SeenColumn). c ≡ rows_kept x mask) → length x.cells ≤ n → IfOk result (λ (c : SeenColumn). length c.cells ≤ n)
filtered_short (Ok c) x mask n h l = (let e : length c.cells ≡ length (kept x.cells mask.cells) = ap (λ (d : SeenColumn). length d.cells) h in let k = kept_short x.cells mask.cells in omega (arith, e, k, l))
filtered_short (Err e) x mask n h l = tt

pub shorter : {E : Type 0} (result : Result SeenColumn E) (m n : ℕ) → IfOk result (λ (c : SeenColumn). length c.cells ≤ m) → m ≤ n → IfOk result (λ (c : SeenColumn). length c.cells ≤ n)
shorter (Ok c) m n h l = omega (arith, h, l)
shorter (Err e) m n h l = tt
