-- Operators over a block's columns, which count rows from 0, tell those over rows with numbers of their own.
use Rattle.std.specs.Prelude.{◌≡◌, refl, ℕ, suc, ◌+◌, ◌<◌, true, false, Result, Ok, Err, List, [], ◌∷◌, ◌++◌, length}
use Rattle.std.proofs.Common.{ap, sym, subst, ◌∙◌, arith, IfOk}
use Rattle.tall_value.specs.declared.class.Kind.{Kind}
use Rattle.tall_value.specs.declared.functions.Scan.{Scan}
use Rattle.tall_value.specs.declared.faults.CellFault.{CellFault}
use Rattle.tall_value.specs.declared.operators.Binary.{Binary}
use Rattle.tall_value.specs.declared.operators.Unary.{Unary}
use Rattle.tall_value.specs.Cells.{Seen}
use Rattle.tall_value.specs.Columns.{cells, numbered}
use Rattle.tall_value.specs.CellOperators.{unary_cell, binary_cell}
use Rattle.tall_value.specs.Elementwise.{in_front, at_row, each_row, each_pair, beside, unary_rows, binary_rows, scalar_rows}
use Rattle.tall_value.specs.Filters.{kept}
use Rattle.tall_dense.specs.Columns.{SeenColumn, rows_kept}
use Rattle.tall_dense.specs.Rows.{Answers}
use Rattle.tall_dense.specs.declared.faults.OpFault.{OpFault}
use Rattle.tall_dense.specs.declared.faults.OpFault.TheVariants as op_fault
use Rattle.tall_semantics.specs.Faults.{At}
use Rattle.tall_semantics.specs.Outcomes.{Outcome, rows, scalar, fault, rows_in, cells_in, row_by_row, elementwise_one, elementwise_two}
use Rattle.tall_semantics.specs.ScanCarries.{fold_of}
use Rattle.tall_blocks.specs.Carries.{Rows, RowsOrFault, or_inexact, scanned_behind}
use Rattle.tall_blocks.specs.RowPlaces.{renumbered, with_numbers}
use Rattle.tall_blocks.proofs.RowPlaceLaws.{each_counted, pair_counted, renumbered_cells, kept_cells}
use Rattle.tall_block.specs.Shown.{Shows, Tells}

-- as many rows, or a fault at a place before the end of the column
abbrev pub IsLong : (n bound : ℕ) → RowsOrFault → Type 0
IsLong n bound (Ok rs) = length rs ≡ n
IsLong n bound (Err e) = e.0 < bound

front_long : (n bound k : ℕ) (c : Seen) (x : RowsOrFault) → IsLong n bound x → IsLong (suc n) bound (in_front (k, c) x)
front_long n bound k c (Ok rs) h = ap suc h
front_long n bound k c (Err e) h = h

pub row_long : (n bound k : ℕ) (g : Result Seen CellFault) (x : RowsOrFault) → k < bound → IsLong n bound x → IsLong (suc n) bound (at_row k g x)
row_long n bound k (Ok c) x l h = front_long n bound k c x h
row_long n bound k (Err e) x l h = l

pub each_long : (g : Seen → Result Seen CellFault) (m bound : ℕ) (cs : List Seen) → m + length cs ≡ bound → IsLong (length cs) bound (each_row g (numbered m cs))
each_long g m bound [] l = refl
each_long g m bound (c ∷ cs) l = row_long (length cs) bound m (g c) (each_row g (numbered (m + 1) cs)) (omega (arith, l)) (each_long g (m + 1) bound cs (omega (arith, l)))

pub pair_long : (g : Seen → Seen → Result Seen CellFault) (m bound : ℕ) (cs ds : List Seen) → length ds ≡ length cs → m + length cs ≡ bound → IsLong (length cs) bound (each_pair g (numbered m cs) (numbered m ds))
pair_long g m bound [] ds h l = refl
pair_long g m bound (c ∷ cs) [] h l = absurd (omega (arith, h))
pair_long g m bound (c ∷ cs) (d ∷ ds) h l = row_long (length cs) bound m (g c d) (each_pair g (numbered (m + 1) cs) (numbered (m + 1) ds)) (omega (arith, l)) (pair_long g (m + 1) bound cs ds (omega (arith, h)) (omega (arith, l)))

pub scan_long : (s : Scan) (a : Kind) (before : List Seen) (m bound : ℕ) (cs : List Seen) → m + length cs ≡ bound → IsLong (length cs) bound (scanned_behind s a before (numbered m cs))
scan_long s a before m bound [] l = refl
scan_long s a before m bound (c ∷ cs) l =
    let next : List Seen = before ++ c ∷ [] in
    row_long (length cs) bound m (or_inexact (fold_of s a next)) (scanned_behind s a next (numbered (m + 1) cs)) (omega (arith, l)) (scan_long s a next (m + 1) bound cs (omega (arith, l)))

pub numbered_long : (n : ℕ) (cs : List Seen) → length (numbered n cs) ≡ length cs
numbered_long n [] = refl
numbered_long n (c ∷ cs) = ap suc (numbered_long (n + 1) cs)

pub cells_long : (rs : Rows) → length (cells rs) ≡ length rs
cells_long [] = refl
cells_long (r ∷ rs) = ap suc (cells_long rs)

pub cells_numbered : (n : ℕ) (cs : List Seen) → cells (numbered n cs) ≡ cs
cells_numbered n [] = refl
cells_numbered n (c ∷ cs) = ap (λ ds. c ∷ ds) (cells_numbered (n + 1) cs)

pub from_none : (n : ℕ) → 0 + n ≡ n
from_none n = omega (arith)

abbrev ok_rows : Rows → RowsOrFault
ok_rows rs = Ok rs

abbrev err_row : ℕ → CellFault → RowsOrFault
err_row k e = Err (k, e)

-- y is z with the numbers of the rows rs
pub told : (at : At) (rs : Rows) (y z : RowsOrFault) → y ≡ with_numbers rs z → IsLong (length rs) (length rs) z → (result : Result SeenColumn OpFault)
    → Answers z (λ (c : SeenColumn). c.cells) result → Tells at rs (row_by_row at y) result
told at rs y z q long (Ok column) h =
    let others : Rows = numbered 0 column.cells in
    let is : y ≡ ok_rows (renumbered rs others) = q ∙ ap (with_numbers rs) h in
    let same : length others ≡ length rs = subst (IsLong (length rs) (length rs)) h long in
    subst (λ (o : RowsOrFault). Shows (row_by_row at o) column.cells) (sym is) (renumbered_cells rs others same ∙ cells_numbered 0 column.cells)
told at rs y z q long (Err (op_fault.At row e)) h = (subst (IsLong (length rs) (length rs)) h long, ap (row_by_row at) (q ∙ ap (with_numbers rs) h))
told at rs y z q long (Err op_fault.Memory) h = tt

each_told : (at : At) (g : Seen → Result Seen CellFault) (cs : List Seen) (rs : Rows) → cells rs ≡ cs → (result : Result SeenColumn OpFault)
    → Answers (each_row g (numbered 0 cs)) (λ (c : SeenColumn). c.cells) result → Tells at rs (row_by_row at (each_row g rs)) result
each_told at g cs rs q result h =
    let z : RowsOrFault = each_row g (numbered 0 (cells rs)) in
    told at rs (each_row g rs) z (each_counted g rs) (subst (λ n. IsLong n n z) (cells_long rs) (each_long g 0 (length (cells rs)) (cells rs) (from_none (length (cells rs))))) result
    (subst (λ ds. Answers (each_row g (numbered 0 ds)) (λ (c : SeenColumn). c.cells) result) (sym q) h)

pub unary_told : (op : Unary) (cs : List Seen) (result : Result SeenColumn OpFault) → Answers (unary_rows op (numbered 0 cs)) (λ (c : SeenColumn). c.cells) result
    → (at : At) (x : Outcome) → Shows x cs → Tells at (rows_in x) (elementwise_one at op x) result
unary_told op cs result h at (rows rs) q = each_told at (unary_cell op) cs rs q result h
unary_told op cs result h at (scalar c) q = absurd q
unary_told op cs result h at (fault f) q = absurd q

pub right_told : (op : Binary) (d : Seen) (cs : List Seen) (result : Result SeenColumn OpFault) → Answers (scalar_rows op false d (numbered 0 cs)) (λ (c : SeenColumn). c.cells) result
    → (at : At) (x : Outcome) → Shows x cs → Tells at (rows_in x) (elementwise_two at op x (scalar d)) result
right_told op d cs result h at (rows rs) q = each_told at (beside op false d) cs rs q result h
right_told op d cs result h at (scalar c) q = absurd q
right_told op d cs result h at (fault f) q = absurd q

pub left_told : (op : Binary) (d : Seen) (cs : List Seen) (result : Result SeenColumn OpFault) → Answers (scalar_rows op true d (numbered 0 cs)) (λ (c : SeenColumn). c.cells) result
    → (at : At) (x : Outcome) → Shows x cs → Tells at (rows_in x) (elementwise_two at op (scalar d) x) result
left_told op d cs result h at (rows rs) q = each_told at (beside op true d) cs rs q result h
left_told op d cs result h at (scalar c) q = absurd q
left_told op d cs result h at (fault f) q = absurd q

pub binary_told : (op : Binary) (cs ds : List Seen) (result : Result SeenColumn OpFault) → Answers (binary_rows op (numbered 0 cs) (numbered 0 ds)) (λ (c : SeenColumn). c.cells) result
    → length ds ≡ length cs → (at : At) (x y : Outcome) → Shows x cs → Shows y ds → Tells at (rows_in x) (elementwise_two at op x y) result
binary_told op cs ds result h same at (rows rs) (rows ss) q r =
    let z : RowsOrFault = each_pair (binary_cell op) (numbered 0 (cells rs)) (numbered 0 (cells ss)) in
    let long : length (cells ss) ≡ length (cells rs) = ap length r ∙ (same ∙ ap length (sym q)) in
    told at rs (each_pair (binary_cell op) rs ss) z (pair_counted (binary_cell op) rs ss) (subst (λ n. IsLong n n z) (cells_long rs) (pair_long (binary_cell op) 0 (length (cells rs)) (cells rs) (cells ss) long (from_none (length (cells rs))))) result
    (subst (λ es. Answers (binary_rows op (numbered 0 (cells rs)) (numbered 0 es)) (λ (c : SeenColumn). c.cells) result) (sym r)
    (subst (λ es. Answers (binary_rows op (numbered 0 es) (numbered 0 ds)) (λ (c : SeenColumn). c.cells) result) (sym q) h))
binary_told op cs ds result h same at (rows rs) (scalar d) q r = absurd r
binary_told op cs ds result h same at (rows rs) (fault f) q r = absurd r
binary_told op cs ds result h same at (scalar c) y q r = absurd q
binary_told op cs ds result h same at (fault f) y q r = absurd q

filter_shows : (cs ms : List Seen) (column : SeenColumn) → column.cells ≡ kept cs ms → (x m : Outcome) → Shows x cs → Shows m ms → Shows (rows (kept (rows_in x) (cells_in m))) column.cells
filter_shows cs ms column h (rows rs) (rows ss) q r = kept_cells rs (cells ss) ∙ (ap (λ es. kept es (cells ss)) q ∙ (ap (kept cs) r ∙ sym h))
filter_shows cs ms column h (rows rs) (scalar d) q r = absurd r
filter_shows cs ms column h (rows rs) (fault f) q r = absurd r
filter_shows cs ms column h (scalar c) m q r = absurd q
filter_shows cs ms column h (fault f) m q r = absurd q

pub filter_told : {E : Type 0} (result : Result SeenColumn E) (a mask : SeenColumn) → IfOk result (λ c. c ≡ rows_kept a mask)
    → IfOk result (λ c. length mask.cells ≡ length a.cells → (x m : Outcome) → Shows x a.cells → Shows m mask.cells → Shows (rows (kept (rows_in x) (cells_in m))) c.cells)
filter_told (Ok c) a mask h = λ same x m q r. filter_shows a.cells mask.cells c (ap (λ (d : SeenColumn). d.cells) h) x m q r
filter_told (Err e) a mask h = tt

-- as many cells as rows
pub shown_long : (x : Outcome) (cs : List Seen) → Shows x cs → length cs ≡ length (rows_in x)
shown_long (rows rs) cs q = ap length (sym q) ∙ cells_long rs
shown_long (scalar c) cs q = absurd q
shown_long (fault f) cs q = absurd q
