-- Operators, filters and scans over some rows and then others: the outcome is that over the first, and then that over the
-- others.
use Rattle.std.specs.Prelude.{◌≡◌, refl, ℕ, Bool, true, false, if◌then◌else◌, Result, Ok, Err, List, [], ◌∷◌, ◌++◌, length}
use Rattle.std.proofs.Common.{ap, sym, ◌∙◌, arith}
use Rattle.std.proofs.lemmas.List.{append_assoc, append-nil}
use Rattle.tall_value.specs.declared.class.Kind.{Kind}
use Rattle.tall_value.specs.declared.faults.CellFault.{CellFault}
use Rattle.tall_value.specs.declared.functions.Scan.{Scan}
use Rattle.tall_value.specs.Cells.{Seen}
use Rattle.tall_value.specs.Columns.{cells}
use Rattle.tall_value.specs.Elementwise.{at_row, each_row, each_pair}
use Rattle.tall_value.specs.Filters.{is_true, kept}
use Rattle.tall_semantics.specs.ScanCarries.{fold_of}
use Rattle.tall_semantics.specs.Faults.{At}
use Rattle.tall_semantics.specs.Outcomes.{Outcome, rows, scalar, fault, row_by_row}
use Rattle.tall_blocks.specs.Carries.{Rows, RowsOrFault, rows_joined, or_inexact, scanned_behind}

-- of values with rows: some rows and then others, of which the first fault is the fault
abbrev pub outcomes_joined : Outcome → Outcome → Outcome
outcomes_joined (rows rs) (rows ss) = rows (rs ++ ss)
outcomes_joined (rows rs) (fault g) = fault g
outcomes_joined (rows rs) (scalar c) = rows rs
outcomes_joined (fault f) y = fault f
outcomes_joined (scalar c) y = scalar c

pub by_row : (at : At) (r s : RowsOrFault) → row_by_row at (rows_joined r s) ≡ outcomes_joined (row_by_row at r) (row_by_row at s)
by_row at (Ok rs) (Ok ss) = refl
by_row at (Ok rs) (Err e) = refl
by_row at (Err e) s = refl

at_then : (n : ℕ) (c : Result Seen CellFault) (r s : RowsOrFault) → at_row n c (rows_joined r s) ≡ rows_joined (at_row n c r) s
at_then n (Ok c) (Ok rs) (Ok ss) = refl
at_then n (Ok c) (Ok rs) (Err e) = refl
at_then n (Ok c) (Err e) s = refl
at_then n (Err e) r s = refl

ok_then : (s : RowsOrFault) → s ≡ rows_joined (Ok []) s
ok_then (Ok ss) = refl
ok_then (Err e) = refl

pub each_row_then : (g : Seen → Result Seen CellFault) (rs ss : Rows) → each_row g (rs ++ ss) ≡ rows_joined (each_row g rs) (each_row g ss)
each_row_then g [] ss = ok_then (each_row g ss)
each_row_then g (r ∷ rs) ss = ap (at_row r.0 (g r.1)) (each_row_then g rs ss) ∙ at_then r.0 (g r.1) (each_row g rs) (each_row g ss)

pub each_pair_then : (g : Seen → Seen → Result Seen CellFault) (rs ss ms ns : Rows) → length rs ≡ length ms → each_pair g (rs ++ ss) (ms ++ ns) ≡ rows_joined (each_pair g rs ms) (each_pair g ss ns)
each_pair_then g [] ss [] ns e = ok_then (each_pair g ss ns)
each_pair_then g [] ss (m ∷ ms) ns e = absurd (omega (arith, e))
each_pair_then g (r ∷ rs) ss [] ns e = absurd (omega (arith, e))
each_pair_then g (r ∷ rs) ss (m ∷ ms) ns e = ap (at_row r.0 (g r.1 m.1)) (each_pair_then g rs ss ms ns (omega (arith, e))) ∙ at_then r.0 (g r.1 m.1) (each_pair g rs ms) (each_pair g ss ns)

if_front : {A : Type 0} (b : Bool) (r : A) (xs ys : List A) → (if b then r ∷ (xs ++ ys) else xs ++ ys) ≡ (if b then r ∷ xs else xs) ++ ys
if_front true r xs ys = refl
if_front false r xs ys = refl

pub kept_then : (rs ss : Rows) (ms ns : List Seen) → length rs ≡ length ms → kept (rs ++ ss) (ms ++ ns) ≡ kept rs ms ++ kept ss ns
kept_then [] ss [] ns e = refl
kept_then [] ss (m ∷ ms) ns e = absurd (omega (arith, e))
kept_then (r ∷ rs) ss [] ns e = absurd (omega (arith, e))
kept_then (r ∷ rs) ss (m ∷ ms) ns e = ap (λ xs. if is_true m then r ∷ xs else xs) (kept_then rs ss ms ns (omega (arith, e))) ∙ if_front (is_true m) r (kept rs ms) (kept ss ns)

-- ---- scans

-- behind some rows a scan goes on behind their cells too
pub scan_then : (s : Scan) (a : Kind) (before : List Seen) (rs ss : Rows) → scanned_behind s a before (rs ++ ss) ≡ rows_joined (scanned_behind s a before rs) (scanned_behind s a (before ++ cells rs) ss)
scan_then s a before [] ss = ap (λ cs. scanned_behind s a cs ss) (sym (append-nil before)) ∙ ok_then (scanned_behind s a (before ++ []) ss)
scan_then s a before (r ∷ rs) ss =
    let next : List Seen = before ++ r.1 ∷ [] in
    let one : Result Seen CellFault = or_inexact (fold_of s a next) in
    ap (at_row r.0 one) (scan_then s a next rs ss)
    ∙ (at_then r.0 one (scanned_behind s a next rs) (scanned_behind s a (next ++ cells rs) ss)
    ∙ ap (λ cs. rows_joined (at_row r.0 one (scanned_behind s a next rs)) (scanned_behind s a cs ss)) (append_assoc before (r.1 ∷ []) (cells rs)))
