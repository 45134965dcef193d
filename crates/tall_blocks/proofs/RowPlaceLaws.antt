-- What is counted from 0 over a block's cells is, with the numbers of the rows, what is told over the rows.
use Rattle.std.specs.Prelude.{◌≡◌, refl, ℕ, zero, suc, ◌<◌, ◌≤◌, ◌+◌, ◌-◌, if◌then◌else◌, Bool, true, false, Result, Ok, Err, List, [], ◌∷◌, ◌++◌, length}
use Rattle.std.proofs.Common.{ap, sym, ◌∙◌, arith}
use Rattle.tall_value.specs.declared.class.Kind.{Kind}
use Rattle.tall_value.specs.declared.faults.CellFault.{CellFault}
use Rattle.tall_value.specs.declared.functions.Scan.{Scan}
use Rattle.tall_value.specs.Cells.{Seen}
use Rattle.tall_value.specs.Columns.{cells, numbered}
use Rattle.tall_value.specs.Elementwise.{in_front, at_row, each_row, each_pair}
use Rattle.tall_value.specs.Filters.{is_true, kept}
use Rattle.tall_semantics.specs.ScanCarries.{fold_of}
use Rattle.tall_blocks.specs.Carries.{Rows, RowsOrFault, or_inexact, scanned_behind}
use Rattle.tall_blocks.specs.RowPlaces.{row_number_at, renumbered, with_numbers, next_place, kept_place}

-- y is x, counted from n, with the numbers of the rows
abbrev IsRenumbered : ℕ → Rows → RowsOrFault → RowsOrFault → Type 0
IsRenumbered n rs (Ok others) y = y ≡ Ok (renumbered rs others)
IsRenumbered n rs (Err e) y = (n ≤ e.0) × (y ≡ Err (row_number_at rs (e.0 - n), e.1))

abbrev err_row : ℕ → CellFault → RowsOrFault
err_row n e = Err (n, e)

front : (n : ℕ) (c : Seen) (r : ℕ × Seen) (rs : Rows) (x y : RowsOrFault) → IsRenumbered (n + 1) rs x y → IsRenumbered n (r ∷ rs) (in_front (n, c) x) (in_front (r.0, c) y)
front n c r rs (Ok others) y h = ap (in_front (r.0, c)) h
front n c r rs (Err e) y h =
    let l : n + 1 ≤ e.0 = h.0 in
    let s : e.0 - n ≡ suc (e.0 - (n + 1)) = omega (arith, l) in
    (omega (arith, l), ap (in_front (r.0, c)) h.1 ∙ ap (λ k. err_row (row_number_at (r ∷ rs) k) e.1) (sym s))

one_row : (n : ℕ) (g : Result Seen CellFault) (r : ℕ × Seen) (rs : Rows) (x y : RowsOrFault) → IsRenumbered (n + 1) rs x y → IsRenumbered n (r ∷ rs) (at_row n g x) (at_row r.0 g y)
one_row n (Ok c) r rs x y h = front n c r rs x y h
one_row n (Err e) r rs x y h = (let z : n - n ≡ 0 = omega (arith) in (omega (arith), ap (λ k. err_row (row_number_at (r ∷ rs) k) e) (sym z)))

each_from : (g : Seen → Result Seen CellFault) (n : ℕ) (rs : Rows) → IsRenumbered n rs (each_row g (numbered n (cells rs))) (each_row g rs)
each_from g n [] = refl
each_from g n (r ∷ rs) = one_row n (g r.1) r rs (each_row g (numbered (n + 1) (cells rs))) (each_row g rs) (each_from g (n + 1) rs)

pair_from : (g : Seen → Seen → Result Seen CellFault) (n : ℕ) (rs ss : Rows) → IsRenumbered n rs (each_pair g (numbered n (cells rs)) (numbered n (cells ss))) (each_pair g rs ss)
pair_from g n [] ss = refl
pair_from g n (r ∷ rs) [] = refl
pair_from g n (r ∷ rs) (s ∷ ss) = one_row n (g r.1 s.1) r rs (each_pair g (numbered (n + 1) (cells rs)) (numbered (n + 1) (cells ss))) (each_pair g rs ss) (pair_from g (n + 1) rs ss)

scan_from : (s : Scan) (a : Kind) (before : List Seen) (n : ℕ) (rs : Rows) → IsRenumbered n rs (scanned_behind s a before (numbered n (cells rs))) (scanned_behind s a before rs)
scan_from s a before n [] = refl
scan_from s a before n (r ∷ rs) =
    let next : List Seen = before ++ r.1 ∷ [] in
    one_row n (or_inexact (fold_of s a next)) r rs (scanned_behind s a next (numbered (n + 1) (cells rs))) (scanned_behind s a next rs) (scan_from s a next (n + 1) rs)

from_none : (rs : Rows) (x y : RowsOrFault) → IsRenumbered 0 rs x y → y ≡ with_numbers rs x
from_none rs (Ok others) y h = h
from_none rs (Err e) y h = (let z : e.0 - 0 ≡ e.0 = omega (arith) in h.1 ∙ ap (λ k. err_row (row_number_at rs k) e.1) z)

pub each_counted : (g : Seen → Result Seen CellFault) (rs : Rows) → each_row g rs ≡ with_numbers rs (each_row g (numbered 0 (cells rs)))
each_counted g rs = from_none rs (each_row g (numbered 0 (cells rs))) (each_row g rs) (each_from g 0 rs)

pub pair_counted : (g : Seen → Seen → Result Seen CellFault) (rs ss : Rows) → each_pair g rs ss ≡ with_numbers rs (each_pair g (numbered 0 (cells rs)) (numbered 0 (cells ss)))
pair_counted g rs ss = from_none rs (each_pair g (numbered 0 (cells rs)) (numbered 0 (cells ss))) (each_pair g rs ss) (pair_from g 0 rs ss)

pub scan_counted : (s : Scan) (a : Kind) (before : List Seen) (rs : Rows) → scanned_behind s a before rs ≡ with_numbers rs (scanned_behind s a before (numbered 0 (cells rs)))
scan_counted s a before rs = from_none rs (scanned_behind s a before (numbered 0 (cells rs))) (scanned_behind s a before rs) (scan_from s a before 0 rs)

pub renumbered_cells : (rs others : Rows) → length others ≡ length rs → cells (renumbered rs others) ≡ cells others
renumbered_cells [] [] e = refl
renumbered_cells [] (o ∷ others) e = absurd (omega (arith, e))
renumbered_cells (r ∷ rs) [] e = refl
renumbered_cells (r ∷ rs) (o ∷ others) e = ap (λ xs. o.1 ∷ xs) (renumbered_cells rs others (omega (arith, e)))

-- ---- filters

kept_one : (b : Bool) (r : ℕ × Seen) (rs : Rows) (cs : List Seen) → cells rs ≡ cs → cells (if b then r ∷ rs else rs) ≡ (if b then r.1 ∷ cs else cs)
kept_one true r rs cs h = ap (λ xs. r.1 ∷ xs) h
kept_one false r rs cs h = h

pub kept_cells : (rs : Rows) (mask : List Seen) → cells (kept rs mask) ≡ kept (cells rs) mask
kept_cells [] mask = refl
kept_cells (r ∷ rs) [] = refl
kept_cells (r ∷ rs) (m ∷ mask) = kept_one (is_true m) r (kept rs mask) (kept (cells rs) mask) (kept_cells rs mask)

pub kept_number : (rs : Rows) (mask : List Seen) (k : ℕ) → k < length (kept rs mask) → row_number_at (kept rs mask) k ≡ row_number_at rs (kept_place mask k)
kept_number [] mask k l = absurd (omega (arith, l))
kept_number (r ∷ rs) [] k l = absurd (omega (arith, l))
kept_number (r ∷ rs) (m ∷ mask) k l = by_mask (λ j q. kept_number rs mask j q) (is_true m) k l
  where
    by_mask : ((j : ℕ) → j < length (kept rs mask) → row_number_at (kept rs mask) j ≡ row_number_at rs (kept_place mask j)) → (b : Bool) (k : ℕ) → k < length (if b then r ∷ kept rs mask else kept rs mask) → row_number_at (if b then r ∷ kept rs mask else kept rs mask) k ≡ row_number_at (r ∷ rs) (next_place b k (kept_place mask))
    by_mask go true zero l = refl
    by_mask go true (suc k) l = go k (omega (arith, l))
    by_mask go false k l = go k l
