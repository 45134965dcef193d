-- What is done with rows keeps their numbers.
use Rattle.std.specs.Prelude.{◌≡◌, refl, ℤ, ℕ, ◌+◌, Bool, true, false, if◌then◌else◌, Option, None, Result, Ok, Err, List, [], ◌∷◌, map}
use Rattle.std.proofs.Common.{ap, sym, ◌∙◌}
use Rattle.tall_value.specs.declared.class.IntKind.{IntKind}
use Rattle.tall_value.specs.declared.class.Kind.{Kind}
use Rattle.tall_value.specs.declared.class.Kind.TheVariants.{Integer, Logical, Double, Text}
use Rattle.tall_value.specs.declared.faults.CellFault.{CellFault}
use Rattle.tall_value.specs.declared.faults.FaultKind.{FaultKind}
use Rattle.tall_value.specs.declared.functions.Scan.{Scan}
use Rattle.tall_value.specs.declared.functions.Scan.TheVariants.{CumSum, CumMin, CumMax}
use Rattle.tall_value.specs.Cells.{Seen, double, amount}
use Rattle.tall_value.specs.Reductions.{lesser, greater}
use Rattle.tall_value.specs.Columns.{numbered}
use Rattle.tall_value.specs.Elementwise.{in_front, at_row, each_row, each_pair}
use Rattle.tall_value.specs.Filters.{is_true, kept}
use Rattle.tall_value.specs.Groups.{with_value, all_values}
use Rattle.tall_value.specs.Scans.{integer_sums, double_sums, bests, better, added, scanned}
use Rattle.tall_int.specs.Doubles.{whole_add}
use Rattle.tall_value.specs.CellOperators.{double_cell}

abbrev pub numbers : List (ℕ × Seen) → List ℕ
numbers rs = map (λ (r : ℕ × Seen). r.0) rs

abbrev pub Rows : Type 0
Rows = List (ℕ × Seen)

abbrev pub ok_rows : Rows → Result Rows (ℕ × CellFault)
ok_rows rs = Ok rs

pub ok_inside : (rs ss : Rows) → ok_rows rs ≡ ok_rows ss → rs ≡ ss
ok_inside rs ss h = ap (λ r. elim r [ Ok z ↦ z | Err e ↦ rs ]) h

front_numbers : (r : ℕ × Seen) (rest : Result Rows (ℕ × CellFault)) (ns : List ℕ) (outs : Rows) → ((os : Rows) → rest ≡ ok_rows os → numbers os ≡ ns) → in_front r rest ≡ ok_rows outs → numbers outs ≡ r.0 ∷ ns
front_numbers r (Ok os) ns outs h e = ap numbers (sym (ok_inside (r ∷ os) outs e)) ∙ ap (λ xs. r.0 ∷ xs) (h os refl)
front_numbers r (Err k) ns outs h e = absurd (cc)

at_numbers : (n : ℕ) (c : Result Seen CellFault) (rest : Result Rows (ℕ × CellFault)) (ns : List ℕ) (outs : Rows) → ((os : Rows) → rest ≡ ok_rows os → numbers os ≡ ns) → at_row n c rest ≡ ok_rows outs → numbers outs ≡ n ∷ ns
at_numbers n (Ok c) rest ns outs h e = front_numbers (n, c) rest ns outs h e
at_numbers n (Err k) rest ns outs h e = absurd (cc)

pub each_row_numbers : (g : Seen → Result Seen CellFault) (rs outs : Rows) → each_row g rs ≡ ok_rows outs → numbers outs ≡ numbers rs
each_row_numbers g [] outs e = ap numbers (sym (ok_inside [] outs e))
each_row_numbers g (r ∷ rs) outs e = at_numbers r.0 (g r.1) (each_row g rs) (numbers rs) outs (λ os h. each_row_numbers g rs os h) e

tail_is : (m n : ℕ) (ms ns : List ℕ) → m ∷ ms ≡ n ∷ ns → ms ≡ ns
tail_is m n ms ns h = ap (λ xs. elim xs [ [] ↦ ms | y ∷ ys ↦ ys ]) h

pub each_pair_numbers : (g : Seen → Seen → Result Seen CellFault) (rs ss outs : Rows) → numbers rs ≡ numbers ss → each_pair g rs ss ≡ ok_rows outs → numbers outs ≡ numbers rs
each_pair_numbers g [] ss outs n e = ap numbers (sym (ok_inside [] outs e))
each_pair_numbers g (r ∷ rs) [] outs n e = absurd (cc)
each_pair_numbers g (r ∷ rs) (s ∷ ss) outs n e = at_numbers r.0 (g r.1 s.1) (each_pair g rs ss) (numbers rs) outs (λ os h. each_pair_numbers g rs ss os (tail_is r.0 s.0 (numbers rs) (numbers ss) n) h) e

pub integer_numbers : (k : IntKind) (sum : ℤ) (rs : Rows) → numbers (integer_sums k sum rs) ≡ numbers rs
integer_numbers k sum [] = refl
integer_numbers k sum (r ∷ rs) = ap (λ xs. r.0 ∷ xs) (integer_numbers k (added k sum (amount r.1)) rs)

pub double_numbers : (sum : Option ℤ) (rs outs : Rows) → double_sums sum rs ≡ ok_rows outs → numbers outs ≡ numbers rs
double_numbers sum [] outs e = ap numbers (sym (ok_inside [] outs e))
double_numbers sum (r ∷ rs) outs e =
    let next : Option ℤ = elim (whole_add sum (amount r.1)) [ Ok d ↦ d | Err x ↦ None ] in
    at_numbers r.0 (double_cell (whole_add sum (amount r.1))) (double_sums next rs) (numbers rs) outs (λ os h. double_numbers next rs os h) e

pub best_numbers : (f : Seen → Seen → Seen) (best : Seen) (rs : Rows) → numbers (bests f best rs) ≡ numbers rs
best_numbers f best [] = refl
best_numbers f best (r ∷ rs) = ap (λ xs. r.0 ∷ xs) (best_numbers f (better f best r.1) rs)

pub scan_numbers : (s : Scan) (a : Kind) (rs outs : Rows) → scanned s a rs ≡ ok_rows outs → numbers outs ≡ numbers rs
scan_numbers CumSum (Integer k) rs outs e = ap numbers (sym (ok_inside _ outs e)) ∙ integer_numbers k _ rs
scan_numbers CumSum Logical rs outs e = double_numbers _ rs outs e
scan_numbers CumSum Double rs outs e = double_numbers _ rs outs e
scan_numbers CumSum Text rs outs e = double_numbers _ rs outs e
scan_numbers CumMin a rs outs e = ap numbers (sym (ok_inside _ outs e)) ∙ best_numbers lesser (double None) rs
scan_numbers CumMax a rs outs e = ap numbers (sym (ok_inside _ outs e)) ∙ best_numbers greater (double None) rs

pub kept_numbers : (rs : Rows) (mask : List Seen) → numbers (kept rs mask) ≡ kept (numbers rs) mask
kept_numbers [] mask = refl
kept_numbers (r ∷ rs) [] = refl
kept_numbers (r ∷ rs) (m ∷ mask) = by_test (is_true m) (kept rs mask) (kept (numbers rs) mask) (kept_numbers rs mask)
  where
    by_test : (b : Bool) (xs : Rows) (ys : List ℕ) → numbers xs ≡ ys → numbers (if b then r ∷ xs else xs) ≡ (if b then r.0 ∷ ys else ys)
    by_test true xs ys h = ap (λ zs. r.0 ∷ zs) h
    by_test false xs ys h = h

pub numbered_map : (n : ℕ) (g : Seen → Seen) (ks : List Seen) → numbers (numbered n (map g ks)) ≡ numbers (numbered n ks)
numbered_map n g [] = refl
numbered_map n g (k ∷ ks) = ap (λ xs. n ∷ xs) (numbered_map (n + 1) g ks)

abbrev pub ok_cells : List Seen → Result (List Seen) FaultKind
ok_cells cs = Ok cs

cells_inside : (cs ds : List Seen) → ok_cells cs ≡ ok_cells ds → cs ≡ ds
cells_inside cs ds h = ap (λ r. elim r [ Ok z ↦ z | Err e ↦ cs ]) h

value_numbers : (n : ℕ) (r : Result Seen FaultKind) (rest : Result (List Seen) FaultKind) (ns : List ℕ) (cs : List Seen) → ((ds : List Seen) → rest ≡ ok_cells ds → numbers (numbered (n + 1) ds) ≡ ns) → with_value r rest ≡ ok_cells cs → numbers (numbered n cs) ≡ n ∷ ns
value_numbers n (Ok c) (Ok ds) ns cs h e = ap (λ xs. numbers (numbered n xs)) (sym (cells_inside (c ∷ ds) cs e)) ∙ ap (λ xs. n ∷ xs) (h ds refl)
value_numbers n (Ok c) (Err k) ns cs h e = absurd (cc)
value_numbers n (Err k) rest ns cs h e = absurd (cc)

pub all_values_numbers : (n : ℕ) (g : Seen → Result Seen FaultKind) (ks cs : List Seen) → all_values (map g ks) ≡ ok_cells cs → numbers (numbered n cs) ≡ numbers (numbered n ks)
all_values_numbers n g [] cs e = ap (λ xs. numbers (numbered n xs)) (sym (cells_inside [] cs e))
all_values_numbers n g (k ∷ ks) cs e = value_numbers n (g k) (all_values (map g ks)) (numbers (numbered (n + 1) ks)) cs (λ ds h. all_values_numbers (n + 1) g ks ds h) e
