-- One row more of a fold that gives each row the fold up to it.
use Rattle.std.specs.Prelude.{Option, Result, Ok, Err}
use Rattle.std.proofs.Common.{ℕ, ◌≡◌, ◌≤◌, ◌<◌, ◌+◌, ℤ, List, [], ◌∷◌, ◌++◌, length, take, drop, get_or, map, refl, sym, ◌∙◌, ap, subst, arith, append_assoc, add-one}
use Rattle.std.specs.List.{All}
use Rattle.std.proofs.lemmas.List.{append-nil, map-append, drop_all, take_all, length-map}
use Rattle.std.proofs.lemmas.List.Elements.{All-append, All-cons, All-nil}
use Rattle.std.proofs.Math.Seq.{drop-cons}
use Rattle.tall_value.specs.declared.class.Kind.TheVariants.{Double}
use Rattle.tall_value.specs.declared.faults.CellFault.{CellFault}
use Rattle.tall_value.specs.declared.functions.Scan.TheVariants.{CumSum}
use Rattle.tall_value.specs.Cells.{Seen, amount, double}
use Rattle.tall_value.specs.CellOperators.{to_double}
use Rattle.tall_value.specs.Columns.{numbered}
use Rattle.tall_value.specs.Elementwise.{at_row, in_front}
use Rattle.tall_clamp.specs.Folds.{added}
use Rattle.tall_clamp.proofs.SumLemmas.{rows_more}
use Rattle.tall_fold.specs.Carries.{InClass, running, scan_rows, followed}
use Rattle.tall_fold.specs.Forms.{total_unless_nan}
use Rattle.tall_fold.proofs.JoinLemmas.{total_unless_nan-append}

-- ---- the row that comes next

pub behind : {V : Type 0} (f : V → Seen) (rows : List V) (i : ℕ) (v : V) → i < length rows → v ≡ get_or rows i v → map f (drop i rows) ≡ f v ∷ map f (drop (i + 1) rows)
behind f rows i v h e =
    ap (map f) (drop-cons rows i v h) ∙ ap (λ (n : ℕ). f (get_or rows i v) ∷ map f (drop n rows)) (sym (add-one i)) ∙ ap (λ (w : _). f w ∷ map f (drop (i + 1) rows)) (sym e)

pub before : {V : Type 0} (f : V → Seen) (rows : List V) (i : ℕ) (v : V) → i < length rows → v ≡ get_or rows i v → map f (take (i + 1) rows) ≡ map f (take i rows) ++ f v ∷ []
before f rows i v h e = ap (map f) (rows_more rows i v h e) ∙ map-append f (take i rows) (v ∷ [])

module _ {V : Type 0} (f : V → Seen) (next : Seen → Seen → Seen) where
  pub running_more : (rows : List V) (i : ℕ) (v a b : V) (out more : List V) (all : List Seen) → i < length rows → v ≡ get_or rows i v
      → map f out ++ running next (f a) (map f (drop i rows)) ≡ all → f b ≡ next (f a) (f v) → more ≡ out ++ b ∷ []
      → map f more ++ running next (f b) (map f (drop (i + 1) rows)) ≡ all
  running_more rows i v a b out more all h e was is pushed =
      let rest = map f (drop (i + 1) rows) in
      ap (λ (l : List V). map f l ++ running next (f b) rest) pushed
      ∙ ap (λ (l : List Seen). l ++ running next (f b) rest) (map-append f out (b ∷ []))
      ∙ append_assoc (map f out) (f b ∷ []) (running next (f b) rest)
      ∙ ap (λ (c : Seen). map f out ++ c ∷ running next c rest) is
      ∙ ap (λ (l : List Seen). map f out ++ running next (f a) l) (sym (behind f rows i v h e))
      ∙ was

  pub running_all : (rows : List V) (i : ℕ) (a : V) (out : List V) (all : List Seen) → length rows ≤ i
      → map f out ++ running next (f a) (map f (drop i rows)) ≡ all → map f out ≡ all
  running_all rows i a out all h was =
      sym (append-nil (map f out))
      ∙ ap (λ (l : List V). map f out ++ running next (f a) (map f l)) (sym (drop_all i rows h))
      ∙ was

pub within_more : {V : Type 0} (f : V → Seen) (rows : List V) (i : ℕ) (v : V) → i < length rows → v ≡ get_or rows i v → All InClass (map f (take i rows)) → InClass (f v)
    → All InClass (map f (take (i + 1) rows))
within_more f rows i v h e are is =
    subst (All InClass) (sym (before f rows i v h e)) (All-append InClass (map f (take i rows)) (f v ∷ []) are (All-cons InClass (f v) [] is (All-nil InClass)))

pub within_all : {V : Type 0} (f : V → Seen) (rows : List V) (i : ℕ) → length rows ≤ i → All InClass (map f (take i rows)) → All InClass (map f rows)
within_all f rows i h are = subst (λ (l : List _). All InClass (map f l)) (take_all i rows h) are

-- ---- exact totals

Outcome : Type 0
Outcome = Result (List (ℕ × Seen)) (ℕ × CellFault)

pub numbered-append : (n : ℕ) (cs ds : List Seen) → numbered n (cs ++ ds) ≡ numbered n cs ++ numbered (n + length cs) ds
numbered-append n [] ds = ap (λ (m : ℕ). numbered m ds) (omega arith)
numbered-append n (c ∷ cs) ds =
    ap (λ (l : List (ℕ × Seen)). (n, c) ∷ l) (numbered-append (n + 1) cs ds ∙ ap (λ (m : ℕ). numbered (n + 1) cs ++ numbered m ds) (omega arith))

pub followed_one : (rs : List (ℕ × Seen)) (r : ℕ × Seen) (s : Result (List (ℕ × Seen)) (ℕ × CellFault)) → followed (Ok (rs ++ r ∷ [])) s ≡ followed (Ok rs) (in_front r s)
followed_one rs r (Ok ss) = ap Ok (append_assoc rs (r ∷ []) ss)
followed_one rs r (Err e) = refl

-- the rows from a list of cells on
abbrev pub from : List Seen → ℕ → List Seen → Result (List (ℕ × Seen)) (ℕ × CellFault)
from cs n ds = scan_rows CumSum Double cs (numbered n ds)

pub total_here : (cs : List Seen) (c : Seen) (s t : Option ℤ) → total_unless_nan (c ∷ []) ≡ amount c → s ≡ total_unless_nan cs → t ≡ added s (amount c) → t ≡ total_unless_nan (cs ++ c ∷ [])
total_here cs c s t alone was is =
    is ∙ ap (λ (x : Option ℤ). added x (amount c)) was ∙ ap (added (total_unless_nan cs)) (sym alone) ∙ total_unless_nan-append cs (c ∷ [])

pub totals_more : (cs done rest : List Seen) (c : Seen) (out : List Seen) (d : Option ℤ) (i : ℕ) (t : Option ℤ) (all : Result (List (ℕ × Seen)) (ℕ × CellFault))
    → length out ≡ i → t ≡ total_unless_nan ((cs ++ done) ++ c ∷ []) → to_double t ≡ Ok (double d)
    → followed (Ok (numbered 0 out)) (from (cs ++ done) i (c ∷ rest)) ≡ all
    → followed (Ok (numbered 0 (out ++ double d ∷ []))) (from (cs ++ (done ++ c ∷ [])) (i + 1) rest) ≡ all
totals_more cs done rest c out d i t all len is given was =
    let places : numbered 0 (out ++ double d ∷ []) ≡ numbered 0 out ++ (i, double d) ∷ [] =
    numbered-append 0 out (double d ∷ []) ∙ ap (λ (n : ℕ). numbered 0 out ++ (n, double d) ∷ []) (let e : 0 + length out ≡ i = omega (arith, len) in e) in
    ap (λ (l : List (ℕ × Seen)). followed (Ok l) (from (cs ++ (done ++ c ∷ [])) (i + 1) rest)) places
    ∙ ap (λ (l : List Seen). followed (Ok (numbered 0 out ++ (i, double d) ∷ [])) (from l (i + 1) rest)) (sym (append_assoc cs done (c ∷ [])))
    ∙ followed_one (numbered 0 out) (i, double d) (from ((cs ++ done) ++ c ∷ []) (i + 1) rest)
    ∙ ap (λ (r : Result Seen CellFault). followed (Ok (numbered 0 out)) (at_row i r (from ((cs ++ done) ++ c ∷ []) (i + 1) rest))) (sym (sym (ap to_double is) ∙ given))
    ∙ was

pub totals_stop : (cs done rest : List Seen) (c : Seen) (out : List Seen) (i : ℕ) (t : Option ℤ) (e : CellFault) (all : Result (List (ℕ × Seen)) (ℕ × CellFault))
    → t ≡ total_unless_nan ((cs ++ done) ++ c ∷ []) → to_double t ≡ Err e
    → followed (Ok (numbered 0 out)) (from (cs ++ done) i (c ∷ rest)) ≡ all → all ≡ Err (i, e)
totals_stop cs done rest c out i t e all is refused was =
    sym was
    ∙ ap (λ (r : Result Seen CellFault). followed (Ok (numbered 0 out)) (at_row i r (from ((cs ++ done) ++ c ∷ []) (i + 1) rest))) (sym (ap to_double is) ∙ refused)

-- one row more, all together
pub record HasTotals {V : Type 0} (f : V → Seen) (start total : Option ℤ) (rows : List V) (i : ℕ) (out : List (Option ℤ)) (cs : List Seen) : Type 0 where
  pub total_is : total ≡ total_unless_nan (cs ++ map f (take i rows))
  pub goes : followed (Ok (numbered 0 (map (λ d. double d) out))) (from (cs ++ map f (take i rows)) i (map f (drop i rows))) ≡ from cs 0 (map f rows)

module _ {V : Type 0} (f : V → Seen) (alone : (v : V) → total_unless_nan (f v ∷ []) ≡ amount (f v)) where
  pub total_next : (start total next : Option ℤ) (rows : List V) (i : ℕ) (v : V) (out : List (Option ℤ)) (cs : List Seen) → i < length rows → v ≡ get_or rows i v
      → HasTotals f start total rows i out cs → next ≡ added total (amount (f v)) → next ≡ total_unless_nan ((cs ++ map f (take i rows)) ++ f v ∷ [])
  total_next start total next rows i v out cs h e was is = total_here (cs ++ map f (take i rows)) (f v) total next (alone v) was.total_is is

  pub totals_go_on : (start total next : Option ℤ) (rows : List V) (i : ℕ) (v : V) (out more : List (Option ℤ)) (d : Option ℤ) (cs : List Seen) → i < length rows → v ≡ get_or rows i v → length out ≡ i
      → HasTotals f start total rows i out cs → next ≡ added total (amount (f v)) → to_double next ≡ Ok (double d) → more ≡ out ++ d ∷ []
      → HasTotals f start next rows (i + 1) more cs
  totals_go_on start total next rows i v out more d cs h e len was is given pushed =
      let here = total_next start total next rows i v out cs h e was is in
      let front : cs ++ map f (take (i + 1) rows) ≡ cs ++ (map f (take i rows) ++ f v ∷ []) = ap (λ (l : List Seen). cs ++ l) (before f rows i v h e) in
      record {
        total_is = here ∙ ap total_unless_nan (append_assoc cs (map f (take i rows)) (f v ∷ []) ∙ sym front);
        goes = ap (λ (l : List (Option ℤ)). followed (Ok (numbered 0 (map (λ d. double d) l))) (from (cs ++ map f (take (i + 1) rows)) (i + 1) (map f (drop (i + 1) rows)))) pushed
            ∙ ap (λ (l : List Seen). followed (Ok (numbered 0 l)) (from (cs ++ map f (take (i + 1) rows)) (i + 1) (map f (drop (i + 1) rows)))) (map-append (λ d. double d) out (d ∷ []))
            ∙ ap (λ (l : List Seen). followed (Ok (numbered 0 (map (λ d. double d) out ++ double d ∷ []))) (from l (i + 1) (map f (drop (i + 1) rows)))) front
            ∙ totals_more cs (map f (take i rows)) (map f (drop (i + 1) rows)) (f v) (map (λ d. double d) out) d i next (from cs 0 (map f rows)) (length-map out (λ d. double d) ∙ len) here given
            (ap (λ (l : List Seen). followed (Ok (numbered 0 (map (λ d. double d) out))) (from (cs ++ map f (take i rows)) i l)) (sym (behind f rows i v h e)) ∙ was.goes);
      }

  pub totals_refuse : (start total next : Option ℤ) (rows : List V) (i : ℕ) (v : V) (out : List (Option ℤ)) (x : CellFault) (cs : List Seen) → i < length rows → v ≡ get_or rows i v
      → HasTotals f start total rows i out cs → next ≡ added total (amount (f v)) → to_double next ≡ Err x → from cs 0 (map f rows) ≡ Err (i, x)
  totals_refuse start total next rows i v out x cs h e was is refused =
      totals_stop cs (map f (take i rows)) (map f (drop (i + 1) rows)) (f v) (map (λ d. double d) out) i next x (from cs 0 (map f rows))
      (total_next start total next rows i v out cs h e was is) refused
      (ap (λ (l : List Seen). followed (Ok (numbered 0 (map (λ d. double d) out))) (from (cs ++ map f (take i rows)) i l)) (sym (behind f rows i v h e)) ∙ was.goes)

  pub totals_done : (start total : Option ℤ) (rows : List V) (i : ℕ) (out : List (Option ℤ)) (cs : List Seen) → length rows ≤ i
      → HasTotals f start total rows i out cs → from cs 0 (map f rows) ≡ Ok (numbered 0 (map (λ d. double d) out))
  totals_done start total rows i out cs h was =
      sym was.goes
      ∙ ap (λ (l : List V). followed (Ok (numbered 0 (map (λ d. double d) out))) (from (cs ++ map f (take i rows)) i (map f l))) (drop_all i rows h)
      ∙ ap Ok (append-nil (numbered 0 (map (λ d. double d) out)))

  pub totals_begin : (start : Option ℤ) (rows : List V) (cs : List Seen) → start ≡ total_unless_nan cs → HasTotals f start start rows 0 [] cs
  totals_begin start rows cs is =
      record {
        total_is = is ∙ ap total_unless_nan (sym (append-nil cs));
        goes = nothing (from (cs ++ []) 0 (map f rows)) ∙ ap (λ (l : List Seen). from l 0 (map f rows)) (append-nil cs);
      } where
        nothing : (r : Result (List (ℕ × Seen)) (ℕ × CellFault)) → followed (Ok []) r ≡ r
        nothing (Ok ss) = refl
        nothing (Err x) = refl
