-- What is kept of the cells of a column: what loops over its values give, in the words of reductions.
use Rattle.std.proofs.Common.{◌≡◌, ℕ, ◌+◌, ◌≤◌, ℤ, pos, negsuc, ◌+ℤ◌, ◌≤ℤ◌, Bool, true, false, if◌then◌else◌, ◌||◌, ◌&&◌, Option, None, Some, List, [], ◌∷◌, length, map, refl, ap, sym, subst, ◌∙◌, arith}
use Rattle.std.specs.Prelude.{IfSome}
use Rattle.std.specs.List.{All, fold, filter, filter_map, list_any, list_all}
use Rattle.std.specs.Int.{int_max, int_min}
use Rattle.std.proofs.lemmas.Int.{ints, clamps}
use Rattle.std.proofs.lemmas.List.{length-map}
use Rattle.std.proofs.lemmas.List.Elements.{All-nil, All-cons}
use Rattle.tall_int.specs.Numbers.{nearest}
use Rattle.tall_int.specs.Sums.{clamped_sum}
use Rattle.tall_value.specs.declared.class.IntKind.{IntKind}
use Rattle.tall_value.specs.declared.class.Kind.{Kind}
use Rattle.tall_value.specs.declared.class.Kind.TheVariants.{Integer, Logical, Double}
use Rattle.tall_value.specs.declared.functions.Reduction.TheVariants as reduction
use Rattle.tall_value.specs.Cells.{Seen, whole, logical, double, amount, is_nan}
use Rattle.tall_value.specs.Classes.{greatest, least}
use Rattle.tall_value.specs.Columns.{HasKind}
use Rattle.tall_value.specs.Filters.{is_true}
use Rattle.tall_value.specs.Reductions.{present, is_nonzero, total, used, every_cell}
use Rattle.tall_clamp.specs.Clamps.{after, apply, row_clamp, Sums}
use Rattle.tall_clamp.specs.Folds.{added, joined_by, no_clamp, of_rows, one_row}
use Rattle.tall_clamp.specs.FoldLaws.{held, any_is, all_is}
use Rattle.tall_clamp.specs.Outcomes.{picked, total as left_total}
use Rattle.tall_clamp.specs.SumLaws.{rows_sum}
use Rattle.tall_clamp.specs.declared.bounds.Bounds.{Bounds}
use Rattle.tall_fold.specs.Forms.{exact_total, form_of, total_unless_nan}
use Rattle.tall_fold.specs.Summaries.{IsKeptOf, IsNumber}
use Rattle.tall_fold.specs.declared.kept.Kept.TheVariants as kept

-- ---- cells of one kind

pub kinds : {V : Type 0} (a : Kind) (f : V → Seen) → ((x : V) → HasKind a (f x)) → (vs : List V) → All (HasKind a) (map f vs)
kinds a f h [] = All-nil (HasKind a)
kinds a f h (v ∷ vs) = All-cons (HasKind a) (f v) (map f vs) (h v) (kinds a f h vs)

pub count_all : (cs : List Seen) → length cs ≡ length (filter every_cell cs)
count_all [] = refl
count_all (c ∷ cs) = (let h = count_all cs in omega (arith, h))

-- ---- integers

module _ {V : Type 0} (k : IntKind) (number : V → ℤ) where
  cell : V → Seen
  cell v = whole k (number v)

  amounts : (vs : List V) → filter_map amount (map (λ v. whole k (number v)) vs) ≡ map number vs
  amounts [] = refl
  amounts (v ∷ vs) = ap (λ (l : List ℤ). number v ∷ l) (amounts vs)

  no_nan : (vs : List V) → list_any is_nan (map (λ v. whole k (number v)) vs) ≡ false
  no_nan [] = refl
  no_nan (v ∷ vs) = no_nan vs

  all_present : (vs : List V) → present (map (λ v. whole k (number v)) vs) ≡ map (λ v. whole k (number v)) vs
  all_present [] = refl
  all_present (v ∷ vs) = ap (λ (l : List Seen). whole k (number v) ∷ l) (all_present vs)

  all_used : (b : Bool) (vs : List V) → used b (map (λ v. whole k (number v)) vs) ≡ map (λ v. whole k (number v)) vs
  all_used true vs = all_present vs
  all_used false vs = refl

  integers : (vs : List V) → All (HasKind (Integer k)) (map (λ v. whole k (number v)) vs)
  integers vs = kinds (Integer k) (λ v. whole k (number v)) (λ v. refl) vs

-- the total from the left is the total
left_total_is : (t : ℤ) (ns : List ℤ) → fold (λ (a n : ℤ). a +ℤ n) t ns ≡ t +ℤ total ns
left_total_is t [] = omega (arith, ints)
left_total_is t (n ∷ ns) = (let h = left_total_is (t +ℤ n) ns in omega (arith, ints, h))

left_total_total : (ns : List ℤ) → left_total ns ≡ total ns
left_total_total ns = left_total_is (pos 0) ns ∙ (let e : pos 0 +ℤ total ns ≡ total ns = omega (arith, ints) in e)

-- the rows that a fold counts
rows_of : {A V : Type 0} (op : A → A → A) (f : V → A) (s : A × ℕ) (vs : List V) → (of_rows (joined_by op) (one_row f) s vs).1 ≡ s.1 + length vs
rows_of op f s [] = omega arith
rows_of op f s (v ∷ vs) = (let h = rows_of op f (joined_by op s (one_row f v)) vs in omega (arith, h))

no_clamp_is : (x : ℤ) → negsuc 18446744073709551615 ≤ℤ x → x ≤ℤ pos 18446744073709551616 → apply no_clamp x ≡ x
no_clamp_is x p q = omega (arith, ints, clamps)

pub clamp_of_integers : {V : Type 0} (omitnan : Bool) (k : IntKind) (low high : ℤ) (number : V → ℤ) (vs : List V) (s : Bounds × ℕ)
    → least k ≡ low → greatest k ≡ high → (negsuc 18446744073709551615 ≤ℤ low) → (high ≤ℤ pos 18446744073709551616) → (low ≤ℤ pos 0) → (pos 127 ≤ℤ high)
    → s ≡ of_rows (joined_by after) (one_row (λ v. row_clamp low high (number v))) (no_clamp, 0) vs
    → IsKeptOf (reduction.Sum true omitnan) (Integer k) (map (λ v. whole k (number v)) vs) (kept.Clamp s)
clamp_of_integers {V} omitnan k low high number vs s p q a b c d e =
    let order : low ≤ℤ high = omega (arith, ints, c, d) in
    let sums : Sums low high (map number vs) s.0 = λ x u v.
    ap (λ (t : Bounds × ℕ). apply t.0 x) e
    ∙ ap (λ (t : Bounds). apply t x) (held after (λ v. row_clamp low high (number v)) (no_clamp, 0) vs)
    ∙ rows_sum low high number no_clamp vs x order (omega (arith, ints))
    ∙ ap (λ (y : ℤ). clamped_sum low high y (map number vs)) (no_clamp_is x (omega (arith, ints, a, u)) (omega (arith, ints, b, v))) in
    record {
      form = refl;
      within = (let r : s.1 ≡ 0 + length vs = ap (λ (t : Bounds × ℕ). t.1) e ∙ rows_of after (λ v. row_clamp low high (number v)) (no_clamp, 0) vs in let m = length-map vs (λ v. whole k (number v)) in omega (arith, r, m));
      number = tt;
      cells = integers k number vs;
      comes = subst (λ (l : List ℤ). Sums (least k) (greatest k) l s.0) (sym (amounts k number vs))
          (subst (λ (l : ℤ). Sums l (greatest k) (map number vs) s.0) (sym p) (subst (λ (h : ℤ). Sums low h (map number vs) s.0) (sym q) sums));
    }

unless_none : (b : Bool) (n : ℤ) → b ≡ false → (if b then None else Some n) ≡ Some n
unless_none true n h = absurd cc
unless_none false n h = refl

total_is : {V : Type 0} (k : IntKind) (number : V → ℤ) (b : Bool) (vs : List V) → Some (left_total (map number vs)) ≡ total_unless_nan (used b (map (λ v. whole k (number v)) vs))
total_is k number b vs =
    ap Some (left_total_total (map number vs) ∙ ap total (sym (amounts k number vs)))
    ∙ sym (unless_none _ _ (no_nan k number vs))
    ∙ ap total_unless_nan (sym (all_used k number b vs))

pub total_of_integers : {V : Type 0} (omitnan : Bool) (k : IntKind) (number : V → ℤ) (vs : List V) (s : Option ℤ × ℕ)
    → s ≡ (Some (left_total (map number vs)), length vs)
    → IsKeptOf (reduction.Sum false omitnan) (Integer k) (map (λ v. whole k (number v)) vs) (kept.Total s)
total_of_integers omitnan k number vs s e =
    record {
      form = refl;
      within = (let r : s.1 ≡ length vs = ap (λ (t : Option ℤ × ℕ). t.1) e in let m = length-map vs (λ v. whole k (number v)) in omega (arith, r, m));
      number = tt;
      cells = integers k number vs;
      comes = ap (λ (t : Option ℤ × ℕ). t.0) e ∙ total_is k number omitnan vs;
    }

ends_are : (k : IntKind) (low high : ℤ) (s : Option ℤ) → least k ≡ low → greatest k ≡ high → IfSome s (λ n. nearest low high n ≡ n) → IfSome s (IsNumber (Integer k))
ends_are k low high None p q h = tt
ends_are k low high (Some n) p q h = ap (λ (l : ℤ). nearest l (greatest k) n) p ∙ ap (λ (l : ℤ). nearest low l n) q ∙ h

pub least_of_integers : {V : Type 0} (k : IntKind) (low high : ℤ) (number : V → ℤ) (vs : List V) (s : Option ℤ × ℕ) → least k ≡ low → greatest k ≡ high
    → s.0 ≡ picked int_min (map number vs) → s.1 ≤ length vs → IfSome s.0 (λ n. nearest low high n ≡ n)
    → IsKeptOf reduction.Min (Integer k) (map (λ v. whole k (number v)) vs) (kept.Least s)
least_of_integers k low high number vs s p q e r h =
    record {
      form = refl;
      within = (let m = length-map vs (λ v. whole k (number v)) in omega (arith, r, m));
      number = ends_are k low high s.0 p q h;
      cells = integers k number vs;
      comes = e ∙ ap (picked int_min) (sym (amounts k number vs));
    }

pub greatest_of_integers : {V : Type 0} (k : IntKind) (low high : ℤ) (number : V → ℤ) (vs : List V) (s : Option ℤ × ℕ) → least k ≡ low → greatest k ≡ high
    → s.0 ≡ picked int_max (map number vs) → s.1 ≤ length vs → IfSome s.0 (λ n. nearest low high n ≡ n)
    → IsKeptOf reduction.Max (Integer k) (map (λ v. whole k (number v)) vs) (kept.Greatest s)
greatest_of_integers k low high number vs s p q e r h =
    record {
      form = refl;
      within = (let m = length-map vs (λ v. whole k (number v)) in omega (arith, r, m));
      number = ends_are k low high s.0 p q h;
      cells = integers k number vs;
      comes = e ∙ ap (picked int_max) (sym (amounts k number vs));
    }

-- ---- numbers of rows, of any kind

module _ {V : Type 0} (a : Kind) (f : V → Seen) (vs : List V) (n : ℕ) (few : n ≤ length vs) (are : All (HasKind a) (map f vs)) where
  nonzeros_are : n ≡ length (filter is_nonzero (map f vs)) → IsKeptOf reduction.Nnz a (map f vs) (kept.Number n)
  nonzeros_are e = record { form = refl; within = (let m = length-map vs f in omega (arith, few, m)); number = tt; cells = are; comes = e }

  numel_are : n ≡ length vs → IsKeptOf reduction.Numel a (map f vs) (kept.Number n)
  numel_are e = record { form = refl; within = (let m = length-map vs f in omega (arith, few, m)); number = tt; cells = are; comes = e ∙ sym (length-map vs f) ∙ count_all (map f vs) }

  height_are : n ≡ length vs → IsKeptOf reduction.Height a (map f vs) (kept.Number n)
  height_are e = record { form = refl; within = (let m = length-map vs f in omega (arith, few, m)); number = tt; cells = are; comes = e ∙ sym (length-map vs f) ∙ count_all (map f vs) }

pub nonzeros_of_integers : {V : Type 0} (k : IntKind) (number : V → ℤ) (vs : List V) (n : ℕ) → n ≡ length (filter is_nonzero (map (λ v. whole k (number v)) vs)) → n ≤ length vs
    → IsKeptOf reduction.Nnz (Integer k) (map (λ v. whole k (number v)) vs) (kept.Number n)
nonzeros_of_integers k number vs n e few = nonzeros_are (Integer k) (λ v. whole k (number v)) vs n few (integers k number vs) e

pub numel_of_integers : {V : Type 0} (k : IntKind) (number : V → ℤ) (vs : List V) (n : ℕ) → n ≡ length vs
    → IsKeptOf reduction.Numel (Integer k) (map (λ v. whole k (number v)) vs) (kept.Number n)
numel_of_integers k number vs n e = numel_are (Integer k) (λ v. whole k (number v)) vs n (omega (arith, e)) (integers k number vs) e

pub height_of_integers : {V : Type 0} (k : IntKind) (number : V → ℤ) (vs : List V) (n : ℕ) → n ≡ length vs
    → IsKeptOf reduction.Height (Integer k) (map (λ v. whole k (number v)) vs) (kept.Number n)
height_of_integers k number vs n e = height_are (Integer k) (λ v. whole k (number v)) vs n (omega (arith, e)) (integers k number vs) e

-- ---- logicals

truths : (bs : List Bool) → All (HasKind Logical) (map (λ b. logical b) bs)
truths bs = kinds Logical (λ b. logical b) (λ b. refl) bs

no_nan_truth : (bs : List Bool) → list_any is_nan (map (λ b. logical b) bs) ≡ false
no_nan_truth [] = refl
no_nan_truth (b ∷ bs) = no_nan_truth bs

all_truths : (omitnan : Bool) (bs : List Bool) → used omitnan (map (λ b. logical b) bs) ≡ map (λ b. logical b) bs
all_truths false bs = refl
all_truths true [] = refl
all_truths true (b ∷ bs) = ap (λ (l : List Seen). logical b ∷ l) (all_truths true bs)

trues_are : (bs : List Bool) → pos (length (filter is_nonzero (map (λ b. logical b) bs))) ≡ total (filter_map amount (map (λ b. logical b) bs))
trues_are [] = refl
trues_are (true ∷ bs) = (let h = trues_are bs in omega (arith, ints, h))
trues_are (false ∷ bs) = (let h = trues_are bs in omega (arith, ints, h))

pub total_of_logicals : (omitnan : Bool) (bs : List Bool) (s : Option ℤ × ℕ) → s.0 ≡ Some (pos (length (filter is_nonzero (map (λ b. logical b) bs)))) → s.1 ≤ length bs
    → IsKeptOf (reduction.Sum false omitnan) Logical (map (λ b. logical b) bs) (kept.Total s)
total_of_logicals omitnan bs s e r =
    record {
      form = refl;
      within = (let m = length-map bs (λ b. logical b) in omega (arith, r, m));
      number = tt;
      cells = truths bs;
      comes = e ∙ ap Some (trues_are bs) ∙ sym (unless_none _ _ (no_nan_truth bs)) ∙ ap total_unless_nan (sym (all_truths omitnan bs));
    }

some_is : (bs : List Bool) → list_any (λ b. b) bs ≡ list_any is_true (map (λ b. logical b) bs)
some_is [] = refl
some_is (true ∷ bs) = refl
some_is (false ∷ bs) = some_is bs

each_is : (bs : List Bool) → list_all (λ b. b) bs ≡ list_all is_true (map (λ b. logical b) bs)
each_is [] = refl
each_is (true ∷ bs) = each_is bs
each_is (false ∷ bs) = refl

pub any_of_logicals : (bs : List Bool) (s : Bool × ℕ) → s ≡ of_rows (joined_by (λ a b. a || b)) (one_row (λ v. v)) (false, 0) bs
    → IsKeptOf reduction.Any Logical (map (λ b. logical b) bs) (kept.Any s)
any_of_logicals bs s e =
    record {
      form = refl;
      within = (let r : s.1 ≡ 0 + length bs = ap (λ (t : Bool × ℕ). t.1) e ∙ rows_of (λ a b. a || b) (λ v. v) (false, 0) bs in let m = length-map bs (λ b. logical b) in omega (arith, r, m));
      number = tt;
      cells = truths bs;
      comes = ap (λ (t : Bool × ℕ). t.0) e ∙ held (λ a b. a || b) (λ v. v) (false, 0) bs ∙ any_is bs ∙ some_is bs;
    }

pub all_of_logicals : (bs : List Bool) (s : Bool × ℕ) → s ≡ of_rows (joined_by (λ a b. a && b)) (one_row (λ v. v)) (true, 0) bs
    → IsKeptOf reduction.All Logical (map (λ b. logical b) bs) (kept.All s)
all_of_logicals bs s e =
    record {
      form = refl;
      within = (let r : s.1 ≡ 0 + length bs = ap (λ (t : Bool × ℕ). t.1) e ∙ rows_of (λ a b. a && b) (λ v. v) (true, 0) bs in let m = length-map bs (λ b. logical b) in omega (arith, r, m));
      number = tt;
      cells = truths bs;
      comes = ap (λ (t : Bool × ℕ). t.0) e ∙ held (λ a b. a && b) (λ v. v) (true, 0) bs ∙ all_is bs ∙ each_is bs;
    }

pub nonzeros_of_logicals : (bs : List Bool) (n : ℕ) → n ≡ length (filter is_nonzero (map (λ b. logical b) bs)) → n ≤ length bs
    → IsKeptOf reduction.Nnz Logical (map (λ b. logical b) bs) (kept.Number n)
nonzeros_of_logicals bs n e few = nonzeros_are Logical (λ b. logical b) bs n few (truths bs) e

-- ---- doubles

doubles : (ds : List (Option ℤ)) → All (HasKind Double) (map (λ d. double d) ds)
doubles ds = kinds Double (λ d. double d) (λ d. refl) ds

numbers_are : (ds : List (Option ℤ)) → filter_map amount (map (λ d. double d) ds) ≡ filter_map (λ d. d) ds
numbers_are [] = refl
numbers_are (None ∷ ds) = numbers_are ds
numbers_are (Some n ∷ ds) = ap (λ (l : List ℤ). n ∷ l) (numbers_are ds)

sum_form : (native omitnan : Bool) → exact_total ≡ form_of (reduction.Sum native omitnan) Double
sum_form true omitnan = refl
sum_form false omitnan = refl

-- none from the first NaN on
added_none : (ds : List (Option ℤ)) → fold (λ a v. added a v) None ds ≡ None
added_none [] = refl
added_none (d ∷ ds) = added_none ds

moved : (b : Bool) (t n m : ℤ) → (if b then None else Some ((t +ℤ n) +ℤ m)) ≡ (if b then None else Some (t +ℤ (n +ℤ m)))
moved true t n m = refl
moved false t n m = ap Some (omega (arith, ints))

added_all : (t : ℤ) (ds : List (Option ℤ)) → fold (λ a v. added a v) (Some t) ds
    ≡ (if list_any is_nan (map (λ d. double d) ds) then None else Some (t +ℤ total (filter_map amount (map (λ d. double d) ds))))
added_all t [] = ap Some (omega (arith, ints))
added_all t (None ∷ ds) = added_none ds
added_all t (Some n ∷ ds) =
    added_all (t +ℤ n) ds ∙ moved (list_any is_nan (map (λ d. double d) ds)) t n (total (filter_map amount (map (λ d. double d) ds)))

from_zero : (b : Bool) (n : ℤ) → (if b then None else Some (pos 0 +ℤ n)) ≡ (if b then None else Some n)
from_zero true n = refl
from_zero false n = ap Some (omega (arith, ints))

pub total_of_doubles : (native : Bool) (ds : List (Option ℤ)) (s : Option ℤ × ℕ) → s ≡ of_rows (joined_by added) (one_row (λ v. v)) (Some (pos 0), 0) ds
    → IsKeptOf (reduction.Sum native false) Double (map (λ d. double d) ds) (kept.Total s)
total_of_doubles native ds s e =
    record {
      form = sum_form native false;
      within = (let r : s.1 ≡ 0 + length ds = ap (λ (t : Option ℤ × ℕ). t.1) e ∙ rows_of added (λ v. v) (Some (pos 0), 0) ds in let m = length-map ds (λ d. double d) in omega (arith, r, m));
      number = tt;
      cells = doubles ds;
      comes = ap (λ (t : Option ℤ × ℕ). t.0) e ∙ held added (λ v. v) (Some (pos 0), 0) ds ∙ added_all (pos 0) ds ∙ from_zero (list_any is_nan (map (λ d. double d) ds)) (total (filter_map amount (map (λ d. double d) ds)));
    }

present_numbers : (ds : List (Option ℤ)) → filter_map amount (present (map (λ d. double d) ds)) ≡ filter_map (λ d. d) ds
present_numbers [] = refl
present_numbers (None ∷ ds) = present_numbers ds
present_numbers (Some n ∷ ds) = ap (λ (l : List ℤ). n ∷ l) (present_numbers ds)

present_has_no_nan : (ds : List (Option ℤ)) → list_any is_nan (present (map (λ d. double d) ds)) ≡ false
present_has_no_nan [] = refl
present_has_no_nan (None ∷ ds) = present_has_no_nan ds
present_has_no_nan (Some n ∷ ds) = present_has_no_nan ds

pub numbers_of_doubles : (native : Bool) (ds : List (Option ℤ)) (s : Option ℤ × ℕ) → s.0 ≡ Some (total (filter_map (λ d. d) ds)) → s.1 ≤ length ds
    → IsKeptOf (reduction.Sum native true) Double (map (λ d. double d) ds) (kept.Total s)
numbers_of_doubles native ds s e r =
    record {
      form = sum_form native true;
      within = (let m = length-map ds (λ d. double d) in omega (arith, r, m));
      number = tt;
      cells = doubles ds;
      comes = e ∙ ap (λ (l : List ℤ). Some (total l)) (sym (present_numbers ds)) ∙ sym (unless_none _ _ (present_has_no_nan ds));
    }

pub least_of_doubles : (ds : List (Option ℤ)) (s : Option ℤ × ℕ) → s.0 ≡ picked int_min (filter_map (λ d. d) ds) → s.1 ≤ length ds → IfSome s.0 (IsNumber Double)
    → IsKeptOf reduction.Min Double (map (λ d. double d) ds) (kept.Least s)
least_of_doubles ds s e r h =
    record {
      form = refl;
      within = (let m = length-map ds (λ d. double d) in omega (arith, r, m));
      number = h;
      cells = doubles ds;
      comes = e ∙ ap (picked int_min) (sym (numbers_are ds));
    }

pub greatest_of_doubles : (ds : List (Option ℤ)) (s : Option ℤ × ℕ) → s.0 ≡ picked int_max (filter_map (λ d. d) ds) → s.1 ≤ length ds → IfSome s.0 (IsNumber Double)
    → IsKeptOf reduction.Max Double (map (λ d. double d) ds) (kept.Greatest s)
greatest_of_doubles ds s e r h =
    record {
      form = refl;
      within = (let m = length-map ds (λ d. double d) in omega (arith, r, m));
      number = h;
      cells = doubles ds;
      comes = e ∙ ap (picked int_max) (sym (numbers_are ds));
    }

pub nonzeros_of_doubles : (ds : List (Option ℤ)) (n : ℕ) → n ≡ length (filter is_nonzero (map (λ d. double d) ds)) → n ≤ length ds
    → IsKeptOf reduction.Nnz Double (map (λ d. double d) ds) (kept.Number n)
nonzeros_of_doubles ds n e few = nonzeros_are Double (λ d. double d) ds n few (doubles ds) e

-- ---- numbers of rows

pub numel_of : {V : Type 0} (a : Kind) (f : V → Seen) (vs : List V) (n : ℕ) → ((x : V) → HasKind a (f x)) → n ≡ length vs → IsKeptOf reduction.Numel a (map f vs) (kept.Number n)
numel_of a f vs n h e = numel_are a f vs n (omega (arith, e)) (kinds a f h vs) e

pub height_of : {V : Type 0} (a : Kind) (f : V → Seen) (vs : List V) (n : ℕ) → ((x : V) → HasKind a (f x)) → n ≡ length vs → IsKeptOf reduction.Height a (map f vs) (kept.Number n)
height_of a f vs n h e = height_are a f vs n (omega (arith, e)) (kinds a f h vs) e
