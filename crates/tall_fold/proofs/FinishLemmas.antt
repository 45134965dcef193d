-- The result of a reduction, from what the cells come to.
use Rattle.std.proofs.Common.{◌≡◌, ℕ, ℤ, pos, ◌≤ℤ◌, Bool, true, false, if◌then◌else◌, Option, None, Some, Result, Ok, List, [], ◌∷◌, length, map, refl, ap, sym, subst, ◌∙◌, arith}
use Rattle.std.specs.Prelude.{IsOk, option_map}
use Rattle.std.specs.List.{All, fold, filter, filter_map, list_any, list_all}
use Rattle.std.specs.Int.{int_max, int_min}
use Rattle.std.specs.Ordering.{int_cmp, is_lt}
use Rattle.std.specs.declared.cmp.Ordering.{Ordering}
use Rattle.std.specs.declared.cmp.Ordering.TheVariants.{Less, Equal, Greater}
use Rattle.std.proofs.lemmas.Cmp.{int_ranked}
use Rattle.std.proofs.lemmas.Int.{ints, clamps}
use Rattle.std.proofs.lemmas.List.Elements.{All-head, All-tail}
use Rattle.tall_int.specs.Sums.{clamped_sum}
use Rattle.tall_value.specs.declared.class.IntKind.{IntKind}
use Rattle.tall_value.specs.declared.class.IntKind.TheVariants.{Int8, Int16, Int32, Int64, Uint8, Uint16, Uint32, Uint64}
use Rattle.tall_value.specs.declared.class.Kind.{Kind}
use Rattle.tall_value.specs.declared.class.Kind.TheVariants.{Integer, Logical, Double, Text}
use Rattle.tall_value.specs.declared.faults.FaultKind.{FaultKind}
use Rattle.tall_value.specs.declared.functions.Reduction.{Reduction}
use Rattle.tall_value.specs.declared.functions.Reduction.TheVariants as reduction
use Rattle.tall_value.specs.Cells.{Seen, whole, logical, double, text, amount}
use Rattle.tall_value.specs.Classes.{greatest, least}
use Rattle.tall_value.specs.Columns.{HasKind}
use Rattle.tall_value.specs.Filters.{is_true}
use Rattle.tall_value.specs.FunctionClasses.{reduction_kind}
use Rattle.tall_value.specs.Reductions as R
use Rattle.tall_value.specs.Reductions.{present, lesser, greater, folded, native_total, or_no_rows, reduced, used, every_cell}
use Rattle.tall_clamp.specs.Clamps.{apply, Sums}
use Rattle.tall_clamp.specs.Outcomes.{picked}
use Rattle.tall_clamp.specs.SumLaws.{sum_stays}
use Rattle.tall_clamp.specs.declared.bounds.Bounds.{Bounds}
use Rattle.tall_fold.specs.Forms.{Form, exact_total, clamp_function, least_number, greatest_number, some_true, each_true, how_many, counted, form_of, omits}
use Rattle.tall_fold.specs.Summaries.{IsNumber, low_of, high_of, number_cell}
use Rattle.tall_fold.proofs.KeptLemmas.{count_all}
use Rattle.tall_fold.proofs.JoinLemmas.{ends_ordered}

-- ---- the reduction by its form

abbrev pub by_form : Form → Reduction → Kind → List Seen → Result Seen FaultKind
by_form exact_total op a cs = R.exact_total (used (omits op) cs)
by_form clamp_function op a cs = native_total a (used (omits op) cs)
by_form least_number op a cs = or_no_rows (folded lesser (present cs))
by_form greatest_number op a cs = or_no_rows (folded greater (present cs))
by_form some_true op a cs = Ok (logical (list_any is_true cs))
by_form each_true op a cs = Ok (logical (list_all is_true cs))
by_form how_many op a cs = Ok (double (Some (pos (length (filter (counted op) cs)))))

counts_all : (cs : List Seen) → ◌≡◌ {A = Result Seen FaultKind} (Ok (R.count cs)) (Ok (double (Some (pos (length (filter every_cell cs))))))
counts_all cs = ap (λ (n : ℕ). Ok (double (Some (pos n)))) (count_all cs)

pub reduced_is : (op : Reduction) (a : Kind) (cs : List Seen) → reduced op a cs ≡ by_form (form_of op a) op a cs
reduced_is (reduction.Sum true true) (Integer k) cs = refl
reduced_is (reduction.Sum true true) Logical cs = refl
reduced_is (reduction.Sum true true) Double cs = refl
reduced_is (reduction.Sum true true) Text cs = refl
reduced_is (reduction.Sum true false) (Integer k) cs = refl
reduced_is (reduction.Sum true false) Logical cs = refl
reduced_is (reduction.Sum true false) Double cs = refl
reduced_is (reduction.Sum true false) Text cs = refl
reduced_is (reduction.Sum false true) a cs = refl
reduced_is (reduction.Sum false false) a cs = refl
reduced_is reduction.Min a cs = refl
reduced_is reduction.Max a cs = refl
reduced_is reduction.Any a cs = refl
reduced_is reduction.All a cs = refl
reduced_is reduction.Nnz a cs = refl
reduced_is reduction.Numel a cs = counts_all cs
reduced_is reduction.Height a cs = counts_all cs

pub reduced_by : (f : Form) (op : Reduction) (a : Kind) (cs : List Seen) → f ≡ form_of op a → reduced op a cs ≡ by_form f op a cs
reduced_by f op a cs h = reduced_is op a cs ∙ ap (λ (g : Form). by_form g op a cs) (sym h)

-- ---- the least and the greatest number

min_is : (x y : ℤ) (r : Ordering) → r ≡ int_cmp y x → (if is_lt r then y else x) ≡ int_min x y
min_is x y Less e = (let h = int_ranked y x Less e in omega (arith, ints, clamps, h))
min_is x y Equal e = (let h = int_ranked y x Equal e in omega (arith, ints, clamps, h))
min_is x y Greater e = (let h = int_ranked y x Greater e in omega (arith, ints, clamps, h))

max_is : (x y : ℤ) (r : Ordering) → r ≡ int_cmp x y → (if is_lt r then y else x) ≡ int_max x y
max_is x y Less e = (let h = int_ranked x y Less e in omega (arith, ints, clamps, h))
max_is x y Equal e = (let h = int_ranked x y Equal e in omega (arith, ints, clamps, h))
max_is x y Greater e = (let h = int_ranked x y Greater e in omega (arith, ints, clamps, h))

-- a choice of two cells is that of their numbers
if_cell : (a : Kind) (b : Bool) (x y : ℤ) → (if b then number_cell a y else number_cell a x) ≡ number_cell a (if b then y else x)
if_cell a true x y = refl
if_cell a false x y = refl

pub lesser_is : (a : Kind) (x y : ℤ) → lesser (number_cell a x) (number_cell a y) ≡ number_cell a (int_min x y)
lesser_is (Integer k) x y = if_cell (Integer k) (is_lt (int_cmp y x)) x y ∙ ap (number_cell (Integer k)) (min_is x y (int_cmp y x) refl)
lesser_is Logical x y = if_cell Logical (is_lt (int_cmp y x)) x y ∙ ap (number_cell Logical) (min_is x y (int_cmp y x) refl)
lesser_is Double x y = if_cell Double (is_lt (int_cmp y x)) x y ∙ ap (number_cell Double) (min_is x y (int_cmp y x) refl)
lesser_is Text x y = if_cell Text (is_lt (int_cmp y x)) x y ∙ ap (number_cell Text) (min_is x y (int_cmp y x) refl)

pub greater_is : (a : Kind) (x y : ℤ) → greater (number_cell a x) (number_cell a y) ≡ number_cell a (int_max x y)
greater_is (Integer k) x y = if_cell (Integer k) (is_lt (int_cmp x y)) x y ∙ ap (number_cell (Integer k)) (max_is x y (int_cmp x y) refl)
greater_is Logical x y = if_cell Logical (is_lt (int_cmp x y)) x y ∙ ap (number_cell Logical) (max_is x y (int_cmp x y) refl)
greater_is Double x y = if_cell Double (is_lt (int_cmp x y)) x y ∙ ap (number_cell Double) (max_is x y (int_cmp x y) refl)
greater_is Text x y = if_cell Text (is_lt (int_cmp x y)) x y ∙ ap (number_cell Text) (max_is x y (int_cmp x y) refl)

module _ (a : Kind) (choose : Seen → Seen → Seen) (pick : ℤ → ℤ → ℤ) (is : (x y : ℤ) → choose (number_cell a x) (number_cell a y) ≡ number_cell a (pick x y)) where
  chosen : (x : ℤ) (ns : List ℤ) → R.fold choose (number_cell a x) (map (number_cell a) ns) ≡ number_cell a (fold pick x ns)
  chosen x [] = refl
  chosen x (n ∷ ns) = ap (λ (c : Seen). R.fold choose c (map (number_cell a) ns)) (is x n) ∙ chosen (pick x n) ns

  pub folded_is : (ns : List ℤ) → folded choose (map (number_cell a) ns) ≡ option_map (number_cell a) (picked pick ns)
  folded_is [] = refl
  folded_is (n ∷ ns) = ap Some (chosen n ns)

-- cells of an integer class, and doubles, are those of their numbers but for NaN
pub integers_present : (k : IntKind) (cs : List Seen) → All (HasKind (Integer k)) cs → present cs ≡ map (number_cell (Integer k)) (filter_map amount cs)
integers_present k [] h = refl
integers_present k (whole j n ∷ cs) h =
    (let e : j ≡ k = (let head : Integer j ≡ Integer k = All-head (HasKind (Integer k)) (whole j n) cs h in cc) in
    ap (λ (i : IntKind). whole i n ∷ present cs) e ∙ ap (λ (l : List Seen). whole k n ∷ l) (integers_present k cs (All-tail (HasKind (Integer k)) (whole j n) cs h)))
integers_present k (logical b ∷ cs) h = absurd (let head : Logical ≡ Integer k = All-head (HasKind (Integer k)) (logical b) cs h in cc)
integers_present k (double d ∷ cs) h = absurd (let head : Double ≡ Integer k = All-head (HasKind (Integer k)) (double d) cs h in cc)
integers_present k (text t ∷ cs) h = absurd (let head : Text ≡ Integer k = All-head (HasKind (Integer k)) (text t) cs h in cc)

pub doubles_present : (cs : List Seen) → All (HasKind Double) cs → present cs ≡ map (number_cell Double) (filter_map amount cs)
doubles_present [] h = refl
doubles_present (double None ∷ cs) h = doubles_present cs (All-tail (HasKind Double) (double None) cs h)
doubles_present (double (Some n) ∷ cs) h = ap (λ (l : List Seen). double (Some n) ∷ l) (doubles_present cs (All-tail (HasKind Double) (double (Some n)) cs h))
doubles_present (whole j n ∷ cs) h = absurd (let head : Integer j ≡ Double = All-head (HasKind Double) (whole j n) cs h in cc)
doubles_present (logical b ∷ cs) h = absurd (let head : Logical ≡ Double = All-head (HasKind Double) (logical b) cs h in cc)
doubles_present (text t ∷ cs) h = absurd (let head : Text ≡ Double = All-head (HasKind Double) (text t) cs h in cc)

-- only these kinds have a least and a greatest number
pub data Ordered : Kind → Type 0 where
  integer_is_ordered : (k : IntKind) → Ordered (Integer k)
  double_is_ordered : Ordered Double

pub numbers_present : (a : Kind) (cs : List Seen) → Ordered a → All (HasKind a) cs → present cs ≡ map (number_cell a) (filter_map amount cs)
numbers_present _ cs (integer_is_ordered k) h = integers_present k cs h
numbers_present _ cs double_is_ordered h = doubles_present cs h

ok_not : false ≡ true → ⊥
ok_not h = absurd cc

ordered_least : (op : Reduction) (a : Kind) → IsOk (reduction_kind op a) → least_number ≡ form_of op a → Ordered a
ordered_least (reduction.Sum true o) (Integer k) h f = absurd cc
ordered_least (reduction.Sum true o) Logical h f = absurd cc
ordered_least (reduction.Sum true o) Double h f = absurd cc
ordered_least (reduction.Sum true o) Text h f = absurd cc
ordered_least (reduction.Sum false o) a h f = absurd cc
ordered_least reduction.Min (Integer k) h f = integer_is_ordered k
ordered_least reduction.Min Logical h f = absurd (ok_not h)
ordered_least reduction.Min Double h f = double_is_ordered
ordered_least reduction.Min Text h f = absurd (ok_not h)
ordered_least reduction.Max a h f = absurd cc
ordered_least reduction.Any a h f = absurd cc
ordered_least reduction.All a h f = absurd cc
ordered_least reduction.Nnz a h f = absurd cc
ordered_least reduction.Numel a h f = absurd cc
ordered_least reduction.Height a h f = absurd cc

ordered_greatest : (op : Reduction) (a : Kind) → IsOk (reduction_kind op a) → greatest_number ≡ form_of op a → Ordered a
ordered_greatest (reduction.Sum true o) (Integer k) h f = absurd cc
ordered_greatest (reduction.Sum true o) Logical h f = absurd cc
ordered_greatest (reduction.Sum true o) Double h f = absurd cc
ordered_greatest (reduction.Sum true o) Text h f = absurd cc
ordered_greatest (reduction.Sum false o) a h f = absurd cc
ordered_greatest reduction.Max (Integer k) h f = integer_is_ordered k
ordered_greatest reduction.Max Logical h f = absurd (ok_not h)
ordered_greatest reduction.Max Double h f = double_is_ordered
ordered_greatest reduction.Max Text h f = absurd (ok_not h)
ordered_greatest reduction.Min a h f = absurd cc
ordered_greatest reduction.Any a h f = absurd cc
ordered_greatest reduction.All a h f = absurd cc
ordered_greatest reduction.Nnz a h f = absurd cc
ordered_greatest reduction.Numel a h f = absurd cc
ordered_greatest reduction.Height a h f = absurd cc

pub least_is_found : (op : Reduction) (a : Kind) (cs : List Seen) (s : Option ℤ) → IsOk (reduction_kind op a) → least_number ≡ form_of op a → All (HasKind a) cs
    → s ≡ picked int_min (filter_map amount cs) → reduced op a cs ≡ or_no_rows (option_map (number_cell a) s)
least_is_found op a cs s takes f are e =
    reduced_by least_number op a cs f
    ∙ ap (λ (l : List Seen). or_no_rows (folded lesser l)) (numbers_present a cs (ordered_least op a takes f) are)
    ∙ ap or_no_rows (folded_is a lesser int_min (lesser_is a) (filter_map amount cs) ∙ ap (option_map (number_cell a)) (sym e))

pub greatest_is_found : (op : Reduction) (a : Kind) (cs : List Seen) (s : Option ℤ) → IsOk (reduction_kind op a) → greatest_number ≡ form_of op a → All (HasKind a) cs
    → s ≡ picked int_max (filter_map amount cs) → reduced op a cs ≡ or_no_rows (option_map (number_cell a) s)
greatest_is_found op a cs s takes f are e =
    reduced_by greatest_number op a cs f
    ∙ ap (λ (l : List Seen). or_no_rows (folded greater l)) (numbers_present a cs (ordered_greatest op a takes f) are)
    ∙ ap or_no_rows (folded_is a greater int_max (greater_is a) (filter_map amount cs) ∙ ap (option_map (number_cell a)) (sym e))

-- ---- sums in an integer class

amounts_present : (cs : List Seen) → filter_map amount (present cs) ≡ filter_map amount cs
amounts_present [] = refl
amounts_present (whole k n ∷ cs) = ap (λ (l : List ℤ). n ∷ l) (amounts_present cs)
amounts_present (logical true ∷ cs) = ap (λ (l : List ℤ). pos 1 ∷ l) (amounts_present cs)
amounts_present (logical false ∷ cs) = ap (λ (l : List ℤ). pos 0 ∷ l) (amounts_present cs)
amounts_present (double None ∷ cs) = amounts_present cs
amounts_present (double (Some n) ∷ cs) = ap (λ (l : List ℤ). n ∷ l) (amounts_present cs)
amounts_present (text t ∷ cs) = amounts_present cs

amounts_used : (b : Bool) (cs : List Seen) → filter_map amount (used b cs) ≡ filter_map amount cs
amounts_used true cs = amounts_present cs
amounts_used false cs = refl

-- only integers have the form of clamp functions
pub data IsInteger : Kind → Type 0 where
  is_integer : (k : IntKind) → IsInteger (Integer k)

integer_clamp : (op : Reduction) (a : Kind) → clamp_function ≡ form_of op a → IsInteger a
integer_clamp (reduction.Sum true o) (Integer k) f = is_integer k
integer_clamp (reduction.Sum true o) Logical f = absurd cc
integer_clamp (reduction.Sum true o) Double f = absurd cc
integer_clamp (reduction.Sum true o) Text f = absurd cc
integer_clamp (reduction.Sum false o) a f = absurd cc
integer_clamp reduction.Min a f = absurd cc
integer_clamp reduction.Max a f = absurd cc
integer_clamp reduction.Any a f = absurd cc
integer_clamp reduction.All a f = absurd cc
integer_clamp reduction.Nnz a f = absurd cc
integer_clamp reduction.Numel a f = absurd cc
integer_clamp reduction.Height a f = absurd cc

pub zero_within : (a : Kind) → (low_of a ≤ℤ pos 0) × (pos 0 ≤ℤ high_of a)
zero_within (Integer Int8) = (omega (arith, ints), omega (arith, ints))
zero_within (Integer Int16) = (omega (arith, ints), omega (arith, ints))
zero_within (Integer Int32) = (omega (arith, ints), omega (arith, ints))
zero_within (Integer Int64) = (omega (arith, ints), omega (arith, ints))
zero_within (Integer Uint8) = (omega (arith, ints), omega (arith, ints))
zero_within (Integer Uint16) = (omega (arith, ints), omega (arith, ints))
zero_within (Integer Uint32) = (omega (arith, ints), omega (arith, ints))
zero_within (Integer Uint64) = (omega (arith, ints), omega (arith, ints))
zero_within Logical = (omega (arith, ints), omega (arith, ints))
zero_within Double = (omega (arith, ints), omega (arith, ints))
zero_within Text = (omega (arith, ints), omega (arith, ints))

-- the sum from 0 is a number of the class
pub sum_is_number : (a : Kind) (ns : List ℤ) → IsNumber a (clamped_sum (low_of a) (high_of a) (pos 0) ns)
sum_is_number a ns = sum_stays (low_of a) (high_of a) (pos 0) ns (ends_ordered a) (zero_within a).0 (zero_within a).1

pub sum_of_clamp : (a : Kind) (ns : List ℤ) (s : Bounds) (n : ℤ) → Sums (low_of a) (high_of a) ns s → n ≡ apply s (pos 0) → n ≡ clamped_sum (low_of a) (high_of a) (pos 0) ns
sum_of_clamp a ns s n h e = e ∙ h (pos 0) (zero_within a).0 (zero_within a).1

native_is : (a : Kind) → IsInteger a → (b : Bool) (cs : List Seen) → native_total a (used b cs) ≡ Ok (number_cell a (clamped_sum (low_of a) (high_of a) (pos 0) (filter_map amount cs)))
native_is _ (is_integer k) b cs = ap (λ (l : List ℤ). Ok (whole k (clamped_sum (least k) (greatest k) (pos 0) l))) (amounts_used b cs)

pub sum_is_found : (op : Reduction) (a : Kind) (cs : List Seen) (s : Bounds) (n : ℤ) (c : Seen) → clamp_function ≡ form_of op a → Sums (low_of a) (high_of a) (filter_map amount cs) s
    → n ≡ apply s (pos 0) → (IsNumber a n → c ≡ number_cell a n) → reduced op a cs ≡ Ok c
sum_is_found op a cs s n c f h e is =
    let sum = sum_of_clamp a (filter_map amount cs) s n h e in
    reduced_by clamp_function op a cs f
    ∙ native_is a (integer_clamp op a f) (omits op) cs
    ∙ ap Ok (ap (number_cell a) (sym sum) ∙ sym (is (subst (IsNumber a) (sym sum) (sum_is_number a (filter_map amount cs)))))

pub number_is_found : (op : Reduction) (a : Kind) (cs : List Seen) (n : ℕ) (d : Option ℤ) → how_many ≡ form_of op a → n ≡ length (filter (counted op) cs) → d ≡ Some (pos n)
    → reduced op a cs ≡ Ok (double d)
number_is_found op a cs n d f e p = reduced_by how_many op a cs f ∙ ap (λ (m : ℕ). Ok (double (Some (pos m)))) (sym e) ∙ ap (λ (x : Option ℤ). Ok (double x)) (sym p)
