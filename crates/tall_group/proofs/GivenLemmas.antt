-- What the states give of a group's data is what the definition of the method says.
use Rattle.std.specs.Prelude.{◌≡◌, refl, ℕ, ℤ, pos, ◌+◌, ◌<◌, ◌≤◌, ◌^◌, ◌==◌, ◌||◌, Bool, true, false, not, if◌then◌else◌, nat_le, unsigned_abs, IsOk, Option, None, Some, Result, Ok, Err, List, [], ◌∷◌, length, get_or, map, option_map}
use Rattle.std.proofs.Common.{ap, sym, subst, ◌∙◌, arith}
use Rattle.std.specs.List.{All, filter, filter_map, list_any}
use Rattle.std.specs.Int.{int_max, int_min}
use Rattle.std.proofs.lemmas.Bool.{le-leb}
use Rattle.std.proofs.lemmas.List.{length-map}
use Rattle.std.proofs.lemmas.List.Filters.{length-filter_both}
use Rattle.std.proofs.lemmas.List.Elements.{All-nil, All-cons, All-head, All-tail}
use Rattle.tall_int.specs.Doubles.{exact}
use Rattle.tall_int.specs.Sums.{clamped_sum}
use Rattle.tall_int.specs.declared.faults.WholeFault.TheVariants as whole_fault
use Rattle.tall_clamp.specs.Outcomes.{numbers, picked}
use Rattle.tall_value.specs.declared.class.Class.{Class}
use Rattle.tall_value.specs.declared.class.Class.TheVariants as class
use Rattle.tall_value.specs.declared.class.IntKind.{IntKind}
use Rattle.tall_value.specs.declared.class.Kind.{Kind}
use Rattle.tall_value.specs.declared.class.Kind.TheVariants.{Integer, Logical, Double, Text}
use Rattle.tall_value.specs.declared.faults.FaultKind.{FaultKind}
use Rattle.tall_value.specs.declared.faults.FaultKind.TheVariants.{Inexact}
use Rattle.tall_value.specs.declared.functions.Method.{Method}
use Rattle.tall_value.specs.declared.functions.Method.TheVariants.{Count, Sum, SumNative, Min, Max, Nnz, Nummissing}
use Rattle.tall_value.specs.Cells.{Seen, whole, logical, double, text, amount, is_nan}
use Rattle.tall_value.specs.CellOperators.{double_cell, to_double}
use Rattle.tall_value.specs.Classes.{class_of, kind_of, least, greatest}
use Rattle.tall_value.specs.Columns.{HasKind}
use Rattle.tall_value.specs.Elementwise.{in_front}
use Rattle.tall_value.specs.FunctionClasses.{class_results, method_kind, summary_classes, summary_kinds}
use Rattle.tall_value.specs.Groups.{all_values, group_counts, group_data, group_keys, group_value, group_values, is_of_group, or_nan, with_value}
use Rattle.tall_value.specs.GroupSummary.{summary_columns, value_columns}
use Rattle.tall_value.specs.Reductions.{count, exact_total, folded, greater, is_nonzero, lesser, or_fault, present, total}
use Rattle.tall_fold.specs.Summaries.{number_cell}
use Rattle.tall_fold.proofs.FinishLemmas.{doubles_present, folded_is, greater_is, integers_present, lesser_is}
use Rattle.tall_group.specs.GroupFolds.{form_of}
use Rattle.tall_group.specs.Groups.{IsGroupsOf}
use Rattle.tall_group.specs.Keys.{found}
use Rattle.tall_group.specs.States.{best_cell, datum, double_or_none, is_missing, is_number_but_zero}
use Rattle.tall_group.specs.Summaries.{all_some, classes_by, columns_by, given_by, or_inexact, some_in_front}
use Rattle.tall_group.proofs.GroupLemmas.{data_short, get_some, member}
use Rattle.tall_group.proofs.OrderLemmas.{found_keys, itself}

-- ---- numbers of the data

NotText : Kind → Type 0
NotText a = a ≡ Text → ⊥

module _ (a : Kind) (is : NotText a) where
  amounts : (cs : List Seen) → All (HasKind a) cs → filter_map amount (present cs) ≡ numbers (map datum cs)
  unfolding NotText
  amounts [] h = refl
  amounts (whole k n ∷ cs) h = ap (λ (l : List ℤ). n ∷ l) (amounts cs (All-tail (HasKind a) (whole k n) cs h))
  amounts (logical true ∷ cs) h = ap (λ (l : List ℤ). pos 1 ∷ l) (amounts cs (All-tail (HasKind a) (logical true) cs h))
  amounts (logical false ∷ cs) h = ap (λ (l : List ℤ). pos 0 ∷ l) (amounts cs (All-tail (HasKind a) (logical false) cs h))
  amounts (double None ∷ cs) h = amounts cs (All-tail (HasKind a) (double None) cs h)
  amounts (double (Some n) ∷ cs) h = ap (λ (l : List ℤ). n ∷ l) (amounts cs (All-tail (HasKind a) (double (Some n)) cs h))
  amounts (text t ∷ cs) h = absurd (is (sym (All-head (HasKind a) (text t) cs h)))

  own_amounts : (cs : List Seen) → All (HasKind a) cs → filter_map amount cs ≡ numbers (map datum cs)
  unfolding NotText
  own_amounts [] h = refl
  own_amounts (whole k n ∷ cs) h = ap (λ (l : List ℤ). n ∷ l) (own_amounts cs (All-tail (HasKind a) (whole k n) cs h))
  own_amounts (logical true ∷ cs) h = ap (λ (l : List ℤ). pos 1 ∷ l) (own_amounts cs (All-tail (HasKind a) (logical true) cs h))
  own_amounts (logical false ∷ cs) h = ap (λ (l : List ℤ). pos 0 ∷ l) (own_amounts cs (All-tail (HasKind a) (logical false) cs h))
  own_amounts (double None ∷ cs) h = own_amounts cs (All-tail (HasKind a) (double None) cs h)
  own_amounts (double (Some n) ∷ cs) h = ap (λ (l : List ℤ). n ∷ l) (own_amounts cs (All-tail (HasKind a) (double (Some n)) cs h))
  own_amounts (text t ∷ cs) h = absurd (is (sym (All-head (HasKind a) (text t) cs h)))

  one_more : {A B : Type 0} (b c : Bool) (x : A) (y : B) (xs : List A) (ys : List B) → b ≡ c → length xs ≡ length ys → length (if b then x ∷ xs else xs) ≡ length (if c then y ∷ ys else ys)
  one_more true true x y xs ys e h = omega (arith, h)
  one_more true false x y xs ys e h = absurd cc
  one_more false true x y xs ys e h = absurd cc
  one_more false false x y xs ys e h = h

  nonzeros : (cs : List Seen) → All (HasKind a) cs → length (filter is_nonzero (present cs)) ≡ length (filter is_number_but_zero (map datum cs))
  unfolding NotText
  nonzeros [] h = refl
  nonzeros (whole k n ∷ cs) h = one_more (not (unsigned_abs n == 0)) (not (unsigned_abs n == 0)) (whole k n) (Some n) (filter is_nonzero (present cs)) (filter is_number_but_zero (map datum cs)) refl (nonzeros cs (All-tail (HasKind a) (whole k n) cs h))
  nonzeros (logical true ∷ cs) h = (let e = nonzeros cs (All-tail (HasKind a) (logical true) cs h) in omega (arith, e))
  nonzeros (logical false ∷ cs) h = nonzeros cs (All-tail (HasKind a) (logical false) cs h)
  nonzeros (double None ∷ cs) h = nonzeros cs (All-tail (HasKind a) (double None) cs h)
  nonzeros (double (Some n) ∷ cs) h = one_more (not (unsigned_abs n == 0)) (not (unsigned_abs n == 0)) (double (Some n)) (Some n) (filter is_nonzero (present cs)) (filter is_number_but_zero (map datum cs)) refl (nonzeros cs (All-tail (HasKind a) (double (Some n)) cs h))
  nonzeros (text t ∷ cs) h = absurd (is (sym (All-head (HasKind a) (text t) cs h)))

missing : (cs : List Seen) → length (filter is_nan cs) ≡ length (filter is_missing (map datum cs))
missing [] = refl
missing (whole k n ∷ cs) = missing cs
missing (logical b ∷ cs) = missing cs
missing (double None ∷ cs) = (let e = missing cs in omega (arith, e))
missing (double (Some n) ∷ cs) = missing cs
missing (text t ∷ cs) = missing cs

-- ---- doubles

present_no_nan : (cs : List Seen) → list_any is_nan (present cs) ≡ false
present_no_nan [] = refl
present_no_nan (whole k n ∷ cs) = present_no_nan cs
present_no_nan (logical b ∷ cs) = present_no_nan cs
present_no_nan (double None ∷ cs) = present_no_nan cs
present_no_nan (double (Some n) ∷ cs) = present_no_nan cs
present_no_nan (text t ∷ cs) = present_no_nan cs

exact_by : (b : Bool) (n : ℤ) → or_fault (double_cell (if b then Ok (Some n) else Err whole_fault.Inexact)) ≡ or_inexact (elim (if b then Ok (Some n) else Err whole_fault.Inexact) [ Ok d ↦ Some (double d) | Err e ↦ None ])
exact_by true n = refl
exact_by false n = refl

total_is : (cs : List Seen) (ns : List ℤ) → filter_map amount (present cs) ≡ ns → exact_total (present cs) ≡ or_inexact (double_or_none (total ns))
total_is cs ns e =
    ap (λ b. or_fault (to_double (if b then None else Some (total (filter_map amount (present cs)))))) (present_no_nan cs)
    ∙ (ap (λ ms. or_fault (to_double (Some (total ms)))) e ∙ exact_by (nat_le (unsigned_abs (total ns)) (2 ^ 53)) (total ns))

small_double : (n m : ℕ) → m ≡ n → n < 2 ^ 40 → ◌≡◌ {A = Result Seen FaultKind} (Ok (double (Some (pos m)))) (or_inexact (double_or_none (pos n)))
small_double n m e l =
    ap (λ k. Ok (double (Some (pos k)))) e
    ∙ sym (ap (λ b. or_inexact (elim (if b then Ok (Some (pos n)) else Err whole_fault.Inexact) [ Ok d ↦ Some (double d) | Err e ↦ None ])) (le-leb n (2 ^ 53) (omega (arith, l))))

-- ---- the least and the greatest

IsThere : List Seen → Type 0
IsThere [] = ⊥
IsThere (c ∷ cs) = Unit {0}

module _ (choose : Seen → Seen → Seen) (pick : ℤ → ℤ → ℤ) (is : (a : Kind) (x y : ℤ) → choose (number_cell a x) (number_cell a y) ≡ number_cell a (pick x y)) where
  some_integer : (k : IntKind) (o : Option ℤ) (ns : List ℤ) → (ns ≡ [] → ⊥) → o ≡ picked pick ns → or_nan (option_map (number_cell (Integer k)) o) ≡ best_cell (Integer k) o
  some_integer k (Some n) ns h e = refl
  some_integer k None [] h e = absurd (h refl)
  some_integer k None (n ∷ ns) h e = absurd cc

  there : (k : IntKind) (cs : List Seen) → IsThere cs → All (HasKind (Integer k)) cs → filter_map amount cs ≡ [] → ⊥
  unfolding IsThere
  there k [] t h e = t
  there k (whole j n ∷ cs) t h e = cc
  there k (logical b ∷ cs) t h e = absurd (let head : Logical ≡ Integer k = All-head (HasKind (Integer k)) (logical b) cs h in cc)
  there k (double d ∷ cs) t h e = absurd (let head : Double ≡ Integer k = All-head (HasKind (Integer k)) (double d) cs h in cc)
  there k (text t ∷ cs) t' h e = absurd (let head : Text ≡ Integer k = All-head (HasKind (Integer k)) (text t) cs h in cc)

  best_integer : (k : IntKind) (cs : List Seen) → IsThere cs → All (HasKind (Integer k)) cs → or_nan (folded choose (present cs)) ≡ best_cell (Integer k) (picked pick (filter_map amount cs))
  best_integer k cs t h =
      ap (λ l. or_nan (folded choose l)) (integers_present k cs h)
      ∙ (ap or_nan (folded_is (Integer k) choose pick (is (Integer k)) (filter_map amount cs)) ∙ some_integer k (picked pick (filter_map amount cs)) (filter_map amount cs) (there k cs t h) refl)

  some_double : (o : Option ℤ) → or_nan (option_map (number_cell Double) o) ≡ best_cell Double o
  some_double (Some n) = refl
  some_double None = refl

  best_double : (cs : List Seen) → All (HasKind Double) cs → or_nan (folded choose (present cs)) ≡ best_cell Double (picked pick (filter_map amount cs))
  best_double cs h =
      ap (λ l. or_nan (folded choose l)) (doubles_present cs h) ∙ (ap or_nan (folded_is Double choose pick (is Double) (filter_map amount cs)) ∙ some_double (picked pick (filter_map amount cs)))

  best_given_is : (a : Kind) (cs : List Seen) → IsOk (method_kind Min a) → IsThere cs → All (HasKind a) cs → or_nan (folded choose (present cs)) ≡ best_cell a (picked pick (numbers (map datum cs)))
  unfolding NotText
  best_given_is (Integer k) cs o t h = best_integer k cs t h ∙ ap (λ ns. best_cell (Integer k) (picked pick ns)) (own_amounts (Integer k) (λ e. cc) cs h)
  best_given_is Logical cs o t h = absurd (let e : false ≡ true = o in cc)
  best_given_is Double cs o t h = best_double cs h ∙ ap (λ ns. best_cell Double (picked pick ns)) (own_amounts Double (λ e. cc) cs h)
  best_given_is Text cs o t h = absurd (let e : false ≡ true = o in cc)

-- ---- one group

number_not_text : (a : Kind) → IsOk (method_kind Sum a) → NotText a
unfolding NotText
number_not_text (Integer k) o e = cc
number_not_text Logical o e = cc
number_not_text Double o e = cc
number_not_text Text o e = absurd (let f : false ≡ true = o in cc)

sum_given : (a : Kind) (cs : List Seen) → IsOk (method_kind Sum a) → All (HasKind a) cs → exact_total (present cs) ≡ or_inexact (double_or_none (total (numbers (map datum cs))))
sum_given a cs o h = total_is cs (numbers (map datum cs)) (amounts a (number_not_text a o) cs h)

tally_few : {A : Type 0} (test : A → Bool) (xs : List A) (n : ℕ) → length xs ≡ n → n < 2 ^ 40 → length (filter test xs) < 2 ^ 40
tally_few test xs n e l = omega (arith, e, l, length-filter_both test (λ x. not (test x)) (λ x. refl) xs)

value_is : (m : Method) (a : Kind) (cs : List Seen) → IsOk (method_kind m a) → IsThere cs → All (HasKind a) cs → length cs < 2 ^ 40 → (m ≡ Count → ⊥) → group_value m a cs ≡ or_inexact (given_by (form_of m a) a (map datum cs))
unfolding NotText
value_is Count a cs o t h l n = absurd (n refl)
value_is Sum a cs o t h l n = sum_given a cs o h
value_is SumNative (Integer k) cs o t h l n = ap (λ ns. Ok (whole k (clamped_sum (least k) (greatest k) (pos 0) ns))) (amounts (Integer k) (λ e. cc) cs h)
value_is SumNative Logical cs o t h l n = absurd (let e : false ≡ true = o in cc)
value_is SumNative Double cs o t h l n = sum_given Double cs refl h
value_is SumNative Text cs o t h l n = absurd (let e : false ≡ true = o in cc)
value_is Min a cs o t h l n = ap (λ c. Ok c) (best_given_is lesser int_min lesser_is a cs o t h)
value_is Max a cs o t h l n = ap (λ c. Ok c) (best_given_is greater int_max greater_is a cs o t h)
value_is Nnz a cs o t h l n =
    small_double (length (filter is_number_but_zero (map datum cs))) (length (filter is_nonzero (present cs))) (nonzeros a (number_not_text a o) cs h) (tally_few is_number_but_zero (map datum cs) (length cs) (length-map cs datum) l)
value_is Nummissing a cs o t h l n = small_double (length (filter is_missing (map datum cs))) (length (filter is_nan cs)) (missing cs) (tally_few is_missing (map datum cs) (length cs) (length-map cs datum) l)

-- ---- all groups

one_in_front : (o : Option Seen) (r : Result (List Seen) FaultKind) (p : Option (List Seen)) → r ≡ or_inexact p → with_value (or_inexact o) r ≡ or_inexact (some_in_front o p)
one_in_front (Some c) r (Some cs) h = ap (with_value (Ok c)) h
one_in_front (Some c) r None h = ap (with_value (Ok c)) h
one_in_front None r p h = refl

all_are : (f : Seen → Result Seen FaultKind) (g : Seen → Option Seen) (keys : List Seen) → All (λ key. f key ≡ or_inexact (g key)) keys → all_values (map f keys) ≡ or_inexact (all_some (map g keys))
all_are f g [] h = refl
all_are f g (k ∷ keys) h =
    ap (λ r. with_value r (all_values (map f keys))) (All-head (λ key. f key ≡ or_inexact (g key)) k keys h)
    ∙ one_in_front (g k) (all_values (map f keys)) (all_some (map g keys)) (all_are f g keys (All-tail (λ key. f key ≡ or_inexact (g key)) k keys h))

abbrev columns_with : List Seen → List Seen → Result (List Seen) FaultKind → Result (List (List Seen)) FaultKind
columns_with ks cs r = in_front ks (in_front cs (elim r [ Ok values ↦ Ok (values ∷ []) | Err e ↦ Err e ]))

columns_from : (ks cs : List Seen) (r : Result (List Seen) FaultKind) (o : Option (List Seen)) → r ≡ or_inexact o → columns_with ks cs r ≡ or_inexact (option_map (λ xs. ks ∷ cs ∷ xs ∷ []) o)
columns_from ks cs r (Some xs) h = ap (columns_with ks cs) h
columns_from ks cs r None h = ap (columns_with ks cs) h

data_there : (key : Seen) (ks vs : List Seen) → length ks ≡ length vs → found key ks ≡ true → IsThere (group_data key ks vs)
unfolding IsThere
data_there key [] vs e h = absurd cc
data_there key (k ∷ ks) [] e h = absurd (omega (arith, e))
data_there key (k ∷ ks) (v ∷ vs) e h = by (is_of_group key k) (group_data key ks vs) h (λ g. data_there key ks vs (omega (arith, e)) g)
  where
    by : (b : Bool) (ds : List Seen) → (b || found key ks) ≡ true → (found key ks ≡ true → IsThere ds) → IsThere (if b then v ∷ ds else ds)
    by true ds g f = tt
    by false ds g f = f g

data_all : (P : Seen → Type 0) (key : Seen) (ks vs : List Seen) → All P vs → All P (group_data key ks vs)
data_all P key [] vs h = All-nil P
data_all P key (k ∷ ks) [] h = All-nil P
data_all P key (k ∷ ks) (v ∷ vs) h = by (is_of_group key k) (All-head P v vs h) (data_all P key ks vs (All-tail P v vs h))
  where
    by : (b : Bool) → P v → All P (group_data key ks vs) → All P (if b then v ∷ group_data key ks vs else group_data key ks vs)
    by true p r = All-cons P v (group_data key ks vs) p r
    by false p r = r

keys_found : (ks : List Seen) → All (λ key. found key ks ≡ true) (group_keys ks)
keys_found ks i d l =
    let key = get_or (group_keys ks) i d in
    sym (found_keys key ks) ∙ member key key (group_keys ks) i (get_some (group_keys ks) i d l) (itself key)

module _ (m : Method) (a : Kind) (takes : IsOk (method_kind m a)) (ks vs : List Seen) (even : length ks ≡ length vs) (few : length ks < 2 ^ 40) (kinds : All (HasKind a) vs) where
  values_are : (m ≡ Count → ⊥) → group_values m a ks vs ≡ or_inexact (all_some (map (λ key. given_by (form_of m a) a (map datum (group_data key ks vs))) (group_keys ks)))
  values_are n =
      all_are (λ key. group_value m a (group_data key ks vs)) (λ key. given_by (form_of m a) a (map datum (group_data key ks vs))) (group_keys ks)
      (λ i d l.
      let key = get_or (group_keys ks) i d in
      value_is m a (group_data key ks vs) takes (data_there key ks vs even (keys_found ks i d l)) (data_all (HasKind a) key ks vs kinds) (omega (arith, few, data_short key ks vs)) n)

  with_values : (m ≡ Count → ⊥) → columns_with (group_keys ks) (group_counts ks) (group_values m a ks vs)
      ≡ or_inexact (option_map (λ xs. group_keys ks ∷ group_counts ks ∷ xs ∷ []) (all_some (map (λ key. given_by (form_of m a) a (map datum (group_data key ks vs))) (group_keys ks))))
  with_values n = columns_from (group_keys ks) (group_counts ks) (group_values m a ks vs) (all_some (map (λ key. given_by (form_of m a) a (map datum (group_data key ks vs))) (group_keys ks))) (values_are n)

-- what is given of all rows is the definition's summary
pub summary_is : (m : Method) (a : Kind) → IsOk (method_kind m a) → (ks vs : List Seen) → length ks ≡ length vs → length ks < 2 ^ 40 → All (HasKind a) vs → summary_columns m a ks vs ≡ or_inexact (columns_by (form_of m a) a ks vs)
summary_is Count a o ks vs e f h = refl
summary_is Sum a o ks vs e f h = with_values Sum a o ks vs e f h (λ n. cc)
summary_is SumNative (Integer k) o ks vs e f h = with_values SumNative (Integer k) o ks vs e f h (λ n. cc)
summary_is SumNative Logical o ks vs e f h = with_values SumNative Logical o ks vs e f h (λ n. cc)
summary_is SumNative Double o ks vs e f h = with_values SumNative Double o ks vs e f h (λ n. cc)
summary_is SumNative Text o ks vs e f h = with_values SumNative Text o ks vs e f h (λ n. cc)
summary_is Min a o ks vs e f h = with_values Min a o ks vs e f h (λ n. cc)
summary_is Max a o ks vs e f h = with_values Max a o ks vs e f h (λ n. cc)
summary_is Nnz a o ks vs e f h = with_values Nnz a o ks vs e f h (λ n. cc)
summary_is Nummissing a o ks vs e f h = with_values Nummissing a o ks vs e f h (λ n. cc)

-- ---- their classes

class_again : (c : Class) → class_of (kind_of c) ≡ c
class_again class.Int8 = refl
class_again class.Int16 = refl
class_again class.Int32 = refl
class_again class.Int64 = refl
class_again class.Uint8 = refl
class_again class.Uint16 = refl
class_again class.Uint32 = refl
class_again class.Uint64 = refl
class_again class.Logical = refl
class_again class.Double = refl
class_again class.Text = refl

pub classes_are : (m : Method) (key data' : Class) → IsOk (method_kind m (kind_of data')) → summary_classes m key data' ≡ Ok (classes_by (form_of m (kind_of data')) key (kind_of data'))
classes_are m key data' o = by m (kind_of data') o (class_again key)
  where
    by : (m : Method) (a : Kind) → IsOk (method_kind m a) → class_of (kind_of key) ≡ key → class_results (summary_kinds m (kind_of key) a) ≡ Ok (classes_by (form_of m a) key a)
    by Count a o e = ap (λ k. Ok (k ∷ class.Double ∷ [])) e
    by Sum (Integer k) o e = ap (λ k. Ok (k ∷ class.Double ∷ class.Double ∷ [])) e
    by Sum Logical o e = ap (λ k. Ok (k ∷ class.Double ∷ class.Double ∷ [])) e
    by Sum Double o e = ap (λ k. Ok (k ∷ class.Double ∷ class.Double ∷ [])) e
    by Sum Text o e = absurd (let f : false ≡ true = o in cc)
    by SumNative (Integer k) o e = ap (λ c. Ok (c ∷ class.Double ∷ class_of (Integer k) ∷ [])) e
    by SumNative Logical o e = absurd (let f : false ≡ true = o in cc)
    by SumNative Double o e = ap (λ k. Ok (k ∷ class.Double ∷ class.Double ∷ [])) e
    by SumNative Text o e = absurd (let f : false ≡ true = o in cc)
    by Min (Integer k) o e = ap (λ c. Ok (c ∷ class.Double ∷ class_of (Integer k) ∷ [])) e
    by Min Logical o e = absurd (let f : false ≡ true = o in cc)
    by Min Double o e = ap (λ k. Ok (k ∷ class.Double ∷ class.Double ∷ [])) e
    by Min Text o e = absurd (let f : false ≡ true = o in cc)
    by Max (Integer k) o e = ap (λ c. Ok (c ∷ class.Double ∷ class_of (Integer k) ∷ [])) e
    by Max Logical o e = absurd (let f : false ≡ true = o in cc)
    by Max Double o e = ap (λ k. Ok (k ∷ class.Double ∷ class.Double ∷ [])) e
    by Max Text o e = absurd (let f : false ≡ true = o in cc)
    by Nnz (Integer k) o e = ap (λ k. Ok (k ∷ class.Double ∷ class.Double ∷ [])) e
    by Nnz Logical o e = ap (λ k. Ok (k ∷ class.Double ∷ class.Double ∷ [])) e
    by Nnz Double o e = ap (λ k. Ok (k ∷ class.Double ∷ class.Double ∷ [])) e
    by Nnz Text o e = absurd (let f : false ≡ true = o in cc)
    by Nummissing a o e = ap (λ k. Ok (k ∷ class.Double ∷ class.Double ∷ [])) e
