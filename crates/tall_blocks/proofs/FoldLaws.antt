-- Folds over some cells and then others, and the reductions and methods that they give.
use Rattle.std.specs.Prelude.{◌≡◌, refl, ℤ, pos, ◌+◌, ◌+ℤ◌, if◌then◌else◌, ◌||◌, ◌&&◌, Bool, true, false, Option, None, Some, List, [], ◌∷◌, ◌++◌, length}
use Rattle.std.proofs.Common.{ap, sym, ◌∙◌, arith, inl, inr}
use Rattle.std.specs.List.{filter, filter_map, list_any}
use Rattle.std.specs.Ordering.{is_lt, is_gt, ordering_reverse}
use Rattle.std.specs.declared.cmp.Ordering.{Ordering}
use Rattle.std.specs.declared.cmp.Ordering.TheVariants.{Less, Equal, Greater}
use Rattle.std.proofs.lemmas.Cmp.{upto}
use Rattle.std.proofs.lemmas.Int.{ints}
use Rattle.std.proofs.lemmas.List.{length-append}
use Rattle.std.proofs.lemmas.List.Elements.{filter-append, filter_map-append}
use Rattle.std.proofs.lemmas.List.Folds.{list_any-append, list_all-append}
use Rattle.tall_int.specs.Sums.{clamped_sum}
use Rattle.tall_int.specs.Numbers.{nearest}
use Rattle.tall_value.specs.declared.class.Kind.{Kind}
use Rattle.tall_value.specs.declared.class.Kind.TheVariants.{Integer, Logical, Double, Text}
use Rattle.tall_value.specs.declared.functions.Method.{Method}
use Rattle.tall_value.specs.declared.functions.Method.TheVariants as method
use Rattle.tall_value.specs.declared.functions.Reduction.{Reduction}
use Rattle.tall_value.specs.declared.functions.Reduction.TheVariants as reduction
use Rattle.tall_value.specs.Cells.{Seen, amount, is_nan}
use Rattle.tall_value.specs.CellOrder.{cell_order}
use Rattle.tall_value.specs.Classes.{least, greatest}
use Rattle.tall_value.specs.Filters.{is_true}
use Rattle.tall_value.specs.Groups.{group_value}
use Rattle.tall_value.specs.Reductions.{total, fold, folded, lesser, greater, present, is_present, is_nonzero, native_total, reduced, used, every_cell}
use Rattle.tall_value.proofs.OrderLaws.{cells_total}
use Rattle.tall_value.proofs.SumLaws.{total_append, clamped_append}
use Rattle.tall_blocks.proofs.Choices.{true_or_false, if_true, if_false}
use Rattle.tall_blocks.specs.Folds.{PartFold, exact_sum, least_cell, greatest_cell, some_true, all_true, number_of, Value, value_of, best_joined, joined, Fold, by_parts, class_sum, Kept, start, more, native_fold, native_result, reduction_fold, omits, reduction_result, number_result, method_fold, method_omits, method_result}

-- ---- the least and the greatest

lt_reverse : (r : Ordering) → is_lt (ordering_reverse r) ≡ is_gt r
lt_reverse Less = refl
lt_reverse Equal = refl
lt_reverse Greater = refl

turned : (c d : Seen) → is_lt (cell_order d c) ≡ is_gt (cell_order c d)
turned c d = ap is_lt (cells_total.antisymm d c) ∙ lt_reverse (cell_order c d)

-- d is not less than c, and e not less than d
not_less : (c d e : Seen) → is_lt (cell_order d c) ≡ false → is_lt (cell_order e d) ≡ false → is_lt (cell_order e c) ≡ false
not_less c d e p q = turned c e ∙ upto cells_total c d e (sym (turned c d) ∙ p) (sym (turned d e) ∙ q)

not_both : (r : Ordering) → is_lt r ≡ true → is_gt r ≡ false
not_both Less h = refl
not_both Equal h = absurd (cc)
not_both Greater h = absurd (cc)

less_all : (c d e : Seen) → is_lt (cell_order c d) ≡ true → is_lt (cell_order d e) ≡ true → is_lt (cell_order c e) ≡ true
less_all c d e p q = elim (true_or_false (is_lt (cell_order c e))) [
  | inl y ↦ y
  | inr n ↦
      let a : is_lt (cell_order d c) ≡ false = turned c d ∙ not_both (cell_order c d) p in
      let b : is_lt (cell_order d e) ≡ false = not_less e c d n a in
      absurd (cc)
]

-- of two by a test: associative where the test goes over both ways
module _ {A : Type 0} (test : A → A → Bool) (both : (c d e : A) → test c d ≡ true → test d e ≡ true → test c e ≡ true) (neither : (c d e : A) → test c d ≡ false → test d e ≡ false → test c e ≡ false) where
  abbrev pub better : A → A → A
  better c d = if test c d then d else c

  three : (c d e : A) (p q : Bool) → test c d ≡ p → test d e ≡ q → better (better c d) e ≡ better c (better d e)
  three c d e true true p q =
      let a : test c e ≡ true = both c d e p q in
      ap (λ x. better x e) (if_true (test c d) d c p) ∙ (if_true (test d e) e d q ∙ sym (ap (better c) (if_true (test d e) e d q) ∙ if_true (test c e) e c a))
  three c d e true false p q = ap (λ x. better x e) (if_true (test c d) d c p) ∙ (if_false (test d e) e d q ∙ sym (ap (better c) (if_false (test d e) e d q) ∙ if_true (test c d) d c p))
  three c d e false true p q = ap (λ x. better x e) (if_false (test c d) d c p) ∙ sym (ap (better c) (if_true (test d e) e d q))
  three c d e false false p q =
      let a : test c e ≡ false = neither c d e p q in
      ap (λ x. better x e) (if_false (test c d) d c p) ∙ (if_false (test c e) e c a ∙ sym (ap (better c) (if_false (test d e) e d q) ∙ if_false (test c d) d c p))

  pub better_assoc : (c d e : A) → better (better c d) e ≡ better c (better d e)
  better_assoc c d e = three c d e (test c d) (test d e) refl refl

pub greater_assoc : (c d e : Seen) → greater (greater c d) e ≡ greater c (greater d e)
greater_assoc = better_assoc (λ c d. is_lt (cell_order c d)) less_all (λ c d e p q. not_less e d c q p)

pub lesser_assoc : (c d e : Seen) → lesser (lesser c d) e ≡ lesser c (lesser d e)
lesser_assoc = better_assoc (λ c d. is_lt (cell_order d c)) (λ c d e p q. less_all e d c q p) not_less

module _ (f : Seen → Seen → Seen) (assoc : (c d e : Seen) → f (f c d) e ≡ f c (f d e)) where
  fold_append : (c : Seen) (xs ys : List Seen) → fold f c (xs ++ ys) ≡ fold f (fold f c xs) ys
  fold_append c [] ys = refl
  fold_append c (x ∷ xs) ys = fold_append (f c x) xs ys

  fold_first : (c d : Seen) (xs : List Seen) → fold f (f c d) xs ≡ f c (fold f d xs)
  fold_first c d [] = refl
  fold_first c d (x ∷ xs) = ap (λ y. fold f y xs) (assoc c d x) ∙ fold_first c (f d x) xs

  pub folded_append : (xs ys : List Seen) → folded f (xs ++ ys) ≡ best_joined f (folded f xs) (folded f ys)
  folded_append [] ys = refl
  folded_append (x ∷ xs) [] = ap Some (fold_append x xs [])
  folded_append (x ∷ xs) (y ∷ ys) = ap Some (fold_append x xs (y ∷ ys) ∙ fold_first (fold f x xs) y ys)

  best_assoc : (s t u : Option Seen) → best_joined f s (best_joined f t u) ≡ best_joined f (best_joined f s t) u
  best_assoc None t u = refl
  best_assoc (Some c) None u = refl
  best_assoc (Some c) (Some d) None = refl
  best_assoc (Some c) (Some d) (Some e) = ap Some (sym (assoc c d e))

-- ---- folds whose parts join

pub or_assoc : (a b c : Bool) → (a || (b || c)) ≡ ((a || b) || c)
or_assoc true b c = refl
or_assoc false b c = refl

and_assoc : (a b c : Bool) → (a && (b && c)) ≡ ((a && b) && c)
and_assoc true b c = refl
and_assoc false b c = refl

pub value_joined : (p : PartFold) (cs ds : List Seen) → value_of p (cs ++ ds) ≡ joined p (value_of p cs) (value_of p ds)
value_joined exact_sum cs ds =
    ap (λ b. (b, total (filter_map amount (cs ++ ds)))) (list_any-append is_nan cs ds)
    ∙ ap (λ n. (list_any is_nan cs || list_any is_nan ds, n)) (ap total (filter_map-append amount cs ds) ∙ total_append (filter_map amount cs) (filter_map amount ds))
value_joined least_cell cs ds = folded_append lesser lesser_assoc cs ds
value_joined greatest_cell cs ds = folded_append greater greater_assoc cs ds
value_joined some_true cs ds = list_any-append is_true cs ds
value_joined all_true cs ds = list_all-append is_true cs ds
value_joined (number_of test) cs ds = ap length (filter-append test cs ds) ∙ length-append (filter test cs) (filter test ds)

pub joined_assoc : (p : PartFold) (s t u : Value p) → joined p s (joined p t u) ≡ joined p (joined p s t) u
joined_assoc exact_sum s t u = ap (λ b. (b, s.1 +ℤ (t.1 +ℤ u.1))) (or_assoc s.0 t.0 u.0) ∙ ap (λ n. ((s.0 || t.0) || u.0, n)) (let e : s.1 +ℤ (t.1 +ℤ u.1) ≡ (s.1 +ℤ t.1) +ℤ u.1 = omega (arith, ints) in e)
joined_assoc least_cell s t u = best_assoc lesser lesser_assoc s t u
joined_assoc greatest_cell s t u = best_assoc greater greater_assoc s t u
joined_assoc some_true s t u = or_assoc s t u
joined_assoc all_true s t u = and_assoc s t u
joined_assoc (number_of test) s t u = omega (arith)

pub joined_start : (p : PartFold) (s : Value p) → joined p (value_of p []) s ≡ s
joined_start exact_sum s = ap (λ n. (s.0, n)) (let e : pos 0 +ℤ s.1 ≡ s.1 = omega (arith, ints) in e)
joined_start least_cell s = refl
joined_start greatest_cell s = refl
joined_start some_true s = refl
joined_start all_true s = refl
joined_start (number_of test) s = (let e : 0 + s ≡ s = omega (arith) in e)

-- ---- all folds

pub more_append : (g : Fold) (s : Kept g) (cs ds : List Seen) → more g s (cs ++ ds) ≡ more g (more g s cs) ds
more_append (by_parts p) s cs ds = ap (joined p s) (value_joined p cs ds) ∙ joined_assoc p s (value_of p cs) (value_of p ds)
more_append (class_sum k) s cs ds =
    ap (clamped_sum (least k) (greatest k) s) (filter_map-append amount cs ds) ∙ clamped_append (least k) (greatest k) s (filter_map amount cs) (filter_map amount ds)

pub used_append : (passes_nan : Bool) (cs ds : List Seen) → used passes_nan (cs ++ ds) ≡ used passes_nan cs ++ used passes_nan ds
used_append true cs ds = filter-append is_present cs ds
used_append false cs ds = refl

pub joined_nothing : (p : PartFold) (s : Value p) → joined p s (value_of p []) ≡ s
joined_nothing exact_sum s = ap (λ b. (b, s.1 +ℤ pos 0)) (or_false s.0) ∙ ap (λ n. (s.0, n)) (let e : s.1 +ℤ pos 0 ≡ s.1 = omega (arith, ints) in e)
  where
    or_false : (a : Bool) → (a || false) ≡ a
    or_false true = refl
    or_false false = refl
joined_nothing least_cell None = refl
joined_nothing least_cell (Some c) = refl
joined_nothing greatest_cell None = refl
joined_nothing greatest_cell (Some c) = refl
joined_nothing some_true true = refl
joined_nothing some_true false = refl
joined_nothing all_true true = refl
joined_nothing all_true false = refl
joined_nothing (number_of test) s = (let e : s + 0 ≡ s = omega (arith) in e)

-- no further cells change nothing
pub no_more : (g : Fold) (passes_nan : Bool) (s : Kept g) → more g s (used passes_nan []) ≡ s
no_more (by_parts p) true s = joined_nothing p s
no_more (by_parts p) false s = joined_nothing p s
no_more (class_sum k) true s = refl
no_more (class_sum k) false s = refl

-- ---- reductions and methods

pub every_one : (cs : List Seen) → filter every_cell cs ≡ cs
every_one [] = refl
every_one (c ∷ cs) = ap (λ xs. c ∷ xs) (every_one cs)

-- what is kept from the start on of a fold whose parts join is the value itself
pub from_start : (p : PartFold) (cs : List Seen) → more (by_parts p) (start (by_parts p)) cs ≡ value_of p cs
from_start p cs = joined_start p (value_of p cs)

native_kept : (a : Kind) (cs : List Seen) → native_total a cs ≡ native_result a (more (native_fold a) (start (native_fold a)) cs)
native_kept (Integer k) cs = refl
native_kept Logical cs = ap (native_result Logical) (sym (from_start exact_sum cs))
native_kept Double cs = ap (native_result Double) (sym (from_start exact_sum cs))
native_kept Text cs = ap (native_result Text) (sym (from_start exact_sum cs))

count_kept : (cs : List Seen) → number_result (length cs) ≡ number_result (more (by_parts (number_of every_cell)) (start (by_parts (number_of every_cell))) cs)
count_kept cs = ap number_result (ap length (sym (every_one cs)) ∙ sym (from_start (number_of every_cell) cs))

pub reduced_kept : (r : Reduction) (a : Kind) (cs : List Seen) → reduced r a cs ≡ reduction_result r a (more (reduction_fold r a) (start (reduction_fold r a)) (used (omits r) cs))
reduced_kept (reduction.Sum false false) a cs = ap (reduction_result (reduction.Sum false false) a) (sym (from_start exact_sum cs))
reduced_kept (reduction.Sum false true) a cs = ap (reduction_result (reduction.Sum false true) a) (sym (from_start exact_sum (present cs)))
reduced_kept (reduction.Sum true false) a cs = native_kept a cs
reduced_kept (reduction.Sum true true) a cs = native_kept a (present cs)
reduced_kept reduction.Min a cs = refl
reduced_kept reduction.Max a cs = refl
reduced_kept reduction.Any a cs = refl
reduced_kept reduction.All a cs = refl
reduced_kept reduction.Nnz a cs = ap number_result (sym (from_start (number_of is_nonzero) cs))
reduced_kept reduction.Numel a cs = count_kept cs
reduced_kept reduction.Height a cs = count_kept cs

pub group_kept : (m : Method) (a : Kind) (cs : List Seen) → group_value m a cs ≡ method_result m a (more (method_fold m a) (start (method_fold m a)) (used (method_omits m) cs))
group_kept method.Count a cs = count_kept cs
group_kept method.Sum a cs = ap (method_result method.Sum a) (sym (from_start exact_sum (present cs)))
group_kept method.SumNative a cs = native_kept a (present cs)
group_kept method.Min a cs = refl
group_kept method.Max a cs = refl
group_kept method.Nnz a cs = ap number_result (sym (from_start (number_of is_nonzero) (present cs)))
group_kept method.Nummissing a cs = ap number_result (sym (from_start (number_of is_nan) cs))

-- a reduction over some cells and then others
pub reduced_append : (r : Reduction) (a : Kind) (cs ds : List Seen) → reduced r a (cs ++ ds) ≡ reduction_result r a (more (reduction_fold r a) (more (reduction_fold r a) (start (reduction_fold r a)) (used (omits r) cs)) (used (omits r) ds))
reduced_append r a cs ds =
    reduced_kept r a (cs ++ ds)
    ∙ ap (reduction_result r a) (ap (more (reduction_fold r a) (start (reduction_fold r a))) (used_append (omits r) cs ds) ∙ more_append (reduction_fold r a) (start (reduction_fold r a)) (used (omits r) cs) (used (omits r) ds))
