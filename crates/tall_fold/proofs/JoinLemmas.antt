-- What two lists of cells come to, one after the other.
use Rattle.std.proofs.Common.{◌≡◌, ℕ, ◌+◌, ℤ, ◌+ℤ◌, ◌≤ℤ◌, Bool, true, false, if◌then◌else◌, ◌||◌, ◌&&◌, Option, None, Some, List, [], ◌∷◌, ◌++◌, length, refl, ap, sym, ◌∙◌, arith, length-append}
use Rattle.std.specs.Prelude.{IfSome}
use Rattle.std.specs.List.{fold, filter, filter_map, list_any, list_all}
use Rattle.std.specs.Int.{int_max, int_min}
use Rattle.std.proofs.lemmas.Int.{ints}
use Rattle.std.proofs.lemmas.List.{append-nil}
use Rattle.std.proofs.lemmas.List.Elements.{filter-append, filter_map-append}
use Rattle.std.proofs.lemmas.List.Folds.{list_any-append, list_all-append}
use Rattle.std.proofs.lemmas.List.Sums.{fold-append}
use Rattle.tall_value.specs.declared.class.IntKind.{IntKind}
use Rattle.tall_value.specs.declared.class.IntKind.TheVariants.{Int8, Int16, Int32, Int64, Uint8, Uint16, Uint32, Uint64}
use Rattle.tall_value.specs.declared.class.Kind.{Kind}
use Rattle.tall_value.specs.declared.class.Kind.TheVariants.{Integer, Logical, Double, Text}
use Rattle.tall_value.specs.declared.functions.Reduction.{Reduction}
use Rattle.tall_value.specs.Cells.{Seen, amount, is_nan}
use Rattle.tall_value.specs.Classes.{greatest, least}
use Rattle.tall_value.specs.Filters.{is_true}
use Rattle.tall_value.specs.Reductions.{is_present, total, used}
use Rattle.tall_clamp.specs.Clamps.{after, Sums}
use Rattle.tall_clamp.specs.ClampLaws.{apply-after}
use Rattle.tall_clamp.specs.Folds.{added, of_both}
use Rattle.tall_clamp.specs.FoldLaws.{int_min-assoc, int_max-assoc}
use Rattle.tall_clamp.specs.Outcomes.{picked}
use Rattle.tall_value.proofs.SumLaws.{total_append}
use Rattle.tall_clamp.specs.declared.bounds.Bounds.{Bounds}
use Rattle.tall_clamp.proofs.SumLemmas.{more_rows}
use Rattle.tall_fold.specs.PickLaws.{min_kept, max_kept}
use Rattle.tall_fold.specs.Forms.{omits, total_unless_nan, counted}
use Rattle.tall_fold.specs.Summaries.{low_of, high_of, IsNumber}

pub used-append : (b : Bool) (cs ds : List Seen) → used b (cs ++ ds) ≡ used b cs ++ used b ds
used-append true cs ds = filter-append is_present cs ds
used-append false cs ds = refl

-- ---- totals

added_if : (p q : Bool) (x y : ℤ) → added (if p then None else Some x) (if q then None else Some y) ≡ (if p || q then None else Some (x +ℤ y))
added_if true q x y = refl
added_if false true x y = refl
added_if false false x y = refl

pub total_unless_nan-append : (cs ds : List Seen) → added (total_unless_nan cs) (total_unless_nan ds) ≡ total_unless_nan (cs ++ ds)
total_unless_nan-append cs ds =
    added_if (list_any is_nan cs) (list_any is_nan ds) (total (filter_map amount cs)) (total (filter_map amount ds))
    ∙ ap (λ (n : ℤ). if list_any is_nan cs || list_any is_nan ds then None else Some n)
    (sym (ap total (filter_map-append amount cs ds) ∙ total_append (filter_map amount cs) (filter_map amount ds)))
    ∙ ap (λ (b : Bool). if b then None else Some (total (filter_map amount (cs ++ ds)))) (sym (list_any-append is_nan cs ds))

pub totals_joined : (op : Reduction) (cs ds : List Seen) (s t : Option ℤ) → s ≡ total_unless_nan (used (omits op) cs) → t ≡ total_unless_nan (used (omits op) ds)
    → added s t ≡ total_unless_nan (used (omits op) (cs ++ ds))
totals_joined op cs ds s t p q =
    ap (λ (x : Option ℤ). added x t) p
    ∙ ap (added (total_unless_nan (used (omits op) cs))) q
    ∙ total_unless_nan-append (used (omits op) cs) (used (omits op) ds)
    ∙ ap total_unless_nan (sym (used-append (omits op) cs ds))

-- ---- clamp functions

least_ordered : (k : IntKind) → least k ≤ℤ greatest k
least_ordered Int8 = omega (arith, ints)
least_ordered Int16 = omega (arith, ints)
least_ordered Int32 = omega (arith, ints)
least_ordered Int64 = omega (arith, ints)
least_ordered Uint8 = omega (arith, ints)
least_ordered Uint16 = omega (arith, ints)
least_ordered Uint32 = omega (arith, ints)
least_ordered Uint64 = omega (arith, ints)

pub ends_ordered : (a : Kind) → low_of a ≤ℤ high_of a
ends_ordered (Integer k) = least_ordered k
ends_ordered Logical = omega (arith, ints)
ends_ordered Double = omega (arith, ints)
ends_ordered Text = omega (arith, ints)

pub clamps_joined : (a : Kind) (cs ds : List Seen) (s t : Bounds) → s.low ≤ℤ s.high → t.low ≤ℤ t.high
    → Sums (low_of a) (high_of a) (filter_map amount cs) s → Sums (low_of a) (high_of a) (filter_map amount ds) t
    → Sums (low_of a) (high_of a) (filter_map amount (cs ++ ds)) (after s t)
clamps_joined a cs ds s t p q f g =
    more_rows (low_of a) (high_of a) s t (after s t) (filter_map amount cs) (filter_map amount ds) (filter_map amount (cs ++ ds))
    (ends_ordered a) f g (λ x u v. apply-after s t x p q) (filter_map-append amount cs ds)

-- ---- the least and the greatest number

module _ (pick : ℤ → ℤ → ℤ) (assoc : (x y z : ℤ) → pick (pick x y) z ≡ pick x (pick y z)) where
  fold_first : (x y : ℤ) (ns : List ℤ) → fold pick (pick x y) ns ≡ pick x (fold pick y ns)
  fold_first x y [] = refl
  fold_first x y (n ∷ ns) = ap (λ (m : ℤ). fold pick m ns) (assoc x y n) ∙ fold_first x (pick y n) ns

  pub picked-append : (xs ys : List ℤ) → of_both pick (picked pick xs) (picked pick ys) ≡ picked pick (xs ++ ys)
  picked-append [] ys = refl
  picked-append (x ∷ xs) [] = ap (λ (l : List ℤ). Some (fold pick x l)) (sym (append-nil xs))
  picked-append (x ∷ xs) (y ∷ ys) = ap Some (sym (fold-append pick x xs (y ∷ ys) ∙ fold_first (fold pick x xs) y ys))

  numbers_picked : (cs ds : List Seen) (s t : Option ℤ) → s ≡ picked pick (filter_map amount cs) → t ≡ picked pick (filter_map amount ds)
      → of_both pick s t ≡ picked pick (filter_map amount (cs ++ ds))
  numbers_picked cs ds s t p q =
      ap (λ (x : Option ℤ). of_both pick x t) p
      ∙ ap (of_both pick (picked pick (filter_map amount cs))) q
      ∙ picked-append (filter_map amount cs) (filter_map amount ds)
      ∙ ap (picked pick) (sym (filter_map-append amount cs ds))

pub least_joined : (cs ds : List Seen) (s t : Option ℤ) → s ≡ picked int_min (filter_map amount cs) → t ≡ picked int_min (filter_map amount ds)
    → of_both int_min s t ≡ picked int_min (filter_map amount (cs ++ ds))
least_joined cs ds s t p q = numbers_picked int_min int_min-assoc cs ds s t p q

pub greatest_joined : (cs ds : List Seen) (s t : Option ℤ) → s ≡ picked int_max (filter_map amount cs) → t ≡ picked int_max (filter_map amount ds)
    → of_both int_max s t ≡ picked int_max (filter_map amount (cs ++ ds))
greatest_joined cs ds s t p q = numbers_picked int_max int_max-assoc cs ds s t p q

-- ---- truths and counts

pub some_joined : (cs ds : List Seen) (s t : Bool) → s ≡ list_any is_true cs → t ≡ list_any is_true ds → (s || t) ≡ list_any is_true (cs ++ ds)
some_joined cs ds s t p q = ap (λ (x : Bool). x || t) p ∙ ap (λ (x : Bool). list_any is_true cs || x) q ∙ sym (list_any-append is_true cs ds)

pub each_joined : (cs ds : List Seen) (s t : Bool) → s ≡ list_all is_true cs → t ≡ list_all is_true ds → (s && t) ≡ list_all is_true (cs ++ ds)
each_joined cs ds s t p q = ap (λ (x : Bool). x && t) p ∙ ap (λ (x : Bool). list_all is_true cs && x) q ∙ sym (list_all-append is_true cs ds)

pub numbers_joined : (op : Reduction) (cs ds : List Seen) (s t : ℕ) → s ≡ length (filter (counted op) cs) → t ≡ length (filter (counted op) ds)
    → s + t ≡ length (filter (counted op) (cs ++ ds))
numbers_joined op cs ds s t p q =
    let e : length (filter (counted op) (cs ++ ds)) ≡ length (filter (counted op) cs) + length (filter (counted op) ds) =
    ap length (filter-append (counted op) cs ds) ∙ length-append (filter (counted op) cs) (filter (counted op) ds) in
    omega (arith, e, p, q)

-- ---- the least and the greatest number are numbers of the class

pub least_kept : (a : Kind) (s t : Option ℤ) → IfSome s (IsNumber a) → IfSome t (IsNumber a) → IfSome (of_both int_min s t) (IsNumber a)
least_kept a None t p q = q
least_kept a (Some x) None p q = p
least_kept a (Some x) (Some y) p q = min_kept (low_of a) (high_of a) x y p q

pub greatest_kept : (a : Kind) (s t : Option ℤ) → IfSome s (IsNumber a) → IfSome t (IsNumber a) → IfSome (of_both int_max s t) (IsNumber a)
greatest_kept a None t p q = q
greatest_kept a (Some x) None p q = p
greatest_kept a (Some x) (Some y) p q = max_kept (low_of a) (high_of a) x y p q
