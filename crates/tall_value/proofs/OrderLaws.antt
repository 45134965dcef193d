-- The order of cells is total and tells the cells of one class apart: it goes by the kind's rank, then by the number
-- with NaN last, then by the text's bytes.
use Rattle.std.specs.Prelude.{◌≡◌, ℤ, ℕ, Bool, true, false, Option, None, Some, List, [], refl}
use Rattle.std.proofs.Common.{ap, sym, subst}
use Rattle.std.specs.declared.cmp.Ordering.{Ordering}
use Rattle.std.specs.declared.cmp.Ordering.TheVariants.{Less, Equal, Greater}
use Rattle.std.specs.Ordering.{nat_cmp, int_cmp, bool_cmp, on, flip_args, ordering_then, then_cmp}
use Rattle.std.specs.Option.{option_cmp}
use Rattle.std.specs.Cmp.{IsTotalOrder, on_total, back_total, then_total, nat_cmp_total, int_cmp_total, int_ranked}
use Rattle.std.specs.Cmp.Lexicographic.{slice_cmp, options_total, nat_list_cmp_total}
use Rattle.std.specs.FinMap.{slice_cmp-IsAntisymmetric, nat_cmp-IsAntisymmetric}
use Rattle.tall_value.specs.declared.class.IntKind.{IntKind}
use Rattle.tall_value.specs.declared.class.Kind.{Kind}
use Rattle.tall_value.specs.declared.class.Kind.TheVariants.{Integer}
use Rattle.tall_value.specs.Cells.{Seen, whole, logical, double, text, amount, seen_kind}
use Rattle.tall_value.specs.CellOrder.{cell_order, nan_last, rank}

as_back : (p q : Option ℤ) → flip_args (option_cmp (flip_args int_cmp)) p q ≡ nan_last p q
as_back (Some a) (Some b) = refl
as_back (Some a) None = refl
as_back None (Some b) = refl
as_back None None = refl

nan_last_total : IsTotalOrder nan_last
nan_last_total = subst IsTotalOrder (λ i p q. as_back p q i) (back_total (options_total (back_total int_cmp_total)))

abbrev bytes : Seen → List ℕ
bytes (text t) = t
bytes c = []

abbrev keyed : Seen → Seen → Ordering
keyed = then_cmp (on rank nat_cmp) (then_cmp (on amount nan_last) (on bytes (slice_cmp nat_cmp)))

then_equal : (o : Ordering) → ordering_then o Equal ≡ o
then_equal Less = refl
then_equal Equal = refl
then_equal Greater = refl

as_bits : (a b : Bool) → keyed (logical a) (logical b) ≡ bool_cmp a b
as_bits false false = refl
as_bits false true = refl
as_bits true false = refl
as_bits true true = refl

as_keyed : (c d : Seen) → keyed c d ≡ cell_order c d
as_keyed (whole j a) (whole k b) = then_equal (int_cmp a b)
as_keyed (whole j a) (logical b) = refl
as_keyed (whole j a) (double b) = refl
as_keyed (whole j a) (text b) = refl
as_keyed (logical a) (whole k b) = refl
as_keyed (logical a) (logical b) = as_bits a b
as_keyed (logical a) (double b) = refl
as_keyed (logical a) (text b) = refl
as_keyed (double a) (whole k b) = refl
as_keyed (double a) (logical b) = refl
as_keyed (double a) (double b) = then_equal (nan_last a b)
as_keyed (double a) (text b) = refl
as_keyed (text a) (whole k b) = refl
as_keyed (text a) (logical b) = refl
as_keyed (text a) (double b) = refl
as_keyed (text a) (text b) = refl

pub cells_total : IsTotalOrder cell_order
cells_total = subst IsTotalOrder (λ i c d. as_keyed c d i) (then_total (on_total rank nat_cmp_total) (then_total (on_total amount nan_last_total) (on_total bytes nat_list_cmp_total)))

one_class : (j k : IntKind) → ◌≡◌ {A = Kind} (Integer j) (Integer k) → j ≡ k
one_class j k h = cc

one_whole : (j k : IntKind) (a b : ℤ) → j ≡ k → a ≡ b → whole j a ≡ whole k b
one_whole j k a b p q = cc

one_bool : (a b : Bool) → bool_cmp a b ≡ Equal → a ≡ b
one_bool false false h = refl
one_bool false true h = absurd cc
one_bool true false h = absurd cc
one_bool true true h = refl

one_double : (a b : Option ℤ) → nan_last a b ≡ Equal → a ≡ b
one_double (Some a) (Some b) h = ap (λ (n : ℤ). Some n) (int_ranked a b Equal (sym h))
one_double (Some a) None h = absurd cc
one_double None (Some b) h = absurd cc
one_double None None h = refl

pub cells_exact : (c d : Seen) → seen_kind c ≡ seen_kind d → cell_order c d ≡ Equal → c ≡ d
cells_exact (whole j a) (whole k b) h e = one_whole j k a b (one_class j k h) (int_ranked a b Equal (sym e))
cells_exact (whole j a) (logical b) h e = absurd cc
cells_exact (whole j a) (double b) h e = absurd cc
cells_exact (whole j a) (text b) h e = absurd cc
cells_exact (logical a) (whole k b) h e = absurd cc
cells_exact (logical a) (logical b) h e = ap logical (one_bool a b e)
cells_exact (logical a) (double b) h e = absurd cc
cells_exact (logical a) (text b) h e = absurd cc
cells_exact (double a) (whole k b) h e = absurd cc
cells_exact (double a) (logical b) h e = absurd cc
cells_exact (double a) (double b) h e = ap double (one_double a b e)
cells_exact (double a) (text b) h e = absurd cc
cells_exact (text a) (whole k b) h e = absurd cc
cells_exact (text a) (logical b) h e = absurd cc
cells_exact (text a) (double b) h e = absurd cc
cells_exact (text a) (text b) h e = ap text (slice_cmp-IsAntisymmetric nat_cmp-IsAntisymmetric a b e)
