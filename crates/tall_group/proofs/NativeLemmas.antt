-- Sums that stay in a class, in a group.
use Rattle.std.specs.Prelude.{◌≡◌, refl, ℤ, ℕ, pos, negsuc, ◌+◌, ◌*◌, ◌<◌, ◌≤◌, ◌^◌, ◌+ℤ◌, ◌≤ℤ◌, Option, None, Some, List, ◌++◌}
use Rattle.std.proofs.Common.{ap, sym, subst, ◌∙◌, arith}
use Rattle.std.proofs.lemmas.Int.{ints, clamps}
use Rattle.tall_int.specs.Numbers.{nearest}
use Rattle.tall_int.specs.Sums.{clamped_sum}
use Rattle.tall_clamp.specs.Clamps.{after, apply, row_clamp, Sums, IsRoomy}
use Rattle.tall_clamp.specs.Folds.{no_clamp, IsSum}
use Rattle.tall_clamp.specs.Outcomes.{numbers}
use Rattle.tall_clamp.specs.SumLaws.{row_is_sum, sum_stays}
use Rattle.tall_clamp.specs.declared.bounds.Bounds.{Bounds}
use Rattle.tall_value.specs.declared.class.IntKind.{IntKind}
use Rattle.tall_value.specs.declared.class.IntKind.TheVariants.{Int8, Int16, Int32, Int64, Uint8, Uint16, Uint32, Uint64}
use Rattle.tall_value.specs.declared.class.Kind.{Kind}
use Rattle.tall_value.specs.declared.class.Kind.TheVariants.{Integer, Logical, Double, Text}
use Rattle.tall_value.specs.Cells.{Seen, whole}
use Rattle.tall_value.specs.Classes.{least, greatest}
use Rattle.tall_group.specs.States.{IsRange, IsWithin, IsNativeOf, low_of, high_of, native_cell, native_given}
use Rattle.tall_group.specs.StateLaws.{native_join, one_native, row_or_none}

pub sum_is_roomy : (c : Bounds) (rows : ℕ) → IsSum c rows → rows ≤ 2 ^ 40 → IsRoomy c
sum_is_roomy c rows h few =
    record {
      low = h.least;
      high = h.greatest;
      ordered = h.ordered;
      below = omega (arith, ints, h.below);
      above = omega (arith, ints, h.above);
    }

pub datum_is_sum : (low high : ℤ) (d : Option ℤ) → IsRange low high → IsWithin low high d → IsSum (row_or_none low high d) 1
datum_is_sum low high (Some n) r w = row_is_sum low high n r.0 r.3 w.0 w.1
datum_is_sum low high None r w =
    record {
      least = omega (arith, ints);
      ordered = omega (arith, ints);
      greatest = omega (arith, ints);
      below = omega (arith, ints);
      above = omega (arith, ints);
      low_outside = omega (arith, ints);
      high_outside = omega (arith, ints);
      low_near = omega (arith, ints);
      high_near = omega (arith, ints);
    }

int_range : (k : IntKind) → IsRange (least k) (greatest k)
int_range Int8 = (omega (arith, ints), omega (arith, ints), omega (arith, ints), omega (arith, ints))
int_range Int16 = (omega (arith, ints), omega (arith, ints), omega (arith, ints), omega (arith, ints))
int_range Int32 = (omega (arith, ints), omega (arith, ints), omega (arith, ints), omega (arith, ints))
int_range Int64 = (omega (arith, ints), omega (arith, ints), omega (arith, ints), omega (arith, ints))
int_range Uint8 = (omega (arith, ints), omega (arith, ints), omega (arith, ints), omega (arith, ints))
int_range Uint16 = (omega (arith, ints), omega (arith, ints), omega (arith, ints), omega (arith, ints))
int_range Uint32 = (omega (arith, ints), omega (arith, ints), omega (arith, ints), omega (arith, ints))
int_range Uint64 = (omega (arith, ints), omega (arith, ints), omega (arith, ints), omega (arith, ints))

-- the ends of each kind
pub range_of : (a : Kind) → IsRange (low_of a) (high_of a)
range_of (Integer k) = int_range k
range_of Logical = (omega (arith, ints), omega (arith, ints), omega (arith, ints), omega (arith, ints))
range_of Double = (omega (arith, ints), omega (arith, ints), omega (arith, ints), omega (arith, ints))
range_of Text = (omega (arith, ints), omega (arith, ints), omega (arith, ints), omega (arith, ints))

pub joined_sums : (low high : ℤ) (ds es : List (Option ℤ)) (a b c : Bounds) → IsRange low high → a.low ≤ℤ a.high → b.low ≤ℤ b.high → c ≡ after a b → Sums low high (numbers ds) a → Sums low high (numbers es) b
    → Sums low high (numbers (ds ++ es)) c
joined_sums low high ds es a b c r p q e h k x u v =
    ap (λ (d : Bounds). apply d x) e ∙ native_join low high ds es a b (omega (arith, ints, r.1, r.2)) p q h k x u v

from_zero : (low high shift n : ℤ) → n ≡ nearest low high shift → n ≡ nearest low high (pos 0 +ℤ shift)
from_zero low high shift n h = h ∙ ap (nearest low high) (let e : shift ≡ pos 0 +ℤ shift = omega (arith, ints) in e)

stays : (k : IntKind) (r : IsRange (least k) (greatest k)) (ns : List ℤ) → nearest (least k) (greatest k) (clamped_sum (least k) (greatest k) (pos 0) ns) ≡ clamped_sum (least k) (greatest k) (pos 0) ns
stays k r ns = sum_stays (least k) (greatest k) (pos 0) ns (omega (arith, ints, r.1, r.2)) r.1 r.2

pub native_value : (a : Kind) (b : Bounds) (n : ℤ) (ds : List (Option ℤ)) (c : Seen) → c ≡ native_cell a n → n ≡ nearest b.low b.high b.shift → Sums (low_of a) (high_of a) (numbers ds) b → Some c ≡ native_given a ds
native_value (Integer k) b n ds c e h s =
    let r = int_range k in
    ap Some (e ∙ (ap (λ (x : ℤ). whole k (nearest (least k) (greatest k) x)) (from_zero b.low b.high b.shift n h ∙ s (pos 0) r.1 r.2) ∙ ap (whole k) (stays k r (numbers ds))))
native_value Logical b n ds c e h s = ap Some e
native_value Double b n ds c e h s = ap Some e
native_value Text b n ds c e h s = ap Some e
