-- Keys are equal where their values are equal.
use Rattle.std.proofs.Common.{◌≡◌, Bool, true, false, refl, ap, sym, ◌∙◌}
use Rattle.std.proofs.lemmas.Bool.{true≢false}
use Rattle.std.proofs.lemmas.Cmp.{tied_itself}
use Rattle.std.specs.Ordering.{is_eq}
use Rattle.std.specs.declared.cmp.Ordering.{Ordering}
use Rattle.std.specs.declared.cmp.Ordering.TheVariants.{Less, Equal, Greater}
use Rattle.tall_value.specs.declared.class.Kind.{Kind}
use Rattle.tall_value.specs.declared.class.Kind.TheVariants.{Integer, Logical, Double, Text}
use Rattle.tall_value.specs.CellOrder.{cell_order}
use Rattle.tall_value.specs.Cells.{Seen, seen_kind}
use Rattle.tall_value.proofs.ClassLaws.{same_integers}
use Rattle.tall_value.proofs.OrderLaws.{cells_total, cells_exact}
use Rattle.tall_local.specs.Pairs.{Pair, same_kind, same_class, is_key_of}

pub same_kinds : (j k : Kind) → same_kind j k ≡ true → k ≡ j
same_kinds (Integer i) (Integer k) h = ap Integer (sym (same_integers i k h))
same_kinds (Integer i) Logical h = absurd (true≢false (sym h))
same_kinds (Integer i) Double h = absurd (true≢false (sym h))
same_kinds (Integer i) Text h = absurd (true≢false (sym h))
same_kinds Logical (Integer k) h = absurd (true≢false (sym h))
same_kinds Logical Logical h = refl
same_kinds Logical Double h = absurd (true≢false (sym h))
same_kinds Logical Text h = absurd (true≢false (sym h))
same_kinds Double (Integer k) h = absurd (true≢false (sym h))
same_kinds Double Logical h = absurd (true≢false (sym h))
same_kinds Double Double h = refl
same_kinds Double Text h = absurd (true≢false (sym h))
same_kinds Text (Integer k) h = absurd (true≢false (sym h))
same_kinds Text Logical h = absurd (true≢false (sym h))
same_kinds Text Double h = absurd (true≢false (sym h))
same_kinds Text Text h = refl

equal_order : (o : Ordering) → is_eq o ≡ true → o ≡ Equal
equal_order Less h = absurd (true≢false (sym h))
equal_order Equal h = refl
equal_order Greater h = absurd (true≢false (sym h))

pub equal_keys : (key : Seen) (p : Pair) → same_class key p.key ≡ true → is_key_of key p ≡ true → key ≡ p.key
equal_keys key p h e = cells_exact key p.key (sym (same_kinds (seen_kind key) (seen_kind p.key) h)) (equal_order (cell_order key p.key) e)

pub own_key : (p : Pair) → is_key_of p.key p ≡ true
own_key p = ap is_eq (tied_itself cells_total p.key)
