-- Keys compare as cells do.
use Rattle.std.proofs.Common.{◌≡◌, refl, sym, ◌∙◌, ap}
use Rattle.std.specs.Prelude.{Bool, true, false, cond, ◌||◌, not, ◌+◌, None, Some, List, [], ◌∷◌, map}
use Rattle.std.specs.Cmp.{signed_po, ties}
use Rattle.std.specs.List.{list_any, position_or_len}
use Rattle.std.specs.Ordering.{is_eq}
use Rattle.std.proofs.lemmas.Cmp.{eq_by_cmp_equiv}
use Rattle.std.proofs.lemmas.Map.Text.{is_eq-slice_cmp}
use Rattle.tall_value.specs.Cells.{Seen, whole, logical, double, text}
use Rattle.tall_value.specs.CellOrder.{cell_order}
use Rattle.tall_value.proofs.OrderLaws.{cells_total}
use Rattle.tall_kv.specs.declared.key.Key.{Key}
use Rattle.tall_kv.specs.declared.key.Key.TheVariants as key
use Rattle.tall_kv.specs.ByKey.{is_this_key}
use Rattle.tall_kv.specs.Keys.{key_seen, without_class}
use Rattle.tall_kv.specs.contracts.key.KeyPartialEq.TheImpl.{eq-value}

pub turned : (c d : Seen) → is_eq (cell_order c d) ≡ is_eq (cell_order d c)
turned c d = (eq_by_cmp_equiv cells_total).symm c d

same_bits : (a b : Bool) → eq-value.it (key.Logical a) (key.Logical b) ≡ is_eq (cell_order (logical a) (logical b))
same_bits false false = refl
same_bits false true = refl
same_bits true false = refl
same_bits true true = refl

in_order : (a b : Key) → eq-value.it a b ≡ is_eq (cell_order (key_seen a) (key_seen b))
in_order (key.Whole a) (key.Whole b) = ties signed_po (λ x y. refl) a b
in_order (key.Whole a) (key.Logical b) = refl
in_order (key.Whole a) (key.Double b) = refl
in_order (key.Whole a) (key.Text b) = refl
in_order (key.Logical a) (key.Whole b) = refl
in_order (key.Logical a) (key.Logical b) = same_bits a b
in_order (key.Logical a) (key.Double b) = refl
in_order (key.Logical a) (key.Text b) = refl
in_order (key.Double a) (key.Whole b) = refl
in_order (key.Double a) (key.Logical b) = refl
in_order (key.Double (Some a)) (key.Double (Some b)) = ties signed_po (λ x y. refl) a b
in_order (key.Double (Some a)) (key.Double None) = refl
in_order (key.Double None) (key.Double (Some b)) = refl
in_order (key.Double None) (key.Double None) = refl
in_order (key.Double a) (key.Text b) = refl
in_order (key.Text a) (key.Whole b) = refl
in_order (key.Text a) (key.Logical b) = refl
in_order (key.Text a) (key.Double b) = refl
in_order (key.Text a) (key.Text b) = sym (is_eq-slice_cmp a.now b.now)

-- a key's class counts on neither side
left_class : (c d : Seen) → is_eq (cell_order (without_class c) d) ≡ is_eq (cell_order c d)
left_class (whole k n) (whole j m) = refl
left_class (whole k n) (logical b) = refl
left_class (whole k n) (double d) = refl
left_class (whole k n) (text t) = refl
left_class (logical a) d = refl
left_class (double a) d = refl
left_class (text a) d = refl

pub class_is_left_out : (c d : Seen) → is_this_key c (without_class d) ≡ is_this_key c d
class_is_left_out c d = left_class d c

same_key : (a b : Key) (c : Seen) → key_seen a ≡ without_class c → eq-value.it a b ≡ is_this_key c (key_seen b)
same_key a b c h = in_order a b ∙ ap (λ k. is_eq (cell_order k (key_seen b))) h ∙ left_class c (key_seen b) ∙ turned c (key_seen b)

pub same_place : (a : Key) (c : Seen) → key_seen a ≡ without_class c → (ks : List Key) → position_or_len (eq-value.it a) ks ≡ position_or_len (is_this_key c) (map key_seen ks)
same_place a c h [] = refl
same_place a c h (k ∷ ks) =
    let e = same_key a k c h in
    ap (λ b. cond (not b) (1 + position_or_len (eq-value.it a) ks) 0) e
    ∙ ap (λ n. cond (not (is_this_key c (key_seen k))) (1 + n) 0) (same_place a c h ks)

pub same_answer : (a : Key) (c : Seen) → key_seen a ≡ without_class c → (ks : List Key) → list_any (eq-value.it a) ks ≡ list_any (is_this_key c) (map key_seen ks)
same_answer a c h [] = refl
same_answer a c h (k ∷ ks) =
    ap (λ b. b || list_any (eq-value.it a) ks) (same_key a k c h) ∙ ap (λ b. is_this_key c (key_seen k) || b) (same_answer a c h ks)
