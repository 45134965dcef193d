-- The order of faults is total, and a lesser number goes first.
use Rattle.std.specs.Prelude.{◌≡◌, refl, ℕ, ◌<◌, ◌≤◌, ◌⊎◌, Bool, true, false, if◌then◌else◌, Option, None, Some}
use Rattle.std.proofs.Common.{ap, sym, subst, ◌∙◌, arith, inl, inr}
use Rattle.std.specs.declared.cmp.Ordering.{Ordering}
use Rattle.std.specs.declared.cmp.Ordering.TheVariants.{Less, Equal, Greater}
use Rattle.std.specs.Ordering.{nat_cmp, is_lt, is_gt, ordering_then, ordering_reverse}
use Rattle.std.specs.Cmp.{IsTotalOrder}
use Rattle.std.specs.FinMap.{slice_cmp-IsAntisymmetric, nat_cmp-IsAntisymmetric}
use Rattle.std.specs.Cmp.Lexicographic.{slice_cmp}
use Rattle.std.proofs.lemmas.Bool.Decides.{nat_tests}
use Rattle.std.proofs.lemmas.Cmp.{on_total, nat_list_cmp_total, upto, tied_itself}
use Rattle.tall_semantics.specs.Faults.{Fault, fault_place, precedes, least_of, earlier}
use Rattle.tall_semantics.specs.Least.{AtMost, IsBelow}

abbrev order : Fault → Fault → Ordering
order f g = slice_cmp nat_cmp (fault_place f) (fault_place g)

order_total : IsTotalOrder order
order_total = on_total fault_place nat_list_cmp_total

lt_reverse : (r : Ordering) → is_lt (ordering_reverse r) ≡ is_gt r
lt_reverse Less = refl
lt_reverse Equal = refl
lt_reverse Greater = refl

not_both : (r : Ordering) → is_gt r ≡ true → is_lt r ≡ false
not_both Less h = absurd (cc)
not_both Equal h = absurd (cc)
not_both Greater h = refl

turned : (f g : Fault) → precedes g f ≡ is_gt (order f g)
turned f g = ap is_lt (order_total.antisymm g f) ∙ lt_reverse (order f g)

pub never_itself : (f : Fault) → precedes f f ≡ false
never_itself f = ap is_lt (tied_itself order_total f)

pub never_both : (f g : Fault) → precedes g f ≡ true → precedes f g ≡ false
never_both f g h = not_both (order f g) (sym (turned f g) ∙ h)

pub not_before : (f g h : Fault) → precedes g f ≡ false → precedes h g ≡ false → precedes h f ≡ false
not_before f g h p q = turned f h ∙ upto order_total f g h (sym (turned f g) ∙ p) (sym (turned g h) ∙ q)

number_first : (a b : ℕ) (r : Ordering) → is_lt (ordering_then (nat_cmp a b) r) ≡ false → b ≤ a
number_first a b r h = grind (arith, nat_tests)

lesser_first : (a b : ℕ) (r : Ordering) → b < a → is_lt (ordering_then (nat_cmp a b) r) ≡ false
lesser_first a b r h = grind (arith, nat_tests)

pub by_number : (f g : Fault) → precedes g f ≡ false → f.number ≤ g.number
by_number f g h = number_first g.number f.number _ h

pub lesser_number : (f g : Fault) → f.number < g.number → precedes g f ≡ false
lesser_number f g h = lesser_first g.number f.number _ h

-- ---- the earlier of two

by_test : {A : Type 0} (b : Bool) (x y : A) → (((if b then x else y) ≡ y) × (b ≡ false)) ⊎ (((if b then x else y) ≡ x) × (b ≡ true))
by_test true x y = inr (refl, refl)
by_test false x y = inl (refl, refl)

which : (f g : Fault) → ((least_of f g ≡ f) × (precedes g f ≡ false)) ⊎ ((least_of f g ≡ g) × (precedes g f ≡ true))
which f g = by_test (precedes g f) g f

pub at_most_itself : (x : Fault) → AtMost (Some x) x
at_most_itself x = never_itself x

pub at_most_later : (c : Option Fault) (x y : Fault) → AtMost c x → precedes y x ≡ false → AtMost c y
at_most_later (Some z) x y h p = not_before z x y h p
at_most_later None x y h p = absurd h

pub at_most_left : (c d : Option Fault) (y : Fault) → AtMost c y → AtMost (earlier c d) y
at_most_left None d y h = absurd h
at_most_left (Some f) None y h = h
at_most_left (Some f) (Some g) y h =
    elim (which f g) [
      | inl e ↦ subst (λ x. precedes y x ≡ false) (sym e.0) h
      | inr e ↦ subst (λ x. precedes y x ≡ false) (sym e.0) (not_before g f y (never_both f g e.1) h)
    ]

pub at_most_right : (c d : Option Fault) (y : Fault) → AtMost d y → AtMost (earlier c d) y
at_most_right None d y h = h
at_most_right (Some f) None y h = absurd h
at_most_right (Some f) (Some g) y h =
    elim (which f g) [
      | inl e ↦ subst (λ x. precedes y x ≡ false) (sym e.0) (not_before f g y e.1 h)
      | inr e ↦ subst (λ x. precedes y x ≡ false) (sym e.0) h
    ]

-- the earlier of two is one of them
pub one_of_two : (c d : Option Fault) (x : Fault) → earlier c d ≡ Some x → (c ≡ Some x) ⊎ (d ≡ Some x)
one_of_two None d x h = inr h
one_of_two (Some f) None x h = inl h
one_of_two (Some f) (Some g) x h =
    elim (which f g) [
      | inl e ↦ inl (ap Some (sym e.0) ∙ h)
      | inr e ↦ inr (ap Some (sym e.0) ∙ h)
    ]

pub below_left : (c d : Option Fault) (n : ℕ) → IsBelow (earlier c d) n → IsBelow c n
below_left None d n h = tt
below_left (Some f) None n h = h
below_left (Some f) (Some g) n h =
    elim (which f g) [
      | inl e ↦ subst (λ (x : Fault). n < x.number) e.0 h
      | inr e ↦
          let p : n < g.number = subst (λ (x : Fault). n < x.number) e.0 h in
          let q : g.number ≤ f.number = by_number g f (never_both f g e.1) in
          omega (arith, p, q)
    ]

pub below_right : (c d : Option Fault) (n : ℕ) → IsBelow (earlier c d) n → IsBelow d n
below_right None d n h = h
below_right (Some f) None n h = tt
below_right (Some f) (Some g) n h =
    elim (which f g) [
      | inl e ↦
          let p : n < f.number = subst (λ (x : Fault). n < x.number) e.0 h in
          let q : f.number ≤ g.number = by_number f g e.1 in
          omega (arith, p, q)
      | inr e ↦ subst (λ (x : Fault). n < x.number) e.0 h
    ]

-- ---- neither precedes

neither : (r q : Ordering) → q ≡ ordering_reverse r → is_lt r ≡ false → is_lt q ≡ false → r ≡ Equal
neither Less q h m n = absurd (cc)
neither Equal q h m n = refl
neither Greater q h m n = absurd (let e : is_lt q ≡ true = ap is_lt h in cc)

pub same_place : (x y : Fault) → precedes y x ≡ false → precedes x y ≡ false → fault_place x ≡ fault_place y
same_place x y p q = slice_cmp-IsAntisymmetric nat_cmp-IsAntisymmetric (fault_place x) (fault_place y) (neither (order x y) (order y x) (order_total.antisymm y x) q p)
