-- The numbers of cells, and the cells of numbers.
use Rattle.std.specs.Prelude.{◌≡◌, refl, ℤ, ℕ, pos, negsuc, ◌≤◌, ◌^◌, ◌≤ℤ◌, ◌<ℤ◌, Bool, true, false, if◌then◌else◌, nat_le, unsigned_abs, Option, None, Some, Result, Ok, Err}
use Rattle.std.proofs.Common.{ap, sym, ◌∙◌, arith}
use Rattle.std.proofs.lemmas.Int.{ints, clamps}
use Rattle.std.proofs.lemmas.Bool.{le-leb}
use Rattle.std.proofs.lemmas.Bool.Decides.{Decides-int_eq}
use Rattle.std.specs.declared.cmp.Ordering.{Ordering}
use Rattle.std.specs.declared.cmp.Ordering.TheVariants.{Less, Equal, Greater}
use Rattle.std.specs.Ordering.{is_eq, int_cmp, int_eq}
use Rattle.std.specs.Cmp.{int_cmp_total, int_ranked, tied_itself}
use Rattle.tall_int.specs.Doubles.{exact}
use Rattle.tall_int.specs.Numbers.{nearest}
use Rattle.tall_int.specs.declared.faults.WholeFault.{WholeFault}
use Rattle.tall_int.specs.declared.faults.WholeFault.TheVariants.{Inexact}
use Rattle.tall_value.specs.declared.class.IntKind.{IntKind}
use Rattle.tall_value.specs.declared.class.Kind.{Kind}
use Rattle.tall_value.specs.declared.class.Kind.TheVariants.{Integer, Logical, Double, Text}
use Rattle.tall_value.specs.Cells.{Seen, whole, logical, double, text, bit, seen_kind}
use Rattle.tall_value.specs.Classes.{least, greatest}
use Rattle.tall_value.specs.Groups.{is_of_group}
use Rattle.tall_group.specs.Numbers.{is_not_zero, number_of, number_or_nan, key_cell, double_of}
use Rattle.tall_group.specs.States.{IsWithin, low_of, high_of, number_of_kind, best_cell}
use Rattle.tall_group.specs.Tables.{IsNumeric}
use Rattle.tall_group.specs.declared.numbers.Number.{Number}
use Rattle.tall_group.specs.declared.numbers.Number.TheVariants.{Whole, Nan}

nearest_inside : (l h n : ℤ) → l ≤ℤ n → n ≤ℤ h → nearest l h n ≡ n
nearest_inside l h n p q = omega (arith, ints, clamps)

pub near : (k : IntKind) (l h n : ℤ) → l ≤ℤ n → n ≤ℤ h → whole k (nearest l h n) ≡ whole k n
near k l h n p q = ap (whole k) (nearest_inside l h n p q)

pub bit_back : (b : Bool) → logical (is_not_zero (bit b)) ≡ logical b
bit_back true = refl
bit_back false = refl

-- equal numbers are those of one group
abbrev pub number_eq : Number → Number → Bool
number_eq (Whole a) (Whole b) = int_eq a b
number_eq (Whole a) Nan = false
number_eq Nan (Whole b) = false
number_eq Nan Nan = true

both_ways : (a b : Bool) → (a ≡ true → b ≡ true) → (b ≡ true → a ≡ true) → a ≡ b
both_ways true b p q = sym (p refl)
both_ways false true p q = absurd (let e = q refl in cc)
both_ways false false p q = refl

eq_is : (r : Ordering) → is_eq r ≡ true → r ≡ Equal
eq_is Less h = absurd cc
eq_is Equal h = refl
eq_is Greater h = absurd cc

pub ints_equal : (a b : ℤ) → is_eq (int_cmp a b) ≡ int_eq a b
ints_equal a b =
    both_ways (is_eq (int_cmp a b)) (int_eq a b)
    (λ h. (Decides-int_eq a b).1 (int_ranked a b Equal (sym (eq_is (int_cmp a b) h))))
    (λ h. ap (λ n. is_eq (int_cmp a n)) (sym ((Decides-int_eq a b).0 h)) ∙ ap is_eq (tied_itself int_cmp_total a))

bools_equal : (a b : Bool) → is_of_group (logical a) (logical b) ≡ int_eq (bit a) (bit b)
bools_equal true true = refl
bools_equal true false = refl
bools_equal false true = refl
bools_equal false false = refl

doubles_equal : (a b : Option ℤ) → is_of_group (double a) (double b) ≡ number_eq (number_of (double a)) (number_of (double b))
doubles_equal (Some a) (Some b) = ints_equal a b
doubles_equal (Some a) None = refl
doubles_equal None (Some b) = refl
doubles_equal None None = refl

-- the cells of one kind are of one group where their numbers are equal
pub numbers_equal : (k : Kind) → IsNumeric k → (c d : Seen) → seen_kind c ≡ k → seen_kind d ≡ k → is_of_group c d ≡ number_eq (number_of c) (number_of d)
numbers_equal (Integer k) n (whole i a) (whole j b) p q = ints_equal a b
numbers_equal Logical n (logical a) (logical b) p q = bools_equal a b
numbers_equal Double n (double a) (double b) p q = doubles_equal a b
numbers_equal Text n c d p q = absurd n
numbers_equal k n c d p q = absurd cc

-- a key's cell is of the kind
pub key_kind : (k : Kind) (n : Number) → seen_kind (key_cell k n) ≡ k
key_kind (Integer i) n = refl
key_kind Logical n = refl
key_kind Double n = double_kind n
  where
    of_exact : (r : Result (Option ℤ) WholeFault) → seen_kind (elim r [ Ok d ↦ double d | Err e ↦ double None ]) ≡ Double
    of_exact (Ok d) = refl
    of_exact (Err e) = refl

    double_kind : (n : Number) → seen_kind (double_of n) ≡ Double
    double_kind (Whole n) = of_exact (exact n)
    double_kind Nan = refl
key_kind Text n = refl

-- the same of cells that stand for numbers
pub cells_equal : (k : Kind) → IsNumeric k → (n m : Number) → number_of (key_cell k n) ≡ n → number_of (key_cell k m) ≡ m → is_of_group (key_cell k n) (key_cell k m) ≡ number_eq n m
cells_equal k h n m p q =
    numbers_equal k h (key_cell k n) (key_cell k m) (key_kind k n) (key_kind k m)
    ∙ (ap (λ x. number_eq x (number_of (key_cell k m))) p ∙ ap (number_eq n) q)

in_range : (n : ℤ) → unsigned_abs n ≤ 2 ^ 53 → double_of (Whole n) ≡ double (Some n)
in_range n h =
    let t : nat_le (unsigned_abs n) (2 ^ 53) ≡ true = le-leb (unsigned_abs n) (2 ^ 53) h in
    ap (λ (b : Bool). elim (if b then Ok (Some n) else Err Inexact) [ Ok d ↦ double d | Err e ↦ double None ]) t

abs_within : (n : ℤ) → negsuc 9007199254740991 ≤ℤ n → n ≤ℤ pos 9007199254740992 → unsigned_abs n ≤ 2 ^ 53
abs_within (pos n) p q = omega (arith, ints, q)
abs_within (negsuc n) p q = omega (arith, ints, p)

-- a number of the kind is the number of its cell
pub number_is : (a : Kind) (n : ℤ) → low_of a ≤ℤ n → n ≤ℤ high_of a → key_cell a (Whole n) ≡ number_of_kind a n
number_is (Integer k) n p q = near k (least k) (greatest k) n p q
number_is Logical n p q = refl
number_is Double n p q = in_range n (abs_within n p q)
number_is Text n p q = refl

pub best_is : (a : Kind) (d : Option ℤ) (c : Seen) → c ≡ key_cell a (number_or_nan d) → IsWithin (low_of a) (high_of a) d → c ≡ best_cell a d
best_is a (Some n) c e w = e ∙ number_is a n w.0 w.1
best_is a None c e w = e
