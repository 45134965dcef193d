-- The digits of a decimal and its magnitude.
use Rattle.std.proofs.Common.{◌≡◌, ◌<◌, ◌≤◌, ◌^◌, ◌*◌, ◌/◌, ◌%◌, ◌-◌, min, ℕ, suc, refl, Bool, true, false, cond, List, [], ◌∷◌, ◌++◌, ◌+◌, take, drop, length, get_or, arith, ap, ◌∙◌, sym, Some, None, length-drop, length-append, drop-cons, ◌&&◌, inl, inr, subst, add-one}
use Rattle.std.specs.Prelude.{ℤ, pos, negsuc, ◌-ℤ◌, ◌==◌, nat_le}
use Rattle.std.specs.List.{list_all}
use Rattle.std.specs.Char.{is_ascii_digit}
use Rattle.std.proofs.lemmas.Bool.{and_parts, cases_lt, cases_eq, le-leb, lt-leb, lt-ltb, le-ltb}
use Rattle.std.proofs.lemmas.Int.{ints}
use Rattle.std.proofs.lemmas.Bool.Decides.{nat_tests}
use Rattle.std.proofs.lemmas.List.{take-append-drop, take_all, drop_all, get_or_past, append-nil, take-append-le, drop-append-le}
use Rattle.std.proofs.Math.Seq.{take-append-add, drop-append-add}
use Rattle.std.proofs.lemmas.List.Folds.{list_all-append}
use Rattle.std.proofs.lemmas.Nat.{div-mul-add, mod-mul-add, mul-add-lt}
use Rattle.std.proofs.Math.Nat.{pow-le-pow_right, pow-suc, mul-le-mul_right, one-le-pow, mod-eq_of_lt, div-eq_of_lt, le-mul_of_pos_right, mul_assoc}
use Rattle.tall_int.specs.Quotients.{with_sign}
use Rattle.tall_num.specs.Spelling.{digits_onto, digits_value}
use Rattle.tall_num.specs.Values.{decimal_size, is_whole}
use Rattle.tall_num.specs.Sizes.{capped, point_of, size_before, rounds_up, is_zero_from}

none_some : {p : ℕ} → None ≡ Some p → ⊥
none_some h = cc

some_none : {p : ℕ} → Some p ≡ None → ⊥
some_none h = cc

some_inside : {a b : ℕ} → Some a ≡ Some b → a ≡ b
some_inside h = cc

-- ---- the number of digits in parts

onto_append : (n : ℕ) (xs ys : List ℕ) → digits_onto n (xs ++ ys) ≡ digits_onto (digits_onto n xs) ys
onto_append n [] ys = refl
onto_append n (x ∷ xs) ys = onto_append (n * 10 + (x - 48)) xs ys

onto_step : (n d v w power value : ℕ) → w ≡ (n * 10 + d) * power + value → v ≡ (0 * 10 + d) * power + value
    → w ≡ n * (power * 10) + v
onto_step n d v w power value e f = omega arith

onto_is : (n : ℕ) (xs : List ℕ) → digits_onto n xs ≡ n * 10 ^ length xs + digits_value xs
onto_is n [] = omega arith
onto_is n (x ∷ xs) =
    rw pow-suc (onto_step n (x - 48) (digits_value (x ∷ xs)) _ (10 ^ length xs) (digits_value xs)
    (onto_is (n * 10 + (x - 48)) xs) (onto_is (0 * 10 + (x - 48)) xs))

digit_range : (b : ℕ) → is_ascii_digit b ≡ true → (48 ≤ b) × (b ≤ 57)
digit_range b h = grind (arith, nat_tests)

digit_below : (b : ℕ) → is_ascii_digit b ≡ true → b - 48 < 10
digit_below b h = grind (arith, nat_tests)

value_below_step : (d v w power : ℕ) → d < 10 → v < power → w ≡ (0 * 10 + d) * power + v → w < power * 10
value_below_step d v w power h k e = omega (arith, mul-add-lt d power v 10 h k)

value_below : (xs : List ℕ) → list_all is_ascii_digit xs ≡ true → digits_value xs < 10 ^ length xs
value_below [] h = omega arith
value_below (x ∷ xs) h =
    let parts = and_parts (is_ascii_digit x) (list_all is_ascii_digit xs) h in
    rw pow-suc (value_below_step (x - 48) (digits_value xs) (digits_value (x ∷ xs)) (10 ^ length xs)
    (digit_below x parts.0) (value_below xs parts.1) (onto_is (0 * 10 + (x - 48)) xs))

value_append : (xs ys : List ℕ) → digits_value (xs ++ ys) ≡ digits_value xs * 10 ^ length ys + digits_value ys
value_append xs ys = onto_append 0 xs ys ∙ onto_is (digits_value xs) ys

value_split : (p : ℕ) (ds : List ℕ)
    → digits_value ds ≡ digits_value (take p ds) * 10 ^ length (drop p ds) + digits_value (drop p ds)
value_split p ds = ap digits_value (sym (take-append-drop p ds)) ∙ value_append (take p ds) (drop p ds)

all_take : (p : ℕ) (ds : List ℕ) → list_all is_ascii_digit ds ≡ true
    → (list_all is_ascii_digit (take p ds) ≡ true) × (list_all is_ascii_digit (drop p ds) ≡ true)
all_take p ds h =
    and_parts _ _ (sym (list_all-append is_ascii_digit (take p ds) (drop p ds)) ∙ ap (list_all is_ascii_digit) (take-append-drop p ds) ∙ h)

-- ---- zeros

zero_step : (b v w power : ℕ) → is_ascii_digit b ≡ true → 0 < power → w ≡ (0 * 10 + (b - 48)) * power + v
    → (w == 0) ≡ ((b == 48) && (v == 0))
zero_step b v w power digit h e = elim (cases_eq b 48) [
  | inl same ↦ (let none : b - 48 ≡ 0 = omega arith in
      let f : w ≡ v = e ∙ ap (λ d. (0 * 10 + d) * power + v) none ∙ omega arith in
      grind (arith, nat_tests))
  | inr other ↦ (let range = digit_range b digit in
      let some : 1 ≤ b - 48 = omega arith in
      let more : 1 * power ≤ (b - 48) * power = mul-le-mul_right power some in
      let f : 1 ≤ w = omega arith in
      grind (arith, nat_tests))
]

zero_value : (xs : List ℕ) → list_all is_ascii_digit xs ≡ true → (digits_value xs == 0) ≡ list_all (λ b. b == 48) xs
zero_value [] h = refl
zero_value (x ∷ xs) h =
    let parts = and_parts (is_ascii_digit x) (list_all is_ascii_digit xs) h in
    zero_step x (digits_value xs) (digits_value (x ∷ xs)) (10 ^ length xs) parts.0 (one-le-pow (length xs) 10 (omega arith))
    (onto_is (0 * 10 + (x - 48)) xs)
    ∙ ap (λ z. (x == 48) && z) (zero_value xs parts.1)

-- ---- rounding

round_down : (a d q r : ℕ) → d ≤ 4 → r < q → (2 * (a * (q * 10) + (d * q + r)) + q * 10) / (2 * (q * 10)) ≡ a
round_down a d q r h k =
    let most : d * q ≤ 4 * q = mul-le-mul_right q h in
    let rest : 2 * (d * q) + 2 * r + q * 10 < 2 * (q * 10) = omega arith in
    let e : 2 * (a * (q * 10) + (d * q + r)) + q * 10 ≡ a * (2 * (q * 10)) + (2 * (d * q) + 2 * r + q * 10) = omega arith in
    ap (λ n. n / (2 * (q * 10))) e ∙ div-mul-add a (2 * (q * 10)) _ rest

round_up : (a d q r : ℕ) → 5 ≤ d → d < 10 → r < q
    → (2 * (a * (q * 10) + (d * q + r)) + q * 10) / (2 * (q * 10)) ≡ a + 1
round_up a d q r h l k =
    let nine : d ≤ 9 = omega arith in
    let least : 5 * q ≤ d * q = mul-le-mul_right q h in
    let most : d * q ≤ 9 * q = mul-le-mul_right q nine in
    let rest : 2 * (d * q) + 2 * r - 10 * q < 2 * (q * 10) = omega arith in
    let e : 2 * (a * (q * 10) + (d * q + r)) + q * 10 ≡ (a + 1) * (2 * (q * 10)) + (2 * (d * q) + 2 * r - 10 * q) = omega arith in
    ap (λ n. n / (2 * (q * 10))) e ∙ div-mul-add (a + 1) (2 * (q * 10)) _ rest

round_digit : (a b q r : ℕ) → is_ascii_digit b ≡ true → r < q
    → (2 * (a * (q * 10) + (0 * 10 + (b - 48)) * q + r) + q * 10) / (2 * (q * 10)) ≡ a + cond (nat_le 53 b) 1 0
round_digit a b q r digit k =
    let range = digit_range b digit in
    let d = 0 * 10 + (b - 48) in
    let e : 2 * (a * (q * 10) + d * q + r) + q * 10 ≡ 2 * (a * (q * 10) + (d * q + r)) + q * 10 = omega arith in
    ap (λ n. n / (2 * (q * 10))) e
    ∙ elim (cases_lt b 53) as (λ x. (2 * (a * (q * 10) + (d * q + r)) + q * 10) / (2 * (q * 10)) ≡ a + cond (nat_le 53 b) 1 0) [
      | inl low ↦ (let small : d ≤ 4 = omega arith in round_down a d q r small k ∙ rw (lt-leb 53 b low) (omega arith))
      | inr high ↦ (let large : 5 ≤ d = omega arith in let ten : d < 10 = omega arith in
          round_up a d q r large ten k ∙ rw (le-leb 53 b high) refl)
    ]

-- the digits in front of the point, the first one after it, and those that follow
round_parts : (front : List ℕ) (b : ℕ) (tail : List ℕ) → is_ascii_digit b ≡ true → list_all is_ascii_digit tail ≡ true
    → decimal_size (digits_value (front ++ b ∷ tail)) (negsuc (length tail)) ≡ digits_value front + cond (nat_le 53 b) 1 0
round_parts front b tail digit all =
    let q = 10 ^ length tail in
    let ten : 10 ^ suc (length tail) ≡ q * 10 = pow-suc 10 (length tail) in
    let m : digits_value (front ++ b ∷ tail) ≡ digits_value front * (q * 10) + (0 * 10 + (b - 48)) * q + digits_value tail =
    value_append front (b ∷ tail)
    ∙ ap (λ t. digits_value front * t + digits_value (b ∷ tail)) ten
    ∙ ap (λ t. digits_value front * (q * 10) + t) (onto_is (0 * 10 + (b - 48)) tail)
    ∙ omega arith in
    ap (λ n. (2 * n + 10 ^ suc (length tail)) / (2 * 10 ^ suc (length tail))) m
    ∙ ap (λ t. (2 * (digits_value front * (q * 10) + (0 * 10 + (b - 48)) * q + digits_value tail) + t) / (2 * t)) ten
    ∙ round_digit (digits_value front) b q (digits_value tail) digit (value_below tail all)

whole_parts : (front back : List ℕ) (k : ℕ) → list_all is_ascii_digit back ≡ true → length back ≡ suc k
    → is_whole (digits_value (front ++ back)) (negsuc k) ≡ list_all (λ b. b == 48) back
whole_parts front back k all size =
    let power : 10 ^ length back ≡ 10 ^ suc k = ap (λ n. 10 ^ n) size in
    let below : digits_value back < 10 ^ suc k = subst (λ n. digits_value back < 10 ^ n) size (value_below back all) in
    let m : digits_value (front ++ back) ≡ digits_value front * 10 ^ suc k + digits_value back =
    value_append front back ∙ ap (λ t. digits_value front * t + digits_value back) power in
    ap (λ n. n % 10 ^ suc k == 0) m
    ∙ ap (λ n. n == 0) (mod-mul-add (digits_value front) (10 ^ suc k) (digits_value back) below)
    ∙ zero_value back all

-- a number of n digits is below half of a power of ten above n
far_below : (m n k : ℕ) → m < 10 ^ n → n ≤ k → (decimal_size m (negsuc k) ≡ 0) × (is_whole m (negsuc k) ≡ (m == 0))
far_below m n k h l =
    let q = 10 ^ k in
    let less : 10 ^ n ≤ q = pow-le-pow_right {n = 10} (omega arith) {i = n} {j = k} l in
    let ten : 10 ^ suc k ≡ q * 10 = pow-suc 10 k in
    let small : 2 * m + 10 ^ suc k < 2 * 10 ^ suc k = omega arith in
    let lower : m < 10 ^ suc k = omega arith in
    (div-eq_of_lt small, ap (λ n. n == 0) (mod-eq_of_lt lower))

-- ---- the point within the digits or past them

record Point (ds : List ℕ) (p : ℕ) (e : ℤ) : Type 0 where
  pub size : decimal_size (digits_value ds) e ≡ size_before ds p + cond (rounds_up ds p) 1 0
  pub whole : is_whole (digits_value ds) e ≡ is_zero_from ds p

point_past : (ds : List ℕ) (p k : ℕ) → p ≡ length ds + k → Point ds p (pos k)
point_past ds p k h =
    let at_least : length ds ≤ p = omega arith in
    let zeros : p - length ds ≡ k = omega arith in
    record {
      size =
          ap (λ t. digits_value ds * 10 ^ t) (sym zeros)
          ∙ ap (λ t. digits_value t * 10 ^ (p - length ds)) (sym (take_all p ds at_least))
          ∙ omega arith
          ∙ ap (λ t. size_before ds p + cond (nat_le 53 t) 1 0) (sym (get_or_past ds p 0 at_least));
      whole = sym (ap (list_all (λ b. b == 48)) (drop_all p ds at_least));
    }

point_inside : (ds : List ℕ) (p k : ℕ) → list_all is_ascii_digit ds ≡ true → length ds ≡ p + suc k → Point ds p (negsuc k)
point_inside ds p k all h =
    let within : p < length ds = omega arith in
    let parts : drop p ds ≡ get_or ds p 0 ∷ drop (suc p) ds = drop-cons ds p 0 within in
    let join : ds ≡ take p ds ++ get_or ds p 0 ∷ drop (suc p) ds =
    sym (take-append-drop p ds) ∙ ap (λ t. take p ds ++ t) parts in
    let after : list_all is_ascii_digit (get_or ds p 0 ∷ drop (suc p) ds) ≡ true =
    ap (list_all is_ascii_digit) (sym parts) ∙ (all_take p ds all).1 in
    let both = and_parts (is_ascii_digit (get_or ds p 0)) (list_all is_ascii_digit (drop (suc p) ds)) after in
    let left : length (drop (suc p) ds) ≡ k = length-drop (suc p) ds ∙ omega arith in
    let nothing : p - length ds ≡ 0 = omega arith in
    let one : size_before ds p ≡ digits_value (take p ds) = ap (λ t. digits_value (take p ds) * 10 ^ t) nothing ∙ omega arith in
    record {
      size =
          ap (λ t. decimal_size (digits_value t) (negsuc k)) join
          ∙ ap (λ t. decimal_size (digits_value (take p ds ++ get_or ds p 0 ∷ drop (suc p) ds)) (negsuc t)) (sym left)
          ∙ round_parts (take p ds) (get_or ds p 0) (drop (suc p) ds) both.0 both.1
          ∙ ap (λ t. t + cond (rounds_up ds p) 1 0) (sym one);
      whole =
          ap (λ t. is_whole (digits_value t) (negsuc k)) (sym (take-append-drop p ds))
          ∙ whole_parts (take p ds) (drop p ds) k (all_take p ds all).1 (length-drop p ds ∙ omega arith);
    }

-- ---- the exponent, read up to the limit

capped_below : (n : ℕ) → n ≤ 10 ^ 20 → capped n ≡ n
capped_below n h = omega arith

capped_above : (n : ℕ) → 10 ^ 20 ≤ n → capped n ≡ 10 ^ 20
capped_above n h = omega arith

-- twenty zeros after a number that isn't 0 reach the limit
pub capped_far : (n j k : ℕ) → 20 ≤ j → 20 ≤ k → capped (n * 10 ^ j) ≡ capped (n * 10 ^ k)
capped_far n j k h l = elim (cases_lt n 1) [
  | inl none ↦ (let zero_is : n ≡ 0 = omega arith in ap (λ m. capped (m * 10 ^ j)) zero_is ∙ omega arith ∙ ap (λ m. capped (m * 10 ^ k)) (sym zero_is))
  | inr some ↦ (
      let one : 10 ^ 20 ≤ 10 ^ j = pow-le-pow_right {n = 10} (omega arith) {i = 20} {j = j} h in
      let two : 10 ^ 20 ≤ 10 ^ k = pow-le-pow_right {n = 10} (omega arith) {i = 20} {j = k} l in
      let more : 1 * 10 ^ j ≤ n * 10 ^ j = mul-le-mul_right (10 ^ j) some in
      let most : 1 * 10 ^ k ≤ n * 10 ^ k = mul-le-mul_right (10 ^ k) some in
      omega arith)
]

-- what is said of the point that the code finds
pub record Found (negative : Bool) (v w f : ℕ) (ds : List ℕ) (p : ℕ) : Type 0 where
  pub size : capped (decimal_size (digits_value ds) (with_sign negative v -ℤ pos f)) ≡ capped (size_before ds p + cond (rounds_up ds p) 1 0)
  pub whole : is_whole (digits_value ds) (with_sign negative v -ℤ pos f) ≡ is_zero_from ds p

found_from : (negative : Bool) (v w f : ℕ) (ds : List ℕ) (p : ℕ) (e : ℤ) → with_sign negative v -ℤ pos f ≡ e → Point ds p e → Found negative v w f ds p
found_from negative v w f ds p e same point = record {
  size = ap (λ x. capped (decimal_size (digits_value ds) x)) same ∙ ap capped point.size;
  whole = ap (λ x. is_whole (digits_value ds) x) same ∙ point.whole;
}

-- the exponent is as it is written
found_at : (negative : Bool) (v w f p : ℕ) (ds : List ℕ) → list_all is_ascii_digit ds ≡ true → length ds ≡ w + f
    → with_sign negative v -ℤ pos f ≡ pos p -ℤ pos (w + f) → Found negative v w f ds p
found_at negative v w f p ds all size same = elim (cases_lt p (length ds)) [
  | inl inside ↦ (let k : length ds ≡ p + suc (length ds - suc p) = omega arith in
      let e : with_sign negative v -ℤ pos f ≡ negsuc (length ds - suc p) = same ∙ omega (arith, ints) in
      found_from negative v w f ds p (negsuc (length ds - suc p)) e (point_inside ds p (length ds - suc p) all k))
  | inr past ↦ (let k : p ≡ length ds + (p - length ds) = omega arith in
      let e : with_sign negative v -ℤ pos f ≡ pos (p - length ds) = same ∙ omega (arith, ints) in
      found_from negative v w f ds p (pos (p - length ds)) e (point_past ds p (p - length ds) k))
]

-- the point of an exponent as it is written
point_is : (negative : Bool) (v w f p : ℕ) → point_of negative v w ≡ Some p → with_sign negative v -ℤ pos f ≡ pos p -ℤ pos (w + f)
point_is true v w f p h = elim (cases_lt w v) [
  | inl less ↦ absurd (none_some (sym (ap (λ b. cond b None (Some (w - v))) (lt-ltb w v less)) ∙ h))
  | inr most ↦ (let e : w - v ≡ p = some_inside (sym (ap (λ b. cond b None (Some (w - v))) (le-ltb w v most)) ∙ h) in omega (arith, ints))
]
point_is false v w f p h = let e : w + v ≡ p = some_inside h in omega (arith, ints)

-- an exponent past the limit: the point is so far that no more zeros count
found_beyond : (v w f : ℕ) (ds : List ℕ) → length ds ≡ w + f → w + f + 20 ≤ 10 ^ 20 → 10 ^ 20 ≤ v → Found false v w f ds (w + 10 ^ 20)
found_beyond v w f ds size room far =
    let past : w + 10 ^ 20 ≡ length ds + (10 ^ 20 - f) = omega arith in
    let point = point_past ds (w + 10 ^ 20) (10 ^ 20 - f) past in
    let e : with_sign false v -ℤ pos f ≡ pos (v - f) = omega (arith, ints) in
    let left : 20 ≤ v - f = omega arith in
    let right : 20 ≤ 10 ^ 20 - f = omega arith in
    record {
      size =
          ap (λ x. capped (decimal_size (digits_value ds) x)) e
          ∙ capped_far (digits_value ds) (v - f) (10 ^ 20 - f) left right
          ∙ ap capped point.size;
      whole = ap (λ x. is_whole (digits_value ds) x) e ∙ point.whole;
    }

found_far : (negative : Bool) (v w f p : ℕ) (ds : List ℕ) → length ds ≡ w + f → w + f + 20 ≤ 10 ^ 20 → 10 ^ 20 ≤ v
    → point_of negative (10 ^ 20) w ≡ Some p → Found negative v w f ds p
found_far true v w f p ds size room far h =
    let less : w < 10 ^ 20 = omega arith in
    absurd (none_some (sym (ap (λ b. cond b None (Some (w - 10 ^ 20))) (lt-ltb w (10 ^ 20) less)) ∙ h))
found_far false v w f p ds size room far h =
    subst (λ x. Found false v w f ds x) (some_inside h) (found_beyond v w f ds size room far)

-- the point that the code finds, where it stands after the first digit's front
pub found_some : (negative : Bool) (v w f p : ℕ) (ds : List ℕ) → list_all is_ascii_digit ds ≡ true → length ds ≡ w + f
    → w + f + 20 ≤ 10 ^ 20 → point_of negative (capped v) w ≡ Some p → Found negative v w f ds p
found_some negative v w f p ds all size room h = elim (cases_lt v (10 ^ 20)) [
  | inl near ↦ (let le : v ≤ 10 ^ 20 = omega arith in
      found_at negative v w f p ds all size (point_is negative v w f p (ap (λ x. point_of negative x w) (sym (capped_below v le)) ∙ h)))
  | inr far ↦ found_far negative v w f p ds size room far (ap (λ x. point_of negative x w) (sym (capped_above v far)) ∙ h)
]

-- the number is below a tenth
pub record Small (negative : Bool) (v f : ℕ) (ds : List ℕ) : Type 0 where
  pub size : decimal_size (digits_value ds) (with_sign negative v -ℤ pos f) ≡ 0
  pub whole : is_whole (digits_value ds) (with_sign negative v -ℤ pos f) ≡ is_zero_from ds 0

small_from : (v w f : ℕ) (ds : List ℕ) → list_all is_ascii_digit ds ≡ true → length ds ≡ w + f → w < v → Small true v f ds
small_from v w f ds all size less =
    let e : with_sign true v -ℤ pos f ≡ negsuc (v + f - 1) = omega (arith, ints) in
    let k : length ds ≤ v + f - 1 = omega arith in
    let far = far_below (digits_value ds) (length ds) (v + f - 1) (value_below ds all) k in
    record {
      size = ap (λ x. decimal_size (digits_value ds) x) e ∙ far.0;
      whole = ap (λ x. is_whole (digits_value ds) x) e ∙ far.1 ∙ zero_value ds all;
    }

-- there is no point that the code finds: zeros stand between the point and the first digit
pub found_none : (negative : Bool) (v w f : ℕ) (ds : List ℕ) → list_all is_ascii_digit ds ≡ true → length ds ≡ w + f
    → point_of negative (capped v) w ≡ None → Small negative v f ds
found_none true v w f ds all size h = elim (cases_lt w (capped v)) [
  | inl less ↦ (let low : w < v = omega arith in small_from v w f ds all size low)
  | inr most ↦ absurd (some_none (sym (ap (λ b. cond b None (Some (w - capped v))) (le-ltb w (capped v) most)) ∙ h))
]
found_none false v w f ds all size h = absurd (some_none h)

-- ---- counting up to the limit

onto_from : (n : ℕ) (ds : List ℕ) → n ≤ digits_onto n ds
onto_from n ds = omega (arith, onto_is n ds, le-mul_of_pos_right n (one-le-pow (length ds) 10 (omega arith)))

-- a number that was cut to the limit gives the same
pub capped_onto : (n : ℕ) (ds : List ℕ) → capped (digits_onto (capped n) ds) ≡ capped (digits_onto n ds)
capped_onto n ds = elim (cases_lt n (10 ^ 20)) [
  | inl low ↦ (let le : n ≤ 10 ^ 20 = omega arith in ap (λ x. capped (digits_onto x ds)) (capped_below n le))
  | inr high ↦ (
      let more : capped n ≤ digits_onto (capped n) ds = onto_from (capped n) ds in
      let most : n ≤ digits_onto n ds = onto_from n ds in
      omega arith)
]

-- ten times
pub capped_ten : (n : ℕ) → capped (capped n * 10) ≡ capped (n * 10)
capped_ten n = omega arith

pub capped_zeros : (n k : ℕ) → capped (capped n * 10 ^ k) ≡ capped (n * 10 ^ k)
capped_zeros n k = elim (cases_lt n (10 ^ 20)) [
  | inl low ↦ (let le : n ≤ 10 ^ 20 = omega arith in ap (λ x. capped (x * 10 ^ k)) (capped_below n le))
  | inr high ↦ (
      let one : 1 ≤ 10 ^ k = one-le-pow k 10 (omega arith) in
      let more : capped n ≤ capped n * 10 ^ k = le-mul_of_pos_right (capped n) one in
      let most : n ≤ n * 10 ^ k = le-mul_of_pos_right n one in
      omega arith)
]

-- a turn of the loop over the digits
pub read_step : (start n d r i : ℕ) (ds : List ℕ) → i < length ds → d ≡ get_or ds i 0 - 48 → r ≡ capped (n * 10 + d)
    → capped (digits_onto n (drop i ds)) ≡ capped (digits_onto start ds)
    → (capped (digits_onto r (drop (i + 1) ds)) ≡ capped (digits_onto start ds)) × (r ≤ 10 ^ 20)
read_step start n d r i ds within digit e h =
    let after : drop i ds ≡ get_or ds i 0 ∷ drop (i + 1) ds = rw add-one (drop-cons ds i 0 within) in (
      ap (λ x. capped (digits_onto x (drop (i + 1) ds))) e
          ∙ capped_onto (n * 10 + d) (drop (i + 1) ds)
          ∙ ap (λ x. capped (digits_onto (n * 10 + x) (drop (i + 1) ds))) digit
          ∙ ap (λ x. capped (digits_onto n x)) (sym after) ∙ h,
      omega arith,
    )

-- a turn of the loop over the zeros
pub zero_step_capped : (start n r t : ℕ) → n ≡ capped (start * 10 ^ t) → r ≡ capped (n * 10) → r ≡ capped (start * 10 ^ (t + 1))
zero_step_capped start n r t h e =
    e ∙ ap (λ x. capped (x * 10)) h ∙ capped_ten (start * 10 ^ t)
    ∙ ap capped (mul_assoc start (10 ^ t) 10 ∙ ap (λ x. start * x) (sym (pow-suc 10 t)) ∙ ap (λ x. start * 10 ^ x) (sym (add-one t)))

pub zeros_end : (start zeros : ℕ) → capped (start * 10 ^ min zeros 20) ≡ capped (start * 10 ^ zeros)
zeros_end start zeros = elim (cases_lt zeros 20) [
  | inl few ↦ (let e : min zeros 20 ≡ zeros = omega arith in ap (λ x. capped (start * 10 ^ x)) e)
  | inr many ↦ (let e : min zeros 20 ≡ 20 = omega arith in
      ap (λ x. capped (start * 10 ^ x)) e ∙ capped_far start 20 zeros (omega arith) many)
]

-- ---- parts of the digits before and after the point

pub take_within : (p : ℕ) (ds : List ℕ) → take (min p (length ds)) ds ≡ take p ds
take_within p ds = elim (cases_lt p (length ds)) [
  | inl inside ↦ (let e : min p (length ds) ≡ p = omega arith in ap (λ n. take n ds) e)
  | inr past ↦ (let e : min p (length ds) ≡ length ds = omega arith in
      ap (λ n. take n ds) e ∙ take_all (length ds) ds (omega arith) ∙ sym (take_all p ds past))
]

pub drop_within : (p : ℕ) (ds : List ℕ) → drop (min p (length ds)) ds ≡ drop p ds
drop_within p ds = elim (cases_lt p (length ds)) [
  | inl inside ↦ (let e : min p (length ds) ≡ p = omega arith in ap (λ n. drop n ds) e)
  | inr past ↦ (let e : min p (length ds) ≡ length ds = omega arith in
      ap (λ n. drop n ds) e ∙ drop_all (length ds) ds (omega arith) ∙ sym (drop_all p ds past))
]

pub all_take_left : (p : ℕ) (ds : List ℕ) → list_all is_ascii_digit ds ≡ true → list_all is_ascii_digit (take p ds) ≡ true
all_take_left p ds h = (all_take p ds h).0

take_append : (p : ℕ) (xs ys : List ℕ) → take p (xs ++ ys) ≡ take p xs ++ take (p - length xs) ys
take_append p xs ys = elim (cases_lt p (length xs)) [
  | inl inside ↦ (
      let le : p ≤ length xs = omega arith in
      let none : p - length xs ≡ 0 = omega arith in
      take-append-le p xs ys le ∙ sym (ap (λ n. take p xs ++ take n ys) none ∙ append-nil (take p xs)))
  | inr past ↦ (
      let e : p ≡ length xs + (p - length xs) = omega arith in
      ap (λ n. take n (xs ++ ys)) e ∙ take-append-add xs ys (p - length xs)
      ∙ ap (λ t. t ++ take (p - length xs) ys) (sym (take_all p xs past)))
]

drop_append : (p : ℕ) (xs ys : List ℕ) → drop p (xs ++ ys) ≡ drop p xs ++ drop (p - length xs) ys
drop_append p xs ys = elim (cases_lt p (length xs)) [
  | inl inside ↦ (
      let le : p ≤ length xs = omega arith in
      let none : p - length xs ≡ 0 = omega arith in
      drop-append-le p xs ys le ∙ sym (ap (λ n. drop p xs ++ drop n ys) none))
  | inr past ↦ (
      let e : p ≡ length xs + (p - length xs) = omega arith in
      ap (λ n. drop n (xs ++ ys)) e ∙ drop-append-add xs ys (p - length xs)
      ∙ ap (λ t. t ++ drop (p - length xs) ys) (sym (drop_all p xs past)))
]

pub size_join : (whole fraction : List ℕ) (p front number : ℕ) → front ≡ capped (digits_onto 0 (take p whole))
    → number ≡ capped (digits_onto front (take (p - length whole) fraction))
    → capped (number * 10 ^ (p - (length whole + length fraction))) ≡ capped (size_before (whole ++ fraction) p)
size_join whole fraction p front number f n =
    let taken : digits_value (take p (whole ++ fraction)) ≡ digits_onto (digits_onto 0 (take p whole)) (take (p - length whole) fraction) =
    ap digits_value (take_append p whole fraction) ∙ onto_append 0 (take p whole) (take (p - length whole) fraction) in
    let read : number ≡ capped (digits_value (take p (whole ++ fraction))) =
    n ∙ ap (λ x. capped (digits_onto x (take (p - length whole) fraction))) f
    ∙ capped_onto (digits_onto 0 (take p whole)) (take (p - length whole) fraction) ∙ ap capped (sym taken) in
    ap (λ x. capped (x * 10 ^ (p - (length whole + length fraction)))) read
    ∙ capped_zeros (digits_value (take p (whole ++ fraction))) (p - (length whole + length fraction))
    ∙ ap (λ x. capped (digits_value (take p (whole ++ fraction)) * 10 ^ (p - x))) (sym (length-append whole fraction))

pub zero_join : (whole fraction : List ℕ) (p : ℕ)
    → is_zero_from (whole ++ fraction) p ≡ (list_all (λ b. b == 48) (drop p whole) && list_all (λ b. b == 48) (drop (p - length whole) fraction))
zero_join whole fraction p =
    ap (list_all (λ b. b == 48)) (drop_append p whole fraction) ∙ list_all-append (λ b. b == 48) (drop p whole) (drop (p - length whole) fraction)

pub zero_rest : (whole fraction : List ℕ) (p : ℕ) (r : Bool) → true ≡ list_all (λ b. b == 48) (drop p whole)
    → r ≡ list_all (λ b. b == 48) (drop (p - length whole) fraction) → r ≡ is_zero_from (whole ++ fraction) p
zero_rest whole fraction p r h e =
    e ∙ ap (λ b. b && list_all (λ b. b == 48) (drop (p - length whole) fraction)) h ∙ sym (zero_join whole fraction p)
