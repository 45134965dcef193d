-- The bit operators of 128-bit values are those of unbounded whole numbers, and the numbers of a class stay in it.
use Rattle.std.proofs.Common.{◌≡◌, ℕ, suc, ◌+◌, ◌-◌, ◌^◌, ◌<◌, ◌%◌, min, max, ℤ, pos, negsuc, refl, ap, sym, ◌∙◌, subst, arith}
use Rattle.std.proofs.lemmas.Nat.Bits.{bit_at_and, bit_at_or, bit_at_xor, bit_at_not, bit_at-lt, same_from_bits_below}
use Rattle.std.proofs.lemmas.Nat.{and_le_l, or_lt, xor_lt, pow_pos}
use Rattle.std.proofs.lemmas.Int.{ints, to_z-of_z, to_z_pos}
use Rattle.std.specs.Prelude.{bit_and, bit_or, bit_xor}
use Rattle.std.specs.Int.{bit_at, bit_not, int_bit_and, int_bit_or, int_bit_xor, cast_signed}
use mir.Val.{SFits}
use mir.Syntax.{w128}
use Rattle.tall_int.specs.Numbers.{nearest, IsTwosRange, signed, unsigned}
use Rattle.tall_int.proofs.Ranges.{IsIn, nearest_in}
use Rattle.tall_int.specs.Twos.{bit_of, without, twos_and, twos_or, twos_xor}

-- ---- bit by bit

without_bit : (a b i : ℕ) → bit_at (without a b) i ≡ min (bit_at a i) (1 - bit_at b i)
without_bit a b i =
    omega (arith, bit_at_xor a (bit_and a b) i, bit_at_and a b i, bit_at-lt a i, bit_at-lt b i)

pub and_bits : (a b : ℤ) (i : ℕ) → bit_of (twos_and a b) i ≡ min (bit_of a i) (bit_of b i)
and_bits (pos a) (pos b) i = bit_at_and a b i
and_bits (pos a) (negsuc b) i = without_bit a b i
and_bits (negsuc a) (pos b) i = omega (arith, without_bit b a i)
and_bits (negsuc a) (negsuc b) i = omega (arith, bit_at_or a b i, bit_at-lt a i, bit_at-lt b i)

pub or_bits : (a b : ℤ) (i : ℕ) → bit_of (twos_or a b) i ≡ max (bit_of a i) (bit_of b i)
or_bits (pos a) (pos b) i = bit_at_or a b i
or_bits (pos a) (negsuc b) i = omega (arith, without_bit b a i, bit_at-lt a i, bit_at-lt b i)
or_bits (negsuc a) (pos b) i = omega (arith, without_bit a b i, bit_at-lt a i, bit_at-lt b i)
or_bits (negsuc a) (negsuc b) i = omega (arith, bit_at_and a b i, bit_at-lt a i, bit_at-lt b i)

pub xor_bits : (a b : ℤ) (i : ℕ) → bit_of (twos_xor a b) i ≡ (bit_of a i + bit_of b i) % 2
xor_bits (pos a) (pos b) i = bit_at_xor a b i
xor_bits (pos a) (negsuc b) i = omega (arith, bit_at_xor a b i, bit_at-lt a i, bit_at-lt b i)
xor_bits (negsuc a) (pos b) i = omega (arith, bit_at_xor a b i, bit_at-lt a i, bit_at-lt b i)
xor_bits (negsuc a) (negsuc b) i = omega (arith, bit_at_xor a b i, bit_at-lt a i, bit_at-lt b i)

-- ---- numbers below a power of 2

without_lt : (k a b : ℕ) → a < 2 ^ k → without a b < 2 ^ k
without_lt k a b h = xor_lt k a (bit_and a b) h (omega (arith, and_le_l a b))

and_lt : (k a b : ℕ) → a < 2 ^ k → bit_and a b < 2 ^ k
and_lt k a b h = omega (arith, and_le_l a b)

-- ---- the bits of 128-bit values

-- two numbers of 128 bits are equal where their bits are
same_bits : (a b : ℕ) → a < 2 ^ 128 → b < 2 ^ 128 → ((i : ℕ) → i < 128 → bit_at a i ≡ bit_at b i) → a ≡ b
same_bits a b p q h = same_from_bits_below 128 a b p q h

-- the bits of -(n + 1)
turned : ℕ → ℕ
turned n = 2 ^ 128 - suc n

turned_lt : (n : ℕ) → turned n < 2 ^ 128
unfolding turned
turned_lt n = omega arith

wider : (n : ℕ) → n < 2 ^ 127 → n < 2 ^ 128
wider n h = omega arith

turned_bit : (n i : ℕ) → n < 2 ^ 127 → i < 128 → bit_at (turned n) i ≡ 1 - bit_at n i
unfolding turned
turned_bit n i h k =
    let same : 2 ^ 128 - suc n ≡ bit_not w128 n = omega arith in
    ap (λ (m : ℕ). bit_at m i) same ∙ bit_at_not w128 n i (wider n h) k

and_pos_neg : (a b : ℕ) → a < 2 ^ 127 → b < 2 ^ 127 → bit_and a (turned b) ≡ without a b
and_pos_neg a b p q =
    same_bits _ _ (and_lt 128 a (turned b) (wider a p)) (without_lt 128 a b (wider a p))
    (λ i h. omega (arith, bit_at_and a (turned b) i, without_bit a b i, turned_bit b i q h))

and_neg_pos : (a b : ℕ) → a < 2 ^ 127 → b < 2 ^ 127 → bit_and (turned a) b ≡ without b a
and_neg_pos a b p q =
    same_bits _ _ (and_lt 128 (turned a) b (turned_lt a)) (without_lt 128 b a (wider b q))
    (λ i h. omega (arith, bit_at_and (turned a) b i, without_bit b a i, turned_bit a i p h))

and_neg_neg : (a b : ℕ) → a < 2 ^ 127 → b < 2 ^ 127 → bit_and (turned a) (turned b) ≡ turned (bit_or a b)
and_neg_neg a b p q =
    same_bits _ _ (and_lt 128 (turned a) (turned b) (turned_lt a)) (turned_lt (bit_or a b))
    (λ i h. omega (arith, bit_at_and (turned a) (turned b) i, bit_at_or a b i, turned_bit a i p h, turned_bit b i q h, turned_bit (bit_or a b) i (or_lt 127 a b p q) h, bit_at-lt a i, bit_at-lt b i))

or_pos_neg : (a b : ℕ) → a < 2 ^ 127 → b < 2 ^ 127 → bit_or a (turned b) ≡ turned (without b a)
or_pos_neg a b p q =
    same_bits _ _ (or_lt 128 a (turned b) (wider a p) (turned_lt b)) (turned_lt (without b a))
    (λ i h. omega (arith, bit_at_or a (turned b) i, without_bit b a i, turned_bit b i q h, turned_bit (without b a) i (without_lt 127 b a q) h, bit_at-lt a i, bit_at-lt b i))

or_neg_pos : (a b : ℕ) → a < 2 ^ 127 → b < 2 ^ 127 → bit_or (turned a) b ≡ turned (without a b)
or_neg_pos a b p q =
    same_bits _ _ (or_lt 128 (turned a) b (turned_lt a) (wider b q)) (turned_lt (without a b))
    (λ i h. omega (arith, bit_at_or (turned a) b i, without_bit a b i, turned_bit a i p h, turned_bit (without a b) i (without_lt 127 a b p) h, bit_at-lt a i, bit_at-lt b i))

or_neg_neg : (a b : ℕ) → a < 2 ^ 127 → b < 2 ^ 127 → bit_or (turned a) (turned b) ≡ turned (bit_and a b)
or_neg_neg a b p q =
    same_bits _ _ (or_lt 128 (turned a) (turned b) (turned_lt a) (turned_lt b)) (turned_lt (bit_and a b))
    (λ i h. omega (arith, bit_at_or (turned a) (turned b) i, bit_at_and a b i, turned_bit a i p h, turned_bit b i q h, turned_bit (bit_and a b) i (and_lt 127 a b p) h, bit_at-lt a i, bit_at-lt b i))

xor_pos_neg : (a b : ℕ) → a < 2 ^ 127 → b < 2 ^ 127 → bit_xor a (turned b) ≡ turned (bit_xor a b)
xor_pos_neg a b p q =
    same_bits _ _ (xor_lt 128 a (turned b) (wider a p) (turned_lt b)) (turned_lt (bit_xor a b))
    (λ i h. omega (arith, bit_at_xor a (turned b) i, bit_at_xor a b i, turned_bit b i q h, turned_bit (bit_xor a b) i (xor_lt 127 a b p q) h, bit_at-lt a i, bit_at-lt b i))

xor_neg_pos : (a b : ℕ) → a < 2 ^ 127 → b < 2 ^ 127 → bit_xor (turned a) b ≡ turned (bit_xor a b)
xor_neg_pos a b p q =
    same_bits _ _ (xor_lt 128 (turned a) b (turned_lt a) (wider b q)) (turned_lt (bit_xor a b))
    (λ i h. omega (arith, bit_at_xor (turned a) b i, bit_at_xor a b i, turned_bit a i p h, turned_bit (bit_xor a b) i (xor_lt 127 a b p q) h, bit_at-lt a i, bit_at-lt b i))

xor_neg_neg : (a b : ℕ) → a < 2 ^ 127 → b < 2 ^ 127 → bit_xor (turned a) (turned b) ≡ bit_xor a b
xor_neg_neg a b p q =
    same_bits _ _ (xor_lt 128 (turned a) (turned b) (turned_lt a) (turned_lt b)) (xor_lt 128 a b (wider a p) (wider b q))
    (λ i h. omega (arith, bit_at_xor (turned a) (turned b) i, bit_at_xor a b i, turned_bit a i p h, turned_bit b i q h, bit_at-lt a i, bit_at-lt b i))

-- a number below 2^127, and the bits of -(n + 1), are read back
read_pos : (n m : ℕ) → n < 2 ^ 127 → m ≡ n → cast_signed w128 m ≡ pos n
read_pos n m h e = ap (cast_signed w128) e ∙ to_z_pos w128 n h

read_neg : (n m : ℕ) → n < 2 ^ 127 → m ≡ turned n → cast_signed w128 m ≡ negsuc n
unfolding turned
read_neg n m h e =
    let f : SFits w128 (negsuc n) = record { sfits = h } in
    ap (cast_signed w128) e ∙ to_z-of_z w128 (negsuc n) f

pub and_wide : (a b : ℤ) → SFits w128 a → SFits w128 b → int_bit_and w128 a b ≡ twos_and a b
unfolding turned
and_wide (pos a) (pos b) f g = read_pos (bit_and a b) _ (and_lt 127 a b f.sfits) refl
and_wide (pos a) (negsuc b) f g = read_pos (without a b) _ (without_lt 127 a b f.sfits) (and_pos_neg a b f.sfits g.sfits)
and_wide (negsuc a) (pos b) f g = read_pos (without b a) _ (without_lt 127 b a g.sfits) (and_neg_pos a b f.sfits g.sfits)
and_wide (negsuc a) (negsuc b) f g = read_neg (bit_or a b) _ (or_lt 127 a b f.sfits g.sfits) (and_neg_neg a b f.sfits g.sfits)

pub or_wide : (a b : ℤ) → SFits w128 a → SFits w128 b → int_bit_or w128 a b ≡ twos_or a b
unfolding turned
or_wide (pos a) (pos b) f g = read_pos (bit_or a b) _ (or_lt 127 a b f.sfits g.sfits) refl
or_wide (pos a) (negsuc b) f g = read_neg (without b a) _ (without_lt 127 b a g.sfits) (or_pos_neg a b f.sfits g.sfits)
or_wide (negsuc a) (pos b) f g = read_neg (without a b) _ (without_lt 127 a b f.sfits) (or_neg_pos a b f.sfits g.sfits)
or_wide (negsuc a) (negsuc b) f g = read_neg (bit_and a b) _ (and_lt 127 a b f.sfits) (or_neg_neg a b f.sfits g.sfits)

pub xor_wide : (a b : ℤ) → SFits w128 a → SFits w128 b → int_bit_xor w128 a b ≡ twos_xor a b
unfolding turned
xor_wide (pos a) (pos b) f g = read_pos (bit_xor a b) _ (xor_lt 127 a b f.sfits g.sfits) refl
xor_wide (pos a) (negsuc b) f g = read_neg (bit_xor a b) _ (xor_lt 127 a b f.sfits g.sfits) (xor_pos_neg a b f.sfits g.sfits)
xor_wide (negsuc a) (pos b) f g = read_neg (bit_xor a b) _ (xor_lt 127 a b f.sfits g.sfits) (xor_neg_pos a b f.sfits g.sfits)
xor_wide (negsuc a) (negsuc b) f g = read_pos (bit_xor a b) _ (xor_lt 127 a b f.sfits g.sfits) (xor_neg_neg a b f.sfits g.sfits)

-- ---- the numbers of a class stay in it

-- the numbers whose magnitude has k bits
Narrow : ℕ → ℤ → Type 0
Narrow k (pos n) = n < 2 ^ k
Narrow k (negsuc n) = n < 2 ^ k

narrow_of : (k : ℕ) (n : ℤ) → IsIn (negsuc (2 ^ k - 1)) (pos (2 ^ k - 1)) n → Narrow k n
unfolding Narrow
narrow_of k (pos n) h = omega (arith, ints, h.below, pow_pos k)
narrow_of k (negsuc n) h = omega (arith, ints, h.above, pow_pos k)

in_signed : (k : ℕ) (n : ℤ) → Narrow k n → IsIn (negsuc (2 ^ k - 1)) (pos (2 ^ k - 1)) n
unfolding Narrow
in_signed k (pos n) h = record { above = omega (arith, ints); below = omega (arith, ints, pow_pos k) }
in_signed k (negsuc n) h = record { above = omega (arith, ints, pow_pos k); below = omega (arith, ints) }

-- an operator that keeps magnitudes of k bits, and numbers from 0 on, stays in each class
record Keeps (op : ℤ → ℤ → ℤ) : Type 0 where
  bits : (k : ℕ) (a b : ℤ) → Narrow k a → Narrow k b → Narrow k (op a b)
  sign : (k m n : ℕ) → m < 2 ^ k → n < 2 ^ k → (r : ℕ) × (op (pos m) (pos n) ≡ pos r) × (r < 2 ^ k)

unsigned_in : (k : ℕ) (n : ℤ) → IsIn (pos 0) (pos (2 ^ k - 1)) n → (m : ℕ) × (n ≡ pos m) × (m < 2 ^ k)
unsigned_in k (pos n) h = (n, refl, omega (arith, ints, h.below, pow_pos k))
unsigned_in k (negsuc n) h = absurd (omega (arith, ints, h.above))

stays : (op : ℤ → ℤ → ℤ) → Keeps op → (low high : ℤ) → IsTwosRange low high → (a b : ℤ) → IsIn low high a → IsIn low high b → IsIn low high (op a b)
stays op keeps _ _ (signed k) a b p q = in_signed k (op a b) (keeps.bits k a b (narrow_of k a p) (narrow_of k b q))
stays op keeps _ _ (unsigned k) a b p q =
    let x = unsigned_in k a p in
    let y = unsigned_in k b q in
    let z = keeps.sign k x.0 y.0 x.2 y.2 in
    let same : op a b ≡ pos z.0 = ap (λ (n : ℤ). op n b) x.1 ∙ ap (op (pos x.0)) y.1 ∙ z.1 in
    subst (IsIn (pos 0) (pos (2 ^ k - 1))) (sym same) (record { above = omega (arith, ints); below = omega (arith, ints, z.2) })

and_bits_of : (k : ℕ) (a b : ℤ) → Narrow k a → Narrow k b → Narrow k (twos_and a b)
unfolding Narrow
and_bits_of k (pos a) (pos b) p q = and_lt k a b p
and_bits_of k (pos a) (negsuc b) p q = without_lt k a b p
and_bits_of k (negsuc a) (pos b) p q = without_lt k b a q
and_bits_of k (negsuc a) (negsuc b) p q = or_lt k a b p q

or_bits_of : (k : ℕ) (a b : ℤ) → Narrow k a → Narrow k b → Narrow k (twos_or a b)
unfolding Narrow
or_bits_of k (pos a) (pos b) p q = or_lt k a b p q
or_bits_of k (pos a) (negsuc b) p q = without_lt k b a q
or_bits_of k (negsuc a) (pos b) p q = without_lt k a b p
or_bits_of k (negsuc a) (negsuc b) p q = and_lt k a b p

xor_bits_of : (k : ℕ) (a b : ℤ) → Narrow k a → Narrow k b → Narrow k (twos_xor a b)
unfolding Narrow
xor_bits_of k (pos a) (pos b) p q = xor_lt k a b p q
xor_bits_of k (pos a) (negsuc b) p q = xor_lt k a b p q
xor_bits_of k (negsuc a) (pos b) p q = xor_lt k a b p q
xor_bits_of k (negsuc a) (negsuc b) p q = xor_lt k a b p q

-- ---- what the code clamps is in the class already

pub and_clamped : (low high a b : ℤ) → IsTwosRange low high → IsIn low high a → IsIn low high b → SFits w128 a → SFits w128 b
    → nearest low high (int_bit_and w128 a b) ≡ twos_and a b
and_clamped low high a b h p q f g =
    let keeps : Keeps twos_and = record { bits = and_bits_of; sign = λ k m n u v. (bit_and m n, refl, and_lt k m n u) } in
    ap (nearest low high) (and_wide a b f g) ∙ nearest_in low high _ (stays twos_and keeps low high h a b p q)

pub or_clamped : (low high a b : ℤ) → IsTwosRange low high → IsIn low high a → IsIn low high b → SFits w128 a → SFits w128 b
    → nearest low high (int_bit_or w128 a b) ≡ twos_or a b
or_clamped low high a b h p q f g =
    let keeps : Keeps twos_or = record { bits = or_bits_of; sign = λ k m n u v. (bit_or m n, refl, or_lt k m n u v) } in
    ap (nearest low high) (or_wide a b f g) ∙ nearest_in low high _ (stays twos_or keeps low high h a b p q)

pub xor_clamped : (low high a b : ℤ) → IsTwosRange low high → IsIn low high a → IsIn low high b → SFits w128 a → SFits w128 b
    → nearest low high (int_bit_xor w128 a b) ≡ twos_xor a b
xor_clamped low high a b h p q f g =
    let keeps : Keeps twos_xor = record { bits = xor_bits_of; sign = λ k m n u v. (bit_xor m n, refl, xor_lt k m n u v) } in
    ap (nearest low high) (xor_wide a b f g) ∙ nearest_in low high _ (stays twos_xor keeps low high h a b p q)
