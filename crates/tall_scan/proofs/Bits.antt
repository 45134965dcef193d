-- Bits of words, and the scan of 64 bytes by them.
use Rattle.std.proofs.Common.{◌≡◌, ◌<◌, ◌+◌, ◌-◌, ◌*◌, ◌/◌, ◌%◌, ◌^◌, ◌∙◌, ℕ, zero, suc, min, max, List, [], ◌∷◌, get_or, length, Bool, true, false, refl, sym, ap, ap₂, arith}
use Rattle.std.specs.Prelude.{◌==◌, ◌||◌, ◌&&◌, not, count_ones}
use Rattle.std.specs.Int.{bit_at}
use Rattle.std.specs.Int.RustNames.{bit_or, bit_xor}
use Rattle.std.proofs.lemmas.Bool.{eqb-true}
use lib.Bits.{bit_and}
use lib.Count.{ones, ones_step}
use Rattle.std.proofs.lemmas.Nat.Bits.{bit_at-lt, bit_at-suc, bit_at-zero, bit_at_and, bit_at_cat_low, bit_at_lowest, bit_at_or, bit_at_xor}
use Rattle.tall_scan.specs.declared.state.ScanState.{ScanState}
use Rattle.tall_scan.specs.declared.state.ScanState.TheVariants as s
use Rattle.tall_scan.specs.Scanning.{ends_record, is_line_end, is_plain, move, scan_after, scan_ended, scan_step}
use Rattle.tall_scan.specs.Words.{IsToldBy, before, one_if, total}

-- Single bits.

pub bit_at-mod : (n i : ℕ) → i < 64 → bit_at (n % 2 ^ 64) i ≡ bit_at n i
bit_at-mod n i h =
    let parts : n / 2 ^ 64 * 2 ^ 64 + n % 2 ^ 64 ≡ n = omega arith in
    sym (bit_at_cat_low (n / 2 ^ 64) 64 (n % 2 ^ 64) i h) ∙ ap (λ m. bit_at m i) parts

pub bit_at-one_if : (a b : Bool) → max (one_if a) (one_if b) ≡ one_if (a || b)
bit_at-one_if true true = refl
bit_at-one_if true false = refl
bit_at-one_if false true = refl
bit_at-one_if false false = refl

-- a word one place on, with a carry in front
pub shifted : (word carry k : ℕ) → carry < 2 → k < 64 → bit_at (bit_or (word * 2 % 2 ^ 64) carry) k ≡ before carry (λ j. bit_at word j) k
shifted word carry zero c h =
    let low : word * 2 % 2 ≡ 0 = omega arith in
    let first : bit_at (word * 2 % 2 ^ 64) 0 ≡ 0 = bit_at-mod (word * 2) 0 h ∙ bit_at_lowest (word * 2) ∙ low in
    let kept : bit_at carry 0 ≡ carry = bit_at_lowest carry ∙ omega arith in
    bit_at_or (word * 2 % 2 ^ 64) carry 0 ∙ rw (first, kept) (omega arith)
shifted word carry (suc k) c h =
    let half : word * 2 / 2 ≡ word = omega arith in
    let none : carry / 2 ≡ 0 = omega arith in
    let moved : bit_at (word * 2 % 2 ^ 64) (suc k) ≡ bit_at word k = bit_at-mod (word * 2) (suc k) h ∙ bit_at-suc (word * 2) k ∙ ap (λ m. bit_at m k) half in
    let gone : bit_at carry (suc k) ≡ 0 = bit_at-suc carry k ∙ ap (λ m. bit_at m k) none ∙ bit_at-zero k in
    bit_at_or (word * 2 % 2 ^ 64) carry (suc k) ∙ rw (moved, gone) (omega arith)

-- the number of ones

total-same : (n : ℕ) (f g : ℕ → ℕ) → ((k : ℕ) → f k ≡ g k) → total n f ≡ total n g
total-same zero f g h = refl
total-same (suc n) f g h = ap₂ (λ x y. x + y) (h 0) (total-same n (λ k. f (suc k)) (λ k. g (suc k)) (λ k. h (suc k)))

ones-zero : (n : ℕ) → total n (λ k. bit_at 0 k) ≡ 0
ones-zero zero = refl
ones-zero (suc n) =
    ap₂ (λ x y. x + y) (bit_at-zero 0) (total-same n (λ k. bit_at 0 (suc k)) (λ k. bit_at 0 k) (λ k. bit_at-zero (suc k) ∙ sym (bit_at-zero k)) ∙ ones-zero n)

pub count_total : (n w : ℕ) → w < 2 ^ n → count_ones w ≡ total n (λ k. bit_at w k)
unfolding ones
count_total zero w h = let none : w ≡ 0 = omega arith in rw none refl
count_total (suc n) w h =
    let half : w / 2 < 2 ^ n = omega arith in
    ones_step w ∙ ap₂ (λ x y. x + y) (sym (bit_at_lowest w)) (count_total n (w / 2) half ∙ total-same n (λ k. bit_at (w / 2) k) (λ k. bit_at w (suc k)) (λ k. sym (bit_at-suc w k)))

-- One byte: what its bits are, by those of the byte before it.
pub record Tells (quote line delimiter pi po pl i o l e : ℕ) : Type 0 where
  pub bit : i < 2
  pub parity : (i + pi) % 2 ≡ quote
  pub opens : o ≡ min (max (max quote line) delimiter) (1 - i)
  pub allowed : min (min quote i) (1 - po) ≡ 0
  pub line_end : l ≡ min line (1 - i)
  pub ends : e ≡ min l (1 - pl)

abbrev Told : ScanState → Bool → Bool → Bool → ℕ → ℕ → ℕ → ℕ → Type 0
Told a q n f i o l e = IsToldBy (move a q n f) i o l × (ends_record a (move a q n f) ≡ e)

-- a byte is at most one of a quote, a line's end and a delimiter
abbrev Apart : Bool → Bool → Bool → Type 0
Apart q n f = ((q && n) || ((q && f) || (n && f))) ≡ false

told : (a : ScanState) (q n f : Bool) (pi po pl i o l e : ℕ) → Apart q n f → IsToldBy a pi po pl → Tells (one_if q) (one_if n) (one_if f) pi po pl i o l e → Told a q n f i o l e
told s.Between true true true pi po pl i o l e p h t = cc p
told s.Between true true false pi po pl i o l e p h t = cc p
told s.Between true false true pi po pl i o l e p h t = cc p
told s.Between true false false pi po pl i o l e p h t = ((omega (arith, h, t), omega (arith, h, t), omega (arith, h, t)), omega (arith, h, t))
told s.Between false true true pi po pl i o l e p h t = cc p
told s.Between false true false pi po pl i o l e p h t = ((omega (arith, h, t), omega (arith, h, t), omega (arith, h, t)), omega (arith, h, t))
told s.Between false false true pi po pl i o l e p h t = ((omega (arith, h, t), omega (arith, h, t), omega (arith, h, t)), omega (arith, h, t))
told s.Between false false false pi po pl i o l e p h t = ((omega (arith, h, t), omega (arith, h, t), omega (arith, h, t)), omega (arith, h, t))
told s.Quotable true true true pi po pl i o l e p h t = cc p
told s.Quotable true true false pi po pl i o l e p h t = cc p
told s.Quotable true false true pi po pl i o l e p h t = cc p
told s.Quotable true false false pi po pl i o l e p h t = ((omega (arith, h, t), omega (arith, h, t), omega (arith, h, t)), omega (arith, h, t))
told s.Quotable false true true pi po pl i o l e p h t = cc p
told s.Quotable false true false pi po pl i o l e p h t = ((omega (arith, h, t), omega (arith, h, t), omega (arith, h, t)), omega (arith, h, t))
told s.Quotable false false true pi po pl i o l e p h t = ((omega (arith, h, t), omega (arith, h, t), omega (arith, h, t)), omega (arith, h, t))
told s.Quotable false false false pi po pl i o l e p h t = ((omega (arith, h, t), omega (arith, h, t), omega (arith, h, t)), omega (arith, h, t))
told s.Unquoted true true true pi po pl i o l e p h t = cc p
told s.Unquoted true true false pi po pl i o l e p h t = cc p
told s.Unquoted true false true pi po pl i o l e p h t = cc p
told s.Unquoted true false false pi po pl i o l e p h t = absurd (omega (arith, h, t))
told s.Unquoted false true true pi po pl i o l e p h t = cc p
told s.Unquoted false true false pi po pl i o l e p h t = ((omega (arith, h, t), omega (arith, h, t), omega (arith, h, t)), omega (arith, h, t))
told s.Unquoted false false true pi po pl i o l e p h t = ((omega (arith, h, t), omega (arith, h, t), omega (arith, h, t)), omega (arith, h, t))
told s.Unquoted false false false pi po pl i o l e p h t = ((omega (arith, h, t), omega (arith, h, t), omega (arith, h, t)), omega (arith, h, t))
told s.Quoted true true true pi po pl i o l e p h t = cc p
told s.Quoted true true false pi po pl i o l e p h t = cc p
told s.Quoted true false true pi po pl i o l e p h t = cc p
told s.Quoted true false false pi po pl i o l e p h t = ((omega (arith, h, t), omega (arith, h, t), omega (arith, h, t)), omega (arith, h, t))
told s.Quoted false true true pi po pl i o l e p h t = cc p
told s.Quoted false true false pi po pl i o l e p h t = ((omega (arith, h, t), omega (arith, h, t), omega (arith, h, t)), omega (arith, h, t))
told s.Quoted false false true pi po pl i o l e p h t = ((omega (arith, h, t), omega (arith, h, t), omega (arith, h, t)), omega (arith, h, t))
told s.Quoted false false false pi po pl i o l e p h t = ((omega (arith, h, t), omega (arith, h, t), omega (arith, h, t)), omega (arith, h, t))

different : false ≡ true → ⊥
different e = cc e

no-line : (d : ℕ) → is_line_end d ≡ true → is_plain d ≡ true → ⊥
no-line d e h = by (d == 34) (rw e at h)
  where
    by : (b : Bool) → (not b && false) ≡ true → ⊥
    by true t = cc t
    by false t = cc t

-- the three kinds of byte are apart where the delimiter is neither a quote nor the end of a line
apart : (d c : ℕ) → is_plain d ≡ true → Apart (c == 34) (is_line_end c) (c == d)
apart d c h = by (c == 34) refl (is_line_end c) refl (c == d) refl
  where
    by : (q : Bool) → (c == 34) ≡ q → (n : Bool) → is_line_end c ≡ n → (f : Bool) → (c == d) ≡ f → Apart q n f
    by true a true b f e = absurd (different (ap is_line_end (sym (eqb-true c 34 a)) ∙ b))
    by true a false b true e = absurd (different (ap is_plain (sym (eqb-true c 34 a) ∙ eqb-true c d e) ∙ h))
    by true a false b false e = refl
    by false a true b true e = absurd (no-line d (ap is_line_end (sym (eqb-true c d e)) ∙ b) h)
    by false a true b false e = refl
    by false a false b f e = refl

-- several bytes
told_all : (d : ℕ) → is_plain d ≡ true → (xs : List ℕ) (a : ScanState) (pi po pl : ℕ) (i o l e : ℕ → ℕ) → IsToldBy a pi po pl
    → ((k : ℕ) → k < length xs → Tells (one_if (get_or xs k 0 == 34)) (one_if (is_line_end (get_or xs k 0))) (one_if (get_or xs k 0 == d)) (before pi i k) (before po o k) (before pl l k) (i k) (o k) (l k) (e k))
    → IsToldBy (scan_after d a xs) (before pi i (length xs)) (before po o (length xs)) (before pl l (length xs)) × (scan_ended d a xs ≡ total (length xs) e)
unfolding scan_after scan_ended
told_all d plain [] a pi po pl i o l e h t = (h, refl)
told_all d plain (c ∷ xs) a pi po pl i o l e h t =
    let one = told a (c == 34) (is_line_end c) (c == d) pi po pl (i 0) (o 0) (l 0) (e 0) (apart d c plain) h (t 0 (omega arith)) in
    let more = told_all d plain xs (scan_step d a c) (i 0) (o 0) (l 0) (λ k. i (suc k)) (λ k. o (suc k)) (λ k. l (suc k)) (λ k. e (suc k)) one.0 (λ k lt. shift k (t (suc k) (omega arith))) in
    (last_of (length xs) more.0, ap₂ (λ x y. x + y) one.1 more.1)
  where
    shift : (k : ℕ) → Tells (one_if (get_or xs k 0 == 34)) (one_if (is_line_end (get_or xs k 0))) (one_if (get_or xs k 0 == d)) (i k) (o k) (l k) (i (suc k)) (o (suc k)) (l (suc k)) (e (suc k))
        → Tells (one_if (get_or xs k 0 == 34)) (one_if (is_line_end (get_or xs k 0))) (one_if (get_or xs k 0 == d))
        (before (i 0) (λ j. i (suc j)) k) (before (o 0) (λ j. o (suc j)) k) (before (l 0) (λ j. l (suc j)) k) (i (suc k)) (o (suc k)) (l (suc k)) (e (suc k))
    shift zero w = w
    shift (suc k) w = w

    last_of : (n : ℕ) → IsToldBy (scan_after d (scan_step d a c) xs) (before (i 0) (λ j. i (suc j)) n) (before (o 0) (λ j. o (suc j)) n) (before (l 0) (λ j. l (suc j)) n)
        → IsToldBy (scan_after d (scan_step d a c) xs) (i n) (o n) (l n)
    last_of zero w = w
    last_of (suc n) w = w

-- the carried bits are bits
told_bits : (a : ScanState) (i o l : ℕ) → IsToldBy a i o l → (i < 2) × (o < 2) × (l < 2)
told_bits s.Between i o l h = (omega (arith, h), omega (arith, h), omega (arith, h))
told_bits s.Quotable i o l h = (omega (arith, h), omega (arith, h), omega (arith, h))
told_bits s.Unquoted i o l h = (omega (arith, h), omega (arith, h), omega (arith, h))
told_bits s.Quoted i o l h = (omega (arith, h), omega (arith, h), omega (arith, h))

-- The words of 64 bytes, by what each word's bits are.
pub record AreWords (v : List ℕ) (d ci co cl q n f i ib o ob bad l lb e : ℕ) : Type 0 where
  pub quotes : (k : ℕ) → k < 64 → bit_at q k ≡ one_if (get_or v k 0 == 34)
  pub lines : (k : ℕ) → k < 64 → bit_at n k ≡ one_if (is_line_end (get_or v k 0))
  pub delimiters : (k : ℕ) → k < 64 → bit_at f k ≡ one_if (get_or v k 0 == d)
  pub inside_before : ci < 2 → (k : ℕ) → k < 64 → bit_at ib k ≡ before ci (λ j. bit_at i j) k
  pub parity : bit_xor i ib ≡ q
  pub opens : (k : ℕ) → k < 64 → bit_at o k ≡ min (bit_at (bit_or (bit_or q n) f) k) (1 - bit_at i k)
  pub opens_before : co < 2 → (k : ℕ) → k < 64 → bit_at ob k ≡ before co (λ j. bit_at o j) k
  pub barred : (k : ℕ) → k < 64 → bit_at bad k ≡ min (bit_at (bit_and q i) k) (1 - bit_at ob k)
  pub none_barred : bad ≡ 0
  pub line : (k : ℕ) → k < 64 → bit_at l k ≡ min (bit_at n k) (1 - bit_at i k)
  pub line_before : cl < 2 → (k : ℕ) → k < 64 → bit_at lb k ≡ before cl (λ j. bit_at l j) k
  pub ends : (k : ℕ) → k < 64 → bit_at e k ≡ min (bit_at l k) (1 - bit_at lb k)
  pub fits : e < 2 ^ 64

words_tell : (v : List ℕ) (d ci co cl q n f i ib o ob bad l lb e : ℕ) → ci < 2 → co < 2 → cl < 2 → AreWords v d ci co cl q n f i ib o ob bad l lb e → (k : ℕ) → k < 64
    → Tells (one_if (get_or v k 0 == 34)) (one_if (is_line_end (get_or v k 0))) (one_if (get_or v k 0 == d))
    (before ci (λ j. bit_at i j) k) (before co (λ j. bit_at o j) k) (before cl (λ j. bit_at l j) k) (bit_at i k) (bit_at o k) (bit_at l k) (bit_at e k)
words_tell v d ci co cl q n f i ib o ob bad l lb e hi ho hl w k h = record {
  bit = bit_at-lt i k;
  parity = ap (λ x. (bit_at i k + x) % 2) (sym (w.inside_before hi k h)) ∙ sym (bit_at_xor i ib k) ∙ ap (λ m. bit_at m k) w.parity ∙ w.quotes k h;
  opens = w.opens k h ∙ ap (λ x. min x (1 - bit_at i k)) (bit_at_or (bit_or q n) f k ∙ ap₂ max (bit_at_or q n k ∙ ap₂ max (w.quotes k h) (w.lines k h)) (w.delimiters k h));
  allowed = ap₂ (λ x y. min x (1 - y)) (ap (λ x. min x (bit_at i k)) (sym (w.quotes k h)) ∙ sym (bit_at_and q i k)) (sym (w.opens_before ho k h))
      ∙ sym (w.barred k h) ∙ ap (λ m. bit_at m k) w.none_barred ∙ bit_at-zero k;
  line_end = w.line k h ∙ ap (λ x. min x (1 - bit_at i k)) (w.lines k h);
  ends = w.ends k h ∙ ap (λ y. min (bit_at l k) (1 - y)) (w.line_before hl k h);
}

pub words_scan : (v : List ℕ) (d ci co cl q n f i ib o ob bad l lb e : ℕ) → is_plain d ≡ true → length v ≡ 64 → AreWords v d ci co cl q n f i ib o ob bad l lb e
    → (li lo ll : ℕ) → li ≡ bit_at i 63 → lo ≡ bit_at o 63 → ll ≡ bit_at l 63 → (a : ScanState) → IsToldBy a ci co cl
    → IsToldBy (scan_after d a v) li lo ll × (scan_ended d a v ≡ count_ones e)
words_scan v d ci co cl q n f i ib o ob bad l lb e plain size w li lo ll ei eo el a h =
    let bits = told_bits a ci co cl h in
    let all = told_all d plain v a ci co cl (λ j. bit_at i j) (λ j. bit_at o j) (λ j. bit_at l j) (λ j. bit_at e j) h
    (λ k lt. words_tell v d ci co cl q n f i ib o ob bad l lb e bits.0 bits.1 bits.2 w k (omega arith)) in
    let whole = rw size at all in
    (rw (ei, eo, el) whole.0, whole.1 ∙ sym (count_total 64 e w.fits))
