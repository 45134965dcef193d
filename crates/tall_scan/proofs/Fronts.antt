-- The front of a text: a byte order mark, and its first bytes.
use Rattle.std.proofs.Common.{◌≡◌, ◌≤◌, ◌<◌, ◌+◌, ◌-◌, ◌∙◌, ℕ, List, [], ◌∷◌, ◌++◌, get_or, set, length, take, drop, Option, Some, None, Bool, true, false, refl, sym, ap, arith}
use Rattle.std.specs.Prelude.{option_map, slice_range, if◌then◌else◌}
use Rattle.std.specs.Io.KnownBytes.{Consumes, IsAtEnd, Keeps, prepend_known}
use Rattle.std.proofs.KnownBytes.{Consumes-nil, Consumes-trans}
use Rattle.std.proofs.lemmas.List.{append-nil, drop-take, take_more_set, length-take-le}
use Rattle.csv.specs.Reading.{is_bom, strip_bom}

pub strip_short : (xs : List ℕ) → length xs < 3 → xs ≡ strip_bom xs
unfolding strip_bom
strip_short [] h = refl
strip_short (a ∷ []) h = refl
strip_short (a ∷ b ∷ []) h = refl
strip_short (a ∷ b ∷ c ∷ rest) h = absurd (omega arith)

pub strip_mark : (xs : List ℕ) → 3 ≤ length xs → is_bom (get_or xs 0 0) (get_or xs 1 0) (get_or xs 2 0) ≡ true → drop 3 xs ≡ strip_bom xs
unfolding strip_bom
strip_mark [] h e = absurd (omega arith)
strip_mark (a ∷ []) h e = absurd (omega arith)
strip_mark (a ∷ b ∷ []) h e = absurd (omega arith)
strip_mark (a ∷ b ∷ c ∷ rest) h e = rw e refl

pub strip_none : (xs : List ℕ) → 3 ≤ length xs → is_bom (get_or xs 0 0) (get_or xs 1 0) (get_or xs 2 0) ≡ false → xs ≡ strip_bom xs
unfolding strip_bom
strip_none [] h e = absurd (omega arith)
strip_none (a ∷ []) h e = absurd (omega arith)
strip_none (a ∷ b ∷ []) h e = absurd (omega arith)
strip_none (a ∷ b ∷ c ∷ rest) h e = rw e refl

-- a mark is looked for in the first three bytes alone
strip_front : (front rest : List ℕ) → (length front < 3 → rest ≡ []) → strip_bom (front ++ rest) ≡ strip_bom front ++ rest
unfolding strip_bom
strip_front [] rest h = rw (h (omega arith)) refl
strip_front (a ∷ []) rest h = rw (h (omega arith)) refl
strip_front (a ∷ b ∷ []) rest h = rw (h (omega arith)) refl
strip_front (a ∷ b ∷ c ∷ front) rest h = by (is_bom a b c)
  where
    by : (m : Bool) → (if m then front ++ rest else a ∷ b ∷ c ∷ (front ++ rest)) ≡ (if m then front else a ∷ b ∷ c ∷ front) ++ rest
    by true = refl
    by false = refl

none_after : (known : List ℕ) (n : ℕ) (xs : List ℕ) → (n < 3 → IsAtEnd (Some known)) → length xs ≡ n → length xs < 3 → known ≡ []
none_after known n xs h e l = h (omega arith)

-- what is left behind a front without its mark
pub front_left : (old new : Option (List ℕ)) (buffer : List ℕ) (at n : ℕ) → n ≤ length buffer → at ≤ n → Consumes old new (take n buffer) → (n < 3 → IsAtEnd new)
    → drop at (take n buffer) ≡ strip_bom (take n buffer) → Keeps (option_map strip_bom old) (prepend_known (slice_range buffer at n) new)
front_left None new buffer at n fits low c e s = tt
front_left (Some xs) None buffer at n fits low c e s = absurd c
front_left (Some xs) (Some ys) buffer at n fits low c e s =
    let width : at + (n - at) ≡ n = omega arith in
    let cut : drop at (take n buffer) ≡ slice_range buffer at n = ap (λ k. drop at (take k buffer)) (sym width) ∙ drop-take at (n - at) buffer in
    ap (λ zs. zs ++ ys) (sym cut ∙ s) ∙ sym (strip_front (take n buffer) ys (none_after ys n (take n buffer) e (length-take-le n buffer fits))) ∙ ap strip_bom (sym c)

pub front_start : (known : Option (List ℕ)) → Consumes known known []
front_start known = Consumes-nil known

pub front_more : (old mid new : Option (List ℕ)) (buffer : List ℕ) (i byte : ℕ) → i < length buffer → Consumes old mid (take i buffer) → Consumes mid new (byte ∷ [])
    → Consumes old new (take (i + 1) (set buffer i byte))
front_more old mid new buffer i byte h one two = rw (take_more_set buffer i byte h) (Consumes-trans old mid new (take i buffer) (byte ∷ []) one two)

pub front_end : (old mid new : Option (List ℕ)) (front : List ℕ) → Consumes old mid front → Consumes mid new [] → Consumes old new front
front_end old mid new front one two = rw (append-nil front) at (Consumes-trans old mid new front [] one two)
