-- A scan in pieces is the scan of the whole.
use Rattle.std.proofs.Common.{◌≡◌, ◌≤◌, ◌<◌, ◌+◌, ◌∙◌, ℕ, List, [], ◌∷◌, ◌++◌, get_or, length, take, drop, Bool, true, false, refl, sym, ap, ap₂, arith, take-add}
use Rattle.std.specs.Prelude.{◌&&◌, not, if◌then◌else◌}
use Rattle.std.proofs.lemmas.List.{take-take, take_more}
use lib.Lanes.{chunk}
use Rattle.tall_scan.specs.declared.state.ScanState.{ScanState}
use Rattle.tall_scan.specs.declared.state.ScanState.TheVariants as s
use Rattle.tall_scan.specs.declared.words.Carry.{Carry}
use Rattle.tall_scan.specs.Scanning.{ends_record, is_between, scan_after, scan_ended, scan_step}
use Rattle.tall_scan.specs.Words.{Carries}

pub after_none : (d : ℕ) (a : ScanState) → scan_after d a [] ≡ a
unfolding scan_after
after_none d a = refl

pub ended_none : (d : ℕ) (a : ScanState) → scan_ended d a [] ≡ 0
unfolding scan_ended
ended_none d a = refl

pub after_join : (d : ℕ) (a : ScanState) (xs ys : List ℕ) → scan_after d a (xs ++ ys) ≡ scan_after d (scan_after d a xs) ys
unfolding scan_after
after_join d a [] ys = refl
after_join d a (c ∷ xs) ys = after_join d (scan_step d a c) xs ys

pub ended_join : (d : ℕ) (a : ScanState) (xs ys : List ℕ) → scan_ended d a (xs ++ ys) ≡ scan_ended d a xs + scan_ended d (scan_after d a xs) ys
unfolding scan_after scan_ended
ended_join d a [] ys = omega arith
ended_join d a (c ∷ xs) ys =
    let more = ended_join d (scan_step d a c) xs ys in
    omega arith

-- one byte more
pub after_more : (d : ℕ) (a : ScanState) (xs : List ℕ) (i : ℕ) → i < length xs → scan_after d a (take (i + 1) xs) ≡ scan_step d (scan_after d a (take i xs)) (get_or xs i 0)
unfolding scan_after
after_more d a xs i h = ap (scan_after d a) (take_more xs i 0 h) ∙ after_join d a (take i xs) (get_or xs i 0 ∷ [])

pub ended_more : (d : ℕ) (a : ScanState) (xs : List ℕ) (i : ℕ) → i < length xs
    → scan_ended d a (take (i + 1) xs) ≡ scan_ended d a (take i xs) + ends_record (scan_after d a (take i xs)) (scan_step d (scan_after d a (take i xs)) (get_or xs i 0))
unfolding scan_ended
ended_more d a xs i h =
    let more = ap (scan_ended d a) (take_more xs i 0 h) ∙ ended_join d a (take i xs) (get_or xs i 0 ∷ []) in
    omega arith

-- a piece more
piece_more : (xs : List ℕ) (t n m : ℕ) → n ≤ m → take (t + n) xs ≡ take t xs ++ take n (take m (drop t xs))
piece_more xs t n m h = take-add t n xs ∙ ap (λ ys. take t xs ++ ys) (sym (take-take n m (drop t xs) h))

pub after_piece : (d : ℕ) (a : ScanState) (xs : List ℕ) (t n m : ℕ) → n ≤ m
    → scan_after d a (take (t + n) xs) ≡ scan_after d (scan_after d a (take t xs)) (take n (take m (drop t xs)))
after_piece d a xs t n m h = ap (scan_after d a) (piece_more xs t n m h) ∙ after_join d a (take t xs) (take n (take m (drop t xs)))

pub ended_piece : (d : ℕ) (a : ScanState) (xs : List ℕ) (t n m : ℕ) → n ≤ m
    → scan_ended d a (take (t + n) xs) ≡ scan_ended d a (take t xs) + scan_ended d (scan_after d a (take t xs)) (take n (take m (drop t xs)))
ended_piece d a xs t n m h = ap (scan_ended d a) (piece_more xs t n m h) ∙ ended_join d a (take t xs) (take n (take m (drop t xs)))

-- 64 bytes more, by words
pub words_more : (d : ℕ) (xs : List ℕ) (t e e2 : ℕ) (start now next : Carry)
    → ((a : ScanState) → Carries a start → Carries (scan_after d a (take t xs)) now × (scan_ended d a (take t xs) ≡ e))
    → ((a : ScanState) → Carries a now → Carries (scan_after d a (chunk t 64 xs)) next × (scan_ended d a (chunk t 64 xs) ≡ e2))
    → (a : ScanState) → Carries a start → Carries (scan_after d a (take (t + 64) xs)) next × (scan_ended d a (take (t + 64) xs) ≡ e + e2)
words_more d xs t e e2 start now next one two a h =
    let first = one a h in
    let second = two (scan_after d a (take t xs)) first.0 in
    let pieces = take-add t 64 xs in (
      rw (pieces, after_join d a (take t xs) (chunk t 64 xs)) second.0,
      ap (scan_ended d a) pieces ∙ ended_join d a (take t xs) (chunk t 64 xs) ∙ ap₂ (λ x y. x + y) first.1 second.1,
    )

-- a byte that ends a record leads between records
pub ended_between : (a b : ScanState) → 0 < ends_record a b → b ≡ s.Between
ended_between a b h = by b (ends (is_between a) (is_between b) h)
  where
    ends : (x y : Bool) → 0 < (if not x && y then 1 else 0) → y ≡ true
    ends x true h = refl
    ends true false h = absurd (omega (arith, h))
    ends false false h = absurd (omega (arith, h))

    by : (c : ScanState) → is_between c ≡ true → c ≡ s.Between
    by s.Between e = refl
    by s.Quotable e = cc e
    by s.Unquoted e = cc e
    by s.Quoted e = cc e

pub ends_at_most_one : (a b : ScanState) → ends_record a b ≤ 1
ends_at_most_one a b = by (not (is_between a) && is_between b)
  where
    by : (x : Bool) → (if x then 1 else 0) ≤ 1
    by true = omega arith
    by false = omega arith
