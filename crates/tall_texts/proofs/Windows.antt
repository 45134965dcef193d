-- Texts from one place to before another: their bytes stand together.
use Rattle.std.specs.List.{slice_range}
use Rattle.std.specs.Str.{IsUtf8}
use Rattle.std.proofs.Common.{ℕ, zero, suc, ◌≡◌, ◌<◌, ◌≤◌, ◌-◌, List, [], ◌∷◌, length, take, drop, ◌+◌, refl, sym, ◌∙◌, ap, subst, arith}
use Rattle.std.proofs.lemmas.List.{drop-drop, drop-take, take-take, length-take-le, length-drop}
use Rattle.tall_texts.specs.Texts.{texts_from, IsCut, begin_at, nearer}
use Rattle.tall_texts.proofs.TextLemmas.{cut-start}

-- a range of a range
range-range : (xs : List ℕ) (base e i j : ℕ) → base ≤ i → i ≤ j → j ≤ e → slice_range (slice_range xs base e) (i - base) (j - base) ≡ slice_range xs i j
range-range xs base e i j p q r =
    let all : e - base ≡ (i - base) + (e - i) = omega (arith, p, q, r) in
    let at : base + (i - base) ≡ i = omega (arith, p) in
    let width : j - base - (i - base) ≡ j - i = omega (arith, p, q) in
    ap (λ n. take n (drop (i - base) (take (e - base) (drop base xs)))) width
    ∙ ap (λ n. take (j - i) (drop (i - base) (take n (drop base xs)))) all
    ∙ ap (λ v. take (j - i) v) (drop-take (i - base) (e - i) (drop base xs))
    ∙ take-take (j - i) (e - i) (drop (i - base) (drop base xs)) (omega (arith, r))
    ∙ ap (λ v. take (j - i) v) (drop-drop (i - base) base xs ∙ ap (λ n. drop n xs) at)

length-range : (xs : List ℕ) (i j : ℕ) → i ≤ j → j ≤ length xs → length (slice_range xs i j) ≡ j - i
length-range xs i j p q = length-take-le (j - i) (drop i xs) (omega (arith, length-drop i xs, p, q))

-- ---- where texts begin

begin-none : (start i : ℕ) → begin_at start [] i ≡ start
begin-none start zero = refl
begin-none start (suc i) = refl

pub begin-within : (bytes : List ℕ) (start : ℕ) (ends : List ℕ) (i : ℕ) → IsCut bytes start ends → begin_at start ends i ≤ length bytes
begin-within bytes start [] i h = omega (arith, h, begin-none start i)
begin-within bytes start (end ∷ ends) zero h = cut-start bytes start (end ∷ ends) h
begin-within bytes start (end ∷ ends) (suc i) h = begin-within bytes end ends i h.3

begin-behind : (bytes : List ℕ) (start : ℕ) (ends : List ℕ) (i : ℕ) → IsCut bytes start ends → start ≤ begin_at start ends i
begin-behind bytes start [] i h = omega (arith, begin-none start i)
begin-behind bytes start (end ∷ ends) zero h = omega arith
begin-behind bytes start (end ∷ ends) (suc i) h = omega (arith, h.0, begin-behind bytes end ends i h.3)

pub begin-ordered : (bytes : List ℕ) (start : ℕ) (ends : List ℕ) (i j : ℕ) → IsCut bytes start ends → i ≤ j → begin_at start ends i ≤ begin_at start ends j
begin-ordered bytes start [] i j h p = omega (arith, begin-none start i, begin-none start j)
begin-ordered bytes start (end ∷ ends) zero j h p = begin-behind bytes start (end ∷ ends) j h
begin-ordered bytes start (end ∷ ends) (suc i) zero h p = absurd (omega (arith, p))
begin-ordered bytes start (end ∷ ends) (suc i) (suc j) h p = begin-ordered bytes end ends i j h.3 (omega (arith, p))

-- ---- the texts from a place on

record Rest (bytes : List ℕ) (start : ℕ) (ends : List ℕ) (from : ℕ) : Type 0 where
  pub cut : IsCut bytes (begin_at start ends from) (drop from ends)
  pub texts : drop from (texts_from bytes start ends) ≡ texts_from bytes (begin_at start ends from) (drop from ends)

rest_from : (bytes : List ℕ) (start : ℕ) (ends : List ℕ) (from : ℕ) → IsCut bytes start ends → from ≤ length ends → Rest bytes start ends from
rest_from bytes start ends zero h p = record { cut = h; texts = refl }
rest_from bytes start [] (suc from) h p = absurd (omega (arith, p))
rest_from bytes start (end ∷ ends) (suc from) h p =
    let later = rest_from bytes end ends from h.3 (omega (arith, p)) in
    record { cut = later.cut; texts = later.texts }

begin-rest : (start : ℕ) (ends : List ℕ) (from to : ℕ) → from ≤ to → from ≤ length ends → begin_at (begin_at start ends from) (drop from ends) (to - from) ≡ begin_at start ends to
begin-rest start ends zero to p q = ap (λ n. begin_at start ends n) (let e : to - 0 ≡ to = omega arith in e)
begin-rest start [] (suc from) to p q = absurd (omega (arith, q))
begin-rest start (end ∷ ends) (suc from) zero p q = absurd (omega (arith, p))
begin-rest start (end ∷ ends) (suc from) (suc to) p q =
    ap (λ n. begin_at (begin_at end ends from) (drop from ends) n) (let e : suc to - suc from ≡ to - from = omega arith in e)
    ∙ begin-rest end ends from to (omega (arith, p)) (omega (arith, q))

-- ---- so many of them, in a buffer of their own

record Window (bytes : List ℕ) (base start : ℕ) (ends : List ℕ) (k end : ℕ) : Type 0 where
  pub cut : IsCut (slice_range bytes base end) (start - base) (nearer base (take k ends))
  pub texts : texts_from (slice_range bytes base end) (start - base) (nearer base (take k ends)) ≡ take k (texts_from bytes start ends)

fronts : (bytes : List ℕ) (base start : ℕ) (ends : List ℕ) (k end : ℕ) → IsCut bytes start ends → base ≤ start → k ≤ length ends → end ≡ begin_at start ends k
    → Window bytes base start ends k end
fronts bytes base start ends zero end h b l e = record {
  cut = sym (length-range bytes base end (omega (arith, b, e)) (omega (arith, e, cut-start bytes start ends h)) ∙ ap (λ n. n - base) e);
  texts = refl;
}
fronts bytes base start [] (suc k) end h b l e = absurd (omega (arith, l))
fronts bytes base start (next ∷ ends) (suc k) end h b l e =
    let later = fronts bytes base next ends k end h.3 (omega (arith, b, h.0)) (omega (arith, l)) e in
    let behind : next ≤ end = omega (arith, e, begin-behind bytes next ends k h.3) in
    let within : end ≤ length bytes = omega (arith, e, begin-within bytes next ends k h.3) in
    let same = range-range bytes base end start next b h.0 behind in
    record {
      cut = (
        omega (arith, h.0),
        omega (arith, behind, length-range bytes base end (omega (arith, b, h.0, behind)) within),
        subst IsUtf8 (sym same) h.2,
        later.cut,
      );
      texts = ap (λ v. v ∷ texts_from (slice_range bytes base end) (next - base) (nearer base (take k ends))) same ∙ ap (λ vs. slice_range bytes start next ∷ vs) later.texts;
    }

record Part (bytes : List ℕ) (ends : List ℕ) (from to : ℕ) : Type 0 where
  pub cut : IsCut (slice_range bytes (begin_at 0 ends from) (begin_at 0 ends to)) 0 (nearer (begin_at 0 ends from) (slice_range ends from to))
  pub texts : texts_from (slice_range bytes (begin_at 0 ends from) (begin_at 0 ends to)) 0 (nearer (begin_at 0 ends from) (slice_range ends from to)) ≡ slice_range (texts_from bytes 0 ends) from to

part_of : (bytes ends : List ℕ) (from to : ℕ) → IsCut bytes 0 ends → from ≤ to → to ≤ length ends → Part bytes ends from to
part_of bytes ends from to h p q =
    let start = begin_at 0 ends from in
    let end = begin_at 0 ends to in
    let rest = rest_from bytes 0 ends from h (omega (arith, p, q)) in
    let w = fronts bytes start start (drop from ends) (to - from) end rest.cut (omega arith) (omega (arith, length-drop from ends, p, q)) (sym (begin-rest 0 ends from to p (omega (arith, p, q)))) in
    let none : start - start ≡ 0 = omega arith in
    record {
      cut = subst (λ s. IsCut (slice_range bytes start end) s (nearer start (slice_range ends from to))) none w.cut;
      texts = ap (λ s. texts_from (slice_range bytes start end) s (nearer start (slice_range ends from to))) (sym none) ∙ w.texts ∙ ap (λ v. take (to - from) v) (sym rest.texts);
    }

-- ---- the same for the buffers that were copied

pub part-cut : (bytes ends part part_ends : List ℕ) (from to start end : ℕ) → IsCut bytes 0 ends → from ≤ to → to ≤ length ends
    → start ≡ begin_at 0 ends from → end ≡ begin_at 0 ends to → part ≡ slice_range bytes start end → part_ends ≡ nearer start (slice_range ends from to)
    → IsCut part 0 part_ends
part-cut bytes ends part part_ends from to start end h p q first last is also =
    let made : IsCut (slice_range bytes start end) 0 (nearer start (slice_range ends from to)) =
    subst (λ s. IsCut (slice_range bytes s end) 0 (nearer s (slice_range ends from to))) (sym first)
    (subst (λ e. IsCut (slice_range bytes (begin_at 0 ends from) e) 0 (nearer (begin_at 0 ends from) (slice_range ends from to))) (sym last) (part_of bytes ends from to h p q).cut) in
    subst (λ v. IsCut v 0 part_ends) (sym is) (subst (λ v. IsCut (slice_range bytes start end) 0 v) (sym also) made)

pub part-texts : (bytes ends part part_ends : List ℕ) (from to start end : ℕ) → IsCut bytes 0 ends → from ≤ to → to ≤ length ends
    → start ≡ begin_at 0 ends from → end ≡ begin_at 0 ends to → part ≡ slice_range bytes start end → part_ends ≡ nearer start (slice_range ends from to)
    → texts_from part 0 part_ends ≡ slice_range (texts_from bytes 0 ends) from to
part-texts bytes ends part part_ends from to start end h p q first last is also =
    ap (λ v. texts_from v 0 part_ends) is ∙ ap (λ v. texts_from (slice_range bytes start end) 0 v) also
    ∙ ap (λ s. texts_from (slice_range bytes s end) 0 (nearer s (slice_range ends from to))) first
    ∙ ap (λ e. texts_from (slice_range bytes (begin_at 0 ends from) e) 0 (nearer (begin_at 0 ends from) (slice_range ends from to))) last
    ∙ (part_of bytes ends from to h p q).texts
