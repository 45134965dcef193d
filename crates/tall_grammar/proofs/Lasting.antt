-- Readers that last: given more turns than there are tokens left, and depth for what may still be open, they never run out.
use Rattle.std.proofs.Common.{◌≡◌, ℕ, suc, zero, ◌<◌, ◌≤◌, Bool, true, false, List, [], ◌∷◌, length, Option, Some, None, refl, subst, arith}
use Rattle.std.proofs.lemmas.Bool.Decides.{nat_tests}
use Rattle.std.specs.Prelude.{Ok, Err, if◌then◌else◌, nat_lt}
use Rattle.tall_grammar.specs.declared.faults.Fault.TheVariants.{Stop, OutOfTurns, Memory}
use Rattle.tall_grammar.specs.Lexemes.{Lexeme}
use Rattle.tall_grammar.specs.Refusals.{limit, open_behind, too_deep_from}
use Rattle.tall_grammar.specs.Readers.{Input, input, Outcome, Reader, and_then, ◌>>=◌, pure, stopped, front_is, chosen, given, given_if, peek, take_as, take_text, text_if, expect, numbered}
use Rattle.tall_grammar.proofs.Signs.{text_if_is}

-- Fewer tokens than so many are left. So many brackets and blocks are open, which is no more than may be, and behind none
-- of the tokens left are more open than may be.
pub record Fits (few opened : ℕ) (i : Input) : Type 0 where
  pub fewer : length i.rest < few
  pub low : opened ≤ limit
  pub flat : too_deep_from opened i.rest ≡ None

-- what is left so fits; a stop is a stop, but the turns and the depth have not run out
abbrev pub Leaves : {A : Type 0} → ℕ → ℕ → Outcome A → Type 0
Leaves few opened (Ok p) = Fits few opened p.1
Leaves few opened (Err (Stop n)) = Unit {0}
Leaves few opened (Err OutOfTurns) = ⊥
Leaves few opened (Err Memory) = ⊥

-- from what fits the first two numbers, a reader leaves what fits the other two
pub record Lasts {A : Type 0} (few opened few_left opened_left : ℕ) (p : Reader A) : Type 0 where
  pub leaves : (i : Input) → Fits few opened i → Leaves few_left opened_left (p i)

-- ---- what fits

pub more_fits : (b c o : ℕ) (i : Input) → b ≤ c → Fits b o i → Fits c o i
more_fits b c o i le h = let f = h.fewer in record { fewer = omega (arith, le, f); low = h.low; flat = h.flat }

-- the count of open brackets and blocks behind a token is no more than may be
kept_low : (n line : ℕ) (rest : Option ℕ) → (if nat_lt limit n then Some line else rest) ≡ None → (n ≤ limit) × (rest ≡ None)
kept_low n line rest h = (elim (nat_lt limit n) as (λ x. nat_lt limit n ≡ x → (if x then Some line else rest) ≡ None → (n ≤ limit) × (rest ≡ None)) [
  | true ↦ λ e g. absurd cc
  | false ↦ λ e g. (not_above n e, g)
]) refl h where
  not_above : (n : ℕ) → nat_lt limit n ≡ false → n ≤ limit
  not_above n e = grind (arith, nat_tests)

-- behind a token one fewer is left
pub behind_it : (b o n : ℕ) (t : Lexeme) (ts : List Lexeme) (m : ℕ) → open_behind o t ≡ n → Fits (suc b) o (input (t ∷ ts) m) → Fits b n (input ts m)
behind_it b o n t ts m e h =
    let f : suc (length ts) < suc b = h.fewer in
    let g = kept_low n t.line (too_deep_from n ts) (subst (λ (z : ℕ). (if nat_lt limit z then Some t.line else too_deep_from z ts) ≡ None) e h.flat) in
    record { fewer = omega (arith, f); low = g.0; flat = g.1 }

-- ---- readers by their parts

-- nothing fits none
pub lasts_none : {A : Type 0} {b o c n : ℕ} (p : Reader A) → b ≤ 0 → Lasts b o c n p
lasts_none p le = record { leaves = λ i h. let f = h.fewer in absurd (omega (arith, le, f)) }

pub lasts_more : {A : Type 0} {b o c n d : ℕ} (p : Reader A) → c ≤ d → Lasts b o c n p → Lasts b o d n p
lasts_more {A} {b} {o} {c} {n} {d} p le x = record { leaves = λ i h. by (p i) (x.leaves i h) } where
  by : (r : Outcome A) → Leaves c n r → Leaves d n r
  by (Ok q) f = more_fits c d n q.1 le f
  by (Err (Stop k)) f = tt
  by (Err OutOfTurns) f = f
  by (Err Memory) f = f

-- a reader that takes a token leaves no more than there were
pub lasts_any : {A : Type 0} {k o n : ℕ} (p : Reader A) → ((b : ℕ) → b < k → Lasts (suc b) o b n p) → (b : ℕ) → b ≤ k → Lasts b o b n p
lasts_any p x zero le = lasts_none p (omega arith)
lasts_any p x (suc b) le = lasts_more p (omega arith) (x b (omega (arith, le)))

pub lasts_pure : {A : Type 0} {b o : ℕ} (a : A) → Lasts b o b o (pure a)
lasts_pure a = record { leaves = λ i h. h }

pub lasts_stopped : {A : Type 0} {b o c n : ℕ} → Lasts {A = A} b o c n stopped
lasts_stopped = record { leaves = λ i h. tt }

pub lasts_numbered : {A : Type 0} {b o : ℕ} (g : ℕ → A) → Lasts b o b o (numbered g)
lasts_numbered g = record { leaves = λ i h. record { fewer = h.fewer; low = h.low; flat = h.flat } }

pub lasts_bind : {A B : Type 0} {b o c n d m : ℕ} (p : Reader A) (f : A → Reader B) → Lasts b o c n p → ((a : A) → Lasts c n d m (f a)) → Lasts b o d m (p >>= f)
lasts_bind {A} {B} {b} {o} {c} {n} {d} {m} p f x y = record { leaves = λ i h. by (p i) (x.leaves i h) } where
  by : (r : Outcome A) → Leaves c n r → Leaves d m (and_then r f)
  by (Ok q) g = (y q.0).leaves q.1 g
  by (Err (Stop k)) g = tt
  by (Err OutOfTurns) g = g
  by (Err Memory) g = g

-- a choice by what is left
pub lasts_if : {A : Type 0} {b o c n : ℕ} (test : List Lexeme → Bool) (p q : Reader A) → Lasts b o c n p → Lasts b o c n q → Lasts b o c n (λ i. if test i.rest then p i else q i)
lasts_if {A} {b} {o} {c} {n} test p q x y = record { leaves = λ i h. by i h (test i.rest) } where
  by : (i : Input) → Fits b o i → (z : Bool) → Leaves c n (if z then p i else q i)
  by i h true = x.leaves i h
  by i h false = y.leaves i h

pub lasts_peek : {A : Type 0} {b o c n : ℕ} (test : Lexeme → Bool) (p q : Reader A) → Lasts b o c n p → Lasts b o c n q → Lasts b o c n (peek test p q)
lasts_peek test p q x y = lasts_if (front_is test) p q x y

-- ---- a token

-- where so many are open, so many are behind a token that passes
abbrev pub Moves : (Lexeme → Bool) → ℕ → ℕ → Type 0
Moves test o n = (t : Lexeme) → test t ≡ true → open_behind o t ≡ n

pub lasts_given : {A B : Type 0} {b o n c m : ℕ} (f : Lexeme → Option B) (g : B → Reader A) (q : Reader A) → ((t : Lexeme) (x : B) → f t ≡ Some x → open_behind o t ≡ n)
    → ((x : B) → Lasts b n c m (g x)) → Lasts (suc b) o c m q → Lasts (suc b) o c m (given f g q)
lasts_given {A} {B} {b} {o} {n} {c} {m} f g q moves x y = record { leaves = λ i h. by i.rest i.next h } where
  by : (ts : List Lexeme) (k : ℕ) → Fits (suc b) o (input ts k) → Leaves c m (given f g q (input ts k))
  by [] k h = y.leaves (input [] k) h
  by (t ∷ ts) k h = (elim (f t) as (λ z. f t ≡ z → Leaves c m (chosen z g q (input (t ∷ ts) k))) [
    | None ↦ λ e. y.leaves (input (t ∷ ts) k) h
    | Some a ↦ λ e. (x a).leaves (input ts k) (behind_it b o n t ts k (moves t a e) h)
  ]) refl

pub lasts_given_if : {A : Type 0} {b o n c m : ℕ} (test : Lexeme → Bool) (p q : Reader A) → Moves test o n → Lasts b n c m p → Lasts (suc b) o c m q → Lasts (suc b) o c m (given_if test p q)
lasts_given_if {A} {b} {o} {n} {c} {m} test p q moves x y = record { leaves = λ i h. by i.rest i.next h } where
  by : (ts : List Lexeme) (k : ℕ) → Fits (suc b) o (input ts k) → Leaves c m (given_if test p q (input ts k))
  by [] k h = y.leaves (input [] k) h
  by (t ∷ ts) k h = (elim (test t) as (λ z. test t ≡ z → Leaves c m (if z then p (input ts k) else q (input (t ∷ ts) k))) [
    | true ↦ λ e. x.leaves (input ts k) (behind_it b o n t ts k (moves t e) h)
    | false ↦ λ e. y.leaves (input (t ∷ ts) k) h
  ]) refl

-- the same, for readers that leave no more than there were
pub lasts_given_any : {A : Type 0} {b o n c m : ℕ} (test : Lexeme → Bool) (p q : Reader A) → Moves test o n → Lasts b n c m p → Lasts b o c m q → Lasts b o c m (given_if test p q)
lasts_given_any {b = zero} test p q moves x y = lasts_none (given_if test p q) (omega arith)
lasts_given_any {b = suc b} {n} {c} {m} test p q moves x y = lasts_given_if test p q moves (fewer b x) y where
  fewer : (b : ℕ) → Lasts (suc b) n c m p → Lasts b n c m p
  fewer b x = record { leaves = λ i h. x.leaves i (more_fits b (suc b) n i (omega arith) h) }

pub lasts_take : {B : Type 0} {b o n : ℕ} (f : Lexeme → Option B) → ((t : Lexeme) (x : B) → f t ≡ Some x → open_behind o t ≡ n) → Lasts (suc b) o b n (take_as f)
lasts_take f moves = lasts_given f pure stopped moves (λ x. lasts_pure x) lasts_stopped

pub lasts_take_text : {b o n : ℕ} (test : Lexeme → Bool) → Moves test o n → Lasts (suc b) o b n (take_text test)
lasts_take_text test moves = lasts_take (text_if test) (λ t x e. moves t (text_if_is test t x e).0)

pub lasts_expect : {b o n : ℕ} (test : Lexeme → Bool) → Moves test o n → Lasts (suc b) o b n (expect test)
lasts_expect test moves = lasts_given_if test (pure tt) stopped moves (lasts_pure tt) lasts_stopped
