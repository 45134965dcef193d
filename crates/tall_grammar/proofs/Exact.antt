-- When a reader and a rule say the same: what is read is what the rule has, what stopped is the beginning of something
-- that the rule has, what the rule has is read, and no token behind the one where it stopped made a difference.
use Rattle.std.proofs.Common.{◌≡◌, ℕ, suc, Bool, false, List, [], ◌∷◌, ◌++◌, length, Option, ◌⊎◌, inl, inr, refl, sym, ap, ◌∙◌, subst, arith, length-append}
use Rattle.std.specs.Prelude.{Ok, Err}
use Rattle.tall_grammar.specs.declared.faults.Fault.TheVariants.{Stop, OutOfTurns, Memory}
use Rattle.tall_grammar.specs.Lexemes.{Lexeme}
use Rattle.tall_grammar.specs.Readers.{Input, input, Outcome, Reader, and_then, front_as, front_is}

-- which tokens are what: from a first number to the next one
abbrev pub Rule : Type 0 → Type 1
Rule A = ℕ → List Lexeme → A → ℕ → Type 0

-- ---- what a reader does with tokens

-- these tokens were taken
pub record Took (ts : List Lexeme) (left : List Lexeme) : Type 0 where
  pub taken : List Lexeme
  pub text : ts ≡ taken ++ left

-- it stopped with so many tokens left
pub record Left (ts : List Lexeme) (k : ℕ) : Type 0 where
  pub taken : List Lexeme
  pub left : List Lexeme
  pub text : ts ≡ taken ++ left
  pub count : length left ≡ k

-- It takes tokens from the front, and what it does depends on no token behind the first that it leaves.
pub record Steady {A : Type 0} (p : Reader A) : Type 0 where
  pub took : (ts : List Lexeme) (m : ℕ) (a : A) (j : Input) → p (input ts m) ≡ Ok (a, j) → Took ts j.rest
  pub left : (ts : List Lexeme) (m k : ℕ) → p (input ts m) ≡ Err (Stop k) → Left ts k
  pub same_read : (ts us : List Lexeme) (x : Lexeme) (r s : List Lexeme) (m n : ℕ) (a : A)
      → p (input (ts ++ x ∷ r) m) ≡ Ok (a, input (us ++ x ∷ r) n) → p (input (ts ++ x ∷ s) m) ≡ Ok (a, input (us ++ x ∷ s) n)
  pub same_stop : (ts : List Lexeme) (x : Lexeme) (r s : List Lexeme) (m : ℕ)
      → p (input (ts ++ x ∷ r) m) ≡ Err (Stop (suc (length r))) → p (input (ts ++ x ∷ s) m) ≡ Err (Stop (suc (length s)))

-- ---- what a rule has

pub record Live {A : Type 0} (R : Rule A) (m : ℕ) : Type 0 where
  pub tokens : List Lexeme
  pub value : A
  pub next : ℕ
  pub holds : R m tokens value next

pub record Holds {A : Type 0} (R : Rule A) (m : ℕ) (ts : List Lexeme) (a : A) (j : Input) : Type 0 where
  pub taken : List Lexeme
  pub text : ts ≡ taken ++ j.rest
  pub holds : R m taken a j.next

pub record Begun {A : Type 0} (R : Rule A) (m : ℕ) (ts : List Lexeme) (k : ℕ) : Type 0 where
  pub taken : List Lexeme
  pub left : List Lexeme
  pub text : ts ≡ taken ++ left
  pub count : length left ≡ k
  pub more : List Lexeme
  pub value : A
  pub next : ℕ
  pub holds : R m (taken ++ more) value next

-- it is read so, or the reader ran out of turns
abbrev pub IsRead : {A : Type 0} → Outcome A → A → Input → Type 0
IsRead (Ok p) a j = p ≡ (a, j)
IsRead (Err (Stop k)) a j = ⊥
IsRead (Err OutOfTurns) a j = Unit {0}
IsRead (Err Memory) a j = ⊥

-- `goes` holds for the tokens that would belong to it still
pub record Exact {A : Type 0} (R : Rule A) (goes : Lexeme → Bool) (p : Reader A) : Type 0 where
  pub live : (m : ℕ) → Live R m
  pub steady : Steady p
  pub sound : (ts : List Lexeme) (m : ℕ) (a : A) (j : Input) → p (input ts m) ≡ Ok (a, j) → Holds R m ts a j
  pub viable : (ts : List Lexeme) (m k : ℕ) → p (input ts m) ≡ Err (Stop k) → Begun R m ts k
  pub whole : (ts : List Lexeme) (m : ℕ) (a : A) (n : ℕ) (rest : List Lexeme) → R m ts a n → front_is goes rest ≡ false
      → IsRead (p (input (ts ++ rest) m)) a (input rest n)

-- ---- lists

pub tail_same : (ts us : List Lexeme) (r s : List Lexeme) → ts ++ r ≡ us ++ s → length r ≡ length s → r ≡ s
tail_same [] [] r s e l = e
tail_same [] (u ∷ us) r s e l =
    let h : length r ≡ suc (length (us ++ s)) = ap length e in absurd (omega (arith, h, l, length-append us s))
tail_same (t ∷ ts) [] r s e l =
    let h : suc (length (ts ++ r)) ≡ length s = ap length e in absurd (omega (arith, h, l, length-append ts r))
tail_same (t ∷ ts) (u ∷ us) r s e l = let f : ts ++ r ≡ us ++ s = cc in tail_same ts us r s f l

pub front_same : (ts us : List Lexeme) (r : List Lexeme) → ts ++ r ≡ us ++ r → ts ≡ us
front_same [] [] r e = refl
front_same [] (u ∷ us) r e = let h : length r ≡ suc (length (us ++ r)) = ap length e in absurd (omega (arith, h, length-append us r))
front_same (t ∷ ts) [] r e = let h : suc (length (ts ++ r)) ≡ length r = ap length e in absurd (omega (arith, h, length-append ts r))
front_same (t ∷ ts) (u ∷ us) r e =
    let f : ts ++ r ≡ us ++ r = cc in
    let g : t ≡ u = cc in
    ap (λ x. x ∷ ts) g ∙ ap (λ x. u ∷ x) (front_same ts us r f)

-- the first token and what stands behind it decide no more than the first token
pub front_of : (test : Lexeme → Bool) (ts : List Lexeme) (x : Lexeme) (r s : List Lexeme) → front_is test (ts ++ x ∷ r) ≡ front_is test (ts ++ x ∷ s)
front_of test [] x r s = refl
front_of test (t ∷ ts) x r s = refl

pub front_as_of : {B : Type 0} (c : Lexeme → Option B) (ts : List Lexeme) (x : Lexeme) (r s : List Lexeme) → front_as c (ts ++ x ∷ r) ≡ front_as c (ts ++ x ∷ s)
front_as_of c [] x r s = refl
front_as_of c (t ∷ ts) x r s = refl

-- ---- outcomes

pub bind_ok : {A B : Type 0} (o : Outcome A) (f : A → Reader B) (y : B × Input) → and_then o f ≡ Ok y
    → (x : A) × (i : Input) × (o ≡ Ok (x, i)) × (f x i ≡ Ok y)
bind_ok (Ok p) f y h = (p.0, p.1, refl, h)
bind_ok (Err e) f y h = absurd cc

pub bind_stop : {A B : Type 0} (o : Outcome A) (f : A → Reader B) (k : ℕ) → and_then o f ≡ Err (Stop k)
    → (o ≡ Err (Stop k)) ⊎ ((x : A) × (i : Input) × (o ≡ Ok (x, i)) × (f x i ≡ Err (Stop k)))
bind_stop (Ok p) f k h = inr (p.0, p.1, refl, h)
bind_stop (Err e) f k h = let g : e ≡ Stop k = cc in inl (ap Err g)

pub bind_known : {A B : Type 0} (o : Outcome A) (f : A → Reader B) (x : A) (i : Input) → o ≡ Ok (x, i) → and_then o f ≡ f x i
bind_known o f x i h = ap (λ o. and_then o f) h

pub bind_stopped : {A B : Type 0} (o : Outcome A) (f : A → Reader B) (k : ℕ) → o ≡ Err (Stop k) → and_then o f ≡ Err (Stop k)
bind_stopped o f k h = ap (λ o. and_then o f) h

pub bind_read : {A B : Type 0} (o : Outcome A) (f : A → Reader B) (a : A) (i : Input) (b : B) (j : Input) → IsRead o a i
    → IsRead (f a i) b j → IsRead (and_then o f) b j
bind_read (Ok p) f a i b j h g = subst (λ (p : _). IsRead (f p.0 p.1) b j) (sym h) g
bind_read (Err (Stop k)) f a i b j h g = absurd h
bind_read (Err OutOfTurns) f a i b j h g = tt
bind_read (Err Memory) f a i b j h g = absurd h

pub read_is : {A : Type 0} (o : Outcome A) (a : A) (j : Input) → o ≡ Ok (a, j) → IsRead o a j
read_is o a j h = subst (λ (o : _). IsRead o a j) (sym h) refl

pub read_as : {A : Type 0} (o q : Outcome A) (a : A) (j : Input) → o ≡ q → IsRead q a j → IsRead o a j
read_as o q a j h g = subst (λ (o : _). IsRead o a j) (sym h) g
