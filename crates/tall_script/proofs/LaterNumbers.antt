-- The numbers of a statement are above those of the statements before it.
use Rattle.std.proofs.Common.{◌≡◌, ℕ, suc, ◌≤◌, ◌<◌, List, [], ◌∷◌, ◌++◌, refl, ap, sym, ◌∙◌, subst, arith}
use Rattle.std.proofs.lemmas.List.{append_assoc}
use Rattle.std.proofs.lemmas.List.Elements.{All-nil, All-cons, All-head, All-tail}
use Rattle.std.specs.List.{All}
use Rattle.tall_grammar.specs.Grammar.{IsScript}
use Rattle.tall_grammar.specs.Lexemes.{Lexeme}
use Rattle.tall_grammar.specs.Trees.{SeenStatement, SeenScript}
use Rattle.tall_script.specs.NumberLaws.{numbers_of_body, numbers_of_statements, numbers_of_functions, AreInTurn, AreBelow}
use Rattle.tall_script.proofs.NumbersInTurn.{script_in_turn}

-- in two parts
pub parted : (m n : ℕ) (xs ys : List ℕ) → AreInTurn m (xs ++ ys) n → (k : ℕ) × AreInTurn m xs k × AreInTurn k ys n
parted m n [] ys h = (m, refl, h)
parted m n (x ∷ xs) ys h = (let w = parted (suc m) n xs ys h.1 in (w.0, (h.0, w.1), w.2))

pub up_to : (m n : ℕ) (xs : List ℕ) → AreInTurn m xs n → (m ≤ n) × All (λ x. x < n) xs
up_to m n [] h = (at_most m n h, All-nil (λ x. x < n)) where
  at_most : (a b : ℕ) → a ≡ b → a ≤ b
  at_most a b e = omega (arith, e)
up_to m n (x ∷ xs) h =
    (let w = up_to (suc m) n xs h.1 in (omega (arith, w.0), All-cons (λ x. x < n) x xs (below x m n h.0 w.0) w.1)) where
      below : (a b c : ℕ) → a ≡ b → suc b ≤ c → a < c
      below a b c e h = omega (arith, e, h)

from_on : (k m n : ℕ) (xs : List ℕ) → k ≤ m → AreInTurn m xs n → All (λ x. k ≤ x) xs
from_on k m n [] l h = All-nil (λ x. k ≤ x)
from_on k m n (x ∷ xs) l h = All-cons (λ x. k ≤ x) x xs (above k m x l h.0) (from_on k (suc m) n xs (omega (arith, l)) h.1) where
  above : (a b c : ℕ) → a ≤ b → c ≡ b → a ≤ c
  above a b c l e = omega (arith, l, e)

each_below : (k m : ℕ) (ys : List ℕ) → m < k → All (λ y. k ≤ y) ys → All (λ y. m < y) ys
each_below k m [] l h = All-nil (λ y. m < y)
each_below k m (y ∷ ys) l h =
    All-cons (λ y. m < y) y ys (less k m y l (All-head (λ y. k ≤ y) y ys h)) (each_below k m ys l (All-tail (λ y. k ≤ y) y ys h)) where
      less : (a b c : ℕ) → b < a → a ≤ c → b < c
      less a b c l h = omega (arith, l, h)

all_below : (k : ℕ) (xs ys : List ℕ) → All (λ x. x < k) xs → All (λ y. k ≤ y) ys → AreBelow xs ys
all_below k [] ys h i = All-nil (λ m. All (λ n. m < n) ys)
all_below k (x ∷ xs) ys h i =
    All-cons (λ m. All (λ n. m < n) ys) x xs (each_below k x ys (All-head (λ x. x < k) x xs h) i) (all_below k xs ys (All-tail (λ x. x < k) x xs h) i)

joined : (front rest : List SeenStatement) → numbers_of_statements (front ++ rest) ≡ numbers_of_statements front ++ numbers_of_statements rest
joined [] rest = refl
joined (b ∷ front) rest = ap (λ ns. numbers_of_body b.form ++ ns) (joined front rest) ∙ sym (append_assoc (numbers_of_body b.form) (numbers_of_statements front) (numbers_of_statements rest))

pub later_above : (ts : List Lexeme) (p : SeenScript) (front rest : List SeenStatement) (entry : SeenStatement) → IsScript ts p → p.statements ≡ front ++ entry ∷ rest
    → AreBelow (numbers_of_statements front) (numbers_of_body entry.form)
later_above ts p front rest entry h e =
    let w = script_in_turn ts p h in
    let first = parted 1 w.0 (numbers_of_statements p.statements) (numbers_of_functions p.functions) w.1 in
    let turn : AreInTurn 1 (numbers_of_statements front ++ (numbers_of_body entry.form ++ numbers_of_statements rest)) first.0 =
    subst (λ ns. AreInTurn 1 ns first.0) (ap (λ bs. numbers_of_statements bs) e ∙ joined front (entry ∷ rest)) first.1 in
    let second = parted 1 first.0 (numbers_of_statements front) (numbers_of_body entry.form ++ numbers_of_statements rest) turn in
    let third = parted second.0 first.0 (numbers_of_body entry.form) (numbers_of_statements rest) second.2 in
    all_below second.0 (numbers_of_statements front) (numbers_of_body entry.form) (up_to 1 second.0 (numbers_of_statements front) second.1).1
    (from_on second.0 second.0 third.0 (numbers_of_body entry.form) (itself second.0) third.1) where
      itself : (n : ℕ) → n ≤ n
      itself n = omega arith
