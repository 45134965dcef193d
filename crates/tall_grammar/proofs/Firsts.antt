-- With which tokens expressions begin.
use Rattle.std.proofs.Common.{◌≡◌, ℕ, Bool, false, List, [], ◌∷◌, ◌++◌, Some, refl, ap, ◌∙◌}
use Rattle.std.specs.Prelude.{codes}
use Rattle.tall_grammar.specs.declared.expressions.Prefix.{Prefix}
use Rattle.tall_grammar.specs.Lexemes.{Lexeme, sign, name_token, number_token, text_token, prefix_sign}
use Rattle.tall_grammar.specs.Trees.{Tree}
use Rattle.tall_grammar.specs.Grammar.{IsExpr, one_conj, or_conj, IsConj, one_cmp, and_cmp, IsCmp, one_sum, compared_sum, IsSum, one_prod, added_prod, IsProd, one_pre, multiplied_pre, IsPre, one_post, prefixed_pre, IsPost, one_primary, member_of, call_of, IsPrimary, a_number, a_text, a_name, inside, a_list, a_handle, in_braces, in_brackets}
use Rattle.tall_grammar.specs.Readers.{front_is}

-- no operand begins with these tokens
pub record NoOperand (test : Lexeme → Bool) : Type 0 where
  pub numbers : (p : ℕ) (s : List ℕ) → test (number_token p s) ≡ false
  pub texts : (p : ℕ) (s : List ℕ) → test (text_token p s) ≡ false
  pub names : (p : ℕ) (s : List ℕ) → test (name_token p s) ≡ false
  pub paren : (p : ℕ) → test (sign p (codes "(")) ≡ false
  pub brace : (p : ℕ) → test (sign p (codes "{")) ≡ false
  pub bracket : (p : ℕ) → test (sign p (codes "[")) ≡ false
  pub at_sign : (p : ℕ) → test (sign p (codes "@")) ≡ false

-- no expression begins with these tokens
pub record NoExpr (test : Lexeme → Bool) : Type 0 where
  pub operand : NoOperand test
  pub prefixes : (p : ℕ) (s : List ℕ) (o : Prefix) → prefix_sign s ≡ Some o → test (sign p s) ≡ false

-- there are tokens, and the first doesn't pass
pub record First (test : Lexeme → Bool) (ts : List Lexeme) : Type 0 where
  pub token : Lexeme
  pub others : List Lexeme
  pub text : ts ≡ token ∷ others
  pub fails : test token ≡ false

pub first_front : (test : Lexeme → Bool) (ts rest : List Lexeme) → First test ts → front_is test (ts ++ rest) ≡ false
first_front test ts rest f = ap (λ w. front_is test (w ++ rest)) f.text ∙ f.fails

pub first_more : (test : Lexeme → Bool) (ts us : List Lexeme) → First test ts → First test (ts ++ us)
first_more test ts us f = record { token = f.token; others = f.others ++ us; text = ap (λ w. w ++ us) f.text; fails = f.fails }

pub first_of_primary : (test : Lexeme → Bool) → NoOperand test → (l m : ℕ) (ts : List Lexeme) (e : Tree) (n : ℕ) → IsPrimary l m ts e n → First test ts
first_of_primary test free l m ts e n (a_number l1 m1 p s) = record { token = number_token p s; others = []; text = refl; fails = free.numbers p s }
first_of_primary test free l m ts e n (a_text l1 m1 p s) = record { token = text_token p s; others = []; text = refl; fails = free.texts p s }
first_of_primary test free l m ts e n (a_name l1 m1 p s) = record { token = name_token p s; others = []; text = refl; fails = free.names p s }
first_of_primary test free l m ts e n (inside l1 m1 n1 p q us e1 r) = record { token = sign p (codes "("); others = us ++ sign q (codes ")") ∷ []; text = refl; fails = free.paren p }
first_of_primary test free l m ts e n (a_list l1 m1 n1 us e1 (in_braces l2 m2 n2 p q vs es r)) = record { token = sign p (codes "{"); others = vs ++ sign q (codes "}") ∷ []; text = refl; fails = free.brace p }
first_of_primary test free l m ts e n (a_list l1 m1 n1 us e1 (in_brackets l2 m2 n2 p q u s vs es r)) =
    record { token = sign p (codes "["); others = text_token u s ∷ (vs ++ sign q (codes "]") ∷ []); text = refl; fails = free.bracket p }
first_of_primary test free l m ts e n (a_handle l1 m1 p q s) = record { token = sign p (codes "@"); others = name_token q s ∷ []; text = refl; fails = free.at_sign p }

pub first_of_post : (test : Lexeme → Bool) → NoOperand test → (l m : ℕ) (ts : List Lexeme) (e : Tree) (n : ℕ) → IsPost l m ts e n → First test ts
first_of_post test free l m ts e n (one_primary l1 m1 n1 ts1 e1 r) = first_of_primary test free l1 m1 ts1 e1 n1 r
first_of_post test free l m ts e n (member_of l1 m1 n1 p q s ts1 e1 r) = first_more test ts1 _ (first_of_post test free l1 m1 ts1 e1 n1 r)
first_of_post test free l m ts e n (call_of l1 m1 k1 n1 p q ts1 us e1 args r a) = first_more test ts1 _ (first_of_post test free l1 m1 ts1 e1 k1 r)

pub first_of_pre : (test : Lexeme → Bool) → NoExpr test → (l m : ℕ) (ts : List Lexeme) (e : Tree) (n : ℕ) → IsPre l m ts e n → First test ts
first_of_pre test free l m ts e n (one_post l1 m1 n1 ts1 e1 r) = first_of_post test free.operand l1 m1 ts1 e1 n1 r
first_of_pre test free l m ts e n (prefixed_pre l1 m1 n1 p s o ts1 e1 h r) = record { token = sign p s; others = ts1; text = refl; fails = free.prefixes p s o h }

pub first_of_prod : (test : Lexeme → Bool) → NoExpr test → (l m : ℕ) (ts : List Lexeme) (e : Tree) (n : ℕ) → IsProd l m ts e n → First test ts
first_of_prod test free l m ts e n (one_pre l1 m1 n1 ts1 e1 r) = first_of_pre test free l1 m1 ts1 e1 n1 r
first_of_prod test free l m ts e n (multiplied_pre l1 m1 k1 n1 p s o ts1 us e1 f r h q) = first_more test ts1 _ (first_of_prod test free l1 m1 ts1 e1 k1 r)

pub first_of_sum : (test : Lexeme → Bool) → NoExpr test → (l m : ℕ) (ts : List Lexeme) (e : Tree) (n : ℕ) → IsSum l m ts e n → First test ts
first_of_sum test free l m ts e n (one_prod l1 m1 n1 ts1 e1 r) = first_of_prod test free l1 m1 ts1 e1 n1 r
first_of_sum test free l m ts e n (added_prod l1 m1 k1 n1 p s o ts1 us e1 f r h q) = first_more test ts1 _ (first_of_sum test free l1 m1 ts1 e1 k1 r)

pub first_of_cmp : (test : Lexeme → Bool) → NoExpr test → (l m : ℕ) (ts : List Lexeme) (e : Tree) (n : ℕ) → IsCmp l m ts e n → First test ts
first_of_cmp test free l m ts e n (one_sum l1 m1 n1 ts1 e1 r) = first_of_sum test free l1 m1 ts1 e1 n1 r
first_of_cmp test free l m ts e n (compared_sum l1 m1 k1 n1 p s o ts1 us e1 f r h q) = first_more test ts1 _ (first_of_cmp test free l1 m1 ts1 e1 k1 r)

pub first_of_conj : (test : Lexeme → Bool) → NoExpr test → (l m : ℕ) (ts : List Lexeme) (e : Tree) (n : ℕ) → IsConj l m ts e n → First test ts
first_of_conj test free l m ts e n (one_cmp l1 m1 n1 ts1 e1 r) = first_of_cmp test free l1 m1 ts1 e1 n1 r
first_of_conj test free l m ts e n (and_cmp l1 m1 k1 n1 p ts1 us e1 f r q) = first_more test ts1 _ (first_of_conj test free l1 m1 ts1 e1 k1 r)

pub first_of_expr : (test : Lexeme → Bool) → NoExpr test → (l m : ℕ) (ts : List Lexeme) (e : Tree) (n : ℕ) → IsExpr l m ts e n → First test ts
first_of_expr test free l m ts e n (one_conj l1 m1 n1 ts1 e1 r) = first_of_conj test free l1 m1 ts1 e1 n1 r
first_of_expr test free l m ts e n (or_conj l1 m1 k1 n1 p ts1 us e1 f r q) = first_more test ts1 _ (first_of_expr test free l1 m1 ts1 e1 k1 r)
