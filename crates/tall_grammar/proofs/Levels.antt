-- Expressions are read exactly.
use Rattle.std.proofs.Common.{◌≡◌, ℕ, suc, zero, Bool, true, false, List, [], ◌∷◌, ◌++◌, Some, None, refl, sym, ap, ◌∙◌, subst}
use Rattle.std.specs.Prelude.{codes, if◌then◌else◌}
use Rattle.tall_grammar.specs.declared.expressions.Infix.{Infix}
use Rattle.tall_grammar.specs.declared.expressions.Infix.TheVariants.{Or, And}
use Rattle.tall_grammar.specs.Lexemes.{Lexeme, sign, name_token, is_text}
use Rattle.tall_grammar.specs.Trees.{Tree, tree, name, joined}
use Rattle.tall_grammar.specs.Grammar.{IsExpr, one_conj, or_conj, IsConj, one_cmp, and_cmp, IsCmp, one_sum, compared_sum, IsSum, one_prod, added_prod, IsProd, one_pre, multiplied_pre, IsPre, one_post, one_primary, a_name}
use Rattle.tall_grammar.specs.Kept.{Kept}
use Rattle.tall_grammar.specs.Readers.{Reader, operator_of}
use Rattle.tall_grammar.specs.ExprReader.{operators, post, level, expr_within}
use Rattle.tall_grammar.proofs.Exact.{Exact}
use Rattle.tall_grammar.proofs.Combine.{exact_as, exact_tired}
use Rattle.tall_grammar.proofs.Signs.{Among, AllGive, given_among, operator_is, multiplicative_is, additive_is, comparison_is, one_text_is, same_text}
use Rattle.tall_grammar.proofs.Operands.{Held, held, held_as, goes_post}
use Rattle.tall_grammar.proofs.Posts.{exact_post}
use Rattle.tall_grammar.proofs.Chains.{goes_chain, LeftChain, one_part, more_parts, exact_pre, exact_level}

-- which tokens would go on behind an expression of each level
abbrev pub goes_level : ℕ → Lexeme → Bool
goes_level zero = goes_post
goes_level (suc n) = goes_chain (operators n) (goes_level n)

abbrev pub goes_expr : Lexeme → Bool
goes_expr = goes_level 5

-- the operators of a level are among these, which belong to no level that binds more
apart_by : (n : ℕ) (xs : List (List ℕ)) → ((s : List ℕ) (o : Infix) → operators n s ≡ Some o → Among xs s) → AllGive (goes_level n) false 1 xs → ((p : ℕ) (s : List ℕ) → goes_level n (sign p s) ≡ goes_level n (sign 1 s))
    → (t : Lexeme) (o : Infix) → operator_of (operators n) t ≡ Some o → goes_level n t ≡ false
apart_by n xs among all lines t o h =
    let p = operator_is (operators n) t o h in
    ap (goes_level n) p.0 ∙ (lines t.line t.text ∙ given_among (goes_level n) false 1 xs t.text (among t.text o p.1) all)

one_value : (s x : List ℕ) (a o : Infix) → (if is_text s x then Some a else None) ≡ Some o → (s ≡ x) × (o ≡ a)
one_value s x a o h = (elim (is_text s x) as (λ b. is_text s x ≡ b → (if b then Some a else None) ≡ Some o → (s ≡ x) × (o ≡ a)) [
  | true ↦ λ e h. (same_text s x e, let g : o ≡ a = cc in g)
  | false ↦ λ e h. absurd cc
]) refl h

-- ---- each level as a chain

module _ (l : ℕ) where
  prod_there : (m : ℕ) (ts : List Lexeme) (e : Tree) (n : ℕ) → LeftChain l (operators 0) (IsPre l) m ts e n → IsProd l m ts e n
  prod_there m ts e n (one_part m1 n1 ts1 e1 r) = one_pre l m1 n1 ts1 e1 r
  prod_there m ts e n (more_parts m1 k1 n1 p s o ts1 us e1 f r h y) = multiplied_pre l m1 k1 n1 p s o ts1 us e1 f (prod_there m1 ts1 e1 k1 r) h y

  sum_there : (m : ℕ) (ts : List Lexeme) (e : Tree) (n : ℕ) → LeftChain l (operators 1) (IsProd l) m ts e n → IsSum l m ts e n
  sum_there m ts e n (one_part m1 n1 ts1 e1 r) = one_prod l m1 n1 ts1 e1 r
  sum_there m ts e n (more_parts m1 k1 n1 p s o ts1 us e1 f r h y) = added_prod l m1 k1 n1 p s o ts1 us e1 f (sum_there m1 ts1 e1 k1 r) h y

  cmp_there : (m : ℕ) (ts : List Lexeme) (e : Tree) (n : ℕ) → LeftChain l (operators 2) (IsSum l) m ts e n → IsCmp l m ts e n
  cmp_there m ts e n (one_part m1 n1 ts1 e1 r) = one_sum l m1 n1 ts1 e1 r
  cmp_there m ts e n (more_parts m1 k1 n1 p s o ts1 us e1 f r h y) = compared_sum l m1 k1 n1 p s o ts1 us e1 f (cmp_there m1 ts1 e1 k1 r) h y

  conj_there : (m : ℕ) (ts : List Lexeme) (e : Tree) (n : ℕ) → LeftChain l (operators 3) (IsCmp l) m ts e n → IsConj l m ts e n
  conj_there m ts e n (one_part m1 n1 ts1 e1 r) = one_cmp l m1 n1 ts1 e1 r
  conj_there m ts e n (more_parts m1 k1 n1 p s o ts1 us e1 f r h y) =
      let v = one_value s (codes "&") And o h in
      subst (λ (s : List ℕ). IsConj l m1 (ts1 ++ sign p s ∷ us) (tree n1 l (joined o e1 f)) (suc n1)) (sym v.0)
      (subst (λ (o : Infix). IsConj l m1 (ts1 ++ sign p (codes "&") ∷ us) (tree n1 l (joined o e1 f)) (suc n1)) (sym v.1) (and_cmp l m1 k1 n1 p ts1 us e1 f (conj_there m1 ts1 e1 k1 r) y))

  expr_there : (m : ℕ) (ts : List Lexeme) (e : Tree) (n : ℕ) → LeftChain l (operators 4) (IsConj l) m ts e n → IsExpr l m ts e n
  expr_there m ts e n (one_part m1 n1 ts1 e1 r) = one_conj l m1 n1 ts1 e1 r
  expr_there m ts e n (more_parts m1 k1 n1 p s o ts1 us e1 f r h y) =
      let v = one_value s (codes "|") Or o h in
      subst (λ (s : List ℕ). IsExpr l m1 (ts1 ++ sign p s ∷ us) (tree n1 l (joined o e1 f)) (suc n1)) (sym v.0)
      (subst (λ (o : Infix). IsExpr l m1 (ts1 ++ sign p (codes "|") ∷ us) (tree n1 l (joined o e1 f)) (suc n1)) (sym v.1) (or_conj l m1 k1 n1 p ts1 us e1 f (expr_there m1 ts1 e1 k1 r) y))

prod_back : (l m : ℕ) (ts : List Lexeme) (e : Tree) (n : ℕ) → IsProd l m ts e n → LeftChain l (operators 0) (IsPre l) m ts e n
prod_back l m ts e n (one_pre l1 m1 n1 ts1 e1 r) = one_part m1 n1 ts1 e1 r
prod_back l m ts e n (multiplied_pre l1 m1 k1 n1 p s o ts1 us e1 f r h y) = more_parts m1 k1 n1 p s o ts1 us e1 f (prod_back l1 m1 ts1 e1 k1 r) h y

sum_back : (l m : ℕ) (ts : List Lexeme) (e : Tree) (n : ℕ) → IsSum l m ts e n → LeftChain l (operators 1) (IsProd l) m ts e n
sum_back l m ts e n (one_prod l1 m1 n1 ts1 e1 r) = one_part m1 n1 ts1 e1 r
sum_back l m ts e n (added_prod l1 m1 k1 n1 p s o ts1 us e1 f r h y) = more_parts m1 k1 n1 p s o ts1 us e1 f (sum_back l1 m1 ts1 e1 k1 r) h y

cmp_back : (l m : ℕ) (ts : List Lexeme) (e : Tree) (n : ℕ) → IsCmp l m ts e n → LeftChain l (operators 2) (IsSum l) m ts e n
cmp_back l m ts e n (one_sum l1 m1 n1 ts1 e1 r) = one_part m1 n1 ts1 e1 r
cmp_back l m ts e n (compared_sum l1 m1 k1 n1 p s o ts1 us e1 f r h y) = more_parts m1 k1 n1 p s o ts1 us e1 f (cmp_back l1 m1 ts1 e1 k1 r) h y

conj_back : (l m : ℕ) (ts : List Lexeme) (e : Tree) (n : ℕ) → IsConj l m ts e n → LeftChain l (operators 3) (IsCmp l) m ts e n
conj_back l m ts e n (one_cmp l1 m1 n1 ts1 e1 r) = one_part m1 n1 ts1 e1 r
conj_back l m ts e n (and_cmp l1 m1 k1 n1 p ts1 us e1 f r y) = more_parts m1 k1 n1 p (codes "&") And ts1 us e1 f (conj_back l1 m1 ts1 e1 k1 r) refl y

expr_back : (l m : ℕ) (ts : List Lexeme) (e : Tree) (n : ℕ) → IsExpr l m ts e n → LeftChain l (operators 4) (IsConj l) m ts e n
expr_back l m ts e n (one_conj l1 m1 n1 ts1 e1 r) = one_part m1 n1 ts1 e1 r
expr_back l m ts e n (or_conj l1 m1 k1 n1 p ts1 us e1 f r y) = more_parts m1 k1 n1 p (codes "|") Or ts1 us e1 f (expr_back l1 m1 ts1 e1 k1 r) refl y

-- ---- the levels

module _ (expr : ℕ → Reader (Kept Tree)) (k : ℕ) (inner : (l : ℕ) → Exact (Held (IsExpr l)) goes_expr (expr l)) where
  exact_pres : (l : ℕ) → Exact (Held (IsPre l)) (goes_level 0) (level expr k l 0)
  unfolding level
  exact_pres l = exact_pre l k (post expr k l) (exact_post expr k goes_expr inner (λ p. refl) (λ p. refl) l)

  exact_prods : (l : ℕ) → Exact (Held (IsProd l)) (goes_level 1) (level expr k l 1)
  unfolding level
  exact_prods l =
      exact_as (Held (LeftChain l (operators 0) (IsPre l))) (Held (IsProd l))
      (exact_level l (operators 0) (IsPre l) (goes_level 0) (level expr k l 0) (exact_pres l) (apart_by 0 _ multiplicative_is (refl, (refl, (refl, (refl, tt)))) (λ p s. refl)) k)
      (held_as (LeftChain l (operators 0) (IsPre l)) (IsProd l) (prod_there l)) (held_as (IsProd l) (LeftChain l (operators 0) (IsPre l)) (prod_back l))

  exact_sums : (l : ℕ) → Exact (Held (IsSum l)) (goes_level 2) (level expr k l 2)
  unfolding level
  exact_sums l =
      exact_as (Held (LeftChain l (operators 1) (IsProd l))) (Held (IsSum l))
      (exact_level l (operators 1) (IsProd l) (goes_level 1) (level expr k l 1) (exact_prods l) (apart_by 1 _ additive_is (refl, (refl, tt)) (λ p s. refl)) k)
      (held_as (LeftChain l (operators 1) (IsProd l)) (IsSum l) (sum_there l)) (held_as (IsSum l) (LeftChain l (operators 1) (IsProd l)) (sum_back l))

  exact_cmps : (l : ℕ) → Exact (Held (IsCmp l)) (goes_level 3) (level expr k l 3)
  unfolding level
  exact_cmps l =
      exact_as (Held (LeftChain l (operators 2) (IsSum l))) (Held (IsCmp l))
      (exact_level l (operators 2) (IsSum l) (goes_level 2) (level expr k l 2) (exact_sums l) (apart_by 2 _ comparison_is (refl, (refl, (refl, (refl, (refl, (refl, tt)))))) (λ p s. refl)) k)
      (held_as (LeftChain l (operators 2) (IsSum l)) (IsCmp l) (cmp_there l)) (held_as (IsCmp l) (LeftChain l (operators 2) (IsSum l)) (cmp_back l))

  exact_conjs : (l : ℕ) → Exact (Held (IsConj l)) (goes_level 4) (level expr k l 4)
  unfolding level
  exact_conjs l =
      exact_as (Held (LeftChain l (operators 3) (IsCmp l))) (Held (IsConj l))
      (exact_level l (operators 3) (IsCmp l) (goes_level 3) (level expr k l 3) (exact_cmps l) (apart_by 3 _ (λ s o h. one_text_is s (codes "&") And o h) (refl, tt) (λ p s. refl)) k)
      (held_as (LeftChain l (operators 3) (IsCmp l)) (IsConj l) (conj_there l)) (held_as (IsConj l) (LeftChain l (operators 3) (IsCmp l)) (conj_back l))

  exact_exprs : (l : ℕ) → Exact (Held (IsExpr l)) (goes_level 5) (level expr k l 5)
  unfolding level
  exact_exprs l =
      exact_as (Held (LeftChain l (operators 4) (IsConj l))) (Held (IsExpr l))
      (exact_level l (operators 4) (IsConj l) (goes_level 4) (level expr k l 4) (exact_conjs l) (apart_by 4 _ (λ s o h. one_text_is s (codes "|") Or o h) (refl, tt) (λ p s. refl)) k)
      (held_as (LeftChain l (operators 4) (IsConj l)) (IsExpr l) (expr_there l)) (held_as (IsExpr l) (LeftChain l (operators 4) (IsConj l)) (expr_back l))

pub a_name_alone : (l m p : ℕ) (s : List ℕ) → IsExpr l m (name_token p s ∷ []) (tree m l (name s)) (suc m)
a_name_alone l m p s = one_conj _ _ _ _ _ (one_cmp _ _ _ _ _ (one_sum _ _ _ _ _ (one_prod _ _ _ _ _ (one_pre _ _ _ _ _ (one_post _ _ _ _ _ (one_primary _ _ _ _ _ (a_name l m p s)))))))

pub exact_expr : (k d l : ℕ) → Exact (Held (IsExpr l)) goes_expr (expr_within k d l)
unfolding expr_within
exact_expr k zero l = exact_tired (Held (IsExpr l)) goes_expr (λ m. record { tokens = name_token 1 [] ∷ []; value = _; next = suc m; holds = held m (suc m) _ _ (a_name_alone l m 1 []) })
exact_expr k (suc d) l = exact_exprs (expr_within k d) k (λ l. exact_expr k d l) l
