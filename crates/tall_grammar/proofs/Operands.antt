-- Operands are read exactly: primaries, arguments, and what stands behind an operand.
use Rattle.std.proofs.Common.{◌≡◌, ℕ, suc, Bool, true, false, ◌||◌, List, [], ◌∷◌, ◌++◌, refl, sym, ap, ◌∙◌, subst}
use Rattle.std.specs.Prelude.{codes}
use Rattle.tall_grammar.specs.Lexemes.{Lexeme, sign, name_token, number_token, text_token, is_the_sign, number_value, text_value}
use Rattle.tall_grammar.specs.Trees.{Tree, tree, number, text, name, handle, list, and_tree}
use Rattle.tall_grammar.specs.Grammar.{IsExpr, IsPrimary, a_number, a_text, a_name, inside, a_list, a_handle, in_braces, in_brackets, AreListed}
use Rattle.tall_grammar.specs.Kept.{Kept, kept, leaf}
use Rattle.tall_grammar.specs.Readers.{Reader, ◌>>=◌, pure, front_is, take_text, is_text_token, is_number, is_name, numbered, text_if, expect_sign}
use Rattle.tall_grammar.specs.ExprReader.{list_in_braces, list_in_brackets, in_parentheses, signed_primary, primary}
use Rattle.tall_grammar.proofs.Exact.{Rule, Exact}
use Rattle.tall_grammar.proofs.Combine.{IsPure, is_pure, IsNumbered, is_numbered, IsTaken, is_taken, Seq, seq, Either, one, other, IsGivenIf, with_token, without_token, Passes, passes, exact_as, exact_pure, exact_numbered, exact_bind, exact_peek, exact_take, exact_given_if}
use Rattle.tall_grammar.proofs.Signs.{sign_is, text_is, name_is, number_is, text_if_is, is_text_if, exact_expect}
use Rattle.tall_grammar.proofs.Lists.{nothing, none_of_nothing}
use Rattle.tall_grammar.proofs.Texts.{Bracketed, bracketed, BracketTexts, bracket_texts, exact_brackets, exact_braces}

-- what is kept of what a rule has
pub data Held (R : Rule Tree) : ℕ → List Lexeme → Kept Tree → ℕ → Type 0 where
  held : (m n : ℕ) (ts : List Lexeme) (e : Tree) → R m ts e n → Held R m ts (kept e) n

pub held_as : (R S : Rule Tree) → ((m : ℕ) (ts : List Lexeme) (e : Tree) (n : ℕ) → R m ts e n → S m ts e n)
    → (m : ℕ) (ts : List Lexeme) (a : Kept Tree) (n : ℕ) → Held R m ts a n → Held S m ts a n
held_as R S f m ts a n (held m1 n1 ts1 e r) = held m1 n1 ts1 e (f m1 ts1 e n1 r)

-- ---- one token that is an operand

pub data LeafRule (test : Lexeme → Bool) (f : List ℕ → ℕ → Kept Tree) : ℕ → List Lexeme → Kept Tree → ℕ → Type 0 where
  leaf_rule : (m : ℕ) (t : Lexeme) → test t ≡ true → LeafRule test f m (t ∷ []) (f t.text m) (suc m)

exact_leaf : (test : Lexeme → Bool) (f : List ℕ → ℕ → Kept Tree) (t : Lexeme) → test t ≡ true → Exact (LeafRule test f) nothing (take_text test >>= (λ s. numbered (f s)))
exact_leaf test f t h =
    exact_as (Seq (IsTaken (text_if test)) (λ s. IsNumbered (f s))) (LeafRule test f)
    (exact_bind (take_text test) (λ s. numbered (f s)) (exact_take nothing (text_if test) t t.text (is_text_if test t h)) (λ s. exact_numbered nothing (f s)) (λ a k us b n rest r h. none_of_nothing (us ++ rest)))
    (there test f) (back test f) where
      there : (test : Lexeme → Bool) (f : List ℕ → ℕ → Kept Tree) (m : ℕ) (ts : List Lexeme) (e : Kept Tree) (n : ℕ) → Seq (IsTaken (text_if test)) (λ s. IsNumbered (f s)) m ts e n → LeafRule test f m ts e n
      there test f m all e n (seq m1 k n1 ts us s e1 (is_taken m2 t s1 h) (is_numbered m3)) =
          let p = text_if_is test t s1 h in subst (λ (x : List ℕ). LeafRule test f m3 (t ∷ []) (f x m3) (suc m3)) p.1 (leaf_rule m3 t p.0)

      back : (test : Lexeme → Bool) (f : List ℕ → ℕ → Kept Tree) (m : ℕ) (ts : List Lexeme) (e : Kept Tree) (n : ℕ) → LeafRule test f m ts e n → Seq (IsTaken (text_if test)) (λ s. IsNumbered (f s)) m ts e n
      back test f m ts e n (leaf_rule m1 t h) = seq m1 m1 (suc m1) (t ∷ []) [] t.text _ (is_taken m1 t t.text (is_text_if test t h)) (is_numbered m1)

-- what would go on behind an operand, and behind an expression
abbrev pub goes_post : Lexeme → Bool
goes_post t = is_the_sign (codes ".") t || is_the_sign (codes "(") t

module _ (expr : ℕ → Reader (Kept Tree)) (k : ℕ) (goes : Lexeme → Bool) (inner : (l : ℕ) → Exact (Held (IsExpr l)) goes (expr l))
    (none_closes : (p : ℕ) → goes (sign p (codes ")")) ≡ false) where
  -- ---- '(' expr ')'

  pub data Enclosed (l : ℕ) : ℕ → List Lexeme → Kept Tree → ℕ → Type 0 where
    enclosed : (m n p : ℕ) (ts : List Lexeme) (e : Tree) → IsExpr l m ts e n → Enclosed l m (ts ++ sign p (codes ")") ∷ []) (kept e) n

  exact_enclosed : (l : ℕ) → Exact (Enclosed l) nothing (in_parentheses expr k l)
  exact_enclosed l =
      exact_as (Seq (Held (IsExpr l)) (λ e. Seq (Passes (is_the_sign (codes ")"))) (λ _. IsPure e))) (Enclosed l)
      (exact_bind (expr l) (λ e. expect_sign (codes ")") >>= (λ _. pure e)) (inner l)
      (λ e. exact_bind (expect_sign (codes ")")) (λ _. pure e) (exact_expect nothing (is_the_sign (codes ")")) (sign 1 (codes ")")) refl) (λ _. exact_pure nothing e) (λ a k us b n rest r h. none_of_nothing (us ++ rest)))
      closes)
      there back where
        closes : (e : Kept Tree) (k : ℕ) (us : List Lexeme) (b : Kept Tree) (n : ℕ) (rest : List Lexeme) → Seq (Passes (is_the_sign (codes ")"))) (λ _. IsPure e) k us b n → front_is nothing rest ≡ false → front_is goes (us ++ rest) ≡ false
        closes e m all b n rest (seq m1 k1 n1 ts us c b1 (passes m2 t h) r) f = ap goes (sign_is (codes ")") t h) ∙ none_closes t.line

        there : (m : ℕ) (ts : List Lexeme) (a : Kept Tree) (n : ℕ) → Seq (Held (IsExpr l)) (λ e. Seq (Passes (is_the_sign (codes ")"))) (λ _. IsPure e)) m ts a n → Enclosed l m ts a n
        there m all a n (seq m1 k1 n1 ts us e a1 r q) = at_close m1 ts e k1 us a1 n1 r q where
          closed : (m : ℕ) (ts : List Lexeme) (e : Kept Tree) (n : ℕ) (t : Lexeme) → Held (IsExpr l) m ts e n → is_the_sign (codes ")") t ≡ true → Enclosed l m (ts ++ t ∷ []) e n
          closed m ts e n t (held m2 n2 ts2 e2 r) h = subst (λ (x : Lexeme). Enclosed l m2 (ts2 ++ x ∷ []) (kept e2) n2) (sym (sign_is (codes ")") t h)) (enclosed m2 n2 t.line ts2 e2 r)

          at_close : (m : ℕ) (ts : List Lexeme) (e : Kept Tree) (k : ℕ) (us : List Lexeme) (a : Kept Tree) (n : ℕ) → Held (IsExpr l) m ts e k → Seq (Passes (is_the_sign (codes ")"))) (λ _. IsPure e) k us a n → Enclosed l m (ts ++ us) a n
          at_close m ts e k us a n r (seq m3 k3 n3 ts3 us3 c a3 (passes m4 t h) (is_pure m5)) = closed m ts e m5 t r h

        back : (m : ℕ) (ts : List Lexeme) (a : Kept Tree) (n : ℕ) → Enclosed l m ts a n → Seq (Held (IsExpr l)) (λ e. Seq (Passes (is_the_sign (codes ")"))) (λ _. IsPure e)) m ts a n
        back m all a n (enclosed m1 n1 p ts e r) =
            seq m1 n1 n1 ts (sign p (codes ")") ∷ []) (kept e) _ (held m1 n1 ts e r) (seq n1 n1 n1 (sign p (codes ")") ∷ []) [] tt _ (passes n1 (sign p (codes ")")) refl) (is_pure n1))

  -- ---- '(' expr ')' | list | '@' name

  abbrev HandleRule : (l : ℕ) → Rule (Kept Tree)
  HandleRule l = Seq (Passes (is_the_sign (codes "@"))) (λ _. LeafRule is_name (λ s. leaf (handle s) l))

  abbrev SignedRule : (l : ℕ) → Rule (Kept Tree)
  SignedRule l = IsGivenIf (is_the_sign (codes "(")) (Enclosed l) (IsGivenIf (is_the_sign (codes "{")) (Bracketed l (codes "}") (AreListed l))
      (IsGivenIf (is_the_sign (codes "[")) (Bracketed l (codes "]") (BracketTexts l)) (HandleRule l)))

  -- the first token is a sign that isn't this one
  pub handle_first : (l : ℕ) (test : Lexeme → Bool) → ((p : ℕ) → test (sign p (codes "@")) ≡ false)
      → (m : ℕ) (ts : List Lexeme) (a : Kept Tree) (n : ℕ) (rest : List Lexeme) → HandleRule l m ts a n → front_is test (ts ++ rest) ≡ false
  handle_first l test at m all a n rest (seq m1 k1 n1 ts us c a1 (passes m2 t h) r) = ap test (sign_is (codes "@") t h) ∙ at t.line

  pub bracket_first : (l : ℕ) (test : Lexeme → Bool) → ((p : ℕ) → test (sign p (codes "@")) ≡ false) → ((p : ℕ) → test (sign p (codes "[")) ≡ false)
      → (m : ℕ) (ts : List Lexeme) (a : Kept Tree) (n : ℕ) (rest : List Lexeme) → IsGivenIf (is_the_sign (codes "[")) (Bracketed l (codes "]") (BracketTexts l)) (HandleRule l) m ts a n
      → front_is test (ts ++ rest) ≡ false
  bracket_first l test at bracket m all a n rest (with_token m1 n1 t ts a1 h r) = ap test (sign_is (codes "[") t h) ∙ bracket t.line
  bracket_first l test at bracket m all a n rest (without_token m1 n1 ts a1 r) = handle_first l test at m1 ts a1 n1 rest r

  pub brace_first : (l : ℕ) (test : Lexeme → Bool) → ((p : ℕ) → test (sign p (codes "@")) ≡ false) → ((p : ℕ) → test (sign p (codes "[")) ≡ false) → ((p : ℕ) → test (sign p (codes "{")) ≡ false)
      → (m : ℕ) (ts : List Lexeme) (a : Kept Tree) (n : ℕ) (rest : List Lexeme)
      → IsGivenIf (is_the_sign (codes "{")) (Bracketed l (codes "}") (AreListed l)) (IsGivenIf (is_the_sign (codes "[")) (Bracketed l (codes "]") (BracketTexts l)) (HandleRule l)) m ts a n
      → front_is test (ts ++ rest) ≡ false
  brace_first l test at bracket brace m all a n rest (with_token m1 n1 t ts a1 h r) = ap test (sign_is (codes "{") t h) ∙ brace t.line
  brace_first l test at bracket brace m all a n rest (without_token m1 n1 ts a1 r) = bracket_first l test at bracket m1 ts a1 n1 rest r

  pub signed_first : (l : ℕ) (test : Lexeme → Bool) → ((p : ℕ) → test (sign p (codes "@")) ≡ false) → ((p : ℕ) → test (sign p (codes "[")) ≡ false) → ((p : ℕ) → test (sign p (codes "{")) ≡ false)
      → ((p : ℕ) → test (sign p (codes "(")) ≡ false) → (m : ℕ) (ts : List Lexeme) (a : Kept Tree) (n : ℕ) (rest : List Lexeme) → SignedRule l m ts a n → front_is test (ts ++ rest) ≡ false
  signed_first l test at bracket brace paren m all a n rest (with_token m1 n1 t ts a1 h r) = ap test (sign_is (codes "(") t h) ∙ paren t.line
  signed_first l test at bracket brace paren m all a n rest (without_token m1 n1 ts a1 r) = brace_first l test at bracket brace m1 ts a1 n1 rest r

  exact_signed : (l : ℕ) → Exact (SignedRule l) nothing (signed_primary expr k l)
  exact_signed l =
      exact_given_if (is_the_sign (codes "(")) (in_parentheses expr k l) _ (exact_enclosed l)
      (exact_given_if (is_the_sign (codes "{")) (list_in_braces k l) _ (exact_braces k l)
      (exact_given_if (is_the_sign (codes "[")) (list_in_brackets k l) (expect_sign (codes "@") >>= (λ _. take_text is_name >>= (λ s. numbered (leaf (handle s) l)))) (exact_brackets k l)
      (exact_bind (expect_sign (codes "@")) (λ _. take_text is_name >>= (λ s. numbered (leaf (handle s) l))) (exact_expect nothing (is_the_sign (codes "@")) (sign 1 (codes "@")) refl)
      (λ _. exact_leaf is_name (λ s. leaf (handle s) l) (name_token 1 []) refl) (λ a k us b n rest r h. none_of_nothing (us ++ rest)))
      (λ m ts a n rest r h. handle_first l (is_the_sign (codes "[")) (λ p. refl) m ts a n rest r))
      (λ m ts a n rest r h. bracket_first l (is_the_sign (codes "{")) (λ p. refl) (λ p. refl) m ts a n rest r))
      (λ m ts a n rest r h. brace_first l (is_the_sign (codes "(")) (λ p. refl) (λ p. refl) (λ p. refl) m ts a n rest r)

  -- ---- primary

  abbrev NumberRule : (l : ℕ) → Rule (Kept Tree)
  NumberRule l = LeafRule is_number (λ s. leaf (number (number_value s)) l)

  abbrev TextRule : (l : ℕ) → Rule (Kept Tree)
  TextRule l = LeafRule is_text_token (λ s. leaf (text (text_value s)) l)

  abbrev NameRule : (l : ℕ) → Rule (Kept Tree)
  NameRule l = LeafRule is_name (λ s. leaf (name s) l)

  abbrev PrimaryRule : (l : ℕ) → Rule (Kept Tree)
  PrimaryRule l = Either (NumberRule l) (Either (TextRule l) (Either (NameRule l) (SignedRule l)))

  leaf_passes : (test : Lexeme → Bool) (f : List ℕ → ℕ → Kept Tree) (m : ℕ) (ts : List Lexeme) (a : Kept Tree) (n : ℕ) (rest : List Lexeme) → LeafRule test f m ts a n → front_is nothing rest ≡ false
      → front_is test (ts ++ rest) ≡ true
  leaf_passes test f m ts a n rest (leaf_rule m1 t h) g = h

  name_first : (l : ℕ) (test : Lexeme → Bool) → ((p : ℕ) (s : List ℕ) → test (name_token p s) ≡ false) → ((p : ℕ) (s : List ℕ) → test (sign p s) ≡ false)
      → (m : ℕ) (ts : List Lexeme) (a : Kept Tree) (n : ℕ) (rest : List Lexeme) → Either (NameRule l) (SignedRule l) m ts a n → front_is test (ts ++ rest) ≡ false
  name_first l test names signs m all a n rest (one m0 n0 ts0 a0 (leaf_rule m1 t h)) = ap test (name_is t h) ∙ names t.line t.text
  name_first l test names signs m all a n rest (other m0 n0 ts0 a0 r) =
      signed_first l test (λ p. signs p _) (λ p. signs p _) (λ p. signs p _) (λ p. signs p _) m0 ts0 a0 n0 rest r

  text_first : (l : ℕ) (test : Lexeme → Bool) → ((p : ℕ) (s : List ℕ) → test (text_token p s) ≡ false) → ((p : ℕ) (s : List ℕ) → test (name_token p s) ≡ false) → ((p : ℕ) (s : List ℕ) → test (sign p s) ≡ false)
      → (m : ℕ) (ts : List Lexeme) (a : Kept Tree) (n : ℕ) (rest : List Lexeme) → Either (TextRule l) (Either (NameRule l) (SignedRule l)) m ts a n → front_is test (ts ++ rest) ≡ false
  text_first l test texts names signs m all a n rest (one m0 n0 ts0 a0 (leaf_rule m1 t h)) = ap test (text_is t h) ∙ texts t.line t.text
  text_first l test texts names signs m all a n rest (other m0 n0 ts0 a0 r) = name_first l test names signs m0 ts0 a0 n0 rest r

  exact_choice : (l : ℕ) → Exact (PrimaryRule l) nothing (primary expr k l)
  exact_choice l =
      exact_peek is_number (take_text is_number >>= (λ s. numbered (leaf (number (number_value s)) l))) _ (exact_leaf is_number (λ s. leaf (number (number_value s)) l) (number_token 1 []) refl)
      (exact_peek is_text_token (take_text is_text_token >>= (λ s. numbered (leaf (text (text_value s)) l))) _ (exact_leaf is_text_token (λ s. leaf (text (text_value s)) l) (text_token 1 []) refl)
      (exact_peek is_name (take_text is_name >>= (λ s. numbered (leaf (name s) l))) (signed_primary expr k l) (exact_leaf is_name (λ s. leaf (name s) l) (name_token 1 []) refl) (exact_signed l)
      (leaf_passes is_name (λ s. leaf (name s) l))
      (λ m ts a n rest r h. signed_first l is_name (λ p. refl) (λ p. refl) (λ p. refl) (λ p. refl) m ts a n rest r))
      (leaf_passes is_text_token (λ s. leaf (text (text_value s)) l))
      (λ m ts a n rest r h. name_first l is_text_token (λ p s. refl) (λ p s. refl) m ts a n rest r))
      (leaf_passes is_number (λ s. leaf (number (number_value s)) l))
      (λ m ts a n rest r h. text_first l is_number (λ p s. refl) (λ p s. refl) (λ p s. refl) m ts a n rest r)

  abbrev PrimaryHeld : (l : ℕ) → Rule (Kept Tree)
  PrimaryHeld l = Held (IsPrimary l)

  primary_there : (l m : ℕ) (ts : List Lexeme) (a : Kept Tree) (n : ℕ) → PrimaryRule l m ts a n → Held (IsPrimary l) m ts a n
  primary_there l m all a n (one m0 n0 ts0 a0 (leaf_rule m1 t h)) =
      subst (λ (x : Lexeme). Held (IsPrimary l) m1 (x ∷ []) (leaf (number (number_value t.text)) l m1) (suc m1)) (sym (number_is t h)) (held m1 (suc m1) _ _ (a_number l m1 t.line t.text))
  primary_there l m all a n (other m0 n0 ts0 a0 (one m1 n1 ts1 a1 (leaf_rule m2 t h))) =
      subst (λ (x : Lexeme). Held (IsPrimary l) m2 (x ∷ []) (leaf (text (text_value t.text)) l m2) (suc m2)) (sym (text_is t h)) (held m2 (suc m2) _ _ (a_text l m2 t.line t.text))
  primary_there l m all a n (other m0 n0 ts0 a0 (other m1 n1 ts1 a1 (one m2 n2 ts2 a2 (leaf_rule m3 t h)))) =
      subst (λ (x : Lexeme). Held (IsPrimary l) m3 (x ∷ []) (leaf (name t.text) l m3) (suc m3)) (sym (name_is t h)) (held m3 (suc m3) _ _ (a_name l m3 t.line t.text))
  primary_there l m all a n (other m0 n0 ts0 a0 (other m1 n1 ts1 a1 (other m2 n2 ts2 a2 (with_token m3 n3 t ts a3 h (enclosed m4 n4 p us e r))))) =
      subst (λ (x : Lexeme). Held (IsPrimary l) m4 (x ∷ (us ++ sign p (codes ")") ∷ [])) (kept e) n4) (sym (sign_is (codes "(") t h)) (held m4 n4 _ e (inside l m4 n4 t.line p us e r))
  primary_there l m all a n (other m0 n0 ts0 a0 (other m1 n1 ts1 a1 (other m2 n2 ts2 a2 (without_token m3 n3 ts a3 (with_token m4 n4 t us a4 h (bracketed m5 n5 p vs es r)))))) =
      subst (λ (x : Lexeme). Held (IsPrimary l) m5 (x ∷ (vs ++ sign p (codes "}") ∷ [])) (kept (tree n5 l (list es))) (suc n5)) (sym (sign_is (codes "{") t h))
      (held m5 (suc n5) _ _ (a_list l m5 (suc n5) _ _ (in_braces l m5 n5 t.line p vs es r)))
  primary_there l m all a n (other m0 n0 ts0 a0 (other m1 n1 ts1 a1 (other m2 n2 ts2 a2 (without_token m3 n3 ts a3 (without_token m4 n4 us a4 (with_token m5 n5 t vs a5 h (bracketed m6 n6 p ws es (bracket_texts m7 n7 q s xs es2 r)))))))) =
      subst (λ (x : Lexeme). Held (IsPrimary l) m7 (x ∷ text_token q s ∷ (xs ++ sign p (codes "]") ∷ [])) (kept (tree n7 l (list (and_tree (tree m7 l (text (text_value s))) es2)))) (suc n7)) (sym (sign_is (codes "[") t h))
      (held m7 (suc n7) _ _ (a_list l m7 (suc n7) _ _ (in_brackets l m7 n7 t.line p q s xs es2 r)))
  primary_there l m all a n (other m0 n0 ts0 a0 (other m1 n1 ts1 a1 (other m2 n2 ts2 a2 (without_token m3 n3 ts a3 (without_token m4 n4 us a4 (without_token m5 n5 vs a5 (seq m6 k6 n6 ws xs c a6 (passes m7 t h) (leaf_rule m8 u g)))))))) =
      subst (λ (x : Lexeme). Held (IsPrimary l) m8 (x ∷ u ∷ []) (leaf (handle u.text) l m8) (suc m8)) (sym (sign_is (codes "@") t h))
      (subst (λ (x : Lexeme). Held (IsPrimary l) m8 (sign t.line (codes "@") ∷ x ∷ []) (leaf (handle u.text) l m8) (suc m8)) (sym (name_is u g))
      (held m8 (suc m8) _ _ (a_handle l m8 t.line u.line u.text)))

  signed_back : (l m : ℕ) (ts : List Lexeme) (a : Kept Tree) (n : ℕ) → SignedRule l m ts a n → PrimaryRule l m ts a n
  signed_back l m ts a n r = other m n ts a (other m n ts a (other m n ts a r))

  primary_back : (l m : ℕ) (ts : List Lexeme) (a : Kept Tree) (n : ℕ) → Held (IsPrimary l) m ts a n → PrimaryRule l m ts a n
  primary_back l m all a n (held m1 n1 ts e (a_number l2 m2 p s)) = one m2 (suc m2) _ _ (leaf_rule m2 (number_token p s) refl)
  primary_back l m all a n (held m1 n1 ts e (a_text l2 m2 p s)) = other m2 (suc m2) _ _ (one m2 (suc m2) _ _ (leaf_rule m2 (text_token p s) refl))
  primary_back l m all a n (held m1 n1 ts e (a_name l2 m2 p s)) = other m2 (suc m2) _ _ (other m2 (suc m2) _ _ (one m2 (suc m2) _ _ (leaf_rule m2 (name_token p s) refl)))
  primary_back l m all a n (held m1 n1 ts e (inside l2 m2 n2 p q us e2 r)) =
      signed_back l2 m2 _ _ n2 (with_token m2 n2 (sign p (codes "(")) _ _ refl (enclosed m2 n2 q us e2 r))
  primary_back l m all a n (held m1 n1 ts e (a_list l2 m2 n2 us e2 (in_braces l3 m3 n3 p q vs es r))) =
      signed_back l3 m3 _ _ (suc n3) (without_token m3 (suc n3) _ _ (with_token m3 (suc n3) (sign p (codes "{")) _ _ refl (bracketed m3 n3 q vs es r)))
  primary_back l m all a n (held m1 n1 ts e (a_list l2 m2 n2 us e2 (in_brackets l3 m3 n3 p q u s vs es r))) =
      signed_back l3 m3 _ _ (suc n3) (without_token m3 (suc n3) _ _ (without_token m3 (suc n3) _ _ (with_token m3 (suc n3) (sign p (codes "[")) _ _ refl
      (bracketed m3 n3 q (text_token u s ∷ vs) _ (bracket_texts m3 n3 u s vs es r)))))
  primary_back l m all a n (held m1 n1 ts e (a_handle l2 m2 p q s)) =
      signed_back l2 m2 _ _ (suc m2) (without_token m2 (suc m2) _ _ (without_token m2 (suc m2) _ _ (without_token m2 (suc m2) _ _
      (seq m2 m2 (suc m2) (sign p (codes "@") ∷ []) (name_token q s ∷ []) tt _ (passes m2 (sign p (codes "@")) refl) (leaf_rule m2 (name_token q s) refl)))))

  pub exact_primary : (l : ℕ) → Exact (Held (IsPrimary l)) nothing (primary expr k l)
  exact_primary l = exact_as (PrimaryRule l) (Held (IsPrimary l)) (exact_choice l) (primary_there l) (primary_back l)
