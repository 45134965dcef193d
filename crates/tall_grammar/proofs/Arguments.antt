-- Arguments are read exactly, and what stands behind an operand.
use Rattle.std.proofs.Common.{◌≡◌, ℕ, suc, zero, Bool, true, false, ◌||◌, List, [], ◌∷◌, ◌++◌, Option, refl, sym, ap, ◌∙◌, subst, append_assoc}
use Rattle.std.proofs.lemmas.List.{append-nil}
use Rattle.std.specs.Prelude.{codes}
use Rattle.tall_grammar.specs.Lexemes.{Lexeme, sign, is_the_sign}
use Rattle.tall_grammar.specs.Trees.{Tree, Args, no_args, value_arg, colon_arg}
use Rattle.tall_grammar.specs.Grammar.{IsExpr, AreArgs, without_args, with_args, AreSomeArgs, last_value, last_colon, next_value, next_colon}
use Rattle.tall_grammar.specs.Kept.{Kept, kept, no_arguments, a_colon, a_value, and_argument, kept_args}
use Rattle.tall_grammar.specs.Readers.{Reader, ◌>>=◌, pure, given_if, front_is, expect_sign}
use Rattle.tall_grammar.specs.ExprReader.{arg, args_from, closed_args}
use Rattle.tall_grammar.proofs.Exact.{Rule, Live, Exact}
use Rattle.tall_grammar.proofs.Combine.{IsPure, is_pure, Seq, seq, IsGivenIf, with_token, without_token, Passes, passes, exact_as, exact_pure, exact_tired, exact_bind, exact_given_if}
use Rattle.tall_grammar.proofs.Signs.{prefix_is, AllGive, given_among, sign_is, exact_expect}
use Rattle.tall_grammar.proofs.Lists.{nothing, none_of_nothing}
use Rattle.tall_grammar.proofs.KeptLemmas.{with_args_behind, value_behind, colon_behind, none_behind, none_before}
use Rattle.tall_grammar.proofs.Operands.{Held, held}
use Rattle.tall_grammar.proofs.Firsts.{NoOperand, NoExpr, First, first_front, first_of_expr}

-- expressions begin with none of these signs
pub no_expr : (s : List ℕ) → NoOperand (is_the_sign s) → AllGive (is_the_sign s) false 1 (codes "-" ∷ codes "+" ∷ codes "~" ∷ []) → NoExpr (is_the_sign s)
no_expr s free all = record { operand = free; prefixes = λ p t o h. given_among (is_the_sign s) false 1 _ t (prefix_is t o h) all }

pub no_colon : NoExpr (is_the_sign (codes ":"))
no_colon = no_expr (codes ":") (record { numbers = λ p s. refl; texts = λ p s. refl; names = λ p s. refl; paren = λ p. refl; brace = λ p. refl; bracket = λ p. refl; at_sign = λ p. refl }) (refl, (refl, (refl, tt)))

pub no_paren : NoExpr (is_the_sign (codes ")"))
no_paren = no_expr (codes ")") (record { numbers = λ p s. refl; texts = λ p s. refl; names = λ p s. refl; paren = λ p. refl; brace = λ p. refl; bracket = λ p. refl; at_sign = λ p. refl }) (refl, (refl, (refl, tt)))

module _ (expr : ℕ → Reader (Kept Tree)) (k : ℕ) (goes : Lexeme → Bool) (inner : (l : ℕ) → Exact (Held (IsExpr l)) goes (expr l))
    (none_closes : (p : ℕ) → goes (sign p (codes ")")) ≡ false) (none_parts : (p : ℕ) → goes (sign p (codes ",")) ≡ false) where
  pub data ArgRule (l : ℕ) : ℕ → List Lexeme → Kept (Option Tree) → ℕ → Type 0 where
    colon_rule : (m p : ℕ) → ArgRule l m (sign p (codes ":") ∷ []) a_colon m
    value_rule : (m n : ℕ) (ts : List Lexeme) (e : Tree) → IsExpr l m ts e n → ArgRule l m ts (a_value (kept e)) n

  exact_arg : (l : ℕ) → Exact (ArgRule l) goes (arg expr k l)
  exact_arg l =
      exact_as (IsGivenIf (is_the_sign (codes ":")) (IsPure a_colon) (Seq (Held (IsExpr l)) (λ e. IsPure (a_value e)))) (ArgRule l)
      (exact_given_if (is_the_sign (codes ":")) (pure a_colon) (expr l >>= (λ e. pure (a_value e))) (exact_pure goes a_colon)
      (exact_bind (expr l) (λ e. pure (a_value e)) (inner l) (λ e. exact_pure goes (a_value e)) follows) others) there back where
        follows : (e : Kept Tree) (k : ℕ) (us : List Lexeme) (b : Kept (Option Tree)) (n : ℕ) (rest : List Lexeme) → IsPure (a_value e) k us b n → front_is goes rest ≡ false → front_is goes (us ++ rest) ≡ false
        follows e m us b n rest (is_pure m1) h = h

        at_value : (m : ℕ) (ts : List Lexeme) (e : Kept Tree) (n : ℕ) (rest : List Lexeme) → Held (IsExpr l) m ts e n → First (is_the_sign (codes ":")) ts
        at_value m ts e n rest (held m1 n1 ts1 e1 r) = first_of_expr (is_the_sign (codes ":")) no_colon l m1 ts1 e1 n1 r

        others : (m : ℕ) (ts : List Lexeme) (a : Kept (Option Tree)) (n : ℕ) (rest : List Lexeme) → Seq (Held (IsExpr l)) (λ e. IsPure (a_value e)) m ts a n → front_is goes rest ≡ false → front_is (is_the_sign (codes ":")) (ts ++ rest) ≡ false
        others m all a n rest (seq m1 k1 n1 ts us e a1 r q) h =
            ap (front_is (is_the_sign (codes ":"))) (append_assoc ts us rest) ∙ first_front (is_the_sign (codes ":")) ts (us ++ rest) (at_value m1 ts e k1 rest r)

        valued : (m : ℕ) (ts : List Lexeme) (e : Kept Tree) (n : ℕ) → Held (IsExpr l) m ts e n → ArgRule l m ts (a_value e) n
        valued m ts e n (held m1 n1 ts1 e1 r) = value_rule m1 n1 ts1 e1 r

        ended : (m : ℕ) (ts : List Lexeme) (e : Kept Tree) (k : ℕ) (us : List Lexeme) (a : Kept (Option Tree)) (n : ℕ) → Held (IsExpr l) m ts e k → IsPure (a_value e) k us a n → ArgRule l m (ts ++ us) a n
        ended m ts e k us a n r (is_pure m1) = subst (λ (w : List Lexeme). ArgRule l m w (a_value e) m1) (sym (append-nil ts)) (valued m ts e m1 r)

        there : (m : ℕ) (ts : List Lexeme) (a : Kept (Option Tree)) (n : ℕ) → IsGivenIf (is_the_sign (codes ":")) (IsPure a_colon) (Seq (Held (IsExpr l)) (λ e. IsPure (a_value e))) m ts a n → ArgRule l m ts a n
        there m all a n (with_token m1 n1 t ts a1 h (is_pure m2)) = subst (λ (x : Lexeme). ArgRule l m2 (x ∷ []) a_colon m2) (sym (sign_is (codes ":") t h)) (colon_rule m2 t.line)
        there m all a n (without_token m1 n1 ts a1 (seq m2 k2 n2 ts2 us2 e a2 r q)) = ended m2 ts2 e k2 us2 a2 n2 r q

        back : (m : ℕ) (ts : List Lexeme) (a : Kept (Option Tree)) (n : ℕ) → ArgRule l m ts a n → IsGivenIf (is_the_sign (codes ":")) (IsPure a_colon) (Seq (Held (IsExpr l)) (λ e. IsPure (a_value e))) m ts a n
        back m all a n (colon_rule m1 p) = with_token m1 m1 (sign p (codes ":")) [] _ refl (is_pure m1)
        back m all a n (value_rule m1 n1 ts e r) =
            subst (λ (w : List Lexeme). IsGivenIf (is_the_sign (codes ":")) (IsPure a_colon) (Seq (Held (IsExpr l)) (λ e. IsPure (a_value e))) m1 w (a_value (kept e)) n1) (append-nil ts)
            (without_token m1 n1 (ts ++ []) _ (seq m1 n1 n1 ts [] (kept e) (a_value (kept e)) (held m1 n1 ts e r) (is_pure n1)))

  -- ---- arg { ',' arg }

  pub data ArgsRule (l : ℕ) (found : Kept (List (Option Tree))) : ℕ → List Lexeme → Kept (List (Option Tree)) → ℕ → Type 0 where
    args_rule : (m n : ℕ) (ts : List Lexeme) (args : Args) (b : Kept (List (Option Tree))) → AreSomeArgs l m ts args n → b ≡ with_args_behind found args → ArgsRule l found m ts b n

  abbrev goes_args : Lexeme → Bool
  goes_args t = goes t || is_the_sign (codes ",") t

  or_first : (a b : Bool) → (a || b) ≡ false → a ≡ false
  or_first true b h = h
  or_first false b h = refl

  or_second : (a b : Bool) → (a || b) ≡ false → b ≡ false
  or_second true b h = absurd cc
  or_second false b h = h

  no_goes : (ts : List Lexeme) → front_is goes_args ts ≡ false → front_is goes ts ≡ false
  no_goes [] h = refl
  no_goes (t ∷ ts) h = or_first (goes t) _ h

  no_comma_there : (ts : List Lexeme) → front_is goes_args ts ≡ false → front_is (is_the_sign (codes ",")) ts ≡ false
  no_comma_there [] h = refl
  no_comma_there (t ∷ ts) h = or_second (goes t) _ h

  abbrev ArgsStep : (l : ℕ) (found : Kept (List (Option Tree))) → Kept (Option Tree) → Rule (Kept (List (Option Tree)))
  ArgsStep l found a = IsGivenIf (is_the_sign (codes ",")) (ArgsRule l (and_argument found a)) (IsPure (and_argument found a))

  args_live : (l : ℕ) (found : Kept (List (Option Tree))) (m : ℕ) → Live (ArgsRule l found) m
  args_live l found m = record { tokens = sign 1 (codes ":") ∷ []; value = _; next = m; holds = args_rule m m (sign 1 (codes ":") ∷ []) (colon_arg no_args) _ (last_colon l m 1) refl }

  args_end : (found : Kept (List (Option Tree))) (e : Tree) → with_args_behind found (value_arg e no_args) ≡ and_argument found (a_value (kept e))
  args_end found e = sym (value_behind found e no_args) ∙ none_behind _

  colon_end : (found : Kept (List (Option Tree))) → with_args_behind found (colon_arg no_args) ≡ and_argument found a_colon
  colon_end found = sym (colon_behind found no_args) ∙ none_behind _

  args_follow : (l : ℕ) (found : Kept (List (Option Tree))) (a : Kept (Option Tree)) (k : ℕ) (us : List Lexeme) (b : Kept (List (Option Tree))) (n : ℕ) (rest : List Lexeme)
      → ArgsStep l found a k us b n → front_is goes_args rest ≡ false → front_is goes (us ++ rest) ≡ false
  args_follow l found a m all b n rest (with_token m1 n1 t ts b1 h r) f = ap goes (sign_is (codes ",") t h) ∙ none_parts t.line
  args_follow l found a m all b n rest (without_token m1 n1 ts b1 (is_pure m2)) f = no_goes rest f

  args_other : (l : ℕ) (found : Kept (List (Option Tree))) (a : Kept (Option Tree)) (m : ℕ) (ts : List Lexeme) (b : Kept (List (Option Tree))) (n : ℕ) (rest : List Lexeme)
      → IsPure (and_argument found a) m ts b n → front_is goes_args rest ≡ false → front_is (is_the_sign (codes ",")) (ts ++ rest) ≡ false
  args_other l found a m ts b n rest (is_pure m1) f = no_comma_there rest f

  args_there : (l : ℕ) (found : Kept (List (Option Tree))) (m : ℕ) (ts : List Lexeme) (b : Kept (List (Option Tree))) (n : ℕ) → Seq (ArgRule l) (ArgsStep l found) m ts b n → ArgsRule l found m ts b n
  args_there l found m all b n (seq m1 k1 n1 ts us a b1 (colon_rule m2 p) (with_token m3 n3 t us3 b3 h (args_rule m4 n4 vs args b4 r q))) =
      subst (λ (x : Lexeme). ArgsRule l found m4 (sign p (codes ":") ∷ x ∷ vs) b4 n4) (sym (sign_is (codes ",") t h))
      (args_rule m4 n4 _ (colon_arg args) b4 (next_colon l m4 n4 p t.line vs args r) (q ∙ colon_behind found args))
  args_there l found m all b n (seq m1 k1 n1 ts us a b1 (colon_rule m2 p) (without_token m3 n3 us3 b3 (is_pure m4))) =
      args_rule m4 m4 _ (colon_arg no_args) _ (last_colon l m4 p) (sym (colon_end found))
  args_there l found m all b n (seq m1 k1 n1 ts us a b1 (value_rule m2 n2 ts2 e s) (with_token m3 n3 t us3 b3 h (args_rule m4 n4 vs args b4 r q))) =
      subst (λ (x : Lexeme). ArgsRule l found m2 (ts2 ++ x ∷ vs) b4 n4) (sym (sign_is (codes ",") t h))
      (args_rule m2 n4 _ (value_arg e args) b4 (next_value l m2 m4 n4 t.line ts2 vs e args s r) (q ∙ value_behind found e args))
  args_there l found m all b n (seq m1 k1 n1 ts us a b1 (value_rule m2 n2 ts2 e s) (without_token m3 n3 us3 b3 q)) = value_last m2 ts2 e n2 us3 b3 n3 s q where
    value_last : (m : ℕ) (ts : List Lexeme) (e : Tree) (k : ℕ) (us : List Lexeme) (b : Kept (List (Option Tree))) (n : ℕ) → IsExpr l m ts e k → IsPure (and_argument found (a_value (kept e))) k us b n → ArgsRule l found m (ts ++ us) b n
    value_last m ts e k us b n s (is_pure m4) = subst (λ (x : List Lexeme). ArgsRule l found m x (and_argument found (a_value (kept e))) m4) (sym (append-nil ts))
        (args_rule m m4 ts (value_arg e no_args) _ (last_value l m m4 ts e s) (sym (args_end found e)))

  args_back : (l : ℕ) (found : Kept (List (Option Tree))) (m : ℕ) (ts : List Lexeme) (b : Kept (List (Option Tree))) (n : ℕ) → ArgsRule l found m ts b n → Seq (ArgRule l) (ArgsStep l found) m ts b n
  args_back l found m all b n (args_rule m1 n1 ts args b1 (last_value l2 m2 n2 ts2 e r) q) =
      subst (λ (x : List Lexeme). Seq (ArgRule l2) (ArgsStep l2 found) m2 x b1 n2) (append-nil ts2)
      (subst (λ (w : Kept (List (Option Tree))). Seq (ArgRule l2) (ArgsStep l2 found) m2 (ts2 ++ []) w n2) (sym (q ∙ args_end found e))
      (seq m2 n2 n2 ts2 [] (a_value (kept e)) _ (value_rule m2 n2 ts2 e r) (without_token n2 n2 [] _ (is_pure n2))))
  args_back l found m all b n (args_rule m1 n1 ts args b1 (last_colon l2 m2 p) q) =
      subst (λ (w : Kept (List (Option Tree))). Seq (ArgRule l2) (ArgsStep l2 found) m2 (sign p (codes ":") ∷ []) w m2) (sym (q ∙ colon_end found))
      (seq m2 m2 m2 (sign p (codes ":") ∷ []) [] a_colon _ (colon_rule m2 p) (without_token m2 m2 [] _ (is_pure m2)))
  args_back l found m all b n (args_rule m1 n1 ts args b1 (next_value l2 m2 k2 n2 p ts2 us e args2 r s) q) =
      seq m2 k2 n2 ts2 (sign p (codes ",") ∷ us) (a_value (kept e)) b1 (value_rule m2 k2 ts2 e r)
      (with_token k2 n2 (sign p (codes ",")) us b1 refl (args_rule k2 n2 us args2 b1 s (q ∙ sym (value_behind found e args2))))
  args_back l found m all b n (args_rule m1 n1 ts args b1 (next_colon l2 m2 n2 p u us args2 r) q) =
      seq m2 m2 n2 (sign p (codes ":") ∷ []) (sign u (codes ",") ∷ us) a_colon b1 (colon_rule m2 p)
      (with_token m2 n2 (sign u (codes ",")) us b1 refl (args_rule m2 n2 us args2 b1 r (q ∙ sym (colon_behind found args2))))

  exact_args : (l n : ℕ) (found : Kept (List (Option Tree))) → Exact (ArgsRule l found) goes_args (args_from expr k l n found)
  unfolding args_from
  exact_args l zero found = exact_tired (ArgsRule l found) goes_args (args_live l found)
  exact_args l (suc n) found =
      exact_as (Seq (ArgRule l) (ArgsStep l found)) (ArgsRule l found)
      (exact_bind (arg expr k l) (λ a. given_if (is_the_sign (codes ",")) (args_from expr k l n (and_argument found a)) (pure (and_argument found a))) (exact_arg l)
      (λ a. exact_given_if (is_the_sign (codes ",")) (args_from expr k l n (and_argument found a)) (pure (and_argument found a)) (exact_args l n (and_argument found a)) (exact_pure goes_args (and_argument found a))
      (args_other l found a))
      (args_follow l found)) (args_there l found) (args_back l found)

  -- ---- args, with the parenthesis behind them

  pub data ClosedArgs (l : ℕ) : ℕ → List Lexeme → Kept (List (Option Tree)) → ℕ → Type 0 where
    closed_rule : (m n p : ℕ) (ts : List Lexeme) (args : Args) → AreArgs l m ts args n → ClosedArgs l m (ts ++ sign p (codes ")") ∷ []) (kept_args args) n

  abbrev ClosedStep : (l : ℕ) → Rule (Kept (List (Option Tree)))
  ClosedStep l = Seq (ArgsRule l no_arguments) (λ args. Seq (Passes (is_the_sign (codes ")"))) (λ _. IsPure args))

  closed_follow : (args : Kept (List (Option Tree))) (k : ℕ) (us : List Lexeme) (b : Kept (List (Option Tree))) (n : ℕ) (rest : List Lexeme)
      → Seq (Passes (is_the_sign (codes ")"))) (λ _. IsPure args) k us b n → front_is nothing rest ≡ false → front_is goes_args (us ++ rest) ≡ false
  closed_follow args m all b n rest (seq m1 k1 n1 ts us c b1 (passes m2 t h) r) f = ap goes_args (sign_is (codes ")") t h) ∙ ap (λ x. x || false) (none_closes t.line)

  some_first : (l m : ℕ) (ts : List Lexeme) (args : Args) (n : ℕ) → AreSomeArgs l m ts args n → First (is_the_sign (codes ")")) ts
  some_first l m ts args n (last_value l1 m1 n1 ts1 e r) = first_of_expr (is_the_sign (codes ")")) no_paren l1 m1 ts1 e n1 r
  some_first l m ts args n (last_colon l1 m1 p) = record { token = sign p (codes ":"); others = []; text = refl; fails = refl }
  some_first l m ts args n (next_value l1 m1 k1 n1 p ts1 us e args1 r q) =
      let f = first_of_expr (is_the_sign (codes ")")) no_paren l1 m1 ts1 e k1 r in
      record { token = f.token; others = f.others ++ sign p (codes ",") ∷ us; text = ap (λ w. w ++ sign p (codes ",") ∷ us) f.text; fails = f.fails }
  some_first l m ts args n (next_colon l1 m1 n1 p q us args1 r) = record { token = sign p (codes ":"); others = sign q (codes ",") ∷ us; text = refl; fails = refl }

  args_first : (l : ℕ) (m : ℕ) (ts : List Lexeme) (b : Kept (List (Option Tree))) (n : ℕ) → ArgsRule l no_arguments m ts b n → First (is_the_sign (codes ")")) ts
  args_first l m ts b n (args_rule m1 n1 ts1 args b1 r q) = some_first l m1 ts1 args n1 r

  closed_other : (l : ℕ) (m : ℕ) (ts : List Lexeme) (b : Kept (List (Option Tree))) (n : ℕ) (rest : List Lexeme) → ClosedStep l m ts b n → front_is nothing rest ≡ false → front_is (is_the_sign (codes ")")) (ts ++ rest) ≡ false
  closed_other l m all b n rest (seq m1 k1 n1 ts us a b1 r q) f =
      ap (front_is (is_the_sign (codes ")"))) (append_assoc ts us rest) ∙ first_front (is_the_sign (codes ")")) ts (us ++ rest) (args_first l m1 ts a k1 r)

  closed_end : (l m : ℕ) (ts : List Lexeme) (a : Kept (List (Option Tree))) (n : ℕ) (t : Lexeme) → ArgsRule l no_arguments m ts a n → is_the_sign (codes ")") t ≡ true → ClosedArgs l m (ts ++ t ∷ []) a n
  closed_end l m ts a n t (args_rule m1 n1 ts1 args a1 r q) h =
      subst (λ (x : Lexeme). ClosedArgs l m1 (ts1 ++ x ∷ []) a1 n1) (sym (sign_is (codes ")") t h))
      (subst (λ (w : Kept (List (Option Tree))). ClosedArgs l m1 (ts1 ++ sign t.line (codes ")") ∷ []) w n1) (sym (q ∙ none_before args)) (closed_rule m1 n1 t.line ts1 args (with_args l m1 n1 ts1 args r)))

  closed_two : (l m : ℕ) (ts : List Lexeme) (a : Kept (List (Option Tree))) (k : ℕ) (us : List Lexeme) (b : Kept (List (Option Tree))) (n : ℕ) → ArgsRule l no_arguments m ts a k
      → Seq (Passes (is_the_sign (codes ")"))) (λ _. IsPure a) k us b n → ClosedArgs l m (ts ++ us) b n
  closed_two l m ts a k us b n r (seq m1 k1 n1 ts1 us1 c b1 (passes m2 t h) (is_pure m3)) = closed_end l m ts a m3 t r h

  closed_there : (l : ℕ) (m : ℕ) (ts : List Lexeme) (b : Kept (List (Option Tree))) (n : ℕ) → IsGivenIf (is_the_sign (codes ")")) (IsPure no_arguments) (ClosedStep l) m ts b n → ClosedArgs l m ts b n
  closed_there l m all b n (with_token m1 n1 t ts b1 h (is_pure m2)) =
      subst (λ (x : Lexeme). ClosedArgs l m2 (x ∷ []) no_arguments m2) (sym (sign_is (codes ")") t h)) (closed_rule m2 m2 t.line [] no_args (without_args l m2))
  closed_there l m all b n (without_token m1 n1 ts b1 (seq m2 k2 n2 ts2 us2 a b2 r q)) = closed_two l m2 ts2 a k2 us2 b2 n2 r q

  closed_back : (l : ℕ) (m : ℕ) (ts : List Lexeme) (b : Kept (List (Option Tree))) (n : ℕ) → ClosedArgs l m ts b n → IsGivenIf (is_the_sign (codes ")")) (IsPure no_arguments) (ClosedStep l) m ts b n
  closed_back l m all b n (closed_rule m1 n1 p ts args (without_args l2 m2)) = with_token m2 m2 (sign p (codes ")")) [] _ refl (is_pure m2)
  closed_back l m all b n (closed_rule m1 n1 p ts args (with_args l2 m2 n2 ts2 args2 r)) =
      (without_token m2 n2 _ _ (seq m2 n2 n2 ts2 (sign p (codes ")") ∷ []) (kept_args args2) _ (args_rule m2 n2 ts2 args2 _ r (sym (none_before args2)))
      (seq n2 n2 n2 (sign p (codes ")") ∷ []) [] tt _ (passes n2 (sign p (codes ")")) refl) (is_pure n2))))

  pub exact_closed_args : (l : ℕ) → Exact (ClosedArgs l) nothing (closed_args expr k l)
  exact_closed_args l =
      exact_as (IsGivenIf (is_the_sign (codes ")")) (IsPure no_arguments) (ClosedStep l)) (ClosedArgs l)
      (exact_given_if (is_the_sign (codes ")")) (pure no_arguments) _ (exact_pure nothing no_arguments)
      (exact_bind (args_from expr k l k no_arguments) (λ args. expect_sign (codes ")") >>= (λ _. pure args)) (exact_args l k no_arguments)
      (λ args. exact_bind (expect_sign (codes ")")) (λ _. pure args) (exact_expect nothing (is_the_sign (codes ")")) (sign 1 (codes ")")) refl) (λ _. exact_pure nothing args) (λ a k us b n rest r h. none_of_nothing (us ++ rest)))
      closed_follow)
      (closed_other l))
      (closed_there l) (closed_back l)
