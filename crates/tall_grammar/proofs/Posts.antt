-- What stands behind an operand is read exactly.
use Rattle.std.proofs.Common.{◌≡◌, ℕ, suc, zero, Bool, true, false, ◌||◌, List, [], ◌∷◌, ◌++◌, Option, refl, sym, ap, ◌∙◌, subst, append_assoc}
use Rattle.std.proofs.lemmas.List.{append-nil}
use Rattle.std.specs.Prelude.{codes}
use Rattle.tall_grammar.specs.Lexemes.{Lexeme, sign, name_token, is_the_sign}
use Rattle.tall_grammar.specs.Trees.{Tree, tree, member, call}
use Rattle.tall_grammar.specs.Grammar.{IsExpr, IsPost, one_primary, member_of as grammar_member, call_of as grammar_call, IsPrimary}
use Rattle.tall_grammar.specs.Kept.{Kept, kept, member_of, call_of, kept_args}
use Rattle.tall_grammar.specs.Readers.{Reader, ◌>>=◌, pure, front_is, take_text, is_name, numbered, text_if}
use Rattle.tall_grammar.specs.ExprReader.{primary, closed_args, post_from, post}
use Rattle.tall_grammar.proofs.Exact.{Rule, Exact}
use Rattle.tall_grammar.proofs.Combine.{IsPure, is_pure, IsNumbered, is_numbered, IsTaken, is_taken, Seq, seq, IsGivenIf, with_token, without_token, exact_as, exact_pure, exact_numbered, exact_tired, exact_bind, exact_take, exact_given_if}
use Rattle.tall_grammar.proofs.Signs.{sign_is, name_is, text_if_is}
use Rattle.tall_grammar.proofs.Lists.{nothing, none_of_nothing}
use Rattle.tall_grammar.proofs.KeptLemmas.{member_kept, call_kept}
use Rattle.tall_grammar.proofs.Operands.{Held, held, goes_post, exact_primary}
use Rattle.tall_grammar.proofs.Arguments.{ClosedArgs, closed_rule, exact_closed_args}

or_first : (a b : Bool) → (a || b) ≡ false → a ≡ false
or_first true b h = h
or_first false b h = refl

or_second : (a b : Bool) → (a || b) ≡ false → b ≡ false
or_second true b h = absurd cc
or_second false b h = h

module _ (expr : ℕ → Reader (Kept Tree)) (k : ℕ) (goes : Lexeme → Bool) (inner : (l : ℕ) → Exact (Held (IsExpr l)) goes (expr l))
    (none_closes : (p : ℕ) → goes (sign p (codes ")")) ≡ false) (none_parts : (p : ℕ) → goes (sign p (codes ",")) ≡ false) where
  abbrev Closed : (l : ℕ) → Rule (Kept (List (Option Tree)))
  Closed l = ClosedArgs expr k goes inner none_closes none_parts l

  pub data PostRest (l : ℕ) : Kept Tree → ℕ → List Lexeme → Kept Tree → ℕ → Type 0 where
    post_done : (a : Kept Tree) (m : ℕ) → PostRest l a m [] a m
    post_member : (a : Kept Tree) (m n p q : ℕ) (s : List ℕ) (ts : List Lexeme) (b : Kept Tree) → PostRest l (member_of a s l m) (suc m) ts b n
        → PostRest l a m (sign p (codes ".") ∷ name_token q s ∷ ts) b n
    post_call : (a : Kept Tree) (m j n p : ℕ) (ts us : List Lexeme) (args : Kept (List (Option Tree))) (b : Kept Tree)
        → ClosedArgs expr k goes inner none_closes none_parts l m ts args j
        → PostRest l (call_of a args l j) (suc j) us b n → PostRest l a m (sign p (codes "(") ∷ (ts ++ us)) b n

  abbrev MemberStep : (l : ℕ) (e : Kept Tree) → Rule (Kept Tree)
  MemberStep l e = Seq (IsTaken (text_if is_name)) (λ s. Seq (IsNumbered (member_of e s l)) (λ f. PostRest l f))

  abbrev CallStep : (l : ℕ) (e : Kept Tree) → Rule (Kept Tree)
  CallStep l e = Seq (Closed l) (λ args. Seq (IsNumbered (call_of e args l)) (λ f. PostRest l f))

  abbrev PostStep : (l : ℕ) (e : Kept Tree) → Rule (Kept Tree)
  PostStep l e = IsGivenIf (is_the_sign (codes ".")) (MemberStep l e) (IsGivenIf (is_the_sign (codes "(")) (CallStep l e) (IsPure e))

  no_dot : (ts : List Lexeme) → front_is goes_post ts ≡ false → front_is (is_the_sign (codes ".")) ts ≡ false
  no_dot [] h = refl
  no_dot (t ∷ ts) h = or_first (is_the_sign (codes ".") t) _ h

  no_open : (ts : List Lexeme) → front_is goes_post ts ≡ false → front_is (is_the_sign (codes "(")) ts ≡ false
  no_open [] h = refl
  no_open (t ∷ ts) h = or_second (is_the_sign (codes ".") t) _ h

  open_other : (e : Kept Tree) (m : ℕ) (ts : List Lexeme) (b : Kept Tree) (n : ℕ) (rest : List Lexeme) → IsPure e m ts b n → front_is goes_post rest ≡ false → front_is (is_the_sign (codes "(")) (ts ++ rest) ≡ false
  open_other e m ts b n rest (is_pure m1) h = no_open rest h

  dot_other : (l : ℕ) (e : Kept Tree) (m : ℕ) (ts : List Lexeme) (b : Kept Tree) (n : ℕ) (rest : List Lexeme) → IsGivenIf (is_the_sign (codes "(")) (CallStep l e) (IsPure e) m ts b n
      → front_is goes_post rest ≡ false → front_is (is_the_sign (codes ".")) (ts ++ rest) ≡ false
  dot_other l e m all b n rest (with_token m1 n1 t ts b1 h r) f = ap (is_the_sign (codes ".")) (sign_is (codes "(") t h)
  dot_other l e m all b n rest (without_token m1 n1 ts b1 (is_pure m2)) f = no_dot rest f

  post_there : (l : ℕ) (e : Kept Tree) (m : ℕ) (ts : List Lexeme) (b : Kept Tree) (n : ℕ) → PostStep l e m ts b n → PostRest l e m ts b n
  post_there l e m all b n (with_token m1 n1 t ts b1 h (seq m2 k2 n2 ts2 us2 s b2 (is_taken m3 u s3 g) (seq m4 k4 n4 ts4 us4 f b4 (is_numbered m5) r))) =
      let p = text_if_is is_name u s3 g in
      subst (λ (x : Lexeme). PostRest l e m5 (x ∷ u ∷ us4) b4 n4) (sym (sign_is (codes ".") t h))
      (subst (λ (x : Lexeme). PostRest l e m5 (sign t.line (codes ".") ∷ x ∷ us4) b4 n4) (sym (name_is u p.0 ∙ ap (λ (z : List ℕ). name_token u.line z) p.1))
      (post_member e m5 n4 t.line u.line s3 us4 b4 r))
  post_there l e m all b n (without_token m1 n1 ts b1 (with_token m2 n2 t ts2 b2 h (seq m3 k3 n3 ts3 us3 args b3 c (seq m4 k4 n4 ts4 us4 f b4 (is_numbered m5) r)))) =
      subst (λ (x : Lexeme). PostRest l e m3 (x ∷ (ts3 ++ us4)) b4 n4) (sym (sign_is (codes "(") t h)) (post_call e m3 m5 n4 t.line ts3 us4 args b4 c r)
  post_there l e m all b n (without_token m1 n1 ts b1 (without_token m2 n2 ts2 b2 (is_pure m3))) = post_done e m3

  post_back : (l : ℕ) (e : Kept Tree) (m : ℕ) (ts : List Lexeme) (b : Kept Tree) (n : ℕ) → PostRest l e m ts b n → PostStep l e m ts b n
  post_back l e m ts b n (post_done a m1) = without_token m1 m1 [] a (without_token m1 m1 [] a (is_pure m1))
  post_back l e m ts b n (post_member a m1 n1 p q s ts1 b1 r) =
      with_token m1 n1 (sign p (codes ".")) _ b1 refl (seq m1 m1 n1 (name_token q s ∷ []) ts1 s b1 (is_taken m1 (name_token q s) s refl)
      (seq m1 (suc m1) n1 [] ts1 _ b1 (is_numbered m1) r))
  post_back l e m ts b n (post_call a m1 j n1 p ts1 us args b1 c r) =
      without_token m1 n1 _ b1 (with_token m1 n1 (sign p (codes "(")) _ b1 refl (seq m1 j n1 ts1 us args b1 c (seq j (suc j) n1 [] us _ b1 (is_numbered j) r)))

  pub exact_post_from : (l n : ℕ) (e : Kept Tree) → Exact (PostRest l e) goes_post (post_from expr k l n e)
  unfolding post_from
  exact_post_from l zero e = exact_tired (PostRest l e) goes_post (λ m. record { tokens = []; value = e; next = m; holds = post_done e m })
  exact_post_from l (suc n) e =
      exact_as (PostStep l e) (PostRest l e)
      (exact_given_if (is_the_sign (codes ".")) (take_text is_name >>= (λ s. numbered (member_of e s l) >>= (λ f. post_from expr k l n f))) _
      (exact_bind (take_text is_name) (λ s. numbered (member_of e s l) >>= (λ f. post_from expr k l n f)) (exact_take nothing (text_if is_name) (name_token 1 []) [] refl)
      (λ s. exact_bind (numbered (member_of e s l)) (λ f. post_from expr k l n f) (exact_numbered nothing (member_of e s l)) (λ f. exact_post_from l n f) (λ a j us b i rest r h. none_of_nothing (us ++ rest)))
      (λ a j us b i rest r h. none_of_nothing (us ++ rest)))
      (exact_given_if (is_the_sign (codes "(")) (closed_args expr k l >>= (λ args. numbered (call_of e args l) >>= (λ f. post_from expr k l n f))) (pure e)
      (exact_bind (closed_args expr k l) (λ args. numbered (call_of e args l) >>= (λ f. post_from expr k l n f)) (exact_closed_args expr k goes inner none_closes none_parts l)
      (λ args. exact_bind (numbered (call_of e args l)) (λ f. post_from expr k l n f) (exact_numbered nothing (call_of e args l)) (λ f. exact_post_from l n f) (λ a j us b i rest r h. none_of_nothing (us ++ rest)))
      (λ a j us b i rest r h. none_of_nothing (us ++ rest)))
      (exact_pure goes_post e) (open_other e))
      (dot_other l e))
      (post_there l e) (post_back l e)

  -- ---- post

  post_more : (l : ℕ) (a : Kept Tree) (e : Tree) (m j : ℕ) (ts us : List Lexeme) (b : Kept Tree) (n : ℕ) → a ≡ kept e → IsPost l m ts e j → PostRest l a j us b n → Held (IsPost l) m (ts ++ us) b n
  post_more l a e m j ts us b n q r (post_done a1 m1) =
      subst (λ (w : List Lexeme). Held (IsPost l) m w a1 m1) (sym (append-nil ts)) (subst (λ (w : Kept Tree). Held (IsPost l) m ts w m1) (sym q) (held m m1 ts e r))
  post_more l a e m j ts all b n q r (post_member a1 m1 n1 p u s us b1 x) =
      subst (λ (w : List Lexeme). Held (IsPost l) m w b1 n1) (append_assoc ts (sign p (codes ".") ∷ name_token u s ∷ []) us)
      (post_more l (member_of a1 s l m1) (tree m1 l (member e s)) m (suc m1) (ts ++ sign p (codes ".") ∷ name_token u s ∷ []) us b1 n1 (ap (λ w. member_of w s l m1) q ∙ member_kept e s l m1)
      (grammar_member l m m1 p u s ts e r) x)
  post_more l a e m j ts all b n q r (post_call a1 m1 i n1 p us vs args b1 (closed_rule m2 n2 u ws args2 g) x) =
      subst (λ (w : List Lexeme). Held (IsPost l) m w b1 n1) (append_assoc ts (sign p (codes "(") ∷ (ws ++ sign u (codes ")") ∷ [])) vs)
      (post_more l (call_of a1 (kept_args args2) l n2) (tree n2 l (call e args2)) m (suc n2) (ts ++ sign p (codes "(") ∷ (ws ++ sign u (codes ")") ∷ [])) vs b1 n1
      (ap (λ w. call_of w (kept_args args2) l n2) q ∙ call_kept e args2 l n2) (grammar_call l m m2 n2 p u ts ws e args2 r g) x)

  post_and : (l : ℕ) (a : Kept Tree) (m : ℕ) (ts : List Lexeme) (b : Kept Tree) (j : ℕ) (us : List Lexeme) (c : Kept Tree) (n : ℕ) → PostRest l a m ts b j → PostRest l b j us c n → PostRest l a m (ts ++ us) c n
  post_and l a m ts b j us c n (post_done a1 m1) y = y
  post_and l a m all b j us c n (post_member a1 m1 n1 p q s ts b1 x) y = post_member a1 m1 n p q s (ts ++ us) c (post_and l (member_of a1 s l m1) (suc m1) ts b1 n1 us c n x y)
  post_and l a m all b j us c n (post_call a1 m1 i n1 p ts vs args b1 g x) y =
      subst (λ (w : List Lexeme). PostRest l a1 m1 (sign p (codes "(") ∷ w) c n) (sym (append_assoc ts vs us))
      (post_call a1 m1 i n p ts (vs ++ us) args c g (post_and l (call_of a1 args l i) (suc i) vs b1 n1 us c n x y))

  seq_more : (l m : ℕ) (ts : List Lexeme) (a : Kept Tree) (n : ℕ) (us : List Lexeme) (c : Kept Tree) (j : ℕ) → Seq (Held (IsPrimary l)) (λ f. PostRest l f) m ts a n → PostRest l a n us c j
      → Seq (Held (IsPrimary l)) (λ f. PostRest l f) m (ts ++ us) c j
  seq_more l m all a n us c j (seq m2 k2 n2 ts2 us2 f b2 x y) z =
      subst (λ (w : List Lexeme). Seq (Held (IsPrimary l)) (λ f. PostRest l f) m2 w c j) (sym (append_assoc ts2 us2 us))
      (seq m2 k2 j ts2 (us2 ++ us) f c x (post_and l f k2 us2 b2 n2 us c j y z))

  post_split : (l m : ℕ) (ts : List Lexeme) (e : Tree) (n : ℕ) → IsPost l m ts e n → Seq (Held (IsPrimary l)) (λ f. PostRest l f) m ts (kept e) n
  post_split l m ts e n (one_primary l1 m1 n1 ts1 e1 r) =
      subst (λ (w : List Lexeme). Seq (Held (IsPrimary l1)) (λ f. PostRest l1 f) m1 w (kept e1) n1) (append-nil ts1) (seq m1 n1 n1 ts1 [] (kept e1) (kept e1) (held m1 n1 ts1 e1 r) (post_done (kept e1) n1))
  post_split l m all e n (grammar_member l1 m1 n1 p q s ts e1 r) =
      seq_more l1 m1 ts (kept e1) n1 _ _ _ (post_split l1 m1 ts e1 n1 r)
      (subst (λ (w : Kept Tree). PostRest l1 (kept e1) n1 (sign p (codes ".") ∷ name_token q s ∷ []) w (suc n1)) (member_kept e1 s l1 n1)
      (post_member (kept e1) n1 (suc n1) p q s [] _ (post_done (member_of (kept e1) s l1 n1) (suc n1))))
  post_split l m all e n (grammar_call l1 m1 k1 n1 p q ts us e1 args r g) =
      seq_more l1 m1 ts (kept e1) k1 _ _ _ (post_split l1 m1 ts e1 k1 r)
      (subst (λ (x : List Lexeme). PostRest l1 (kept e1) k1 (sign p (codes "(") ∷ x) (kept (tree n1 l1 (call e1 args))) (suc n1)) (append-nil (us ++ sign q (codes ")") ∷ []))
      (subst (λ (w : Kept Tree). PostRest l1 (kept e1) k1 (sign p (codes "(") ∷ ((us ++ sign q (codes ")") ∷ []) ++ [])) w (suc n1)) (call_kept e1 args l1 n1)
      (post_call (kept e1) k1 n1 (suc n1) p (us ++ sign q (codes ")") ∷ []) [] (kept_args args) _ (closed_rule k1 n1 q us args g) (post_done (call_of (kept e1) (kept_args args) l1 n1) (suc n1)))))

  post_of_parts : (l m : ℕ) (ts : List Lexeme) (a : Kept Tree) (j : ℕ) (us : List Lexeme) (b : Kept Tree) (n : ℕ) → Held (IsPrimary l) m ts a j → PostRest l a j us b n → Held (IsPost l) m (ts ++ us) b n
  post_of_parts l m ts a j us b n (held m1 n1 ts1 e r) x = post_more l (kept e) e m1 n1 ts1 us b n refl (one_primary l m1 n1 ts1 e r) x

  posts_there : (l m : ℕ) (ts : List Lexeme) (a : Kept Tree) (n : ℕ) → Seq (Held (IsPrimary l)) (λ f. PostRest l f) m ts a n → Held (IsPost l) m ts a n
  posts_there l m all a n (seq m1 k1 n1 ts us f b x y) = post_of_parts l m1 ts f k1 us b n1 x y

  posts_back : (l m : ℕ) (ts : List Lexeme) (a : Kept Tree) (n : ℕ) → Held (IsPost l) m ts a n → Seq (Held (IsPrimary l)) (λ f. PostRest l f) m ts a n
  posts_back l m ts a n (held m1 n1 ts1 e r) = post_split l m1 ts1 e n1 r

  pub exact_post : (l : ℕ) → Exact (Held (IsPost l)) goes_post (post expr k l)
  exact_post l =
      exact_as (Seq (Held (IsPrimary l)) (λ f. PostRest l f)) (Held (IsPost l))
      (exact_bind (primary expr k l) (λ e. post_from expr k l k e) (exact_primary expr k goes inner none_closes l) (λ e. exact_post_from l k e) (λ a j us b i rest r h. none_of_nothing (us ++ rest)))
      (posts_there l) (posts_back l)
