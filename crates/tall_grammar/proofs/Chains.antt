-- Signs before an operand, and operators between operands, are read exactly.
use Rattle.std.proofs.Common.{◌≡◌, ℕ, suc, zero, Bool, true, false, ◌||◌, List, [], ◌∷◌, ◌++◌, Option, Some, None, refl, sym, ap, ◌∙◌, subst, append_assoc}
use Rattle.std.proofs.lemmas.List.{append-nil}
use Rattle.tall_grammar.specs.declared.expressions.Prefix.{Prefix}
use Rattle.tall_grammar.specs.declared.expressions.Infix.{Infix}
use Rattle.tall_grammar.specs.Lexemes.{Lexeme, sign, prefix_sign}
use Rattle.tall_grammar.specs.Trees.{Tree, tree, prefixed, joined}
use Rattle.tall_grammar.specs.Grammar.{IsPre, one_post, prefixed_pre, IsPost}
use Rattle.tall_grammar.specs.Kept.{Kept, kept, prefixed_of, joined_of}
use Rattle.tall_grammar.specs.Readers.{Reader, ◌>>=◌, pure, front_is, front_as, numbered, operator_of}
use Rattle.tall_grammar.specs.ExprReader.{signs_from, signed, chain_from}
use Rattle.tall_grammar.proofs.Exact.{Rule, Exact}
use Rattle.tall_grammar.proofs.Combine.{IsPure, is_pure, IsNumbered, is_numbered, Seq, seq, IsGiven, with_it, without, exact_as, exact_pure, exact_numbered, exact_tired, exact_bind, exact_given}
use Rattle.tall_grammar.proofs.Signs.{operator_is}
use Rattle.tall_grammar.proofs.Lists.{nothing, none_of_nothing}
use Rattle.tall_grammar.proofs.KeptLemmas.{prefixed_kept, joined_kept}
use Rattle.tall_grammar.proofs.Operands.{Held, held, goes_post}
use Rattle.tall_grammar.proofs.Firsts.{NoOperand, First, first_front, first_of_post}

pub or_first : (a b : Bool) → (a || b) ≡ false → a ≡ false
or_first true b h = h
or_first false b h = refl

pub or_second : (a b : Bool) → (a || b) ≡ false → b ≡ false
or_second true b h = absurd cc
or_second false b h = h

abbrev pub is_there : {O : Type 0} → Option O → Bool
is_there None = false
is_there (Some o) = true

abbrev pub is_operator : {O : Type 0} → (List ℕ → Option O) → Lexeme → Bool
is_operator op t = is_there (operator_of op t)

not_there : {O : Type 0} (o : Option O) → is_there o ≡ false → o ≡ None
not_there None h = refl
not_there (Some o) h = absurd cc

pub no_operator : {O : Type 0} (op : List ℕ → Option O) (ts : List Lexeme) → front_is (is_operator op) ts ≡ false → front_as (operator_of op) ts ≡ None
no_operator op [] h = refl
no_operator op (t ∷ ts) h = not_there (operator_of op t) h

-- ---- signs before an operand

pub data SignsRule : List Prefix → ℕ → List Lexeme → List Prefix → ℕ → Type 0 where
  no_signs : (found : List Prefix) (m : ℕ) → SignsRule found m [] found m
  one_sign : (found : List Prefix) (m n : ℕ) (t : Lexeme) (o : Prefix) (ts : List Lexeme) (os : List Prefix) → operator_of prefix_sign t ≡ Some o → SignsRule (o ∷ found) m ts os n
      → SignsRule found m (t ∷ ts) os n

pub exact_signs : (n : ℕ) (found : List Prefix) → Exact (SignsRule found) (is_operator prefix_sign) (signs_from n found)
unfolding signs_from
exact_signs zero found = exact_tired (SignsRule found) (is_operator prefix_sign) (λ m. record { tokens = []; value = found; next = m; holds = no_signs found m })
exact_signs (suc n) found =
    exact_as (IsGiven (operator_of prefix_sign) (λ o. SignsRule (o ∷ found)) (IsPure found)) (SignsRule found)
    (exact_given (operator_of prefix_sign) (λ o. signs_from n (o ∷ found)) (pure found) (λ o. exact_signs n (o ∷ found)) (exact_pure (is_operator prefix_sign) found) (others found))
    (there found) (back found) where
      others : (found : List Prefix) (m : ℕ) (ts : List Lexeme) (a : List Prefix) (n : ℕ) (rest : List Lexeme) → IsPure found m ts a n → front_is (is_operator prefix_sign) rest ≡ false → front_as (operator_of prefix_sign) (ts ++ rest) ≡ None
      others found m ts a n rest (is_pure m1) h = no_operator prefix_sign rest h

      there : (found : List Prefix) (m : ℕ) (ts : List Lexeme) (a : List Prefix) (n : ℕ) → IsGiven (operator_of prefix_sign) (λ o. SignsRule (o ∷ found)) (IsPure found) m ts a n → SignsRule found m ts a n
      there found m all a n (with_it m1 n1 t ts o a1 h r) = one_sign found m1 n1 t o ts a1 h r
      there found m all a n (without m1 n1 ts a1 (is_pure m2)) = no_signs found m2

      back : (found : List Prefix) (m : ℕ) (ts : List Lexeme) (a : List Prefix) (n : ℕ) → SignsRule found m ts a n → IsGiven (operator_of prefix_sign) (λ o. SignsRule (o ∷ found)) (IsPure found) m ts a n
      back found m all a n (no_signs f m1) = without m1 m1 [] f (is_pure m1)
      back found m all a n (one_sign f m1 n1 t o ts os h r) = with_it m1 n1 t ts o os h r

pub data SignedRule (l : ℕ) : List Prefix → Kept Tree → ℕ → List Lexeme → Kept Tree → ℕ → Type 0 where
  signed_done : (e : Kept Tree) (m : ℕ) → SignedRule l [] e m [] e m
  signed_more : (o : Prefix) (os : List Prefix) (e : Kept Tree) (m n : ℕ) (ts : List Lexeme) (f : Kept Tree) → SignedRule l os (prefixed_of o e l m) (suc m) ts f n → SignedRule l (o ∷ os) e m ts f n

pub exact_signed_by : (goes : Lexeme → Bool) (l : ℕ) (os : List Prefix) (e : Kept Tree) → Exact (SignedRule l os e) goes (signed l os e)
unfolding signed
exact_signed_by goes l [] e = exact_as (IsPure e) (SignedRule l [] e) (exact_pure goes e) (there l e) (back l e) where
  there : (l : ℕ) (e : Kept Tree) (m : ℕ) (ts : List Lexeme) (a : Kept Tree) (n : ℕ) → IsPure e m ts a n → SignedRule l [] e m ts a n
  there l e m ts a n (is_pure m1) = signed_done e m1

  back : (l : ℕ) (e : Kept Tree) (m : ℕ) (ts : List Lexeme) (a : Kept Tree) (n : ℕ) → SignedRule l [] e m ts a n → IsPure e m ts a n
  back l e m ts a n (signed_done e1 m1) = is_pure m1
exact_signed_by goes l (o ∷ os) e =
    exact_as (Seq (IsNumbered (prefixed_of o e l)) (λ f. SignedRule l os f)) (SignedRule l (o ∷ os) e)
    (exact_bind (numbered (prefixed_of o e l)) (λ f. signed l os f) (exact_numbered nothing (prefixed_of o e l)) (λ f. exact_signed_by goes l os f) (λ a j us b i rest r h. none_of_nothing (us ++ rest)))
    (there l o os e) (back l o os e) where
      there : (l : ℕ) (o : Prefix) (os : List Prefix) (e : Kept Tree) (m : ℕ) (ts : List Lexeme) (a : Kept Tree) (n : ℕ) → Seq (IsNumbered (prefixed_of o e l)) (λ f. SignedRule l os f) m ts a n → SignedRule l (o ∷ os) e m ts a n
      there l o os e m all a n (seq m1 k1 n1 ts us f a1 (is_numbered m2) r) = signed_more o os e m2 n1 us a1 r

      back : (l : ℕ) (o : Prefix) (os : List Prefix) (e : Kept Tree) (m : ℕ) (ts : List Lexeme) (a : Kept Tree) (n : ℕ) → SignedRule l (o ∷ os) e m ts a n → Seq (IsNumbered (prefixed_of o e l)) (λ f. SignedRule l os f) m ts a n
      back l o os e m all a n (signed_more o1 os1 e1 m1 n1 ts f r) = seq m1 (suc m1) n1 [] ts _ f (is_numbered m1) r

signed_front : (test : Lexeme → Bool) (l : ℕ) (os : List Prefix) (e : Kept Tree) (m : ℕ) (ts : List Lexeme) (f : Kept Tree) (n : ℕ) (rest : List Lexeme) → SignedRule l os e m ts f n → front_is test rest ≡ false
    → front_is test (ts ++ rest) ≡ false
signed_front test l os e m ts f n rest (signed_done e1 m1) h = h
signed_front test l os e m ts f n rest (signed_more o os1 e1 m1 n1 ts1 f1 r) h = signed_front test l os1 (prefixed_of o e1 l m1) (suc m1) ts1 f1 n1 rest r h

signed_unrolled : (l : ℕ) (o : Prefix) (os : List Prefix) (e : Kept Tree) (m : ℕ) (ts : List Lexeme) (f : Kept Tree) (n : ℕ) → SignedRule l (o ∷ os) e m ts f n → SignedRule l os (prefixed_of o e l m) (suc m) ts f n
signed_unrolled l o os e m ts f n (signed_more o1 os1 e1 m1 n1 ts1 f1 r) = r

record PreParts (l m : ℕ) (ts : List Lexeme) (found : List Prefix) (vs : List Lexeme) (f : Kept Tree) (n : ℕ) : Type 0 where
  part : Tree
  between : ℕ
  before : IsPre l m ts part between
  after : SignedRule l found (kept part) between vs f n

pre_parts : (l : ℕ) (found : List Prefix) (m : ℕ) (ts : List Lexeme) (os : List Prefix) (k : ℕ) (us : List Lexeme) (e : Tree) (j : ℕ) (vs : List Lexeme) (f : Kept Tree) (n : ℕ)
    → SignsRule found m ts os k → IsPost l k us e j → SignedRule l os (kept e) j vs f n → PreParts l m (ts ++ us) found vs f n
pre_parts l found m ts os k us e j vs f n (no_signs found1 m1) r x = record { part = e; between = j; before = one_post l m1 j us e r; after = x }
pre_parts l found m all os k us e j vs f n (one_sign found1 m1 n1 t o ts os1 h s) r x =
    let u = pre_parts l (o ∷ found1) m1 ts os1 n1 us e j vs f n s r x in
    let p = operator_is prefix_sign t o h in
    record {
      part = tree u.between l (prefixed o u.part);
      between = suc u.between;
      before = subst (λ (y : Lexeme). IsPre l m1 (y ∷ (ts ++ us)) (tree u.between l (prefixed o u.part)) (suc u.between)) (sym p.0) (prefixed_pre l m1 u.between t.line t.text o (ts ++ us) u.part p.1 u.before);
      after = subst (λ (w : Kept Tree). SignedRule l found1 w (suc u.between) vs f n) (prefixed_kept o u.part l u.between) (signed_unrolled l o found1 (kept u.part) u.between vs f n u.after);
    }

pre_end : (l m : ℕ) (ts : List Lexeme) (a : Kept Tree) (j : ℕ) (vs : List Lexeme) (f : Kept Tree) (n : ℕ) → Held (IsPre l) m ts a j → SignedRule l [] a j vs f n → Held (IsPre l) m (ts ++ vs) f n
pre_end l m ts a j vs f n r (signed_done a1 m1) = subst (λ (w : List Lexeme). Held (IsPre l) m w a1 m1) (sym (append-nil ts)) r

abbrev pub PreRule : ℕ → Rule (Kept Tree)
PreRule l = Seq (SignsRule []) (λ os. Seq (Held (IsPost l)) (λ e. SignedRule l os e))

pre_held : (l m : ℕ) (ts : List Lexeme) (os : List Prefix) (k : ℕ) (us : List Lexeme) (a : Kept Tree) (j : ℕ) (vs : List Lexeme) (f : Kept Tree) (n : ℕ)
    → SignsRule [] m ts os k → Held (IsPost l) k us a j → SignedRule l os a j vs f n → Held (IsPre l) m (ts ++ (us ++ vs)) f n
pre_held l m ts os k us a j vs f n s (held k1 j1 us1 e r) x =
    let u = pre_parts l [] m ts os k1 us1 e j1 vs f n s r x in
    subst (λ (w : List Lexeme). Held (IsPre l) m w f n) (append_assoc ts us1 vs) (pre_end l m (ts ++ us1) (kept u.part) u.between vs f n (held m u.between (ts ++ us1) u.part u.before) u.after)

pub pre_there : (l m : ℕ) (ts : List Lexeme) (a : Kept Tree) (n : ℕ) → PreRule l m ts a n → Held (IsPre l) m ts a n
pre_there l m all a n (seq m1 k1 n1 ts us os a1 s (seq m2 k2 n2 ts2 us2 e a2 r x)) = pre_held l m1 ts os m2 ts2 e k2 us2 a2 n2 s r x

record PreBack (l m : ℕ) (ts : List Lexeme) (found : List Prefix) (e : Tree) (n : ℕ) : Type 0 where
  signs : List Lexeme
  os : List Prefix
  us : List Lexeme
  part : Tree
  between : ℕ
  text : ts ≡ signs ++ us
  before : SignsRule found m signs os m
  operand : IsPost l m us part between
  after : (f : Kept Tree) (p : ℕ) → SignedRule l found (kept e) n [] f p → SignedRule l os (kept part) between [] f p

pre_split : (l m : ℕ) (ts : List Lexeme) (e : Tree) (n : ℕ) (found : List Prefix) → IsPre l m ts e n → PreBack l m ts found e n
pre_split l m ts e n found (one_post l1 m1 n1 ts1 e1 r) =
    record { signs = []; os = found; us = ts1; part = e1; between = n1; text = refl; before = no_signs found m1; operand = r; after = λ f p x. x }
pre_split l m all e n found (prefixed_pre l1 m1 n1 p s o ts e1 h r) =
    let u = pre_split l1 m1 ts e1 n1 (o ∷ found) r in
    record {
      signs = sign p s ∷ u.signs;
      os = u.os;
      us = u.us;
      part = u.part;
      between = u.between;
      text = ap (λ w. sign p s ∷ w) u.text;
      before = one_sign found m1 m1 (sign p s) o u.signs u.os h u.before;
      operand = u.operand;
      after = λ f q x. u.after f q (signed_more o found (kept e1) n1 q [] f (subst (λ (w : Kept Tree). SignedRule l1 found w (suc n1) [] f q) (sym (prefixed_kept o e1 l1 n1)) x));
    }

pub pre_back : (l m : ℕ) (ts : List Lexeme) (a : Kept Tree) (n : ℕ) → Held (IsPre l) m ts a n → PreRule l m ts a n
pre_back l m all a n (held m1 n1 ts e r) =
    let u = pre_split l m1 ts e n1 [] r in
    subst (λ (w : List Lexeme). PreRule l m1 w (kept e) n1) (ap (λ w. u.signs ++ w) (append-nil u.us) ∙ sym u.text)
    (seq m1 m1 n1 u.signs (u.us ++ []) u.os (kept e) u.before (seq m1 u.between n1 u.us [] (kept u.part) (kept e) (held m1 u.between u.us u.part u.operand) (u.after (kept e) n1 (signed_done (kept e) n1))))

pub no_sign_operand : NoOperand (is_operator prefix_sign)
no_sign_operand = record { numbers = λ p s. refl; texts = λ p s. refl; names = λ p s. refl; paren = λ p. refl; brace = λ p. refl; bracket = λ p. refl; at_sign = λ p. refl }

pub exact_pre : (l k : ℕ) (operand : Reader (Kept Tree)) → Exact (Held (IsPost l)) goes_post operand
    → Exact (Held (IsPre l)) goes_post (signs_from k [] >>= (λ os. operand >>= (λ e. signed l os e)))
exact_pre l k operand x =
    exact_as (PreRule l) (Held (IsPre l))
    (exact_bind (signs_from k []) (λ os. operand >>= (λ e. signed l os e)) (exact_signs k [])
    (λ os. exact_bind operand (λ e. signed l os e) x (λ e. exact_signed_by goes_post l os e) (λ a j us b i rest r h. signed_front goes_post l os a j us b i rest r h))
    (follows l)) (pre_there l) (pre_back l) where
      held_first : (l k : ℕ) (us : List Lexeme) (e : Kept Tree) (n : ℕ) → Held (IsPost l) k us e n → First (is_operator prefix_sign) us
      held_first l k us e n (held m1 n1 ts1 e1 r) = first_of_post (is_operator prefix_sign) no_sign_operand l m1 ts1 e1 n1 r

      follows : (l : ℕ) (os : List Prefix) (k : ℕ) (us : List Lexeme) (b : Kept Tree) (n : ℕ) (rest : List Lexeme) → Seq (Held (IsPost l)) (λ e. SignedRule l os e) k us b n → front_is goes_post rest ≡ false
          → front_is (is_operator prefix_sign) (us ++ rest) ≡ false
      follows l os k all b n rest (seq m1 k1 n1 ts us e b1 r y) h =
          ap (front_is (is_operator prefix_sign)) (append_assoc ts us rest) ∙ first_front (is_operator prefix_sign) ts (us ++ rest) (held_first l m1 ts e k1 r)

-- ---- operators between two operands

pub data LeftChain (l : ℕ) (op : List ℕ → Option Infix) (S : Rule Tree) : ℕ → List Lexeme → Tree → ℕ → Type 0 where
  one_part : (m n : ℕ) (ts : List Lexeme) (e : Tree) → S m ts e n → LeftChain l op S m ts e n
  more_parts : (m k n p : ℕ) (s : List ℕ) (o : Infix) (ts us : List Lexeme) (e f : Tree) → LeftChain l op S m ts e k → op s ≡ Some o → S k us f n
      → LeftChain l op S m (ts ++ sign p s ∷ us) (tree n l (joined o e f)) (suc n)

pub data ChainRest (l : ℕ) (op : List ℕ → Option Infix) (S : Rule (Kept Tree)) : Kept Tree → ℕ → List Lexeme → Kept Tree → ℕ → Type 0 where
  chain_done : (a : Kept Tree) (m : ℕ) → ChainRest l op S a m [] a m
  chain_more : (a : Kept Tree) (m k n : ℕ) (t : Lexeme) (o : Infix) (ts us : List Lexeme) (f b : Kept Tree) → operator_of op t ≡ Some o → S m ts f k → ChainRest l op S (joined_of o a f l k) (suc k) us b n
      → ChainRest l op S a m (t ∷ (ts ++ us)) b n

abbrev pub goes_chain : (List ℕ → Option Infix) → (Lexeme → Bool) → Lexeme → Bool
goes_chain op near t = is_operator op t || near t

module _ (l : ℕ) (op : List ℕ → Option Infix) (near : Lexeme → Bool) (S : Rule (Kept Tree)) (operand : Reader (Kept Tree)) (x : Exact S near operand)
    (apart : (t : Lexeme) (o : Infix) → operator_of op t ≡ Some o → near t ≡ false) where
  abbrev ChainStep : Kept Tree → Rule (Kept Tree)
  ChainStep a = IsGiven (operator_of op) (λ o. Seq S (λ f. Seq (IsNumbered (joined_of o a f l)) (λ g. ChainRest l op S g))) (IsPure a)

  no_op : (ts : List Lexeme) → front_is (goes_chain op near) ts ≡ false → front_as (operator_of op) ts ≡ None
  no_op [] h = refl
  no_op (t ∷ ts) h = not_there (operator_of op t) (or_first (is_operator op t) (near t) h)

  no_near : (ts : List Lexeme) → front_is (goes_chain op near) ts ≡ false → front_is near ts ≡ false
  no_near [] h = refl
  no_near (t ∷ ts) h = or_second (is_operator op t) (near t) h

  chain_front : (a : Kept Tree) (m : ℕ) (ts : List Lexeme) (b : Kept Tree) (n : ℕ) (rest : List Lexeme) → ChainRest l op S a m ts b n → front_is (goes_chain op near) rest ≡ false → front_is near (ts ++ rest) ≡ false
  chain_front a m ts b n rest (chain_done a1 m1) h = no_near rest h
  chain_front a m all b n rest (chain_more a1 m1 k1 n1 t o ts us f b1 g r s) h = apart t o g

  after_operand : (o : Infix) (a f : Kept Tree) (j : ℕ) (us : List Lexeme) (b : Kept Tree) (n : ℕ) (rest : List Lexeme) → Seq (IsNumbered (joined_of o a f l)) (λ g. ChainRest l op S g) j us b n
      → front_is (goes_chain op near) rest ≡ false → front_is near (us ++ rest) ≡ false
  after_operand o a f j all b n rest (seq m1 k1 n1 ts us g b1 (is_numbered m2) r) h = chain_front g k1 us b1 n1 rest r h

  others : (a : Kept Tree) (m : ℕ) (ts : List Lexeme) (b : Kept Tree) (n : ℕ) (rest : List Lexeme) → IsPure a m ts b n → front_is (goes_chain op near) rest ≡ false → front_as (operator_of op) (ts ++ rest) ≡ None
  others a m ts b n rest (is_pure m1) h = no_op rest h

  chain_there : (a : Kept Tree) (m : ℕ) (ts : List Lexeme) (b : Kept Tree) (n : ℕ) → ChainStep a m ts b n → ChainRest l op S a m ts b n
  chain_there a m all b n (with_it m1 n1 t ts o b1 h (seq m2 k2 n2 ts2 us2 f b2 r (seq m3 k3 n3 ts3 us3 g b3 (is_numbered m4) s))) = chain_more a m2 m4 n3 t o ts2 us3 f b3 h r s
  chain_there a m all b n (without m1 n1 ts b1 (is_pure m2)) = chain_done a m2

  chain_back : (a : Kept Tree) (m : ℕ) (ts : List Lexeme) (b : Kept Tree) (n : ℕ) → ChainRest l op S a m ts b n → ChainStep a m ts b n
  chain_back a m ts b n (chain_done a1 m1) = without m1 m1 [] a1 (is_pure m1)
  chain_back a m all b n (chain_more a1 m1 k1 n1 t o ts us f b1 h r s) = with_it m1 n1 t _ o b1 h (seq m1 k1 n1 ts us f b1 r (seq k1 (suc k1) n1 [] us _ b1 (is_numbered k1) s))

  pub exact_chain : (k : ℕ) (a : Kept Tree) → Exact (ChainRest l op S a) (goes_chain op near) (chain_from op operand l k a)
  unfolding chain_from
  exact_chain zero a = exact_tired (ChainRest l op S a) (goes_chain op near) (λ m. record { tokens = []; value = a; next = m; holds = chain_done a m })
  exact_chain (suc k) a =
      exact_as (ChainStep a) (ChainRest l op S a)
      (exact_given (operator_of op) (λ o. operand >>= (λ f. numbered (joined_of o a f l) >>= (λ g. chain_from op operand l k g))) (pure a)
      (λ o. exact_bind operand (λ f. numbered (joined_of o a f l) >>= (λ g. chain_from op operand l k g)) x
      (λ f. exact_bind (numbered (joined_of o a f l)) (λ g. chain_from op operand l k g) (exact_numbered nothing (joined_of o a f l)) (λ g. exact_chain k g) (λ c j us b i rest r h. none_of_nothing (us ++ rest)))
      (after_operand o a))
      (exact_pure (goes_chain op near) a) (others a))
      (chain_there a) (chain_back a)

module _ (l : ℕ) (op : List ℕ → Option Infix) (S : Rule Tree) where
  chain_more_left : (a : Kept Tree) (e : Tree) (m j : ℕ) (ts us : List Lexeme) (b : Kept Tree) (n : ℕ) → a ≡ kept e → LeftChain l op S m ts e j → ChainRest l op (Held S) a j us b n → Held (LeftChain l op S) m (ts ++ us) b n
  chain_more_left a e m j ts us b n q r (chain_done a1 m1) =
      subst (λ (w : List Lexeme). Held (LeftChain l op S) m w a1 m1) (sym (append-nil ts)) (subst (λ (w : Kept Tree). Held (LeftChain l op S) m ts w m1) (sym q) (held m m1 ts e r))
  chain_more_left a e m j ts all b n q r (chain_more a1 m1 k1 n1 t o us vs f b1 h (held m2 k2 us2 f2 y) s) =
      let p = operator_is op t o h in
      subst (λ (w : List Lexeme). Held (LeftChain l op S) m w b1 n1) (append_assoc ts (t ∷ us2) vs)
      (chain_more_left (joined_of o a1 (kept f2) l k2) (tree k2 l (joined o e f2)) m (suc k2) (ts ++ t ∷ us2) vs b1 n1
      (ap (λ w. joined_of o w (kept f2) l k2) q ∙ joined_kept o e f2 l k2)
      (subst (λ (z : Lexeme). LeftChain l op S m (ts ++ z ∷ us2) (tree k2 l (joined o e f2)) (suc k2)) (sym p.0) (more_parts m m2 k2 t.line t.text o ts us2 e f2 r p.1 y)) s)

  chain_and : (a : Kept Tree) (m : ℕ) (ts : List Lexeme) (b : Kept Tree) (j : ℕ) (us : List Lexeme) (c : Kept Tree) (n : ℕ) → ChainRest l op (Held S) a m ts b j → ChainRest l op (Held S) b j us c n → ChainRest l op (Held S) a m (ts ++ us) c n
  chain_and a m ts b j us c n (chain_done a1 m1) y = y
  chain_and a m all b j us c n (chain_more a1 m1 k1 n1 t o ts vs f b1 h r s) y =
      subst (λ (w : List Lexeme). ChainRest l op (Held S) a1 m1 (t ∷ w) c n) (sym (append_assoc ts vs us))
      (chain_more a1 m1 k1 n t o ts (vs ++ us) f c h r (chain_and (joined_of o a1 f l k1) (suc k1) vs b1 n1 us c n s y))

  seq_more : (m : ℕ) (ts : List Lexeme) (a : Kept Tree) (n : ℕ) (us : List Lexeme) (c : Kept Tree) (j : ℕ) → Seq (Held S) (λ f. ChainRest l op (Held S) f) m ts a n → ChainRest l op (Held S) a n us c j
      → Seq (Held S) (λ f. ChainRest l op (Held S) f) m (ts ++ us) c j
  seq_more m all a n us c j (seq m2 k2 n2 ts2 us2 f b2 x y) z =
      subst (λ (w : List Lexeme). Seq (Held S) (λ f. ChainRest l op (Held S) f) m2 w c j) (sym (append_assoc ts2 us2 us)) (seq m2 k2 j ts2 (us2 ++ us) f c x (chain_and f k2 us2 b2 n2 us c j y z))

  chain_split : (m : ℕ) (ts : List Lexeme) (e : Tree) (n : ℕ) → LeftChain l op S m ts e n → Seq (Held S) (λ f. ChainRest l op (Held S) f) m ts (kept e) n
  chain_split m ts e n (one_part m1 n1 ts1 e1 r) =
      subst (λ (w : List Lexeme). Seq (Held S) (λ f. ChainRest l op (Held S) f) m1 w (kept e1) n1) (append-nil ts1) (seq m1 n1 n1 ts1 [] (kept e1) (kept e1) (held m1 n1 ts1 e1 r) (chain_done (kept e1) n1))
  chain_split m all e n (more_parts m1 k1 n1 p s o ts us e1 f r h y) =
      seq_more m1 ts (kept e1) k1 _ _ _ (chain_split m1 ts e1 k1 r)
      (subst (λ (w : List Lexeme). ChainRest l op (Held S) (kept e1) k1 (sign p s ∷ w) (kept (tree n1 l (joined o e1 f))) (suc n1)) (append-nil us)
      (subst (λ (w : Kept Tree). ChainRest l op (Held S) (kept e1) k1 (sign p s ∷ (us ++ [])) w (suc n1)) (joined_kept o e1 f l n1)
      (chain_more (kept e1) k1 n1 (suc n1) (sign p s) o us [] (kept f) _ h (held k1 n1 us f y) (chain_done (joined_of o (kept e1) (kept f) l n1) (suc n1)))))

  chain_parts : (m : ℕ) (ts : List Lexeme) (a : Kept Tree) (j : ℕ) (us : List Lexeme) (b : Kept Tree) (n : ℕ) → Held S m ts a j → ChainRest l op (Held S) a j us b n → Held (LeftChain l op S) m (ts ++ us) b n
  chain_parts m ts a j us b n (held m1 n1 ts1 e r) x = chain_more_left (kept e) e m1 n1 ts1 us b n refl (one_part m1 n1 ts1 e r) x

  chains_there : (m : ℕ) (ts : List Lexeme) (a : Kept Tree) (n : ℕ) → Seq (Held S) (λ f. ChainRest l op (Held S) f) m ts a n → Held (LeftChain l op S) m ts a n
  chains_there m all a n (seq m1 k1 n1 ts us f b x y) = chain_parts m1 ts f k1 us b n1 x y

  chains_back : (m : ℕ) (ts : List Lexeme) (a : Kept Tree) (n : ℕ) → Held (LeftChain l op S) m ts a n → Seq (Held S) (λ f. ChainRest l op (Held S) f) m ts a n
  chains_back m ts a n (held m1 n1 ts1 e r) = chain_split m1 ts1 e n1 r

  pub exact_level : (near : Lexeme → Bool) (operand : Reader (Kept Tree)) → Exact (Held S) near operand → ((t : Lexeme) (o : Infix) → operator_of op t ≡ Some o → near t ≡ false) → (k : ℕ)
      → Exact (Held (LeftChain l op S)) (goes_chain op near) (operand >>= (λ e. chain_from op operand l k e))
  exact_level near operand x apart k =
      exact_as (Seq (Held S) (λ f. ChainRest l op (Held S) f)) (Held (LeftChain l op S))
      (exact_bind operand (λ e. chain_from op operand l k e) x (λ e. exact_chain l op near (Held S) operand x apart k e)
      (λ a j us b i rest r h. chain_front l op near (Held S) operand x apart a j us b i rest r h))
      chains_there chains_back
