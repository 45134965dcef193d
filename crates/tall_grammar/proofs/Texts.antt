-- Lists of texts are read exactly.
use Rattle.std.proofs.Common.{◌≡◌, ◌≤◌, ℕ, suc, Bool, true, false, ◌||◌, List, [], ◌∷◌, ◌++◌, refl, sym, ap, ◌∙◌, subst, arith}
use Rattle.std.specs.Prelude.{codes, ◌&&◌}
use Rattle.tall_lex.specs.declared.tokens.TokenKind.{TokenKind}
use Rattle.tall_lex.specs.declared.tokens.TokenKind.TheVariants.{Name, Number, Text, Word, Sign, LineEnd}
use Rattle.tall_grammar.specs.Lexemes.{Lexeme, sign, text_token, is_the_sign, text_value, is_sign_kind}
use Rattle.tall_grammar.specs.Refusals.{height, trees_height}
use Rattle.tall_grammar.specs.Trees.{Tree, tree, text, list, Trees, no_trees, and_tree}
use Rattle.tall_grammar.specs.Views.{trees_of}
use Rattle.tall_grammar.specs.Grammar.{AreTexts, no_more_texts, more_texts, AreListed, none_listed, some_listed}
use Rattle.tall_grammar.specs.Kept.{Kept, kept, keep, list_of}
use Rattle.tall_grammar.specs.Readers.{pure, peek, front_is, goes_on_with, listed_from, take_text, is_text_token, is_text_kind, numbered, text_if, expect_sign}
use Rattle.tall_grammar.specs.ExprReader.{text_here, texts, closed_list, list_in_braces, list_in_brackets}
use Rattle.tall_grammar.proofs.Exact.{Exact}
use Rattle.tall_grammar.proofs.Combine.{IsPure, is_pure, IsNumbered, is_numbered, IsTaken, is_taken, Seq, seq, Either, one, other, Passes, passes, exact_as, exact_pure, exact_numbered, exact_bind, exact_peek, exact_take}
use Rattle.tall_grammar.proofs.Signs.{sign_is, text_is, text_if_is, exact_expect}
use Rattle.tall_grammar.proofs.Lists.{nothing, none_of_nothing, Starts, Listed, no_more, one_more, ListedFrom, listed_so, exact_listed}

pub data TextHere (l : ℕ) : ℕ → List Lexeme → Tree → ℕ → Type 0 where
  a_text_here : (m p : ℕ) (s : List ℕ) → TextHere l m (text_token p s ∷ []) (tree m l (text (text_value s))) (suc m)

pub exact_text : (l : ℕ) → Exact (TextHere l) nothing (text_here l)
exact_text l =
    exact_as (Seq (IsTaken (text_if is_text_token)) (λ s. IsNumbered (λ n. tree n l (text (text_value s))))) (TextHere l)
    (exact_bind (take_text is_text_token) (λ s. numbered (λ n. tree n l (text (text_value s))))
    (exact_take nothing (text_if is_text_token) (text_token 1 []) [] refl) (λ s. exact_numbered nothing (λ n. tree n l (text (text_value s)))) (λ a k us b n rest r h. none_of_nothing (us ++ rest)))
    (there l) (back l) where
      there : (l m : ℕ) (ts : List Lexeme) (e : Tree) (n : ℕ) → Seq (IsTaken (text_if is_text_token)) (λ s. IsNumbered (λ n. tree n l (text (text_value s)))) m ts e n → TextHere l m ts e n
      there l m all e n (seq m1 k n1 ts us s e1 (is_taken m2 t s1 h) (is_numbered m3)) =
          let p = text_if_is is_text_token t s1 h in
          subst (λ (x : List ℕ). TextHere l m3 (t ∷ []) (tree m3 l (text (text_value x))) (suc m3)) p.1
          (subst (λ (x : Lexeme). TextHere l m3 (x ∷ []) (tree m3 l (text (text_value t.text))) (suc m3)) (sym (text_is t p.0)) (a_text_here m3 t.line t.text))

      back : (l m : ℕ) (ts : List Lexeme) (e : Tree) (n : ℕ) → TextHere l m ts e n → Seq (IsTaken (text_if is_text_token)) (λ s. IsNumbered (λ n. tree n l (text (text_value s)))) m ts e n
      back l m ts e n (a_text_here m1 p s) = seq m1 m1 (suc m1) (text_token p s ∷ []) [] s _ (is_taken m1 (text_token p s) s refl) (is_numbered m1)

text_starts : (l m : ℕ) (ts : List Lexeme) (e : Tree) (n : ℕ) → TextHere l m ts e n → Starts is_text_token ts
text_starts l m ts e n (a_text_here m1 p s) = record { token = text_token p s; others = []; text = refl; passes = refl }

text_no_sign : (k : TokenKind) (b : Bool) → is_text_kind k ≡ true → is_sign_kind k ≡ false
text_no_sign k b h = elim k as (λ k. is_text_kind k ≡ true → is_sign_kind k ≡ false) [
  | Name ↦ λ h. refl
  | Number ↦ λ h. refl
  | Text ↦ λ h. refl
  | Word ↦ λ h. refl
  | Sign ↦ λ h. absurd cc
  | LineEnd ↦ λ h. refl
] h

and_false : (a b : Bool) → a ≡ false → (a && b) ≡ false
and_false true b h = absurd cc
and_false false b h = refl

pub no_text_sign : (s : List ℕ) (t : Lexeme) → is_text_token t ≡ true → is_the_sign s t ≡ false
no_text_sign s t h = and_false (is_sign_kind t.kind) _ (text_no_sign t.kind true h)

-- text { [','] text }
pub data SomeTexts (l : ℕ) : ℕ → List Lexeme → List Tree → ℕ → Type 0 where
  some_texts : (m n p : ℕ) (s : List ℕ) (ts : List Lexeme) (es : List Tree) → Listed (TextHere l) (suc m) ts es n
      → SomeTexts l m (text_token p s ∷ ts) (tree m l (text (text_value s)) ∷ es) n

pub exact_texts : (k l : ℕ) → Exact (SomeTexts l) (goes_on_with is_text_token) (texts k l)
exact_texts k l =
    exact_as (Seq (TextHere l) (λ e. ListedFrom (TextHere l) (e ∷ []))) (SomeTexts l)
    (exact_bind (text_here l) (λ e. listed_from is_text_token (text_here l) k (e ∷ [])) (exact_text l)
    (λ e. exact_listed is_text_token (text_here l) (exact_text l) (text_starts l) (no_text_sign (codes ",")) k (e ∷ [])) (λ a k us b n rest r h. none_of_nothing (us ++ rest)))
    (there l) (back l) where
      there : (l m : ℕ) (ts : List Lexeme) (es : List Tree) (n : ℕ) → Seq (TextHere l) (λ e. ListedFrom (TextHere l) (e ∷ [])) m ts es n → SomeTexts l m ts es n
      there l m all es n (seq m1 k n1 ts us e es1 (a_text_here m2 p s) (listed_so m3 n3 ts3 bs r)) = some_texts m2 n3 p s ts3 bs r

      back : (l m : ℕ) (ts : List Lexeme) (es : List Tree) (n : ℕ) → SomeTexts l m ts es n → Seq (TextHere l) (λ e. ListedFrom (TextHere l) (e ∷ [])) m ts es n
      back l m all es n (some_texts m1 n1 p s ts bs r) = seq m1 (suc m1) n1 (text_token p s ∷ []) ts _ _ (a_text_here m1 p s) (listed_so (suc m1) n1 ts bs r)

-- ---- as the grammar has them

texts_there : (l m : ℕ) (ts : List Lexeme) (es : List Tree) (n : ℕ) → Listed (TextHere l) m ts es n → AreTexts l m ts (trees_of es) n
texts_there l m all es n (no_more m1) = no_more_texts l m1
texts_there l m all es n (one_more m1 k n1 cs ts us e bs c (a_text_here m2 p s) r) = more_texts l m2 n1 p s cs us (trees_of bs) c (texts_there l (suc m2) us bs n1 r)

-- a list of trees that are these
pub data TreesAre : Trees → List Tree → Type 0 where
  trees_are : (es : List Tree) → TreesAre (trees_of es) es

pub record Texts (l m : ℕ) (ts : List Lexeme) (es : Trees) (n : ℕ) : Type 0 where
  pub trees : List Tree
  pub same : es ≡ trees_of trees
  pub holds : Listed (TextHere l) m ts trees n

texts_back : (l m : ℕ) (ts : List Lexeme) (es : Trees) (n : ℕ) → AreTexts l m ts es n → Texts l m ts es n
texts_back l m ts es n (no_more_texts l1 m1) = record { trees = []; same = refl; holds = no_more m1 }
texts_back l m all es n (more_texts l1 m1 n1 p s cs ts es1 c r) =
    let u = texts_back l1 (suc m1) ts es1 n1 r in
    record {
      trees = tree m1 l1 (text (text_value s)) ∷ u.trees;
      same = ap (and_tree (tree m1 l1 (text (text_value s)))) u.same;
      holds = one_more m1 (suc m1) n1 cs (text_token p s ∷ []) ts _ u.trees c (a_text_here m1 p s) u.holds;
    }

texts_low : (l m : ℕ) (ts : List Lexeme) (es : List Tree) (n : ℕ) → Listed (TextHere l) m ts es n → trees_height (trees_of es) ≤ 1
texts_low l m all es n (no_more m1) = omega arith
texts_low l m all es n (one_more m1 k n1 cs ts us e bs c (a_text_here m2 p s) r) = let h = texts_low l (suc m2) us bs n1 r in omega (arith, h)

some_kept : (l m n k p : ℕ) (ts : List Lexeme) (s : List ℕ) (bs : List Tree) (j : ℕ) → Listed (TextHere l) m ts bs n
    → kept (tree k l (list (trees_of (tree j l (text s) ∷ bs)))) ≡ list_of (tree j l (text s) ∷ bs) l k
some_kept l m n k p ts s bs j r =
    let low = texts_low l m ts bs n r in
    let h : height (tree k l (list (trees_of (tree j l (text s) ∷ bs)))) ≡ 2 = omega (arith, low) in
    ap (keep (tree k l (list (trees_of (tree j l (text s) ∷ bs))))) h

-- behind an opening bracket: texts and the bracket that closes
pub data Bracketed (l : ℕ) (bracket : List ℕ) (P : ℕ → List Lexeme → Trees → ℕ → Type 0) : ℕ → List Lexeme → Kept Tree → ℕ → Type 0 where
  bracketed : (m n p : ℕ) (ts : List Lexeme) (es : Trees) → P m ts es n → Bracketed l bracket P m (ts ++ sign p bracket ∷ []) (kept (tree n l (list es))) (suc n)

closing : (l : ℕ) (bracket : List ℕ) (es : List Tree) → is_the_sign bracket (sign 1 bracket) ≡ true
    → Exact (Seq (Passes (is_the_sign bracket)) (λ _. IsNumbered (list_of es l))) nothing (closed_list l bracket es)
closing l bracket es h =
    exact_bind (expect_sign bracket) (λ _. numbered (list_of es l)) (exact_expect nothing (is_the_sign bracket) (sign 1 bracket) h) (λ _. exact_numbered nothing (list_of es l))
    (λ a k us b n rest r h. none_of_nothing (us ++ rest))

-- some texts behind '['
pub data BracketTexts (l : ℕ) : ℕ → List Lexeme → Trees → ℕ → Type 0 where
  bracket_texts : (m n p : ℕ) (s : List ℕ) (ts : List Lexeme) (es : Trees) → AreTexts l (suc m) ts es n
      → BracketTexts l m (text_token p s ∷ ts) (and_tree (tree m l (text (text_value s))) es) n

-- the bracket that closes is no text and no comma
closes_after : (l : ℕ) (bracket : List ℕ) → ((p : ℕ) → goes_on_with is_text_token (sign p bracket) ≡ false) → (es : List Tree) (k : ℕ) (us : List Lexeme) (b : Kept Tree) (n : ℕ) (rest : List Lexeme)
    → Seq (Passes (is_the_sign bracket)) (λ _. IsNumbered (list_of es l)) k us b n → front_is nothing rest ≡ false → front_is (goes_on_with is_text_token) (us ++ rest) ≡ false
closes_after l bracket apart es k all b n rest (seq m1 k1 n1 ts us c b1 (passes m2 t h) (is_numbered m3)) f =
    ap (goes_on_with is_text_token) (sign_is bracket t h) ∙ apart t.line

bracket_of : (l : ℕ) (bracket : List ℕ) (es : List Tree) (t : Lexeme) → is_the_sign bracket t ≡ true → t ≡ sign t.line bracket
bracket_of l bracket es t h = sign_is bracket t h

pub exact_brackets : (k l : ℕ) → Exact (Bracketed l (codes "]") (BracketTexts l)) nothing (list_in_brackets k l)
exact_brackets k l =
    exact_as (Seq (SomeTexts l) (λ es. Seq (Passes (is_the_sign (codes "]"))) (λ _. IsNumbered (list_of es l)))) (Bracketed l (codes "]") (BracketTexts l))
    (exact_bind (texts k l) (λ es. closed_list l (codes "]") es) (exact_texts k l) (λ es. closing l (codes "]") es refl) (closes_after l (codes "]") (λ p. refl)))
    (there l) (back l) where
      there : (l m : ℕ) (ts : List Lexeme) (e : Kept Tree) (n : ℕ) → Seq (SomeTexts l) (λ es. Seq (Passes (is_the_sign (codes "]"))) (λ _. IsNumbered (list_of es l))) m ts e n
          → Bracketed l (codes "]") (BracketTexts l) m ts e n
      there l m all e n (seq m1 k n1 ts us es e1 (some_texts m2 n2 p s ts2 bs r) (seq m3 k3 n3 ts3 us3 c e3 (passes m4 t h) (is_numbered m5))) =
          subst (λ (w : Kept Tree). Bracketed l (codes "]") (BracketTexts l) m2 (text_token p s ∷ (ts2 ++ t ∷ [])) w (suc m5)) (some_kept l (suc m2) m5 m5 0 ts2 (text_value s) bs m2 r)
          (subst (λ (x : Lexeme). Bracketed l (codes "]") (BracketTexts l) m2 (text_token p s ∷ (ts2 ++ x ∷ [])) (kept (tree m5 l (list (trees_of (tree m2 l (text (text_value s)) ∷ bs))))) (suc m5)) (sym (sign_is (codes "]") t h))
          (bracketed m2 m5 t.line (text_token p s ∷ ts2) _ (bracket_texts m2 m5 p s ts2 (trees_of bs) (texts_there l (suc m2) ts2 bs m5 r))))

      back : (l m : ℕ) (ts : List Lexeme) (e : Kept Tree) (n : ℕ) → Bracketed l (codes "]") (BracketTexts l) m ts e n
          → Seq (SomeTexts l) (λ es. Seq (Passes (is_the_sign (codes "]"))) (λ _. IsNumbered (list_of es l))) m ts e n
      back l m all e n (bracketed m1 n1 p ts es (bracket_texts m2 n2 q s ts2 es2 r)) =
          let u = texts_back l (suc m2) ts2 es2 n2 r in
          subst (λ (w : Kept Tree). Seq (SomeTexts l) (λ es. Seq (Passes (is_the_sign (codes "]"))) (λ _. IsNumbered (list_of es l))) m2 (text_token q s ∷ (ts2 ++ sign p (codes "]") ∷ [])) w (suc n2))
          (sym (some_kept l (suc m2) n2 n2 0 ts2 (text_value s) u.trees m2 u.holds) ∙ ap (λ w. kept (tree n2 l (list (and_tree (tree m2 l (text (text_value s))) w)))) (sym u.same))
          (seq m2 n2 (suc n2) (text_token q s ∷ ts2) (sign p (codes "]") ∷ []) (tree m2 l (text (text_value s)) ∷ u.trees) _ (some_texts m2 n2 q s ts2 u.trees u.holds)
          (seq n2 n2 (suc n2) (sign p (codes "]") ∷ []) [] tt _ (passes n2 (sign p (codes "]")) refl) (is_numbered n2)))

-- [ text { [','] text } ]
pub exact_braces : (k l : ℕ) → Exact (Bracketed l (codes "}") (AreListed l)) nothing (list_in_braces k l)
exact_braces k l =
    exact_as (Seq (Either (SomeTexts l) (IsPure [])) (λ es. Seq (Passes (is_the_sign (codes "}"))) (λ _. IsNumbered (list_of es l)))) (Bracketed l (codes "}") (AreListed l))
    (exact_bind (peek is_text_token (texts k l) (pure [])) (λ es. closed_list l (codes "}") es)
    (exact_peek is_text_token (texts k l) (pure []) (exact_texts k l) (exact_pure (goes_on_with is_text_token) []) (first l) others)
    (λ es. closing l (codes "}") es refl) (closes_after l (codes "}") (λ p. refl)))
    (there l) (back l) where
      first : (l m : ℕ) (ts : List Lexeme) (a : List Tree) (n : ℕ) (rest : List Lexeme) → SomeTexts l m ts a n → front_is (goes_on_with is_text_token) rest ≡ false → front_is is_text_token (ts ++ rest) ≡ true
      first l m all a n rest (some_texts m2 n2 p s ts2 bs r) h = refl

      or_left : (a b : Bool) → (a || b) ≡ false → a ≡ false
      or_left true b h = h
      or_left false b h = refl

      no_text : (ts : List Lexeme) → front_is (goes_on_with is_text_token) ts ≡ false → front_is is_text_token ts ≡ false
      no_text [] h = refl
      no_text (t ∷ ts) h = or_left (is_text_token t) (is_the_sign (codes ",") t) h

      others : (m : ℕ) (ts : List Lexeme) (a : List Tree) (n : ℕ) (rest : List Lexeme) → IsPure [] m ts a n → front_is (goes_on_with is_text_token) rest ≡ false → front_is is_text_token (ts ++ rest) ≡ false
      others m ts a n rest (is_pure m1) h = no_text rest h

      there : (l m : ℕ) (ts : List Lexeme) (e : Kept Tree) (n : ℕ) → Seq (Either (SomeTexts l) (IsPure [])) (λ es. Seq (Passes (is_the_sign (codes "}"))) (λ _. IsNumbered (list_of es l))) m ts e n
          → Bracketed l (codes "}") (AreListed l) m ts e n
      there l m all e n (seq m1 k n1 ts us es e1 (one m0 n0 ts0 es0 (some_texts m2 n2 p s ts2 bs r)) (seq m3 k3 n3 ts3 us3 c e3 (passes m4 t h) (is_numbered m5))) =
          subst (λ (w : Kept Tree). Bracketed l (codes "}") (AreListed l) m2 (text_token p s ∷ (ts2 ++ t ∷ [])) w (suc m5)) (some_kept l (suc m2) m5 m5 0 ts2 (text_value s) bs m2 r)
          (subst (λ (x : Lexeme). Bracketed l (codes "}") (AreListed l) m2 (text_token p s ∷ (ts2 ++ x ∷ [])) (kept (tree m5 l (list (trees_of (tree m2 l (text (text_value s)) ∷ bs))))) (suc m5)) (sym (sign_is (codes "}") t h))
          (bracketed m2 m5 t.line (text_token p s ∷ ts2) _ (some_listed l m2 m5 p s ts2 (trees_of bs) (texts_there l (suc m2) ts2 bs m5 r))))
      there l m all e n (seq m1 k n1 ts us es e1 (other m0 n0 ts0 es0 (is_pure m2)) (seq m3 k3 n3 ts3 us3 c e3 (passes m4 t h) (is_numbered m5))) =
          subst (λ (x : Lexeme). Bracketed l (codes "}") (AreListed l) m5 (x ∷ []) (list_of [] l m5) (suc m5)) (sym (sign_is (codes "}") t h))
          (bracketed m5 m5 t.line [] no_trees (none_listed l m5))

      back : (l m : ℕ) (ts : List Lexeme) (e : Kept Tree) (n : ℕ) → Bracketed l (codes "}") (AreListed l) m ts e n
          → Seq (Either (SomeTexts l) (IsPure [])) (λ es. Seq (Passes (is_the_sign (codes "}"))) (λ _. IsNumbered (list_of es l))) m ts e n
      back l m all e n (bracketed m1 n1 p ts es (some_listed l2 m2 n2 q s ts2 es2 r)) =
          let u = texts_back l2 (suc m2) ts2 es2 n2 r in
          subst (λ (w : Kept Tree). Seq (Either (SomeTexts l2) (IsPure [])) (λ es. Seq (Passes (is_the_sign (codes "}"))) (λ _. IsNumbered (list_of es l2))) m2 (text_token q s ∷ (ts2 ++ sign p (codes "}") ∷ [])) w (suc n2))
          (sym (some_kept l2 (suc m2) n2 n2 0 ts2 (text_value s) u.trees m2 u.holds) ∙ ap (λ w. kept (tree n2 l2 (list (and_tree (tree m2 l2 (text (text_value s))) w)))) (sym u.same))
          (seq m2 n2 (suc n2) (text_token q s ∷ ts2) (sign p (codes "}") ∷ []) (tree m2 l2 (text (text_value s)) ∷ u.trees) _ (one m2 n2 _ _ (some_texts m2 n2 q s ts2 u.trees u.holds))
          (seq n2 n2 (suc n2) (sign p (codes "}") ∷ []) [] tt _ (passes n2 (sign p (codes "}")) refl) (is_numbered n2)))
      back l m all e n (bracketed m1 n1 p ts es (none_listed l2 m2)) =
          seq m2 m2 (suc m2) [] (sign p (codes "}") ∷ []) [] _ (other m2 m2 [] [] (is_pure m2)) (seq m2 m2 (suc m2) (sign p (codes "}") ∷ []) [] tt _ (passes m2 (sign p (codes "}")) refl) (is_numbered m2))
