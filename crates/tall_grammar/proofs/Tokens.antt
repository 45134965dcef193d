-- A token, and then more: rules by the shape of the token.
use Rattle.std.proofs.Common.{◌≡◌, ℕ, Bool, true, false, List, [], ◌∷◌, ◌++◌, refl, sym, ap, ◌∙◌, subst}
use Rattle.std.proofs.lemmas.List.{append-nil}
use Rattle.std.proofs.lemmas.Bool.{and_parts}
use Rattle.std.specs.Prelude.{nat_eq}
use Rattle.std.specs.Cmp.Lexicographic.{pointwise}
use Rattle.tall_grammar.specs.Lexemes.{Lexeme, sign, word, name_token, is_the_sign, is_the_word}
use Rattle.tall_grammar.specs.Trees.{Tree}
use Rattle.tall_grammar.specs.Grammar.{IsExpr}
use Rattle.tall_grammar.specs.Kept.{Kept, kept, Flagged, flagged, settled, with_it}
use Rattle.tall_grammar.specs.Readers.{Reader, ◌>>=◌, pure, front_is, expect, expect_sign, expect_word, take_text, text_if, is_name}
use Rattle.tall_grammar.specs.ExprReader.{expr_within}
use Rattle.tall_grammar.specs.ScriptReader.{is_the_name, expr_on}
use Rattle.tall_grammar.proofs.Exact.{Rule, Exact}
use Rattle.tall_grammar.proofs.Combine.{IsPure, is_pure, IsTaken, is_taken, Seq, seq, Passes, passes, exact_as, exact_pure, exact_bind, exact_take}
use Rattle.tall_grammar.proofs.Signs.{sign_is, word_is, name_is, text_if_is, exact_expect, same_text}
use Rattle.tall_grammar.proofs.Lists.{nothing, none_of_nothing}
use Rattle.tall_grammar.proofs.Operands.{Held, held}
use Rattle.tall_grammar.proofs.Levels.{goes_expr, exact_expr}
use Rattle.tall_grammar.proofs.Flags.{line_of_expr, settled_kept, flagged_it}

-- a token of this shape, on any line
pub data After {A : Type 0} (shape : ℕ → Lexeme) (P : Rule A) : ℕ → List Lexeme → A → ℕ → Type 0 where
  after : (m n p : ℕ) (ts : List Lexeme) (a : A) → P m ts a n → After shape P m (shape p ∷ ts) a n

pub exact_after : {A : Type 0} {P : Rule A} {goes : Lexeme → Bool} (shape : ℕ → Lexeme) (test : Lexeme → Bool) (p : Reader A) → ((l : ℕ) → test (shape l) ≡ true) → ((t : Lexeme) → test t ≡ true → t ≡ shape t.line)
    → Exact P goes p → Exact (After shape P) goes (expect test >>= (λ _. p))
exact_after {A} {P} shape test p fits only x =
    exact_as (Seq (Passes test) (λ _. P)) (After shape P)
    (exact_bind (expect test) (λ _. p) (exact_expect nothing test (shape 1) (fits 1)) (λ _. x) (λ a k us b n rest r h. none_of_nothing (us ++ rest))) (there shape test only) (back shape test fits) where
      there : {A : Type 0} {P : Rule A} (shape : ℕ → Lexeme) (test : Lexeme → Bool) → ((t : Lexeme) → test t ≡ true → t ≡ shape t.line) → (m : ℕ) (ts : List Lexeme) (a : A) (n : ℕ) → Seq (Passes test) (λ _. P) m ts a n → After shape P m ts a n
      there {A} {P} shape test only m all a n (seq m1 k1 n1 ts us c a1 (passes m2 t h) r) = subst (λ (x : Lexeme). After shape P m2 (x ∷ us) a1 n1) (sym (only t h)) (after m2 n1 t.line us a1 r)

      back : {A : Type 0} {P : Rule A} (shape : ℕ → Lexeme) (test : Lexeme → Bool) → ((l : ℕ) → test (shape l) ≡ true) → (m : ℕ) (ts : List Lexeme) (a : A) (n : ℕ) → After shape P m ts a n → Seq (Passes test) (λ _. P) m ts a n
      back shape test fits m all a n (after m1 n1 p ts a1 r) = seq m1 m1 n1 (shape p ∷ []) ts tt a1 (passes m1 (shape p) (fits p)) r

abbrev pub a_sign : List ℕ → ℕ → Lexeme
a_sign s l = sign l s

abbrev pub a_word : List ℕ → ℕ → Lexeme
a_word s l = word l s

abbrev pub the_name : List ℕ → ℕ → Lexeme
the_name s l = name_token l s

pub exact_sign_then : {A : Type 0} {P : Rule A} {goes : Lexeme → Bool} (s : List ℕ) (p : Reader A) → ((l : ℕ) → is_the_sign s (sign l s) ≡ true) → Exact P goes p → Exact (After (a_sign s) P) goes (expect_sign s >>= (λ _. p))
exact_sign_then s p fits x = exact_after (a_sign s) (is_the_sign s) p fits (sign_is s) x

pub exact_word_then : {A : Type 0} {P : Rule A} {goes : Lexeme → Bool} (s : List ℕ) (p : Reader A) → ((l : ℕ) → is_the_word s (word l s) ≡ true) → Exact P goes p → Exact (After (a_word s) P) goes (expect_word s >>= (λ _. p))
exact_word_then s p fits x = exact_after (a_word s) (is_the_word s) p fits (word_is s) x

pub the_name_is : (s : List ℕ) (t : Lexeme) → is_the_name s t ≡ true → t ≡ name_token t.line s
the_name_is s t h = let p = and_parts (is_name t) (pointwise nat_eq t.text s) h in name_is t p.0 ∙ ap (λ (x : List ℕ). name_token t.line x) (same_text t.text s p.1)

pub exact_the_name_then : {A : Type 0} {P : Rule A} {goes : Lexeme → Bool} (s : List ℕ) (p : Reader A) → ((l : ℕ) → is_the_name s (name_token l s) ≡ true) → Exact P goes p → Exact (After (the_name s) P) goes (expect (is_the_name s) >>= (λ _. p))
exact_the_name_then s p fits x = exact_after (the_name s) (is_the_name s) p fits (the_name_is s) x

-- a name, and then what its text decides
pub data AfterName {A : Type 0} (P : List ℕ → Rule A) : ℕ → List Lexeme → A → ℕ → Type 0 where
  after_name : (m n p : ℕ) (s : List ℕ) (ts : List Lexeme) (a : A) → P s m ts a n → AfterName P m (name_token p s ∷ ts) a n

pub exact_name_then : {A : Type 0} {P : List ℕ → Rule A} {goes : Lexeme → Bool} (f : List ℕ → Reader A) → ((s : List ℕ) → Exact (P s) goes (f s)) → Exact (AfterName P) goes (take_text is_name >>= f)
exact_name_then {A} {P} f x =
    exact_as (Seq (IsTaken (text_if is_name)) P) (AfterName P)
    (exact_bind (take_text is_name) f (exact_take nothing (text_if is_name) (name_token 1 []) [] refl) x (λ a k us b n rest r h. none_of_nothing (us ++ rest))) there back where
      there : {A : Type 0} {P : List ℕ → Rule A} (m : ℕ) (ts : List Lexeme) (a : A) (n : ℕ) → Seq (IsTaken (text_if is_name)) P m ts a n → AfterName P m ts a n
      there {A} {P} m all a n (seq m1 k1 n1 ts us s a1 (is_taken m2 t s1 h) r) =
          let p = text_if_is is_name t s1 h in
          subst (λ (x : Lexeme). AfterName P m2 (x ∷ us) a1 n1) (sym (name_is t p.0 ∙ ap (λ (z : List ℕ). name_token t.line z) p.1)) (after_name m2 n1 t.line s1 us a1 r)

      back : {A : Type 0} {P : List ℕ → Rule A} (m : ℕ) (ts : List Lexeme) (a : A) (n : ℕ) → AfterName P m ts a n → Seq (IsTaken (text_if is_name)) P m ts a n
      back m all a n (after_name m1 n1 p s ts a1 r) = seq m1 m1 n1 (name_token p s ∷ []) ts s a1 (is_taken m1 (name_token p s) s refl) r

-- ---- what is told of a rule: it, or the first line that is too high

pub data Told {A B : Type 0} (R : Rule A) (trees : A → List Tree) (f : A → B) : ℕ → List Lexeme → Flagged B → ℕ → Type 0 where
  told : (m n : ℕ) (ts : List Lexeme) (a : A) (b : Flagged B) → R m ts a n → b ≡ flagged (trees a) (f a) → Told R trees f m ts b n

abbrev pub itself : {A : Type 0} → A → A
itself a = a

abbrev pub alone : Tree → List Tree
alone e = e ∷ []

abbrev pub ToldExpr : ℕ → Rule (Flagged Tree)
ToldExpr l = Told (IsExpr l) alone itself

pub exact_expr_on : (k d l : ℕ) → Exact (ToldExpr l) goes_expr (expr_on k d l)
exact_expr_on k d l =
    exact_as (Seq (Held (IsExpr l)) (λ e. IsPure (settled l e))) (ToldExpr l)
    (exact_bind (expr_within k d l) (λ e. pure (settled l e)) (exact_expr k d l) (λ e. exact_pure goes_expr (settled l e)) (follows l)) (there l) (back l) where
      follows : (l : ℕ) (e : Kept Tree) (k : ℕ) (us : List Lexeme) (b : Flagged Tree) (n : ℕ) (rest : List Lexeme) → IsPure (settled l e) k us b n → front_is goes_expr rest ≡ false → front_is goes_expr (us ++ rest) ≡ false
      follows l e k us b n rest (is_pure m1) h = h

      at_value : (l m : ℕ) (ts : List Lexeme) (e : Kept Tree) (n : ℕ) → Held (IsExpr l) m ts e n → ToldExpr l m ts (settled l e) n
      at_value l m ts e n (held m1 n1 ts1 e1 r) = told m1 n1 ts1 e1 _ r (settled_kept l e1 (line_of_expr l m1 ts1 e1 n1 r))

      close : (l m : ℕ) (ts : List Lexeme) (e : Kept Tree) (k : ℕ) (us : List Lexeme) (b : Flagged Tree) (n : ℕ) → Held (IsExpr l) m ts e k → IsPure (settled l e) k us b n → ToldExpr l m (ts ++ us) b n
      close l m ts e k us b n r (is_pure m1) = subst (λ (w : List Lexeme). ToldExpr l m w (settled l e) m1) (sym (append-nil ts)) (at_value l m ts e m1 r)

      there : (l m : ℕ) (ts : List Lexeme) (b : Flagged Tree) (n : ℕ) → Seq (Held (IsExpr l)) (λ e. IsPure (settled l e)) m ts b n → ToldExpr l m ts b n
      there l m all b n (seq m1 k1 n1 ts us e b1 r q) = close l m1 ts e k1 us b1 n1 r q

      back : (l m : ℕ) (ts : List Lexeme) (b : Flagged Tree) (n : ℕ) → ToldExpr l m ts b n → Seq (Held (IsExpr l)) (λ e. IsPure (settled l e)) m ts b n
      back l m ts b n (told m1 n1 ts1 e b1 r q) =
          subst (λ (w : List Lexeme). Seq (Held (IsExpr l)) (λ e. IsPure (settled l e)) m1 w b1 n1) (append-nil ts1)
          (subst (λ (z : Flagged Tree). Seq (Held (IsExpr l)) (λ e. IsPure (settled l e)) m1 (ts1 ++ []) z n1) (settled_kept l e (line_of_expr l m1 ts1 e n1 r) ∙ sym q)
          (seq m1 n1 n1 ts1 [] (kept e) (settled l (kept e)) (held m1 n1 ts1 e r) (is_pure n1)))

-- something is made of what was read
pub exact_made : {A B C : Type 0} {R : Rule A} {trees : A → List Tree} {f : A → B} {goes : Lexeme → Bool} (g : B → C) (p : Reader (Flagged B)) → Exact (Told R trees f) goes p
    → Exact (Told R trees (λ a. g (f a))) goes (p >>= (λ b. pure (with_it g b)))
exact_made {A} {B} {C} {R} {trees} {f} {goes} g p x =
    exact_as (Seq (Told R trees f) (λ b. IsPure (with_it g b))) (Told R trees (λ a. g (f a)))
    (exact_bind p (λ b. pure (with_it g b)) x (λ b. exact_pure goes (with_it g b)) (follows g goes)) (there g) (back g) where
      follows : {B C : Type 0} (g : B → C) (goes : Lexeme → Bool) (b : Flagged B) (k : ℕ) (us : List Lexeme) (c : Flagged C) (n : ℕ) (rest : List Lexeme) → IsPure (with_it g b) k us c n → front_is goes rest ≡ false → front_is goes (us ++ rest) ≡ false
      follows g goes b k us c n rest (is_pure m1) h = h

      at_value : {A B C : Type 0} {R : Rule A} {trees : A → List Tree} {f : A → B} (g : B → C) (m : ℕ) (ts : List Lexeme) (b : Flagged B) (n : ℕ) → Told R trees f m ts b n → Told R trees (λ a. g (f a)) m ts (with_it g b) n
      at_value {A} {B} {C} {R} {trees} {f} g m ts b n (told m1 n1 ts1 a b1 r q) = told m1 n1 ts1 a _ r (ap (with_it g) q ∙ flagged_it g (trees a) (f a))

      close : {A B C : Type 0} {R : Rule A} {trees : A → List Tree} {f : A → B} (g : B → C) (m : ℕ) (ts : List Lexeme) (b : Flagged B) (k : ℕ) (us : List Lexeme) (c : Flagged C) (n : ℕ) → Told R trees f m ts b k → IsPure (with_it g b) k us c n → Told R trees (λ a. g (f a)) m (ts ++ us) c n
      close {A} {B} {C} {R} {trees} {f} g m ts b k us c n r (is_pure m1) = subst (λ (w : List Lexeme). Told R trees (λ a. g (f a)) m w (with_it g b) m1) (sym (append-nil ts)) (at_value g m ts b m1 r)

      there : {A B C : Type 0} {R : Rule A} {trees : A → List Tree} {f : A → B} (g : B → C) (m : ℕ) (ts : List Lexeme) (c : Flagged C) (n : ℕ) → Seq (Told R trees f) (λ b. IsPure (with_it g b)) m ts c n → Told R trees (λ a. g (f a)) m ts c n
      there g m all c n (seq m1 k1 n1 ts us b c1 r q) = close g m1 ts b k1 us c1 n1 r q

      back : {A B C : Type 0} {R : Rule A} {trees : A → List Tree} {f : A → B} (g : B → C) (m : ℕ) (ts : List Lexeme) (c : Flagged C) (n : ℕ) → Told R trees (λ a. g (f a)) m ts c n → Seq (Told R trees f) (λ b. IsPure (with_it g b)) m ts c n
      back {A} {B} {C} {R} {trees} {f} g m ts c n (told m1 n1 ts1 a c1 r q) =
          subst (λ (w : List Lexeme). Seq (Told R trees f) (λ b. IsPure (with_it g b)) m1 w c1 n1) (append-nil ts1)
          (subst (λ (z : Flagged C). Seq (Told R trees f) (λ b. IsPure (with_it g b)) m1 (ts1 ++ []) z n1) (flagged_it g (trees a) (f a) ∙ sym q)
          (seq m1 n1 n1 ts1 [] (flagged (trees a) (f a)) (with_it g (flagged (trees a) (f a))) (told m1 n1 ts1 a _ r refl) (is_pure n1)))
