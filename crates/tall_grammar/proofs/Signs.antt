-- What a token is that passes a test; readers of one token.
use Rattle.std.proofs.Common.{◌≡◌, ℕ, Bool, true, false, List, [], ◌∷◌, Option, Some, None, refl, ap, ◌∙◌}
use Rattle.std.proofs.lemmas.Bool.{and_parts, eqb-true}
use Rattle.std.specs.Prelude.{nat_eq, codes, if◌then◌else◌}
use Rattle.std.specs.Cmp.Lexicographic.{pointwise}
use Rattle.tall_lex.specs.declared.tokens.TokenKind.{TokenKind}
use Rattle.tall_lex.specs.declared.tokens.TokenKind.TheVariants.{Name, Number, Text, Word, Sign, LineEnd}
use Rattle.tall_grammar.specs.declared.expressions.Prefix.{Prefix}
use Rattle.tall_grammar.specs.declared.expressions.Infix.{Infix}
use Rattle.tall_grammar.specs.Lexemes.{Lexeme, sign, word, name_token, number_token, text_token, is_the_sign, is_the_word, is_sign_kind, is_word_kind, is_text, comparison, additive, multiplicative, prefix_sign}
use Rattle.tall_grammar.specs.Readers.{input, pure, stopped, expect, take_as, text_if, is_name, is_text_token, is_number, is_name_kind, is_text_kind, is_number_kind, operator_of}
use Rattle.tall_grammar.proofs.Exact.{Exact}
use Rattle.tall_grammar.proofs.Combine.{IsTaken, is_taken, Passes, passes, pass, pass_is, is_pass, exact_as, exact_same, exact_take}

pub same_text : (s t : List ℕ) → pointwise nat_eq s t ≡ true → s ≡ t
same_text [] [] h = refl
same_text [] (y ∷ t) h = absurd cc
same_text (x ∷ s) [] h = absurd cc
same_text (x ∷ s) (y ∷ t) h =
    let p = and_parts (nat_eq x y) (pointwise nat_eq s t) h in
    ap (λ z. z ∷ s) (eqb-true x y p.0) ∙ ap (λ w. y ∷ w) (same_text s t p.1)

kind_sign : (k : TokenKind) → is_sign_kind k ≡ true → k ≡ Sign
kind_sign Sign h = refl
kind_sign Name h = absurd cc
kind_sign Number h = absurd cc
kind_sign Text h = absurd cc
kind_sign Word h = absurd cc
kind_sign LineEnd h = absurd cc

kind_word : (k : TokenKind) → is_word_kind k ≡ true → k ≡ Word
kind_word Word h = refl
kind_word Name h = absurd cc
kind_word Number h = absurd cc
kind_word Text h = absurd cc
kind_word Sign h = absurd cc
kind_word LineEnd h = absurd cc

kind_name : (k : TokenKind) → is_name_kind k ≡ true → k ≡ Name
kind_name Name h = refl
kind_name Word h = absurd cc
kind_name Number h = absurd cc
kind_name Text h = absurd cc
kind_name Sign h = absurd cc
kind_name LineEnd h = absurd cc

kind_text : (k : TokenKind) → is_text_kind k ≡ true → k ≡ Text
kind_text Text h = refl
kind_text Word h = absurd cc
kind_text Number h = absurd cc
kind_text Name h = absurd cc
kind_text Sign h = absurd cc
kind_text LineEnd h = absurd cc

kind_number : (k : TokenKind) → is_number_kind k ≡ true → k ≡ Number
kind_number Number h = refl
kind_number Word h = absurd cc
kind_number Text h = absurd cc
kind_number Name h = absurd cc
kind_number Sign h = absurd cc
kind_number LineEnd h = absurd cc

pub of_kind : (t : Lexeme) (k : TokenKind) → t.kind ≡ k → t ≡ record { kind = k; line = t.line; text = t.text }
of_kind t k e = ap (λ (x : TokenKind). let l : Lexeme = record { kind = x; line = t.line; text = t.text } in l) e

of_parts : (t : Lexeme) (k : TokenKind) (s : List ℕ) → t.kind ≡ k → t.text ≡ s → t ≡ record { kind = k; line = t.line; text = s }
of_parts t k s e f = of_kind t k e ∙ ap (λ (x : List ℕ). let l : Lexeme = record { kind = k; line = t.line; text = x } in l) f

pub sign_is : (s : List ℕ) (t : Lexeme) → is_the_sign s t ≡ true → t ≡ sign t.line s
sign_is s t h = let p = and_parts (is_sign_kind t.kind) (pointwise nat_eq t.text s) h in of_parts t Sign s (kind_sign t.kind p.0) (same_text t.text s p.1)

pub word_is : (s : List ℕ) (t : Lexeme) → is_the_word s t ≡ true → t ≡ word t.line s
word_is s t h = let p = and_parts (is_word_kind t.kind) (pointwise nat_eq t.text s) h in of_parts t Word s (kind_word t.kind p.0) (same_text t.text s p.1)

pub name_is : (t : Lexeme) → is_name t ≡ true → t ≡ name_token t.line t.text
name_is t h = of_kind t Name (kind_name t.kind h)

pub text_is : (t : Lexeme) → is_text_token t ≡ true → t ≡ text_token t.line t.text
text_is t h = of_kind t Text (kind_text t.kind h)

pub number_is : (t : Lexeme) → is_number t ≡ true → t ≡ number_token t.line t.text
number_is t h = of_kind t Number (kind_number t.kind h)

pub text_if_is : (test : Lexeme → Bool) (t : Lexeme) (s : List ℕ) → text_if test t ≡ Some s → (test t ≡ true) × (t.text ≡ s)
text_if_is test t s h = (elim (test t) as (λ x. test t ≡ x → (if x then Some t.text else None) ≡ Some s → (test t ≡ true) × (t.text ≡ s)) [
  | true ↦ λ e h. (e, let g : t.text ≡ s = cc in g)
  | false ↦ λ e h. absurd cc
]) refl h

pub is_text_if : (test : Lexeme → Bool) (t : Lexeme) → test t ≡ true → text_if test t ≡ Some t.text
is_text_if test t h = ap (λ x. if x then Some t.text else None) h

-- an operator is a sign
pub operator_is : {O : Type 0} (op : List ℕ → Option O) (t : Lexeme) (o : O) → operator_of op t ≡ Some o → (t ≡ sign t.line t.text) × (op t.text ≡ Some o)
operator_is {O} op t o h = (elim (is_sign_kind t.kind) as (λ x. is_sign_kind t.kind ≡ x → (if x then op t.text else None) ≡ Some o → (t ≡ sign t.line t.text) × (op t.text ≡ Some o)) [
  | true ↦ λ e h. (of_kind t Sign (kind_sign t.kind e), h)
  | false ↦ λ e h. absurd cc
]) refl h

pub exact_expect : (goes : Lexeme → Bool) (test : Lexeme → Bool) (t : Lexeme) → test t ≡ true → Exact (Passes test) goes (expect test)
exact_expect goes test t h =
    exact_as (IsTaken (pass test)) (Passes test)
    (exact_same (expect test) (take_as (pass test)) (agree test)
    (exact_take goes (pass test) t tt (is_pass test t h))) (there test) (back test) where
      agree : (test : Lexeme → Bool) (ts : List Lexeme) (m : ℕ) → expect test (input ts m) ≡ take_as (pass test) (input ts m)
      agree test [] m = refl
      agree test (t ∷ ts) m = elim (test t) as (λ x. (if x then pure (tt {0}) (input ts m) else stopped (input (t ∷ ts) m)) ≡ take_as {B = Unit {0}} (λ (u : Lexeme). if x then Some (tt {0}) else None) (input (t ∷ ts) m)) [
        | true ↦ refl
        | false ↦ refl
      ]

      there : (test : Lexeme → Bool) (m : ℕ) (ts : List Lexeme) (a : Unit {0}) (n : ℕ) → IsTaken (pass test) m ts a n → Passes test m ts a n
      there test m all a n (is_taken m1 t b e) = passes m1 t (pass_is test t b e)

      back : (test : Lexeme → Bool) (m : ℕ) (ts : List Lexeme) (a : Unit {0}) (n : ℕ) → Passes test m ts a n → IsTaken (pass test) m ts a n
      back test m all a n (passes m1 t e) = is_taken m1 t tt (is_pass test t e)

-- ---- operators, each text by itself

pub data Among : List (List ℕ) → List ℕ → Type 0 where
  first : (x : List ℕ) (xs : List (List ℕ)) (s : List ℕ) → s ≡ x → Among (x ∷ xs) s
  later : (x : List ℕ) (xs : List (List ℕ)) (s : List ℕ) → Among xs s → Among (x ∷ xs) s

-- a choice by a text, and then others
chosen_text : {O : Type 0} (s x : List ℕ) (xs : List (List ℕ)) (a o : O) (rest : Option O) → (if is_text s x then Some a else rest) ≡ Some o
    → (rest ≡ Some o → Among xs s) → Among (x ∷ xs) s
chosen_text {O} s x xs a o rest h more = (elim (is_text s x) as (λ b. is_text s x ≡ b → (if b then Some a else rest) ≡ Some o → Among (x ∷ xs) s) [
  | true ↦ λ e h. first x xs s (same_text s x e)
  | false ↦ λ e h. later x xs s (more h)
]) refl h

none_left : {O : Type 0} {X : Type 0} (o : O) → ◌≡◌ {A = Option O} None (Some o) → X
none_left o h = absurd cc

pub multiplicative_is : (s : List ℕ) (o : Infix) → multiplicative s ≡ Some o → Among (codes ".*" ∷ codes "./" ∷ codes "*" ∷ codes "/" ∷ []) s
multiplicative_is s o h =
    chosen_text s _ _ _ o _ h (λ h. chosen_text s _ _ _ o _ h (λ h. chosen_text s _ _ _ o _ h (λ h. chosen_text s _ _ _ o _ h (λ h. none_left o h))))

pub additive_is : (s : List ℕ) (o : Infix) → additive s ≡ Some o → Among (codes "+" ∷ codes "-" ∷ []) s
additive_is s o h = chosen_text s _ _ _ o _ h (λ h. chosen_text s _ _ _ o _ h (λ h. none_left o h))

pub comparison_is : (s : List ℕ) (o : Infix) → comparison s ≡ Some o → Among (codes "==" ∷ codes "~=" ∷ codes "<" ∷ codes "<=" ∷ codes ">" ∷ codes ">=" ∷ []) s
comparison_is s o h =
    chosen_text s _ _ _ o _ h (λ h. chosen_text s _ _ _ o _ h (λ h. chosen_text s _ _ _ o _ h (λ h. chosen_text s _ _ _ o _ h
    (λ h. chosen_text s _ _ _ o _ h (λ h. chosen_text s _ _ _ o _ h (λ h. none_left o h))))))

pub one_text_is : (s x : List ℕ) (a o : Infix) → (if is_text s x then Some a else None) ≡ Some o → Among (x ∷ []) s
one_text_is s x a o h = chosen_text s x _ a o _ h (λ h. none_left o h)

pub prefix_is : (s : List ℕ) (o : Prefix) → prefix_sign s ≡ Some o → Among (codes "-" ∷ codes "+" ∷ codes "~" ∷ []) s
prefix_is s o h = chosen_text s _ _ _ o _ h (λ h. chosen_text s _ _ _ o _ h (λ h. chosen_text s _ _ _ o _ h (λ h. none_left o h)))

-- a test of a sign comes out so for each of these texts
abbrev pub AllGive : (Lexeme → Bool) → Bool → ℕ → List (List ℕ) → Type 0
AllGive test b l [] = Unit {0}
AllGive test b l (x ∷ xs) = (test (sign l x) ≡ b) × AllGive test b l xs

pub given_among : (test : Lexeme → Bool) (b : Bool) (l : ℕ) (xs : List (List ℕ)) (s : List ℕ) → Among xs s → AllGive test b l xs → test (sign l s) ≡ b
given_among test b l all s (first x xs s1 e) g = ap (λ s. test (sign l s)) e ∙ g.0
given_among test b l all s (later x xs s1 a) g = given_among test b l xs s1 a g.1
