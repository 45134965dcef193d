-- Reading from left to right, as definitions: a reader takes tokens from the front of what is left, or is stopped before
-- the first token that it can't take. It looks at one token before it takes it, and where a statement begins at four.
use Rattle.std.specs.Prelude.{ℕ, suc, zero, ◌||◌, Bool, true, false, if◌then◌else◌, List, [], ◌∷◌, ◌++◌, length, Option, Some, None, Result, Ok, Err, codes}
use Rattle.tall_lex.specs.declared.tokens.TokenKind.{TokenKind}
use Rattle.tall_lex.specs.declared.tokens.TokenKind.TheVariants.{Name, Number, Text, Word, Sign, LineEnd}
use Rattle.tall_grammar.specs.declared.faults.Fault.{Fault}
use Rattle.tall_grammar.specs.declared.faults.Fault.TheVariants.{Stop, OutOfTurns}
use Rattle.tall_grammar.specs.Lexemes.{Lexeme, is_the_sign, is_the_word, is_separator, is_sign_kind}

-- the tokens that are left, and the number of the next expression
pub record Input : Type 0 where
  pub rest : List Lexeme
  pub next : ℕ

abbrev pub input : List Lexeme → ℕ → Input
input ts n = record { rest = ts; next = n }

abbrev pub Outcome : Type 0 → Type 0
Outcome A = Result (A × Input) Fault

abbrev pub Reader : Type 0 → Type 0
Reader A = Input → Outcome A

abbrev pub and_then : {A B : Type 0} → Outcome A → (A → Reader B) → Outcome B
and_then (Ok p) f = f p.0 p.1
and_then (Err e) f = Err e

infixl 10 ◌>>=◌
abbrev pub ◌>>=◌ : {A B : Type 0} → Reader A → (A → Reader B) → Reader B
p >>= f = λ i. and_then (p i) f

abbrev pub pure : {A : Type 0} → A → Reader A
pure a = λ i. Ok (a, i)

-- the next token can't be taken
abbrev pub stopped : {A : Type 0} → Reader A
stopped = λ i. Err (Stop (length i.rest))

-- no more turns, or no more depth: never where the turns were more than the tokens and the depth above the limit
abbrev pub tired : {A : Type 0} → Reader A
tired = λ i. Err OutOfTurns

-- ---- one token

abbrev pub all_but_front : List Lexeme → List Lexeme
all_but_front [] = []
all_but_front (t ∷ ts) = ts

abbrev pub behind : Input → Input
behind i = input (all_but_front i.rest) i.next

-- what the first token is
abbrev pub front_as : {B : Type 0} → (Lexeme → Option B) → List Lexeme → Option B
front_as c [] = None
front_as c (t ∷ ts) = c t

-- does a token stand first that passes?
abbrev pub front_is : (Lexeme → Bool) → List Lexeme → Bool
front_is test [] = false
front_is test (t ∷ ts) = test t

abbrev pub chosen : {A B : Type 0} → Option B → (B → Reader A) → Reader A → Reader A
chosen None f q i = q i
chosen (Some b) f q i = f b (behind i)

-- takes the first token, if it is one of these
abbrev pub given : {A B : Type 0} → (Lexeme → Option B) → (B → Reader A) → Reader A → Reader A
given c f q = λ i. chosen (front_as c i.rest) f q i

-- takes the first token, if it passes
abbrev pub given_if : {A : Type 0} → (Lexeme → Bool) → Reader A → Reader A → Reader A
given_if test p q = λ i. if front_is test i.rest then p (behind i) else q i

-- the first token is looked at alone
abbrev pub peek : {A : Type 0} → (Lexeme → Bool) → Reader A → Reader A → Reader A
peek test p q = λ i. if front_is test i.rest then p i else q i

abbrev pub take_as : {B : Type 0} → (Lexeme → Option B) → Reader B
take_as c = given c pure stopped

abbrev pub expect : (Lexeme → Bool) → Reader (Unit {0})
expect test = given_if test (pure tt) stopped

abbrev pub expect_sign : List ℕ → Reader (Unit {0})
expect_sign s = expect (is_the_sign s)

abbrev pub expect_word : List ℕ → Reader (Unit {0})
expect_word s = expect (is_the_word s)

-- behind the first token, if it passes
abbrev pub after : (Lexeme → Bool) → Input → Input
after test i = if front_is test i.rest then behind i else i

-- the bytes of the first token
abbrev pub front_text : List Lexeme → List ℕ
front_text [] = []
front_text (t ∷ ts) = t.text

-- ---- kinds of tokens

abbrev pub is_name_kind : TokenKind → Bool
is_name_kind Name = true
is_name_kind Number = false
is_name_kind Text = false
is_name_kind Word = false
is_name_kind Sign = false
is_name_kind LineEnd = false

abbrev pub is_text_kind : TokenKind → Bool
is_text_kind Text = true
is_text_kind Name = false
is_text_kind Number = false
is_text_kind Word = false
is_text_kind Sign = false
is_text_kind LineEnd = false

abbrev pub is_number_kind : TokenKind → Bool
is_number_kind Number = true
is_number_kind Text = false
is_number_kind Name = false
is_number_kind Word = false
is_number_kind Sign = false
is_number_kind LineEnd = false

abbrev pub is_name : Lexeme → Bool
is_name t = is_name_kind t.kind

abbrev pub is_text_token : Lexeme → Bool
is_text_token t = is_text_kind t.kind

abbrev pub is_number : Lexeme → Bool
is_number t = is_number_kind t.kind

abbrev pub text_if : (Lexeme → Bool) → Lexeme → Option (List ℕ)
text_if test t = if test t then Some t.text else None

-- the token's bytes
abbrev pub take_text : (Lexeme → Bool) → Reader (List ℕ)
take_text test = take_as (text_if test)

-- the operator that a sign is
abbrev pub operator_of : {O : Type 0} → (List ℕ → Option O) → Lexeme → Option O
operator_of op t = if is_sign_kind t.kind then op t.text else None

-- ---- separators

-- without the separators that stand first
abbrev pub without_separators : List Lexeme → List Lexeme
without_separators [] = []
without_separators (t ∷ ts) = if is_separator t then without_separators ts else t ∷ ts

-- { sep }
abbrev pub skip_separators : Reader (Unit {0})
skip_separators = λ i. Ok (tt, input (without_separators i.rest) i.next)

-- ---- numbers of expressions

-- what an expression is that is whole now, by its number
abbrev pub numbered : {A : Type 0} → (ℕ → A) → Reader A
numbered g = λ i. Ok (g i.next, input i.rest (suc i.next))

-- ---- lists: [','] before each but the first

abbrev pub optional_comma : Reader (Unit {0})
optional_comma = given_if (is_the_sign (codes ",")) (pure tt) (pure tt)

abbrev pub goes_on_with : (Lexeme → Bool) → Lexeme → Bool
goes_on_with begins t = begins t || is_the_sign (codes ",") t

-- { [','] item }, behind those that were found; the number bounds the turns, and that of the tokens is enough
unfoldable pub listed_from : {A : Type 0} → (Lexeme → Bool) → Reader A → ℕ → List A → Reader (List A)
listed_from begins item zero found = tired
listed_from begins item (suc k) found =
    peek (goes_on_with begins) (optional_comma >>= (λ _. item >>= (λ a. listed_from begins item k (found ++ a ∷ [])))) (pure found)

-- item { [','] item }
abbrev pub listed : {A : Type 0} → (Lexeme → Bool) → Reader A → ℕ → Reader (List A)
listed begins item k = item >>= (λ a. listed_from begins item k (a ∷ []))
