-- Tokens as the grammar sees them: by their kind, their line and their bytes.
use Rattle.std.specs.Prelude.{ℕ, ℤ, Bool, true, false, ◌&&◌, ◌||◌, not, if◌then◌else◌, nat_eq, ◌==◌, List, [], ◌∷◌, ◌++◌, map, Option, Some, None, Result, Ok, Err, codes}
use Rattle.std.specs.Cmp.Lexicographic.{pointwise}
use Rattle.tall_num.specs.Spelling.{Spelling, spells}
use Rattle.tall_num.specs.Values.{whole_value}
use Rattle.tall_int.specs.declared.faults.WholeFault.{WholeFault}
use Rattle.tall_lex.specs.declared.tokens.TokenKind.{TokenKind}
use Rattle.tall_lex.specs.declared.tokens.TokenKind.TheVariants.{Name, Number, Text, Word, Sign, LineEnd}
use Rattle.tall_lex.specs.declared.tokens.Token.{Token}
use Rattle.tall_lex.specs.Tokens.{token_text}
use Rattle.tall_grammar.specs.declared.expressions.Prefix.{Prefix}
use Rattle.tall_grammar.specs.declared.expressions.Prefix.TheVariants.{Minus, Plus, Not}
use Rattle.tall_grammar.specs.declared.expressions.Infix.{Infix}
use Rattle.tall_grammar.specs.declared.expressions.Infix.TheVariants.{Eq, Ne, Lt, Le, Gt, Ge, Add, Sub, DotMul, DotDiv, Mul, Div}

pub record Lexeme : Type 0 where
  pub kind : TokenKind
  pub line : ℕ
  pub text : List ℕ

-- the tokens of a script, with their bytes
abbrev pub lexeme_of : List ℕ → Token → Lexeme
lexeme_of script t = record { kind = t.kind; line = t.line; text = token_text script t }

abbrev pub lexemes_of : List ℕ → List Token → List Lexeme
lexemes_of script tokens = map (lexeme_of script) tokens

-- ---- tokens by their kind, on a line

abbrev pub sign : ℕ → List ℕ → Lexeme
sign line text = record { kind = Sign; line = line; text = text }

abbrev pub word : ℕ → List ℕ → Lexeme
word line text = record { kind = Word; line = line; text = text }

abbrev pub name_token : ℕ → List ℕ → Lexeme
name_token line text = record { kind = Name; line = line; text = text }

abbrev pub number_token : ℕ → List ℕ → Lexeme
number_token line text = record { kind = Number; line = line; text = text }

abbrev pub text_token : ℕ → List ℕ → Lexeme
text_token line text = record { kind = Text; line = line; text = text }

-- ---- values of tokens

-- the value of a number
abbrev pub number_of : Result (Option ℤ) WholeFault → Option ℤ
number_of (Ok value) = value
number_of (Err fault) = None

abbrev pub spelled_number : Option Spelling → Option ℤ
spelled_number None = None
spelled_number (Some spelling) = number_of (whole_value spelling)

abbrev pub number_value : List ℕ → Option ℤ
number_value text = spelled_number (spells text)

-- What stands between the quotes of a text, each quote inside once: of two quotes that stand together the second is left
-- out. `doubled` holds behind a quote that may be the first of two.
abbrev pub without_doubles : ℕ → Bool → List ℕ → List ℕ
without_doubles quote doubled [] = []
without_doubles quote doubled (b ∷ rest) =
    (if doubled && (b == quote) then [] else b ∷ []) ++ without_doubles quote ((b == quote) && not doubled) rest

-- a list without its last element
abbrev pub all_but_last : List ℕ → List ℕ
all_but_last [] = []
all_but_last (b ∷ []) = []
all_but_last (b ∷ c ∷ rest) = b ∷ all_but_last (c ∷ rest)

abbrev pub text_value : List ℕ → List ℕ
text_value [] = []
text_value (quote ∷ rest) = without_doubles quote false (all_but_last rest)

-- ---- separators

abbrev pub has_text : Lexeme → List ℕ → Bool
has_text t text = pointwise nat_eq t.text text

abbrev pub is_sign_kind : TokenKind → Bool
is_sign_kind Sign = true
is_sign_kind Name = false
is_sign_kind Number = false
is_sign_kind Text = false
is_sign_kind Word = false
is_sign_kind LineEnd = false

abbrev pub is_line_end_kind : TokenKind → Bool
is_line_end_kind LineEnd = true
is_line_end_kind Sign = false
is_line_end_kind Name = false
is_line_end_kind Number = false
is_line_end_kind Text = false
is_line_end_kind Word = false

abbrev pub is_word_kind : TokenKind → Bool
is_word_kind Word = true
is_word_kind Sign = false
is_word_kind Name = false
is_word_kind Number = false
is_word_kind Text = false
is_word_kind LineEnd = false

abbrev pub is_the_sign : List ℕ → Lexeme → Bool
is_the_sign text t = is_sign_kind t.kind && has_text t text

abbrev pub is_the_word : List ℕ → Lexeme → Bool
is_the_word text t = is_word_kind t.kind && has_text t text

-- sep = ';' | ',' | line end
abbrev pub is_separator : Lexeme → Bool
is_separator t = is_the_sign (codes ";") t || (is_the_sign (codes ",") t || is_line_end_kind t.kind)

-- a statement with this first separator is shown
abbrev pub shows : Lexeme → Bool
shows t = not (is_the_sign (codes ";") t)

-- ---- operators

abbrev pub is_text : List ℕ → List ℕ → Bool
is_text text other = pointwise nat_eq text other

-- '==' | '~=' | '<' | '<=' | '>' | '>='
abbrev pub comparison : List ℕ → Option Infix
comparison text =
    if is_text text (codes "==") then Some Eq
    else if is_text text (codes "~=") then Some Ne
    else if is_text text (codes "<") then Some Lt
    else if is_text text (codes "<=") then Some Le
    else if is_text text (codes ">") then Some Gt
    else if is_text text (codes ">=") then Some Ge
    else None

-- '+' | '-'
abbrev pub additive : List ℕ → Option Infix
additive text =
    if is_text text (codes "+") then Some Add
    else if is_text text (codes "-") then Some Sub
    else None

-- '.*' | './' | '*' | '/'
abbrev pub multiplicative : List ℕ → Option Infix
multiplicative text =
    if is_text text (codes ".*") then Some DotMul
    else if is_text text (codes "./") then Some DotDiv
    else if is_text text (codes "*") then Some Mul
    else if is_text text (codes "/") then Some Div
    else None

-- '-' | '+' | '~'
abbrev pub prefix_sign : List ℕ → Option Prefix
prefix_sign text =
    if is_text text (codes "-") then Some Minus
    else if is_text text (codes "+") then Some Plus
    else if is_text text (codes "~") then Some Not
    else None
