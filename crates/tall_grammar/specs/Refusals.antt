-- Which bytes are a script, and the first refusal of others: too long, a bad token, too deep by brackets and blocks, no
-- script by the grammar, too deep by the height of an expression, in this order, each over the whole script.
use Rattle.std.specs.Prelude.{ℕ, ◌+◌, ◌-◌, ◌<◌, ◌≤◌, ◌≡◌, ◌||◌, Bool, if◌then◌else◌, nat_lt, max, List, [], ◌∷◌, ◌++◌, length, Option, Some, None, Ok, Err, codes}
use Rattle.std.specs.List.{list_any, flat_map}
use Rattle.tall_lex.specs.declared.tokens.Token.{Token}
use Rattle.tall_lex.specs.Places.{beginning, past}
use Rattle.tall_lex.specs.Tokens.{tokens_of_bytes}
use Rattle.tall_grammar.specs.Lexemes.{Lexeme, lexemes_of, is_the_sign, is_the_word}
use Rattle.tall_grammar.specs.Grammar.{IsScript}
use Rattle.tall_grammar.specs.Trees.{Tree, tree, Shape, number, text, name, list, handle, prefixed, joined, member, call, Trees, no_trees, and_tree, Args, no_args, value_arg, colon_arg}
use Rattle.tall_grammar.specs.Trees.{Step, assign_step, add_step, if_step, while_step, for_step, Steps, no_steps, and_step, Arms, no_arms, and_arm, Body, assigned, gathered, property, bare, SeenScript}

-- ---- too deep by brackets and blocks

-- ( [ { function if while for
abbrev pub opens : Lexeme → Bool
opens t =
    list_any (λ s. is_the_sign s t) (codes "(" ∷ codes "[" ∷ codes "{" ∷ [])
    || list_any (λ w. is_the_word w t) (codes "function" ∷ codes "if" ∷ codes "while" ∷ codes "for" ∷ [])

-- ) ] } end
abbrev pub closes : Lexeme → Bool
closes t = list_any (λ s. is_the_sign s t) (codes ")" ∷ codes "]" ∷ codes "}" ∷ []) || is_the_word (codes "end") t

-- the greatest depth, and the greatest height of an expression
abbrev pub limit : ℕ
limit = 64

-- how many are open behind a token, where so many are before it
abbrev pub open_behind : ℕ → Lexeme → ℕ
open_behind depth t = if opens t then depth + 1 else if closes t then depth - 1 else depth

-- where so many are open: the line of the first token behind which more are than may be
abbrev pub too_deep_from : ℕ → List Lexeme → Option ℕ
too_deep_from depth [] = None
too_deep_from depth (t ∷ ts) =
    if nat_lt limit (open_behind depth t) then Some t.line else too_deep_from (open_behind depth t) ts

abbrev pub too_deep : List Lexeme → Option ℕ
too_deep ts = too_deep_from 0 ts

-- ---- too deep by height

-- A leaf has height 1; an operator, a call, an index and a list have 1 more than their highest part.
abbrev mutual
  pub height : Tree → ℕ
  height (tree k l shape) = 1 + parts_height shape

  pub parts_height : Shape → ℕ
  parts_height (number x) = 0
  parts_height (text s) = 0
  parts_height (name s) = 0
  parts_height (list es) = trees_height es
  parts_height (handle s) = 0
  parts_height (prefixed o e) = height e
  parts_height (joined o e f) = max (height e) (height f)
  parts_height (member e s) = height e
  parts_height (call e args) = max (height e) (args_height args)

  pub trees_height : Trees → ℕ
  trees_height no_trees = 0
  trees_height (and_tree e es) = max (height e) (trees_height es)

  pub args_height : Args → ℕ
  args_height no_args = 0
  args_height (value_arg e args) = max (height e) (args_height args)
  args_height (colon_arg args) = args_height args

-- the expressions of a script that are part of no other, in the order of the text
abbrev pub args_trees : Args → List Tree
args_trees no_args = []
args_trees (value_arg e args) = e ∷ args_trees args
args_trees (colon_arg args) = args_trees args

abbrev pub body_trees : Body → List Tree
body_trees (assigned s e) = e ∷ []
body_trees (gathered ss args) = args_trees args
body_trees (property s t e) = e ∷ []
body_trees (bare e) = e ∷ []

abbrev mutual
  pub step_trees : Step → List Tree
  step_trees (assign_step l s e) = e ∷ []
  step_trees (add_step l e f g) = e ∷ f ∷ g ∷ []
  step_trees (if_step l arms rest) = arms_trees arms ++ steps_trees rest
  step_trees (while_step l e b) = e ∷ steps_trees b
  step_trees (for_step l s e f b) = e ∷ f ∷ steps_trees b

  pub steps_trees : Steps → List Tree
  steps_trees no_steps = []
  steps_trees (and_step b bs) = step_trees b ++ steps_trees bs

  pub arms_trees : Arms → List Tree
  arms_trees no_arms = []
  arms_trees (and_arm e b arms) = e ∷ (steps_trees b ++ arms_trees arms)

abbrev pub script_trees : SeenScript → List Tree
script_trees s = flat_map (λ b. body_trees b.form) s.statements ++ flat_map (λ f. steps_trees f.body) s.functions

abbrev pub line_of : Tree → ℕ
line_of (tree k l shape) = l

-- the line of the first expression that is higher than it may be
abbrev pub first_too_high : List Tree → Option ℕ
first_too_high [] = None
first_too_high (e ∷ es) = if nat_lt limit (height e) then Some (line_of e) else first_too_high es

abbrev pub too_high : SeenScript → Option ℕ
too_high s = first_too_high (script_trees s)

-- ---- the first token with which no script goes on

-- Some script begins with these tokens. The tokens that follow may be any: what is asked is whether the grammar goes on, not
-- whether bytes spell what follows.
abbrev pub GoesOn : List Lexeme → Type 0
GoesOn ts = (more : List Lexeme) × (s : SeenScript) × IsScript (ts ++ more) s

-- With `front` a script goes on, and with the token behind no more.
pub record StopsAt (ts : List Lexeme) (line : ℕ) : Type 0 where
  pub front : List Lexeme
  pub stop : Lexeme
  pub rest : List Lexeme
  pub text : ts ≡ front ++ stop ∷ rest
  pub goes : GoesOn front
  pub stops : ¬ (GoesOn (front ++ stop ∷ []))
  pub there : stop.line ≡ line

-- The tokens are no script, though one goes on with them: the text ends too early.
pub record EndsEarly (ts : List Lexeme) : Type 0 where
  pub goes : GoesOn ts
  pub ends : (s : SeenScript) → ¬ (IsScript ts s)

-- ---- what bytes are

pub data Verdict : Type 0 where
  read : SeenScript → Verdict
  too_long : Verdict
  bad_token : (line place : ℕ) → Verdict
  too_deep_at : (line : ℕ) → Verdict
  syntax_at : (line : ℕ) → Verdict

-- the line at the end of a text: 1 and the number of its line ends
abbrev pub last_line : List ℕ → ℕ
last_line bytes = (past beginning bytes).line

-- the longest script
abbrev pub longest : ℕ
longest = 1048576

-- what the tokens of a script are, whose last line is given
pub data Reads (last : ℕ) (ts : List Lexeme) : Verdict → Type 0 where
  is_too_deep : {l : ℕ} → too_deep ts ≡ Some l → Reads last ts (too_deep_at l)
  stops_short : {l : ℕ} → too_deep ts ≡ None → StopsAt ts l → Reads last ts (syntax_at l)
  ends_early : too_deep ts ≡ None → EndsEarly ts → Reads last ts (syntax_at last)
  is_too_high : {l : ℕ} {s : SeenScript} → too_deep ts ≡ None → IsScript ts s → too_high s ≡ Some l → Reads last ts (too_deep_at l)
  is_script : {s : SeenScript} → too_deep ts ≡ None → IsScript ts s → too_high s ≡ None → Reads last ts (read s)

-- what the bytes are
pub data Parses (bytes : List ℕ) : Verdict → Type 0 where
  is_too_long : longest < length bytes → Parses bytes too_long
  has_bad_token : {l p : ℕ} → length bytes ≤ longest → tokens_of_bytes bytes ≡ Err (l, p) → Parses bytes (bad_token l p)
  has_tokens : {tokens : List Token} {answer : Verdict} → length bytes ≤ longest → tokens_of_bytes bytes ≡ Ok tokens
      → Reads (last_line bytes) (lexemes_of bytes tokens) answer → Parses bytes answer
