-- Expressions, read from left to right. One reader stands for each rule of the grammar, in its order. What is read is an
-- expression with its height, or nothing where that is above the limit.
use Rattle.std.specs.Prelude.{ℕ, suc, zero, if◌then◌else◌, List, [], ◌∷◌, Option, Some, None, codes}
use Rattle.tall_grammar.specs.declared.expressions.Prefix.{Prefix}
use Rattle.tall_grammar.specs.declared.expressions.Infix.{Infix}
use Rattle.tall_grammar.specs.declared.expressions.Infix.TheVariants.{Or, And}
use Rattle.tall_grammar.specs.Lexemes.{is_the_sign, number_value, text_value, is_text, comparison, additive, multiplicative, prefix_sign}
use Rattle.tall_grammar.specs.Readers.{Reader, ◌>>=◌, pure, tired, given, given_if, peek, take_text, expect_sign, is_name, is_text_token, is_number, operator_of, numbered, listed}
use Rattle.tall_grammar.specs.Kept.{Kept, leaf, list_of, prefixed_of, joined_of, member_of, call_of, no_arguments, a_colon, a_value, and_argument}
use Rattle.tall_grammar.specs.Trees.{Tree, tree, number, text, name, handle}

-- ---- texts and lists

abbrev pub text_here : ℕ → Reader Tree
text_here l = take_text is_text_token >>= (λ s. numbered (λ n. tree n l (text (text_value s))))

-- text { [','] text }
abbrev pub texts : ℕ → ℕ → Reader (List Tree)
texts k l = listed is_text_token (text_here l) k

-- the rest of a list behind its texts
abbrev pub closed_list : ℕ → List ℕ → List Tree → Reader (Kept Tree)
closed_list l bracket es = expect_sign bracket >>= (λ _. numbered (list_of es l))

abbrev pub list_in_braces : ℕ → ℕ → Reader (Kept Tree)
list_in_braces k l = peek is_text_token (texts k l) (pure []) >>= (λ es. closed_list l (codes "}") es)

abbrev pub list_in_brackets : ℕ → ℕ → Reader (Kept Tree)
list_in_brackets k l = texts k l >>= (λ es. closed_list l (codes "]") es)

-- ---- operands of one token

abbrev pub number_leaf : ℕ → Reader (Kept Tree)
number_leaf l = take_text is_number >>= (λ s. numbered (leaf (number (number_value s)) l))

abbrev pub text_leaf : ℕ → Reader (Kept Tree)
text_leaf l = take_text is_text_token >>= (λ s. numbered (leaf (text (text_value s)) l))

abbrev pub name_leaf : ℕ → Reader (Kept Tree)
name_leaf l = take_text is_name >>= (λ s. numbered (leaf (name s) l))

-- '@' name
abbrev pub a_handle : ℕ → Reader (Kept Tree)
a_handle l = expect_sign (codes "@") >>= (λ _. take_text is_name >>= (λ s. numbered (leaf (handle s) l)))

-- behind the point of a member
abbrev pub member_step : ℕ → Kept Tree → Reader (Kept Tree)
member_step l e = take_text is_name >>= (λ s. numbered (member_of e s l))

-- ---- the rules, with the reader of the expressions inside and the greatest number of turns

module _ (expr : ℕ → Reader (Kept Tree)) (k : ℕ) where
  abbrev pub in_parentheses : ℕ → Reader (Kept Tree)
  in_parentheses l = expr l >>= (λ e. expect_sign (codes ")") >>= (λ _. pure e))

  -- '(' expr ')' | list | '@' name
  abbrev pub signed_primary : ℕ → Reader (Kept Tree)
  signed_primary l =
      given_if (is_the_sign (codes "(")) (in_parentheses l)
      (given_if (is_the_sign (codes "{")) (list_in_braces k l)
      (given_if (is_the_sign (codes "[")) (list_in_brackets k l)
      (a_handle l)))

  abbrev pub primary : ℕ → Reader (Kept Tree)
  primary l =
      peek is_number (number_leaf l) (peek is_text_token (text_leaf l) (peek is_name (name_leaf l) (signed_primary l)))

  -- arg
  abbrev pub arg : ℕ → Reader (Kept (Option Tree))
  arg l = given_if (is_the_sign (codes ":")) (pure a_colon) (expr l >>= (λ e. pure (a_value e)))

  -- arg { ',' arg }, behind those that were found
  unfoldable pub args_from : ℕ → ℕ → Kept (List (Option Tree)) → Reader (Kept (List (Option Tree)))
  args_from l zero found = tired
  args_from l (suc n) found =
      arg l >>= (λ a. given_if (is_the_sign (codes ",")) (args_from l n (and_argument found a)) (pure (and_argument found a)))

  -- args, with the parenthesis behind them
  abbrev pub closed_args : ℕ → Reader (Kept (List (Option Tree)))
  closed_args l =
      given_if (is_the_sign (codes ")")) (pure no_arguments)
      (args_from l k no_arguments >>= (λ args. expect_sign (codes ")") >>= (λ _. pure args)))

  -- behind the parenthesis of a call
  abbrev pub call_step : ℕ → Kept Tree → Reader (Kept Tree)
  call_step l e = closed_args l >>= (λ args. numbered (call_of e args l))

  -- { '.' name | '(' args ')' } behind an operand
  unfoldable pub post_from : ℕ → ℕ → Kept Tree → Reader (Kept Tree)
  post_from l zero e = tired
  post_from l (suc n) e =
      given_if (is_the_sign (codes ".")) (take_text is_name >>= (λ s. numbered (member_of e s l) >>= (λ f. post_from l n f)))
      (given_if (is_the_sign (codes "(")) (closed_args l >>= (λ args. numbered (call_of e args l) >>= (λ f. post_from l n f)))
      (pure e))

  abbrev pub post : ℕ → Reader (Kept Tree)
  post l = primary l >>= (λ e. post_from l k e)

-- { '-' | '+' | '~' }, with the last first
unfoldable pub signs_from : ℕ → List Prefix → Reader (List Prefix)
signs_from zero found = tired
signs_from (suc n) found = given (operator_of prefix_sign) (λ o. signs_from n (o ∷ found)) (pure found)

-- an operand behind signs, of which the last stands first
unfoldable pub signed : ℕ → List Prefix → Kept Tree → Reader (Kept Tree)
signed l [] e = pure e
signed l (o ∷ os) e = numbered (prefixed_of o e l) >>= (λ f. signed l os f)

-- { op operand } behind an operand
unfoldable pub chain_from : (List ℕ → Option Infix) → Reader (Kept Tree) → ℕ → ℕ → Kept Tree → Reader (Kept Tree)
chain_from op operand l zero e = tired
chain_from op operand l (suc n) e =
    given (operator_of op) (λ o. operand >>= (λ f. numbered (joined_of o e f l) >>= (λ g. chain_from op operand l n g))) (pure e)

abbrev pub one_sign : List ℕ → Infix → List ℕ → Option Infix
one_sign sign o s = if is_text s sign then Some o else None

-- the operators of each level, from those that bind most to those that bind least
abbrev pub operators : ℕ → List ℕ → Option Infix
operators zero s = multiplicative s
operators (suc zero) s = additive s
operators (suc (suc zero)) s = comparison s
operators (suc (suc (suc zero))) s = one_sign (codes "&") And s
operators (suc (suc (suc (suc level)))) s = one_sign (codes "|") Or s

module _ (expr : ℕ → Reader (Kept Tree)) (k : ℕ) where
  abbrev pub pre : ℕ → Reader (Kept Tree)
  pre l = signs_from k [] >>= (λ os. post expr k l >>= (λ e. signed l os e))

  -- pre, prod, sum, cmp, conj, expr
  unfoldable pub level : ℕ → ℕ → Reader (Kept Tree)
  level l zero = pre l
  level l (suc n) = level l n >>= (λ e. chain_from (operators n) (level l n) l k e)

-- an expression with so many others inside one another
unfoldable pub expr_within : ℕ → ℕ → ℕ → Reader (Kept Tree)
expr_within k zero l = tired
expr_within k (suc d) l = level (expr_within k d) k l 5
