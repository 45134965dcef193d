-- Scripts, read from left to right. One reader stands for each rule of the grammar, in its order. What is read is a part of
-- a script, or the line of its first expression that is higher than it may be.
use Rattle.std.specs.Prelude.{ℕ, suc, zero, ◌&&◌, ◌||◌, not, Bool, true, false, if◌then◌else◌, List, [], ◌∷◌, Option, Some, None, Ok, codes}
use Rattle.std.specs.List.{list_any}
use Rattle.tall_grammar.specs.Lexemes.{Lexeme, is_the_sign, is_the_word, is_separator, shows, is_text, has_text}
use Rattle.tall_grammar.specs.Readers.{Reader, ◌>>=◌, pure, tired, given, given_if, peek, take_as, take_text, expect, expect_sign, expect_word, is_name, front_is, all_but_front, skip_separators, listed}
use Rattle.tall_grammar.specs.Kept.{Kept, Flagged, settled, with_it, with_both, and_last}
use Rattle.tall_grammar.specs.ExprReader.{expr_within, closed_args}
use Rattle.tall_grammar.specs.Trees.{Tree, Step, assign_step, add_step, if_step, while_step, for_step, Steps, Body, assigned, gathered, property, bare, SeenStatement, SeenFunction, SeenScript}
use Rattle.tall_grammar.specs.Views.{args_of, steps_of, arms_of}

-- the line of the first token, or 0 where there is none
abbrev pub line_here : List Lexeme → ℕ
line_here [] = 0
line_here (t ∷ ts) = t.line

abbrev pub on_line : {A : Type 0} → (ℕ → Reader A) → Reader A
on_line f = λ i. f (line_here i.rest) i

abbrev pub at_end : List Lexeme → Bool
at_end [] = true
at_end (t ∷ ts) = false

-- ---- tokens that are looked at ahead

-- the tokens stand first that pass, in their order
abbrev pub front_are : List (Lexeme → Bool) → List Lexeme → Bool
front_are [] ts = true
front_are (test ∷ tests) ts = front_is test ts && front_are tests (all_but_front ts)

abbrev pub is_equals : Lexeme → Bool
is_equals = is_the_sign (codes "=")

abbrev pub begins_assignment : List Lexeme → Bool
begins_assignment ts = front_are (is_name ∷ is_equals ∷ []) ts

abbrev pub begins_property : List Lexeme → Bool
begins_property ts = front_are (is_name ∷ is_the_sign (codes ".") ∷ is_name ∷ is_equals ∷ []) ts

abbrev pub begins_targets : List Lexeme → Bool
begins_targets ts = front_are (is_the_sign (codes "[") ∷ is_name ∷ []) ts

abbrev pub is_the_name : List ℕ → Lexeme → Bool
is_the_name text t = is_name t && has_text t text

-- the line of this word
abbrev pub word_line : List ℕ → Lexeme → Option ℕ
word_line s t = if is_the_word s t then Some t.line else None

-- ---- separators

-- sep { sep }; is a statement before it shown?
abbrev pub separator_shows : Lexeme → Option Bool
separator_shows t = if is_separator t then Some (shows t) else None

abbrev pub separators : Reader Bool
separators = take_as separator_shows >>= (λ shown. skip_separators >>= (λ _. pure shown))

-- the same, or the end of the text
abbrev pub ended : Reader Bool
ended = λ i. if at_end i.rest then Ok (true, i) else separators i

-- ---- what begins and ends statements

abbrev pub entry_of : ℕ → Bool → Body → SeenStatement
entry_of l shown b = record { line = l; shown = shown; form = b }

abbrev pub ends_statements : List Lexeme → Bool
ends_statements ts = at_end ts || front_is (is_the_word (codes "function")) ts

abbrev pub begins_step : Lexeme → Bool
begins_step t =
    is_name t || (is_the_word (codes "if") t || (is_the_word (codes "while") t || is_the_word (codes "for") t))

-- ---- statements by their parts

abbrev pub gathered_by : ℕ → List (List ℕ) → Kept (List (Option Tree)) → Flagged Body
gathered_by l ss args = with_it (λ xs. gathered ss (args_of xs)) (settled l args)

abbrev pub assigned_to : List ℕ → Flagged Tree → Flagged Body
assigned_to s e = with_it (assigned s) e

abbrev pub set_to : List ℕ → List ℕ → Flagged Tree → Flagged Body
set_to s t e = with_it (property s t) e

abbrev pub bare_of : Flagged Tree → Flagged Body
bare_of e = with_it bare e

abbrev pub entry_by : ℕ → Bool → Flagged Body → Flagged SeenStatement
entry_by l shown b = with_it (entry_of l shown) b

-- ---- statements of functions by their parts

abbrev pub assign_by : ℕ → List ℕ → Flagged Tree → Flagged Step
assign_by l s e = with_it (assign_step l s) e

abbrev pub add_by : ℕ → Flagged Tree → Flagged Tree → Flagged Tree → Flagged Step
add_by l e f g = with_both (λ a h. a h) (with_both (λ e f. add_step l e f) e f) g

abbrev pub arm_by : Flagged Tree → Flagged (List Step) → Flagged (Tree × Steps)
arm_by e b = with_both (λ e b. (e, steps_of b)) e b

abbrev pub if_by : ℕ → Flagged (List (Tree × Steps)) → Flagged (List Step) → Flagged Step
if_by l arms b = with_both (λ arms b. if_step l (arms_of arms) (steps_of b)) arms b

abbrev pub while_by : ℕ → Flagged (Tree × Steps) → Flagged Step
while_by l a = with_it (λ a. while_step l a.0 a.1) a

abbrev pub for_by : ℕ → List ℕ → Flagged Tree → Flagged (Tree × Steps) → Flagged Step
for_by l s e a = with_both (λ e a. for_step l s e a.0 a.1) e a

-- ---- the rules, with the greatest numbers of turns and of expressions and blocks inside one another

module _ (k d : ℕ) where
  abbrev pub expr_on : ℕ → Reader (Flagged Tree)
  expr_on l = expr_within k d l >>= (λ e. pure (settled l e))

  abbrev pub names : Reader (List (List ℕ))
  names = listed is_name (take_text is_name) k

  -- ---- statements of the script

  abbrev pub assignment : ℕ → Reader (Flagged Body)
  assignment l = take_text is_name >>= (λ s. expect_sign (codes "=") >>= (λ _. expr_on l >>= (λ e. pure (with_it (assigned s) e))))

  abbrev pub property_setting : ℕ → Reader (Flagged Body)
  property_setting l =
      take_text is_name >>= (λ s. expect_sign (codes ".") >>= (λ _. take_text is_name >>= (λ t. expect_sign (codes "=") >>= (λ _.
      expr_on l >>= (λ e. pure (with_it (property s t) e))))))

  abbrev pub gathering : ℕ → Reader (Flagged Body)
  gathering l =
      expect_sign (codes "[") >>= (λ _. names >>= (λ ss. expect_sign (codes "]") >>= (λ _. expect_sign (codes "=") >>= (λ _.
      expect (is_the_name (codes "gather")) >>= (λ _. expect_sign (codes "(") >>= (λ _. closed_args (expr_within k d) k l >>= (λ args.
      pure (with_it (λ xs. gathered ss (args_of xs)) (settled l args)))))))))

  abbrev pub bare_expression : ℕ → Reader (Flagged Body)
  bare_expression l = expr_on l >>= (λ e. pure (with_it bare e))

  abbrev pub body : ℕ → Reader (Flagged Body)
  body l = λ i.
      if begins_assignment i.rest then assignment l i
      else if begins_property i.rest then property_setting l i
      else if begins_targets i.rest then gathering l i
      else bare_expression l i

  abbrev pub statement : ℕ → Reader (Flagged SeenStatement)
  statement l = body l >>= (λ b. ended >>= (λ shown. pure (with_it (entry_of l shown) b)))

  -- { statement }, behind those that were found
  unfoldable pub statements_from : ℕ → Flagged (List SeenStatement) → Reader (Flagged (List SeenStatement))
  statements_from zero found = tired
  statements_from (suc n) found = λ i.
      if ends_statements i.rest then Ok (found, i)
      else (on_line statement >>= (λ b. statements_from n (and_last found b))) i

  -- ---- statements of functions

  -- name '=' expr, behind the name
  abbrev pub named_assignment : ℕ → List ℕ → Reader (Flagged Step)
  named_assignment l s = expect_sign (codes "=") >>= (λ _. expr_on l >>= (λ e. pure (with_it (assign_step l s) e)))

  -- '(' expr ',' expr ',' expr ')', behind the parenthesis that opens
  abbrev pub adding : ℕ → Reader (Flagged Step)
  adding l =
      expr_on l >>= (λ e. expect_sign (codes ",") >>= (λ _. expr_on l >>= (λ f. expect_sign (codes ",") >>= (λ _. expr_on l >>= (λ g.
      expect_sign (codes ")") >>= (λ _. pure (with_both (λ a h. a h) (with_both (λ e f. add_step l e f) e f) g)))))))

  -- behind a name that begins a statement
  abbrev pub named_step : ℕ → List ℕ → Reader (Flagged Step)
  named_step l s =
      if is_text s (codes "add") then given_if (is_the_sign (codes "(")) (adding l) (named_assignment l s)
      else named_assignment l s

  abbrev pub a_named_step : ℕ → Reader (Flagged Step)
  a_named_step l = take_text is_name >>= (λ s. named_step l s)

  module _ (steps : Reader (Flagged (List Step))) where
    -- expr sep { sep } { fstat }
    abbrev pub arm : ℕ → Reader (Flagged (Tree × Steps))
    arm l = expr_on l >>= (λ e. separators >>= (λ _. steps >>= (λ b. pure (with_both (λ e b. (e, steps_of b)) e b))))

    -- 'else' { sep } { fstat }, behind the word
    abbrev pub otherwise : Reader (Flagged (List Step))
    otherwise = skip_separators >>= (λ _. steps)

    -- { 'elseif' expr sep { sep } { fstat } }, behind the arms that were found
    unfoldable pub arms_from : ℕ → Flagged (List (Tree × Steps)) → Reader (Flagged (List (Tree × Steps)))
    arms_from zero found = tired
    arms_from (suc n) found =
        given (word_line (codes "elseif")) (λ l. arm l >>= (λ a. arms_from n (and_last found a))) (pure found)

    -- [ 'else' { sep } { fstat } ]
    abbrev pub rest_arm : Reader (Flagged (List Step))
    rest_arm = given_if (is_the_word (codes "else")) otherwise (pure (Ok []))

    abbrev pub choosing : ℕ → Reader (Flagged Step)
    choosing l =
        arm l >>= (λ a. arms_from k (and_last (Ok []) a) >>= (λ arms. rest_arm >>= (λ b. expect_word (codes "end") >>= (λ _.
        pure (with_both (λ arms b. if_step l (arms_of arms) (steps_of b)) arms b)))))

    abbrev pub looping : ℕ → Reader (Flagged Step)
    looping l = arm l >>= (λ a. expect_word (codes "end") >>= (λ _. pure (with_it (λ a. while_step l a.0 a.1) a)))

    abbrev pub counting : ℕ → Reader (Flagged Step)
    counting l =
        take_text is_name >>= (λ s. expect_sign (codes "=") >>= (λ _. expr_on l >>= (λ e. expect_sign (codes ":") >>= (λ _. arm l >>= (λ a.
        expect_word (codes "end") >>= (λ _. pure (with_both (λ e a. for_step l s e a.0 a.1) e a)))))))

    abbrev pub step : ℕ → Reader (Flagged Step)
    step l =
        peek is_name (a_named_step l)
        (given_if (is_the_word (codes "if")) (choosing l)
        (given_if (is_the_word (codes "while")) (looping l)
        (expect_word (codes "for") >>= (λ _. counting l))))

    -- { fstat }, behind those that were found
    unfoldable pub steps_from : ℕ → Flagged (List Step) → Reader (Flagged (List Step))
    steps_from zero found = tired
    steps_from (suc n) found =
        peek begins_step (on_line step >>= (λ b. separators >>= (λ _. steps_from n (and_last found b)))) (pure found)

-- statements with so many blocks inside one another
unfoldable pub steps_within : ℕ → ℕ → ℕ → Reader (Flagged (List Step))
steps_within k d zero = tired
steps_within k d (suc b) = steps_from k d (steps_within k d b) k (Ok [])

-- ---- functions

abbrev pub parameter_of : Lexeme → Option (Option (List ℕ))
parameter_of t = if is_name t then Some (Some t.text) else if is_the_sign (codes "~") t then Some None else None

abbrev pub parameter : Reader (Option (List ℕ))
parameter = take_as parameter_of

abbrev pub parameters : Reader (List (Option (List ℕ)))
parameters =
    expect_sign (codes "(") >>= (λ _. parameter >>= (λ a. expect_sign (codes ",") >>= (λ _. parameter >>= (λ b. expect_sign (codes ",") >>= (λ _.
    parameter >>= (λ c. expect_sign (codes ")") >>= (λ _. pure (a ∷ b ∷ c ∷ []))))))))

-- a name that no function before has
abbrev pub new_name : List (List ℕ) → Lexeme → Option (List ℕ)
new_name before t = if is_name t && not (list_any (is_text t.text) before) then Some t.text else None

abbrev pub routine : ℕ → List ℕ → List (Option (List ℕ)) → List Step → SeenFunction
routine l s params body = record { name = s; line = l; params = params; body = steps_of body }

abbrev pub program_of_parts : List SeenStatement → List SeenFunction → SeenScript
program_of_parts bs fs = record { statements = bs; functions = fs }

module _ (k d : ℕ) where
  -- a function behind its name
  abbrev pub function_rest : ℕ → List ℕ → Reader (Flagged SeenFunction)
  function_rest l s =
      parameters >>= (λ params. separators >>= (λ _. steps_within k d d >>= (λ body. expect_word (codes "end") >>= (λ _.
      skip_separators >>= (λ _. pure (with_it (routine l s params) body))))))

  -- { function }, behind those that were found, with their names
  unfoldable pub functions_from : ℕ → List (List ℕ) → Flagged (List SeenFunction) → Reader (Flagged (List SeenFunction))
  functions_from zero before found = tired
  functions_from (suc n) before found = λ i.
      if at_end i.rest then Ok (found, i)
      else on_line (λ l. expect_word (codes "function") >>= (λ _. take_as (new_name before) >>= (λ s. function_rest l s >>= (λ f.
      functions_from n (s ∷ before) (and_last found f))))) i

  -- ---- scripts

  abbrev pub program : Reader (Flagged SeenScript)
  program =
      skip_separators >>= (λ _. statements_from k d k (Ok []) >>= (λ bs. functions_from k [] (Ok []) >>= (λ fs.
      pure (with_both program_of_parts bs fs))))
