-- The reader of scripts lasts, where its turns are more than the tokens and its depth is above the limit.
use Rattle.std.proofs.Common.{◌≡◌, ℕ, suc, zero, ◌+◌, ◌<◌, ◌≤◌, Bool, true, false, List, [], ◌∷◌, refl, arith}
use Rattle.std.specs.Prelude.{Ok, if◌then◌else◌, codes}
use Rattle.tall_grammar.specs.Lexemes.{Lexeme, sign, word, is_the_sign, is_the_word, is_separator, is_text}
use Rattle.tall_grammar.specs.Trees.{Tree, Step, Steps, SeenStatement, SeenFunction}
use Rattle.tall_grammar.specs.Refusals.{limit, open_behind}
use Rattle.tall_grammar.specs.Kept.{Flagged, with_it, with_both, and_last}
use Rattle.tall_grammar.specs.Readers.{input, Reader, ◌>>=◌, pure, given_if, take_as, take_text, expect, expect_sign, expect_word, is_name, skip_separators, without_separators}
use Rattle.tall_grammar.specs.ExprReader.{expr_within, closed_args}
use Rattle.tall_grammar.specs.ScriptReader.{line_here, on_line, at_end, ends_statements, begins_assignment, begins_property, begins_targets, begins_step, is_the_name, word_line, separator_shows, separators, ended, expr_on, names, assignment, property_setting, gathering, bare_expression, body, statement, statements_from, named_assignment, adding, named_step, a_named_step, arm, otherwise, arms_from, rest_arm, choosing, looping, counting, step, steps_from, steps_within, parameter_of, parameter, parameters, new_name, routine, function_rest, functions_from, program_of_parts, program}
use Rattle.tall_grammar.proofs.Lasting.{Fits, Lasts, Moves, more_fits, behind_it, lasts_none, lasts_more, lasts_any, lasts_pure, lasts_bind, lasts_if, lasts_peek, lasts_given, lasts_given_if, lasts_given_any, lasts_take, lasts_take_text, lasts_expect}
use Rattle.tall_grammar.proofs.Depths.{sign_moves, word_moves, one_less, name_stays, the_name_stays, new_name_stays, separator_stays, shown_stays, elseif_stays, parameter_stays}
use Rattle.tall_grammar.proofs.LastingExprs.{lasts_listed, lasts_closed_args, lasts_expr}

-- ---- one token, and no more left than there were

any_expect : (o n : ℕ) (test : Lexeme → Bool) → Moves test o n → (b : ℕ) → Lasts b o b n (expect test)
any_expect o n test moves b = lasts_any {k = b} (expect test) (λ c less. lasts_expect test moves) b (omega arith)

any_sign : (o n : ℕ) (s : List ℕ) → ((l : ℕ) → open_behind o (sign l s) ≡ n) → (b : ℕ) → Lasts b o b n (expect_sign s)
any_sign o n s e b = any_expect o n (is_the_sign s) (sign_moves o n s e) b

any_word : (o n : ℕ) (s : List ℕ) → ((l : ℕ) → open_behind o (word l s) ≡ n) → (b : ℕ) → Lasts b o b n (expect_word s)
any_word o n s e b = any_expect o n (is_the_word s) (word_moves o n s e) b

one_name : (o b : ℕ) → Lasts (suc b) o b o (take_text is_name)
one_name o b = lasts_take_text is_name (name_stays o)

any_name : (o b : ℕ) → Lasts b o b o (take_text is_name)
any_name o b = lasts_any {k = b} (take_text is_name) (λ c less. one_name o c) b (omega arith)

any_end : (o b : ℕ) → Lasts b (o + 1) b o (expect_word (codes "end"))
any_end o b = any_word (o + 1) o (codes "end") (λ l. one_less o) b

-- ---- separators and lines

skip_fits : (b o m : ℕ) (ts : List Lexeme) → Fits b o (input ts m) → Fits b o (input (without_separators ts) m)
skip_fits zero o m ts h = let f = h.fewer in absurd (omega (arith, f))
skip_fits (suc b) o m [] h = h
skip_fits (suc b) o m (t ∷ ts) h = (elim (is_separator t) as (λ x. is_separator t ≡ x → Fits (suc b) o (input (if x then without_separators ts else t ∷ ts) m)) [
  | true ↦ λ e. skip_fits (suc b) o m ts (more_fits b (suc b) o (input ts m) (omega arith) (behind_it b o o t ts m (separator_stays o t e) h))
  | false ↦ λ e. h
]) refl

lasts_skip : (o b : ℕ) → Lasts b o b o skip_separators
lasts_skip o b = record { leaves = λ i h. skip_fits b o i.next i.rest h }

lasts_separators : (o b : ℕ) → Lasts (suc b) o b o separators
lasts_separators o b = lasts_bind (take_as separator_shows) _ (lasts_take separator_shows (shown_stays o)) (λ shown. lasts_bind skip_separators (λ _. pure shown) (lasts_skip o b) (λ _. lasts_pure shown))

any_separators : (o b : ℕ) → Lasts b o b o separators
any_separators o b = lasts_any {k = b} separators (λ c less. lasts_separators o c) b (omega arith)

lasts_ended : (o b : ℕ) → Lasts b o b o ended
lasts_ended o b = lasts_if at_end (pure true) separators (lasts_pure true) (any_separators o b)

lasts_on_line : {A : Type 0} {b o c n : ℕ} (f : ℕ → Reader A) → ((l : ℕ) → Lasts b o c n (f l)) → Lasts b o c n (on_line f)
lasts_on_line f x = record { leaves = λ i h. (x (line_here i.rest)).leaves i h }

-- ---- statements of the script

module _ (k d : ℕ) (deep : limit < d) where
  lasts_expr_on : (o l b : ℕ) → b < k → Lasts (suc b) o b o (expr_on k d l)
  lasts_expr_on o l b less = lasts_bind (expr_within k d l) _ (lasts_expr k d o (omega (arith, deep)) l b less) (λ e. lasts_pure _)

  any_expr_on : (o l b : ℕ) → b ≤ k → Lasts b o b o (expr_on k d l)
  any_expr_on o l b small = lasts_any {k = k} (expr_on k d l) (lasts_expr_on o l) b small

  any_names : (o b : ℕ) → b ≤ k → Lasts b o b o (names k d)
  any_names o b small = lasts_any {k = k} (names k d) (λ c less. lasts_listed o is_name (take_text is_name) (one_name o) k c (omega (arith, less))) b small

  lasts_assignment : (o l b : ℕ) → b < k → Lasts (suc b) o b o (assignment k d l)
  lasts_assignment o l b less =
      lasts_bind (take_text is_name) _ (one_name o b) (λ s. lasts_bind (expect_sign (codes "=")) _ (any_sign o o (codes "=") (λ l. refl) b)
      (λ _. lasts_bind (expr_on k d l) _ (any_expr_on o l b (omega (arith, less))) (λ e. lasts_pure _)))

  lasts_property : (o l b : ℕ) → b < k → Lasts (suc b) o b o (property_setting k d l)
  lasts_property o l b less =
      lasts_bind (take_text is_name) _ (one_name o b) (λ s. lasts_bind (expect_sign (codes ".")) _ (any_sign o o (codes ".") (λ l. refl) b)
      (λ _. lasts_bind (take_text is_name) _ (any_name o b) (λ t. lasts_bind (expect_sign (codes "=")) _ (any_sign o o (codes "=") (λ l. refl) b)
      (λ _. lasts_bind (expr_on k d l) _ (any_expr_on o l b (omega (arith, less))) (λ e. lasts_pure _)))))

  any_args : (o l b : ℕ) → b ≤ k → Lasts b (o + 1) b o (closed_args (expr_within k d) k l)
  any_args o l b small =
      lasts_any {k = k} (closed_args (expr_within k d) k l) (lasts_closed_args (expr_within k d) k o (lasts_expr k d (o + 1) (omega (arith, deep))) l) b small

  lasts_gathering : (o l b : ℕ) → b < k → Lasts (suc b) o b o (gathering k d l)
  lasts_gathering o l b less =
      lasts_bind (expect_sign (codes "[")) _ (lasts_expect (is_the_sign (codes "[")) (sign_moves o (o + 1) (codes "[") (λ l. refl)))
      (λ _. lasts_bind (names k d) _ (any_names (o + 1) b (omega (arith, less)))
      (λ ss. lasts_bind (expect_sign (codes "]")) _ (any_sign (o + 1) o (codes "]") (λ l. one_less o) b)
      (λ _. lasts_bind (expect_sign (codes "=")) _ (any_sign o o (codes "=") (λ l. refl) b)
      (λ _. lasts_bind (expect (is_the_name (codes "gather"))) _ (any_expect o o (is_the_name (codes "gather")) (the_name_stays o (codes "gather")) b)
      (λ _. lasts_bind (expect_sign (codes "(")) _ (any_sign o (o + 1) (codes "(") (λ l. refl) b)
      (λ _. lasts_bind (closed_args (expr_within k d) k l) _ (any_args o l b (omega (arith, less))) (λ args. lasts_pure _)))))))

  lasts_bare : (o l b : ℕ) → b < k → Lasts (suc b) o b o (bare_expression k d l)
  lasts_bare o l b less = lasts_bind (expr_on k d l) _ (lasts_expr_on o l b less) (λ e. lasts_pure _)

  lasts_body : (o l b : ℕ) → b < k → Lasts (suc b) o b o (body k d l)
  lasts_body o l b less =
      lasts_if begins_assignment (assignment k d l) _ (lasts_assignment o l b less)
      (lasts_if begins_property (property_setting k d l) _ (lasts_property o l b less)
      (lasts_if begins_targets (gathering k d l) (bare_expression k d l) (lasts_gathering o l b less) (lasts_bare o l b less)))

  lasts_statement : (o l b : ℕ) → b < k → Lasts (suc b) o b o (statement k d l)
  lasts_statement o l b less = lasts_bind (body k d l) _ (lasts_body o l b less) (λ x. lasts_bind ended _ (lasts_ended o b) (λ shown. lasts_pure _))

  lasts_statements : (o n b : ℕ) → b ≤ n → b ≤ k → (found : Flagged (List SeenStatement)) → Lasts b o b o (statements_from k d n found)
  unfolding statements_from
  lasts_statements o zero b le small found = lasts_none (statements_from k d 0 found) le
  lasts_statements o (suc n) zero le small found = lasts_none (statements_from k d (suc n) found) (omega arith)
  lasts_statements o (suc n) (suc b) le small found =
      lasts_if ends_statements (pure found) (on_line (statement k d) >>= (λ x. statements_from k d n (and_last found x))) (lasts_pure found)
      (lasts_more (on_line (statement k d) >>= (λ x. statements_from k d n (and_last found x))) (omega arith)
      (lasts_bind (on_line (statement k d)) (λ x. statements_from k d n (and_last found x)) (lasts_on_line (statement k d) (λ l. lasts_statement o l b (omega (arith, small))))
      (λ x. lasts_statements o n b (omega (arith, le)) (omega (arith, small)) (and_last found x))))

  -- ---- statements of functions that hold no others

  any_assignment : (o l : ℕ) (s : List ℕ) (b : ℕ) → b ≤ k → Lasts b o b o (named_assignment k d l s)
  any_assignment o l s b small =
      lasts_bind (expect_sign (codes "=")) _ (any_sign o o (codes "=") (λ l. refl) b) (λ _. lasts_bind (expr_on k d l) _ (any_expr_on o l b small) (λ e. lasts_pure _))

  any_adding : (o l b : ℕ) → b ≤ k → Lasts b (o + 1) b o (adding k d l)
  any_adding o l b small =
      lasts_bind (expr_on k d l) _ (any_expr_on (o + 1) l b small) (λ e. lasts_bind (expect_sign (codes ",")) _ (any_sign (o + 1) (o + 1) (codes ",") (λ l. refl) b)
      (λ _. lasts_bind (expr_on k d l) _ (any_expr_on (o + 1) l b small) (λ f. lasts_bind (expect_sign (codes ",")) _ (any_sign (o + 1) (o + 1) (codes ",") (λ l. refl) b)
      (λ _. lasts_bind (expr_on k d l) _ (any_expr_on (o + 1) l b small) (λ g. lasts_bind (expect_sign (codes ")")) _ (any_sign (o + 1) o (codes ")") (λ l. one_less o) b) (λ _. lasts_pure _))))))

  any_named_step : (o l : ℕ) (s : List ℕ) (b : ℕ) → b ≤ k → Lasts b o b o (named_step k d l s)
  any_named_step o l s b small = by (is_text s (codes "add")) where
    by : (x : Bool) → Lasts b o b o (if x then given_if (is_the_sign (codes "(")) (adding k d l) (named_assignment k d l s) else named_assignment k d l s)
    by true = lasts_given_any (is_the_sign (codes "(")) (adding k d l) (named_assignment k d l s) (sign_moves o (o + 1) (codes "(") (λ l. refl)) (any_adding o l b small) (any_assignment o l s b small)
    by false = any_assignment o l s b small

  lasts_named_step : (o l b : ℕ) → b < k → Lasts (suc b) o b o (a_named_step k d l)
  lasts_named_step o l b less = lasts_bind (take_text is_name) _ (one_name o b) (λ s. any_named_step o l s b (omega (arith, less)))

  -- ---- blocks, with the reader of the statements inside

  module _ (o : ℕ) (steps : Reader (Flagged (List Step))) (inner : (b : ℕ) → b ≤ k → Lasts b (o + 1) b (o + 1) steps) where
    lasts_arm : (l b : ℕ) → b < k → Lasts (suc b) (o + 1) b (o + 1) (arm k d steps l)
    lasts_arm l b less =
        lasts_bind (expr_on k d l) _ (lasts_expr_on (o + 1) l b less) (λ e. lasts_bind separators _ (any_separators (o + 1) b) (λ _. lasts_bind steps _ (inner b (omega (arith, less))) (λ x. lasts_pure _)))

    any_arm : (l b : ℕ) → b ≤ k → Lasts b (o + 1) b (o + 1) (arm k d steps l)
    any_arm l b small = lasts_any {k = k} (arm k d steps l) (lasts_arm l) b small

    lasts_arms : (n b : ℕ) → b ≤ n → b ≤ k → (found : Flagged (List (Tree × Steps))) → Lasts b (o + 1) b (o + 1) (arms_from k d steps n found)
    unfolding arms_from
    lasts_arms zero b le small found = lasts_none (arms_from k d steps 0 found) le
    lasts_arms (suc n) zero le small found = lasts_none (arms_from k d steps (suc n) found) (omega arith)
    lasts_arms (suc n) (suc b) le small found =
        lasts_given (word_line (codes "elseif")) (λ l. arm k d steps l >>= (λ a. arms_from k d steps n (and_last found a))) (pure found) (elseif_stays (o + 1))
        (λ l. lasts_more (arm k d steps l >>= (λ a. arms_from k d steps n (and_last found a))) (omega arith)
        (lasts_bind (arm k d steps l) (λ a. arms_from k d steps n (and_last found a)) (any_arm l b (omega (arith, small)))
        (λ a. lasts_arms n b (omega (arith, le)) (omega (arith, small)) (and_last found a))))
        (lasts_pure found)

    any_rest : (b : ℕ) → b ≤ k → Lasts b (o + 1) b (o + 1) (rest_arm k d steps)
    any_rest b small =
        lasts_given_any (is_the_word (codes "else")) (otherwise k d steps) (pure (Ok [])) (word_moves (o + 1) (o + 1) (codes "else") (λ l. refl))
        (lasts_bind skip_separators (λ _. steps) (lasts_skip (o + 1) b) (λ _. inner b small)) (lasts_pure (Ok []))

    any_choosing : (l b : ℕ) → b ≤ k → Lasts b (o + 1) b o (choosing k d steps l)
    any_choosing l b small =
        lasts_bind (arm k d steps l) _ (any_arm l b small) (λ a. lasts_bind (arms_from k d steps _ (and_last (Ok []) a)) _ (lasts_arms _ b (omega (arith, small)) small (and_last (Ok []) a))
        (λ arms. lasts_bind (rest_arm k d steps) _ (any_rest b small) (λ x. lasts_bind (expect_word (codes "end")) _ (any_end o b) (λ _. lasts_pure _))))

    any_looping : (l b : ℕ) → b ≤ k → Lasts b (o + 1) b o (looping k d steps l)
    any_looping l b small = lasts_bind (arm k d steps l) _ (any_arm l b small) (λ a. lasts_bind (expect_word (codes "end")) _ (any_end o b) (λ _. lasts_pure _))

    any_counting : (l b : ℕ) → b ≤ k → Lasts b (o + 1) b o (counting k d steps l)
    any_counting l b small =
        lasts_bind (take_text is_name) _ (any_name (o + 1) b) (λ s. lasts_bind (expect_sign (codes "=")) _ (any_sign (o + 1) (o + 1) (codes "=") (λ l. refl) b)
        (λ _. lasts_bind (expr_on k d l) _ (any_expr_on (o + 1) l b small) (λ e. lasts_bind (expect_sign (codes ":")) _ (any_sign (o + 1) (o + 1) (codes ":") (λ l. refl) b)
        (λ _. lasts_bind (arm k d steps l) _ (any_arm l b small) (λ a. lasts_bind (expect_word (codes "end")) _ (any_end o b) (λ _. lasts_pure _))))))

    lasts_step : (l b : ℕ) → b < k → Lasts (suc b) o b o (step k d steps l)
    lasts_step l b less =
        lasts_peek is_name (a_named_step k d l) _ (lasts_named_step o l b less)
        (lasts_given_if (is_the_word (codes "if")) (choosing k d steps l) _ (word_moves o (o + 1) (codes "if") (λ l. refl)) (any_choosing l b (omega (arith, less)))
        (lasts_given_if (is_the_word (codes "while")) (looping k d steps l) _ (word_moves o (o + 1) (codes "while") (λ l. refl)) (any_looping l b (omega (arith, less)))
        (lasts_bind (expect_word (codes "for")) (λ _. counting k d steps l) (lasts_expect (is_the_word (codes "for")) (word_moves o (o + 1) (codes "for") (λ l. refl)))
        (λ _. any_counting l b (omega (arith, less))))))

    lasts_steps : (n b : ℕ) → b ≤ n → b ≤ k → (found : Flagged (List Step)) → Lasts b o b o (steps_from k d steps n found)
    unfolding steps_from
    lasts_steps zero b le small found = lasts_none (steps_from k d steps 0 found) le
    lasts_steps (suc n) zero le small found = lasts_none (steps_from k d steps (suc n) found) (omega arith)
    lasts_steps (suc n) (suc b) le small found =
        lasts_peek begins_step (on_line (step k d steps) >>= (λ x. separators >>= (λ _. steps_from k d steps n (and_last found x)))) (pure found)
        (lasts_more (on_line (step k d steps) >>= (λ x. separators >>= (λ _. steps_from k d steps n (and_last found x)))) (omega arith)
        (lasts_bind (on_line (step k d steps)) (λ x. separators >>= (λ _. steps_from k d steps n (and_last found x))) (lasts_on_line (step k d steps) (λ l. lasts_step l b (omega (arith, small))))
        (λ x. lasts_bind separators (λ _. steps_from k d steps n (and_last found x)) (any_separators o b) (λ _. lasts_steps n b (omega (arith, le)) (omega (arith, small)) (and_last found x)))))
        (lasts_pure found)

  any_steps_within : (n o : ℕ) → limit < o + n → (b : ℕ) → b ≤ k → Lasts b o b o (steps_within k d n)
  unfolding steps_within
  any_steps_within zero o enough b small = record { leaves = λ i h. let f = h.low in absurd (omega (arith, enough, f)) }
  any_steps_within (suc n) o enough b small = lasts_steps o (steps_within k d n) (any_steps_within n (o + 1) (omega (arith, enough))) k b small small (Ok [])

  -- ---- functions

  any_parameter : (o b : ℕ) → Lasts b o b o parameter
  any_parameter o b = lasts_any {k = b} parameter (λ c less. lasts_take parameter_of (parameter_stays o)) b (omega arith)

  any_parameters : (o b : ℕ) → Lasts b o b o parameters
  any_parameters o b =
      lasts_bind (expect_sign (codes "(")) _ (any_sign o (o + 1) (codes "(") (λ l. refl) b)
      (λ _. lasts_bind parameter _ (any_parameter (o + 1) b) (λ x. lasts_bind (expect_sign (codes ",")) _ (any_sign (o + 1) (o + 1) (codes ",") (λ l. refl) b)
      (λ _. lasts_bind parameter _ (any_parameter (o + 1) b) (λ y. lasts_bind (expect_sign (codes ",")) _ (any_sign (o + 1) (o + 1) (codes ",") (λ l. refl) b)
      (λ _. lasts_bind parameter _ (any_parameter (o + 1) b) (λ z. lasts_bind (expect_sign (codes ")")) _ (any_sign (o + 1) o (codes ")") (λ l. one_less o) b) (λ _. lasts_pure _)))))))

  any_function_rest : (o l : ℕ) (s : List ℕ) (b : ℕ) → b ≤ k → Lasts b (o + 1) b o (function_rest k d l s)
  any_function_rest o l s b small =
      lasts_bind parameters _ (any_parameters (o + 1) b) (λ params. lasts_bind separators _ (any_separators (o + 1) b)
      (λ _. lasts_bind (steps_within k d d) _ (any_steps_within d (o + 1) (omega (arith, deep)) b small) (λ x. lasts_bind (expect_word (codes "end")) _ (any_end o b)
      (λ _. lasts_bind skip_separators _ (lasts_skip o b) (λ _. lasts_pure (with_it (routine l s params) x))))))

  any_new_name : (o : ℕ) (before : List (List ℕ)) (b : ℕ) → Lasts b o b o (take_as (new_name before))
  any_new_name o before b = lasts_any {k = b} (take_as (new_name before)) (λ c less. lasts_take (new_name before) (new_name_stays o before)) b (omega arith)

  lasts_functions : (o n b : ℕ) → b ≤ n → b ≤ k → (before : List (List ℕ)) (found : Flagged (List SeenFunction)) → Lasts b o b o (functions_from k d n before found)
  unfolding functions_from
  lasts_functions o zero b le small before found = lasts_none (functions_from k d 0 before found) le
  lasts_functions o (suc n) zero le small before found = lasts_none (functions_from k d (suc n) before found) (omega arith)
  lasts_functions o (suc n) (suc b) le small before found =
      lasts_if at_end (pure found) _ (lasts_pure found)
      (lasts_on_line (λ l. expect_word (codes "function") >>= (λ _. take_as (new_name before) >>= (λ s. function_rest k d l s >>= (λ f. functions_from k d n (s ∷ before) (and_last found f)))))
      (λ l. lasts_more (expect_word (codes "function") >>= (λ _. take_as (new_name before) >>= (λ s. function_rest k d l s >>= (λ f. functions_from k d n (s ∷ before) (and_last found f))))) (omega arith)
      (lasts_bind (expect_word (codes "function")) _ (lasts_expect (is_the_word (codes "function")) (word_moves o (o + 1) (codes "function") (λ l. refl)))
      (λ _. lasts_bind (take_as (new_name before)) _ (any_new_name (o + 1) before b) (λ s. lasts_bind (function_rest k d l s) _ (any_function_rest o l s b (omega (arith, small)))
      (λ f. lasts_functions o n b (omega (arith, le)) (omega (arith, small)) (s ∷ before) (and_last found f)))))))

  -- ---- scripts

  pub lasts_program : (o : ℕ) → Lasts k o k o (program k d)
  lasts_program o =
      lasts_bind skip_separators _ (lasts_skip o k) (λ _. lasts_bind (statements_from k d k (Ok [])) _ (lasts_statements o k k (omega arith) (omega arith) (Ok []))
      (λ bs. lasts_bind (functions_from k d k [] (Ok [])) _ (lasts_functions o k k (omega arith) (omega arith) [] (Ok [])) (λ fs. lasts_pure (with_both program_of_parts bs fs))))
