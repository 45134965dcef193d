-- Readers of expressions last, where their turns are no fewer than the tokens left, and their depth is enough for the
-- brackets and blocks that may be open still.
use Rattle.std.proofs.Common.{◌≡◌, ℕ, suc, zero, ◌+◌, ◌<◌, ◌≤◌, Bool, List, [], ◌∷◌, ◌++◌, Option, refl, arith}
use Rattle.std.specs.Prelude.{codes}
use Rattle.tall_grammar.specs.declared.expressions.Prefix.{Prefix}
use Rattle.tall_grammar.specs.Lexemes.{Lexeme, sign, is_the_sign, prefix_sign, number_value, text_value}
use Rattle.tall_grammar.specs.Trees.{Tree, tree, number, text, name, handle}
use Rattle.tall_grammar.specs.Refusals.{limit, open_behind}
use Rattle.tall_grammar.specs.Kept.{Kept, leaf, list_of, prefixed_of, joined_of, member_of, call_of, no_arguments, a_colon, a_value, and_argument}
use Rattle.tall_grammar.specs.Readers.{Reader, ◌>>=◌, pure, given_if, peek, take_text, expect_sign, is_name, is_text_token, is_number, operator_of, numbered, optional_comma, goes_on_with, listed, listed_from}
use Rattle.tall_grammar.specs.ExprReader.{text_here, texts, closed_list, list_in_braces, list_in_brackets, number_leaf, text_leaf, name_leaf, a_handle, in_parentheses, signed_primary, primary, arg, args_from, closed_args, post_from, post, signs_from, signed, chain_from, operators, pre, level, expr_within}
use Rattle.tall_grammar.proofs.Lasting.{Lasts, lasts_none, lasts_more, lasts_any, lasts_pure, lasts_numbered, lasts_bind, lasts_peek, lasts_given, lasts_given_if, lasts_given_any, lasts_take_text, lasts_expect}
use Rattle.tall_grammar.proofs.Depths.{sign_moves, one_less, name_stays, text_stays, number_stays, prefix_stays, operators_stay}

-- ---- one token

lasts_sign : {b : ℕ} (o : ℕ) (s : List ℕ) → ((l : ℕ) → open_behind o (sign l s) ≡ o) → Lasts (suc b) o b o (expect_sign s)
lasts_sign o s e = lasts_expect (is_the_sign s) (sign_moves o o s e)

-- a sign that closes what is open
lasts_close : {b : ℕ} (o : ℕ) (s : List ℕ) → ((l : ℕ) → open_behind (o + 1) (sign l s) ≡ o) → Lasts (suc b) (o + 1) b o (expect_sign s)
lasts_close o s e = lasts_expect (is_the_sign s) (sign_moves (o + 1) o s e)

lasts_name : {b : ℕ} (o : ℕ) → Lasts (suc b) o b o (take_text is_name)
lasts_name o = lasts_take_text is_name (name_stays o)

-- ---- lists

lasts_comma : {b : ℕ} (o : ℕ) → Lasts b o b o optional_comma
lasts_comma o = lasts_given_any (is_the_sign (codes ",")) (pure tt) (pure tt) (sign_moves o o (codes ",") (λ l. refl)) (lasts_pure tt) (lasts_pure tt)

pub lasts_listed_from : {A : Type 0} (o : ℕ) (begins : Lexeme → Bool) (item : Reader A) → ((b : ℕ) → Lasts (suc b) o b o item) → (n b : ℕ) → b ≤ n → (found : List A) → Lasts b o b o (listed_from begins item n found)
unfolding listed_from
lasts_listed_from o begins item x zero b le found = lasts_none (listed_from begins item 0 found) le
lasts_listed_from o begins item x (suc n) zero le found = lasts_none (listed_from begins item (suc n) found) (omega arith)
lasts_listed_from o begins item x (suc n) (suc b) le found =
    lasts_peek (goes_on_with begins) (optional_comma >>= (λ _. item >>= (λ a. listed_from begins item n (found ++ a ∷ [])))) (pure found)
    (lasts_bind optional_comma (λ _. item >>= (λ a. listed_from begins item n (found ++ a ∷ []))) (lasts_comma o)
    (λ _. lasts_more (item >>= (λ a. listed_from begins item n (found ++ a ∷ []))) (omega arith)
    (lasts_bind item (λ a. listed_from begins item n (found ++ a ∷ [])) (x b) (λ a. lasts_listed_from o begins item x n b (omega (arith, le)) (found ++ a ∷ [])))))
    (lasts_pure found)

pub lasts_listed : {A : Type 0} (o : ℕ) (begins : Lexeme → Bool) (item : Reader A) → ((b : ℕ) → Lasts (suc b) o b o item) → (k b : ℕ) → b ≤ k → Lasts (suc b) o b o (listed begins item k)
lasts_listed o begins item x k b le = lasts_bind item (λ a. listed_from begins item k (a ∷ [])) (x b) (λ a. lasts_listed_from o begins item x k b le (a ∷ []))

lasts_text : (o l b : ℕ) → Lasts (suc b) o b o (text_here l)
lasts_text o l b = lasts_bind (take_text is_text_token) (λ s. numbered (λ n. tree n l (text (text_value s)))) (lasts_take_text is_text_token (text_stays o)) (λ s. lasts_numbered (λ n. tree n l (text (text_value s))))

lasts_texts : (o k l b : ℕ) → b ≤ k → Lasts (suc b) o b o (texts k l)
lasts_texts o k l b le = lasts_listed o is_text_token (text_here l) (lasts_text o l) k b le

lasts_closed_list : (o l : ℕ) (bracket : List ℕ) (es : List Tree) → ((p : ℕ) → open_behind (o + 1) (sign p bracket) ≡ o) → (b : ℕ) → Lasts (suc b) (o + 1) b o (closed_list l bracket es)
lasts_closed_list o l bracket es e b = lasts_bind (expect_sign bracket) (λ _. numbered (list_of es l)) (lasts_close o bracket e) (λ _. lasts_numbered (list_of es l))

lasts_in_braces : (o k l b : ℕ) → b ≤ k → Lasts (suc b) (o + 1) b o (list_in_braces k l)
lasts_in_braces o k l b le =
    lasts_bind (peek is_text_token (texts k l) (pure [])) (λ es. closed_list l (codes "}") es)
    (lasts_peek is_text_token (texts k l) (pure []) (lasts_more (texts k l) (omega arith) (lasts_texts (o + 1) k l b le)) (lasts_pure []))
    (λ es. lasts_closed_list o l (codes "}") es (λ p. one_less o) b)

lasts_in_brackets : (o k l b : ℕ) → b ≤ k → Lasts (suc b) (o + 1) b o (list_in_brackets k l)
lasts_in_brackets o k l b le =
    lasts_bind (texts k l) (λ es. closed_list l (codes "]") es) (lasts_texts (o + 1) k l b le)
    (λ es. lasts_any {k = b} (closed_list l (codes "]") es) (λ c less. lasts_closed_list o l (codes "]") es (λ p. one_less o) c) b (omega arith))

-- ---- operands of one token

lasts_number_leaf : (o l b : ℕ) → Lasts (suc b) o b o (number_leaf l)
lasts_number_leaf o l b = lasts_bind (take_text is_number) (λ s. numbered (leaf (number (number_value s)) l)) (lasts_take_text is_number (number_stays o)) (λ s. lasts_numbered (leaf (number (number_value s)) l))

lasts_text_leaf : (o l b : ℕ) → Lasts (suc b) o b o (text_leaf l)
lasts_text_leaf o l b = lasts_bind (take_text is_text_token) (λ s. numbered (leaf (text (text_value s)) l)) (lasts_take_text is_text_token (text_stays o)) (λ s. lasts_numbered (leaf (text (text_value s)) l))

lasts_name_leaf : (o l b : ℕ) → Lasts (suc b) o b o (name_leaf l)
lasts_name_leaf o l b = lasts_bind (take_text is_name) (λ s. numbered (leaf (name s) l)) (lasts_name o) (λ s. lasts_numbered (leaf (name s) l))

-- a name, and then what takes no token
named_numbered : {A : Type 0} (o : ℕ) (g : List ℕ → ℕ → A) (b : ℕ) → Lasts (suc b) o b o (take_text is_name >>= (λ s. numbered (g s)))
named_numbered o g b = lasts_bind (take_text is_name) (λ s. numbered (g s)) (lasts_name o) (λ s. lasts_numbered (g s))

lasts_handle : (o l b : ℕ) → Lasts (suc b) o b o (a_handle l)
lasts_handle o l b =
    lasts_bind (expect_sign (codes "@")) (λ _. take_text is_name >>= (λ s. numbered (leaf (handle s) l))) (lasts_sign o (codes "@") (λ l. refl))
    (λ _. lasts_any {k = b} (take_text is_name >>= (λ s. numbered (leaf (handle s) l))) (λ c less. named_numbered o (λ s. leaf (handle s) l) c) b (omega arith))

-- ---- the rules, with the reader of the expressions inside

module _ (expr : ℕ → Reader (Kept Tree)) (k o : ℕ) (inner : (l b : ℕ) → b < k → Lasts (suc b) (o + 1) b (o + 1) (expr l)) where
  in_brackets_left : (b : ℕ) (e : Kept Tree) → Lasts b (o + 1) b o (expect_sign (codes ")") >>= (λ _. pure e))
  in_brackets_left b e =
      lasts_any {k = b} (expect_sign (codes ")") >>= (λ _. pure e))
      (λ c less. lasts_bind (expect_sign (codes ")")) (λ _. pure e) (lasts_close o (codes ")") (λ l. one_less o)) (λ _. lasts_pure e)) b (omega arith)

  lasts_in_parentheses : (l b : ℕ) → b < k → Lasts (suc b) (o + 1) b o (in_parentheses expr k l)
  lasts_in_parentheses l b less = lasts_bind (expr l) (λ e. expect_sign (codes ")") >>= (λ _. pure e)) (inner l b less) (λ e. in_brackets_left b e)

  lasts_signed_primary : (l b : ℕ) → b < k → Lasts (suc b) o b o (signed_primary expr k l)
  lasts_signed_primary l b less =
      lasts_given_if (is_the_sign (codes "(")) (in_parentheses expr k l) _ (sign_moves o (o + 1) (codes "(") (λ l. refl))
      (lasts_any {k = k} (in_parentheses expr k l) (lasts_in_parentheses l) b (omega (arith, less)))
      (lasts_given_if (is_the_sign (codes "{")) (list_in_braces k l) _ (sign_moves o (o + 1) (codes "{") (λ l. refl))
      (lasts_any {k = k} (list_in_braces k l) (λ c small. lasts_in_braces o k l c (omega (arith, small))) b (omega (arith, less)))
      (lasts_given_if (is_the_sign (codes "[")) (list_in_brackets k l) (a_handle l) (sign_moves o (o + 1) (codes "[") (λ l. refl))
      (lasts_any {k = k} (list_in_brackets k l) (λ c small. lasts_in_brackets o k l c (omega (arith, small))) b (omega (arith, less)))
      (lasts_handle o l b)))

  lasts_primary : (l b : ℕ) → b < k → Lasts (suc b) o b o (primary expr k l)
  lasts_primary l b less =
      lasts_peek is_number (number_leaf l) _ (lasts_number_leaf o l b)
      (lasts_peek is_text_token (text_leaf l) _ (lasts_text_leaf o l b)
      (lasts_peek is_name (name_leaf l) (signed_primary expr k l) (lasts_name_leaf o l b) (lasts_signed_primary l b less)))

  -- ---- arguments

  lasts_arg : (l b : ℕ) → b < k → Lasts (suc b) (o + 1) b (o + 1) (arg expr k l)
  lasts_arg l b less =
      lasts_given_if (is_the_sign (codes ":")) (pure a_colon) (expr l >>= (λ e. pure (a_value e))) (sign_moves (o + 1) (o + 1) (codes ":") (λ l. refl)) (lasts_pure a_colon)
      (lasts_bind (expr l) (λ e. pure (a_value e)) (inner l b less) (λ e. lasts_pure (a_value e)))

  lasts_args_from : (l n b : ℕ) → b ≤ n → b ≤ k → (found : Kept (List (Option Tree))) → Lasts b (o + 1) b (o + 1) (args_from expr k l n found)
  unfolding args_from
  lasts_args_from l zero b le small found = lasts_none (args_from expr k l 0 found) le
  lasts_args_from l (suc n) zero le small found = lasts_none (args_from expr k l (suc n) found) (omega arith)
  lasts_args_from l (suc n) (suc b) le small found =
      lasts_more (arg expr k l >>= (λ a. given_if (is_the_sign (codes ",")) (args_from expr k l n (and_argument found a)) (pure (and_argument found a)))) (omega arith)
      (lasts_bind (arg expr k l) (λ a. given_if (is_the_sign (codes ",")) (args_from expr k l n (and_argument found a)) (pure (and_argument found a))) (lasts_arg l b (omega (arith, small)))
      (λ a. lasts_given_any (is_the_sign (codes ",")) (args_from expr k l n (and_argument found a)) (pure (and_argument found a)) (sign_moves (o + 1) (o + 1) (codes ",") (λ l. refl))
      (lasts_args_from l n b (omega (arith, le)) (omega (arith, small)) (and_argument found a)) (lasts_pure (and_argument found a))))

  closed_behind : (b : ℕ) (args : Kept (List (Option Tree))) → Lasts (suc b) (o + 1) b o (expect_sign (codes ")") >>= (λ _. pure args))
  closed_behind b args = lasts_bind (expect_sign (codes ")")) (λ _. pure args) (lasts_close o (codes ")") (λ l. one_less o)) (λ _. lasts_pure args)

  pub lasts_closed_args : (l b : ℕ) → b < k → Lasts (suc b) (o + 1) b o (closed_args expr k l)
  lasts_closed_args l b less =
      lasts_given_if (is_the_sign (codes ")")) (pure no_arguments) (args_from expr k l k no_arguments >>= (λ args. expect_sign (codes ")") >>= (λ _. pure args)))
      (sign_moves (o + 1) o (codes ")") (λ l. one_less o)) (lasts_pure no_arguments)
      (lasts_bind (args_from expr k l k no_arguments) (λ args. expect_sign (codes ")") >>= (λ _. pure args)) (lasts_args_from l k (suc b) (omega (arith, less)) (omega (arith, less)) no_arguments)
      (λ args. closed_behind b args))

  -- ---- members and calls

  -- what goes on behind a name, and behind the parenthesis of a call
  member_on : (b l n : ℕ) (e : Kept Tree) → ((f : Kept Tree) → Lasts b o b o (post_from expr k l n f)) → Lasts b o b o (take_text is_name >>= (λ s. numbered (member_of e s l) >>= (λ f. post_from expr k l n f)))
  member_on b l n e rest =
      lasts_bind (take_text is_name) (λ s. numbered (member_of e s l) >>= (λ f. post_from expr k l n f))
      (lasts_any {k = b} (take_text is_name) (λ c less. lasts_name o) b (omega arith))
      (λ s. lasts_bind (numbered (member_of e s l)) (λ f. post_from expr k l n f) (lasts_numbered (member_of e s l)) rest)

  call_on : (b l n : ℕ) (e : Kept Tree) → b ≤ k → ((f : Kept Tree) → Lasts b o b o (post_from expr k l n f)) → Lasts b (o + 1) b o (closed_args expr k l >>= (λ args. numbered (call_of e args l) >>= (λ f. post_from expr k l n f)))
  call_on b l n e small rest =
      lasts_bind (closed_args expr k l) (λ args. numbered (call_of e args l) >>= (λ f. post_from expr k l n f)) (lasts_any {k = k} (closed_args expr k l) (lasts_closed_args l) b small)
      (λ args. lasts_bind (numbered (call_of e args l)) (λ f. post_from expr k l n f) (lasts_numbered (call_of e args l)) rest)

  lasts_post_from : (l n b : ℕ) → b ≤ n → b ≤ k → (e : Kept Tree) → Lasts b o b o (post_from expr k l n e)
  unfolding post_from
  lasts_post_from l zero b le small e = lasts_none (post_from expr k l 0 e) le
  lasts_post_from l (suc n) zero le small e = lasts_none (post_from expr k l (suc n) e) (omega arith)
  lasts_post_from l (suc n) (suc b) le small e =
      let rest : (f : Kept Tree) → Lasts b o b o (post_from expr k l n f) = λ f. lasts_post_from l n b (omega (arith, le)) (omega (arith, small)) f in
      lasts_given_if (is_the_sign (codes ".")) (take_text is_name >>= (λ s. numbered (member_of e s l) >>= (λ f. post_from expr k l n f))) _ (sign_moves o o (codes ".") (λ l. refl))
      (lasts_more (take_text is_name >>= (λ s. numbered (member_of e s l) >>= (λ f. post_from expr k l n f))) (omega arith) (member_on b l n e rest))
      (lasts_given_if (is_the_sign (codes "(")) (closed_args expr k l >>= (λ args. numbered (call_of e args l) >>= (λ f. post_from expr k l n f))) (pure e) (sign_moves o (o + 1) (codes "(") (λ l. refl))
      (lasts_more (closed_args expr k l >>= (λ args. numbered (call_of e args l) >>= (λ f. post_from expr k l n f))) (omega arith) (call_on b l n e (omega (arith, small)) rest))
      (lasts_pure e))

  lasts_post : (l b : ℕ) → b < k → Lasts (suc b) o b o (post expr k l)
  lasts_post l b less = lasts_bind (primary expr k l) (λ e. post_from expr k l k e) (lasts_primary l b less) (λ e. lasts_post_from l k b (omega (arith, less)) (omega (arith, less)) e)

-- ---- signs before operands

lasts_signs_from : (o n b : ℕ) → b ≤ n → (found : List Prefix) → Lasts b o b o (signs_from n found)
unfolding signs_from
lasts_signs_from o zero b le found = lasts_none (signs_from 0 found) le
lasts_signs_from o (suc n) zero le found = lasts_none (signs_from (suc n) found) (omega arith)
lasts_signs_from o (suc n) (suc b) le found =
    lasts_given (operator_of prefix_sign) (λ x. signs_from n (x ∷ found)) (pure found) (prefix_stays o)
    (λ x. lasts_more (signs_from n (x ∷ found)) (omega arith) (lasts_signs_from o n b (omega (arith, le)) (x ∷ found))) (lasts_pure found)

lasts_signed : {b o : ℕ} (l : ℕ) (os : List Prefix) (e : Kept Tree) → Lasts b o b o (signed l os e)
unfolding signed
lasts_signed l [] e = lasts_pure e
lasts_signed l (x ∷ os) e = lasts_bind (numbered (prefixed_of x e l)) (λ f. signed l os f) (lasts_numbered (prefixed_of x e l)) (λ f. lasts_signed l os f)

-- ---- operators between operands

lasts_chain_from : (o i : ℕ) (operand : Reader (Kept Tree)) (k l : ℕ) → ((b : ℕ) → b < k → Lasts (suc b) o b o operand)
    → (n b : ℕ) → b ≤ n → b ≤ k → (e : Kept Tree) → Lasts b o b o (chain_from (operators i) operand l n e)
unfolding chain_from
lasts_chain_from o i operand k l x zero b le small e = lasts_none (chain_from (operators i) operand l 0 e) le
lasts_chain_from o i operand k l x (suc n) zero le small e = lasts_none (chain_from (operators i) operand l (suc n) e) (omega arith)
lasts_chain_from o i operand k l x (suc n) (suc b) le small e =
    lasts_given (operator_of (operators i)) (λ y. operand >>= (λ f. numbered (joined_of y e f l) >>= (λ g. chain_from (operators i) operand l n g))) (pure e) (operators_stay i o)
    (λ y. lasts_more (operand >>= (λ f. numbered (joined_of y e f l) >>= (λ g. chain_from (operators i) operand l n g))) (omega arith)
    (lasts_bind operand (λ f. numbered (joined_of y e f l) >>= (λ g. chain_from (operators i) operand l n g)) (lasts_any {k = k} operand x b (omega (arith, small)))
    (λ f. lasts_bind (numbered (joined_of y e f l)) (λ g. chain_from (operators i) operand l n g) (lasts_numbered (joined_of y e f l))
    (λ g. lasts_chain_from o i operand k l x n b (omega (arith, le)) (omega (arith, small)) g))))
    (lasts_pure e)

module _ (expr : ℕ → Reader (Kept Tree)) (k o : ℕ) (inner : (l b : ℕ) → b < k → Lasts (suc b) (o + 1) b (o + 1) (expr l)) where
  lasts_pre : (l b : ℕ) → b < k → Lasts (suc b) o b o (pre expr k l)
  lasts_pre l b less =
      lasts_bind (signs_from k []) (λ os. post expr k l >>= (λ e. signed l os e)) (lasts_signs_from o k (suc b) (omega (arith, less)) [])
      (λ os. lasts_bind (post expr k l) (λ e. signed l os e) (lasts_post expr k o inner l b less) (λ e. lasts_signed l os e))

  lasts_level : (l n b : ℕ) → b < k → Lasts (suc b) o b o (level expr k l n)
  unfolding level
  lasts_level l zero b less = lasts_pre l b less
  lasts_level l (suc n) b less =
      lasts_bind (level expr k l n) (λ e. chain_from (operators n) (level expr k l n) l k e) (lasts_level l n b less)
      (λ e. lasts_chain_from o n (level expr k l n) k l (lasts_level l n) k b (omega (arith, less)) (omega (arith, less)) e)

-- a depth above what may still be opened is enough
pub lasts_expr : (k d o : ℕ) → limit < o + d → (l b : ℕ) → b < k → Lasts (suc b) o b o (expr_within k d l)
unfolding expr_within
lasts_expr k zero o deep l b less = record { leaves = λ i h. let f = h.low in absurd (omega (arith, deep, f)) }
lasts_expr k (suc d) o deep l b less = lasts_level (expr_within k d) k o (lasts_expr k d (o + 1) (omega (arith, deep))) l 5 b less
