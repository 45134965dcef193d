-- Lists of statements of functions are read exactly.
use Rattle.std.proofs.Common.{◌≡◌, ℕ, suc, zero, Bool, true, false, List, [], ◌∷◌, ◌++◌, Option, Some, refl, sym, ap, ◌∙◌, subst}
use Rattle.std.specs.Prelude.{codes, Ok}
use Rattle.tall_grammar.specs.Lexemes.{Lexeme, sign, word, name_token, is_the_word, is_separator}
use Rattle.tall_grammar.specs.Trees.{Step, assign_step, add_step, if_step, while_step, for_step, and_arm}
use Rattle.tall_grammar.specs.Refusals.{step_trees}
use Rattle.tall_grammar.specs.Grammar.{first_line, IsStep, name_step, adding_step, choosing_step, looping_step, counting_step}
use Rattle.tall_grammar.specs.Kept.{Flagged, flagged, and_last}
use Rattle.tall_grammar.specs.Readers.{Reader, ◌>>=◌, pure, front_is, is_name, take_text}
use Rattle.tall_grammar.specs.ScriptReader.{on_line, separators, named_step, begins_step, choosing, looping, counting, step, steps_from, steps_within}
use Rattle.tall_grammar.proofs.Exact.{Rule, Live, Exact}
use Rattle.tall_grammar.proofs.Combine.{Seq, seq, Either, one, other, IsGivenIf, with_token, without_token, exact_as, exact_within, exact_tired, exact_bind, exact_given_if, exact_peek}
use Rattle.tall_grammar.proofs.Signs.{word_is}
use Rattle.tall_grammar.proofs.Lists.{nothing, none_of_nothing}
use Rattle.tall_grammar.proofs.Levels.{goes_expr, a_name_alone}
use Rattle.tall_grammar.proofs.Lines.{SeparatorsRule, separators_rule, exact_separators, OnLine, on_line_is, Some_tokens, exact_on_line}
use Rattle.tall_grammar.proofs.Tokens.{After, after, a_word, AfterName, after_name, exact_word_then, exact_name_then, Told, told, itself}
use Rattle.tall_grammar.proofs.Extended.{IsSame, is_same, exact_gives, extended, extended_more, extended_none, extended_first}
use Rattle.tall_grammar.proofs.Blocks.{expr_separator, goes_steps, no_begin, ManySteps, none_there, one_there, Begins, step_begins, many_front, StepsRule, NamedStep, named_assign, named_add, add_rule, exact_named_step}
use Rattle.tall_grammar.proofs.Nests.{ChooseRule, choose_rule, exact_choosing, LoopRule, loop_rule, exact_looping, CountRule, count_rule, exact_counting}

same_line : (p l : ℕ) → ◌≡◌ {A = Option ℕ} (Some p) (Some l) → p ≡ l
same_line p l h = cc

module _ (k d : ℕ) (steps : Reader (Flagged (List Step))) (inner : Exact StepsRule goes_steps steps) where
  abbrev RawStep : (l : ℕ) → Rule (Flagged Step)
  RawStep l = Either (AfterName (λ s. NamedStep k d l s)) (IsGivenIf (is_the_word (codes "if")) (ChooseRule k d steps inner l) (IsGivenIf (is_the_word (codes "while")) (LoopRule k d steps inner l)
      (After (a_word (codes "for")) (CountRule k d steps inner l))))

  for_first : (l : ℕ) (test : Lexeme → Bool) → ((p : ℕ) → test (word p (codes "for")) ≡ false) → (m : ℕ) (ts : List Lexeme) (b : Flagged Step) (n : ℕ) (rest : List Lexeme) → After (a_word (codes "for")) (CountRule k d steps inner l) m ts b n
      → front_is test (ts ++ rest) ≡ false
  for_first l test f m ts b n rest (after m1 n1 p ts1 b1 r) = f p

  while_first : (l : ℕ) (test : Lexeme → Bool) → ((p : ℕ) → test (word p (codes "for")) ≡ false) → ((p : ℕ) → test (word p (codes "while")) ≡ false) → (m : ℕ) (ts : List Lexeme) (b : Flagged Step) (n : ℕ) (rest : List Lexeme)
      → IsGivenIf (is_the_word (codes "while")) (LoopRule k d steps inner l) (After (a_word (codes "for")) (CountRule k d steps inner l)) m ts b n → front_is test (ts ++ rest) ≡ false
  while_first l test f g m all b n rest (with_token m1 n1 t ts b1 h r) = ap test (word_is (codes "while") t h) ∙ g t.line
  while_first l test f g m all b n rest (without_token m1 n1 ts b1 r) = for_first l test f m1 ts b1 n1 rest r

  block_first : (l m : ℕ) (ts : List Lexeme) (b : Flagged Step) (n : ℕ) (rest : List Lexeme)
      → IsGivenIf (is_the_word (codes "if")) (ChooseRule k d steps inner l) (IsGivenIf (is_the_word (codes "while")) (LoopRule k d steps inner l) (After (a_word (codes "for")) (CountRule k d steps inner l))) m ts b n
      → front_is is_name (ts ++ rest) ≡ false
  block_first l m all b n rest (with_token m1 n1 t ts b1 h r) = ap is_name (word_is (codes "if") t h)
  block_first l m all b n rest (without_token m1 n1 ts b1 r) = while_first l is_name (λ p. refl) (λ p. refl) m1 ts b1 n1 rest r

  name_front : (l m : ℕ) (ts : List Lexeme) (b : Flagged Step) (n : ℕ) (rest : List Lexeme) → AfterName (λ s. NamedStep k d l s) m ts b n → front_is is_name (ts ++ rest) ≡ true
  name_front l m ts b n rest (after_name m1 n1 p s ts1 b1 r) = refl

  nothing_goes : (rest : List Lexeme) → front_is goes_expr rest ≡ false → front_is nothing rest ≡ false
  nothing_goes rest h = none_of_nothing rest

  exact_raw : (l : ℕ) → Exact (RawStep l) goes_expr (step k d steps l)
  exact_raw l =
      exact_peek is_name (take_text is_name >>= (λ s. named_step k d l s)) _ (exact_name_then (λ s. named_step k d l s) (λ s. exact_named_step k d l s))
      (exact_given_if (is_the_word (codes "if")) (choosing k d steps l) _ (exact_within nothing goes_expr nothing_goes (exact_choosing k d steps inner l))
      (exact_given_if (is_the_word (codes "while")) (looping k d steps l) _ (exact_within nothing goes_expr nothing_goes (exact_looping k d steps inner l))
      (exact_within nothing goes_expr nothing_goes (exact_word_then (codes "for") (counting k d steps l) (λ l. refl) (exact_counting k d steps inner l)))
      (λ m ts b n rest r h. for_first l (is_the_word (codes "while")) (λ p. refl) m ts b n rest r))
      (λ m ts b n rest r h. while_first l (is_the_word (codes "if")) (λ p. refl) (λ p. refl) m ts b n rest r))
      (λ m ts b n rest r h. name_front l m ts b n rest r) (λ m ts b n rest r h. block_first l m ts b n rest r)

  abbrev StepRule : Rule (Flagged Step)
  StepRule = Told IsStep step_trees itself

  raw_tokens : (l m : ℕ) (ts : List Lexeme) (b : Flagged Step) (n : ℕ) → RawStep l m ts b n → Some_tokens ts
  raw_tokens l m all b n (one m1 n1 ts b1 (after_name m2 n2 p s ts2 b2 r)) = record { token = name_token p s; others = ts2; text = refl }
  raw_tokens l m all b n (other m1 n1 ts b1 (with_token m2 n2 t ts2 b2 h r)) = record { token = t; others = ts2; text = refl }
  raw_tokens l m all b n (other m1 n1 ts b1 (without_token m2 n2 ts2 b2 (with_token m3 n3 t ts3 b3 h r))) = record { token = t; others = ts3; text = refl }
  raw_tokens l m all b n (other m1 n1 ts b1 (without_token m2 n2 ts2 b2 (without_token m3 n3 ts3 b3 (after m4 n4 p ts4 b4 r)))) = record { token = word p (codes "for"); others = ts4; text = refl }

  step_there : (m : ℕ) (ts : List Lexeme) (b : Flagged Step) (n : ℕ) → OnLine RawStep m ts b n → StepRule m ts b n
  step_there m ts b n (on_line_is l m0 n0 ts0 b0 r e) = at_line l m0 ts0 b0 n0 r e where
    at_line : (l m : ℕ) (ts : List Lexeme) (b : Flagged Step) (n : ℕ) → RawStep l m ts b n → first_line ts ≡ Some l → StepRule m ts b n
    at_line l m all b n (one m1 n1 ts b1 (after_name m2 n2 p s ts2 b2 (named_assign m3 n3 ts3 b3 (after m4 n4 q ts4 b4 (told m5 n5 ts5 a b5 x v))))) e =
        told m5 n5 _ (assign_step l s a) b5 (subst (λ (z : ℕ). IsStep m5 (name_token z s ∷ sign q (codes "=") ∷ ts5) (assign_step l s a) n5) (sym (same_line p l e)) (name_step l m5 n5 q s ts5 a x)) v
    at_line l m all b n (one m1 n1 ts b1 (after_name m2 n2 p s ts2 b2 (named_add m3 n3 ts3 b3 f (after m4 n4 q ts4 b4 (add_rule m5 i5 k5 n5 q5 r5 u5 ts5 us5 vs5 e5 f5 g5 b5 x y z v))))) e =
        told m5 n5 _ (add_step l e5 f5 g5) b5 (subst (λ (w : ℕ). IsStep m5 (name_token w s ∷ sign q (codes "(") ∷ (ts5 ++ sign q5 (codes ",") ∷ (us5 ++ sign r5 (codes ",") ∷ (vs5 ++ sign u5 (codes ")") ∷ [])))) (add_step l e5 f5 g5) n5) (sym (same_line p l e))
        (subst (λ (w : List ℕ). IsStep m5 (name_token l w ∷ sign q (codes "(") ∷ (ts5 ++ sign q5 (codes ",") ∷ (us5 ++ sign r5 (codes ",") ∷ (vs5 ++ sign u5 (codes ")") ∷ [])))) (add_step l e5 f5 g5) n5) (sym f)
        (adding_step l m5 i5 k5 n5 q q5 r5 u5 ts5 us5 vs5 e5 f5 g5 x y z))) v
    at_line l m all b n (other m1 n1 ts b1 (with_token m2 n2 t ts2 b2 h (choose_rule m3 i3 n3 q ts3 us3 e3 c3 rest3 arms3 v3 x y v))) e =
        told m3 n3 _ (if_step l (and_arm e3 c3 arms3) rest3) v3 (subst (λ (w : Lexeme). IsStep m3 (w ∷ (ts3 ++ (us3 ++ word q (codes "end") ∷ []))) (if_step l (and_arm e3 c3 arms3) rest3) n3) (sym (word_is (codes "if") t h ∙ ap (λ z. word z (codes "if")) (same_line t.line l e)))
        (choosing_step l m3 i3 n3 q ts3 us3 e3 c3 rest3 arms3 x y)) v
    at_line l m all b n (other m1 n1 ts b1 (without_token m2 n2 ts2 b2 (with_token m3 n3 t ts3 b3 h (loop_rule m4 n4 q ts4 e4 c4 v4 x v)))) e =
        told m4 n4 _ (while_step l e4 c4) v4 (subst (λ (w : Lexeme). IsStep m4 (w ∷ (ts4 ++ word q (codes "end") ∷ [])) (while_step l e4 c4) n4) (sym (word_is (codes "while") t h ∙ ap (λ z. word z (codes "while")) (same_line t.line l e)))
        (looping_step l m4 n4 q ts4 e4 c4 x)) v
    at_line l m all b n (other m1 n1 ts b1 (without_token m2 n2 ts2 b2 (without_token m3 n3 ts3 b3 (after m4 n4 p ts4 b4 (count_rule m5 i5 n5 p5 q5 r5 u5 s5 ts5 us5 e5 f5 c5 v5 x y v))))) e =
        told m5 n5 _ (for_step l s5 e5 f5 c5) v5 (subst (λ (w : ℕ). IsStep m5 (word w (codes "for") ∷ name_token p5 s5 ∷ sign q5 (codes "=") ∷ (ts5 ++ sign r5 (codes ":") ∷ (us5 ++ word u5 (codes "end") ∷ []))) (for_step l s5 e5 f5 c5) n5) (sym (same_line p l e))
        (counting_step l m5 i5 n5 p5 q5 r5 u5 s5 ts5 us5 e5 f5 c5 x y)) v

  step_back : (m : ℕ) (ts : List Lexeme) (b : Flagged Step) (n : ℕ) → StepRule m ts b n → OnLine RawStep m ts b n
  step_back m ts b n (told m1 n1 ts1 a b1 (name_step l m2 n2 p s ts2 e x) v) =
      on_line_is l m2 n2 _ b1 (one m2 n2 _ b1 (after_name m2 n2 l s _ b1 (named_assign m2 n2 _ b1 (after m2 n2 p ts2 b1 (told m2 n2 ts2 e b1 x v))))) refl
  step_back m ts b n (told m1 n1 ts1 a b1 (adding_step l m2 i2 k2 n2 p q r u ts2 us vs e f g x y z) v) =
      on_line_is l m2 n2 _ b1 (one m2 n2 _ b1 (after_name m2 n2 l (codes "add") _ b1 (named_add m2 n2 _ b1 refl (after m2 n2 p _ b1 (add_rule m2 i2 k2 n2 q r u ts2 us vs e f g b1 x y z v))))) refl
  step_back m ts b n (told m1 n1 ts1 a b1 (choosing_step l m2 i2 n2 q ts2 us e c rest arms x y) v) =
      on_line_is l m2 n2 _ b1 (other m2 n2 _ b1 (with_token m2 n2 (word l (codes "if")) _ b1 refl (choose_rule m2 i2 n2 q ts2 us e c rest arms b1 x y v))) refl
  step_back m ts b n (told m1 n1 ts1 a b1 (looping_step l m2 n2 q ts2 e c x) v) =
      on_line_is l m2 n2 _ b1 (other m2 n2 _ b1 (without_token m2 n2 _ b1 (with_token m2 n2 (word l (codes "while")) _ b1 refl (loop_rule m2 n2 q ts2 e c b1 x v)))) refl
  step_back m ts b n (told m1 n1 ts1 a b1 (counting_step l m2 i2 n2 p q r u s ts2 us e f c x y) v) =
      on_line_is l m2 n2 _ b1 (other m2 n2 _ b1 (without_token m2 n2 _ b1 (without_token m2 n2 _ b1 (after m2 n2 l _ b1 (count_rule m2 i2 n2 p q r u s ts2 us e f c b1 x y v))))) refl

  live_step : (m : ℕ) → Live StepRule m
  live_step m = record { tokens = name_token 1 [] ∷ sign 1 (codes "=") ∷ name_token 1 [] ∷ []; value = _; next = suc m; holds = told m (suc m) _ _ _ (name_step 1 m (suc m) 1 [] _ _ (a_name_alone 1 m 1 [])) refl }

  exact_step : Exact StepRule goes_expr (on_line (step k d steps))
  exact_step =
      exact_as (OnLine RawStep) StepRule
      (exact_on_line (step k d steps) exact_raw raw_tokens (λ m. let u = live_step m in record { tokens = u.tokens; value = u.value; next = u.next; holds = step_back m u.tokens u.value u.next u.holds }))
      step_there step_back

  -- ---- { fstat }

  pub data StepsFrom (found : Flagged (List Step)) : ℕ → List Lexeme → Flagged (List Step) → ℕ → Type 0 where
    steps_so : (m n : ℕ) (ts : List Lexeme) (bs : List Step) (v : Flagged (List Step)) → ManySteps m ts bs n → v ≡ extended step_trees found bs → StepsFrom found m ts v n

  abbrev StepsStep : (found : Flagged (List Step)) → Rule (Flagged (List Step))
  StepsStep found = Either (Seq StepRule (λ b. Seq SeparatorsRule (λ _. StepsFrom (and_last found b)))) (IsSame found)

  steps_there : (found : Flagged (List Step)) (m : ℕ) (ts : List Lexeme) (v : Flagged (List Step)) (n : ℕ) → StepsStep found m ts v n → StepsFrom found m ts v n
  steps_there found m all v n (one m0 n0 ts0 v0 (seq m1 k1 n1 ts us b v1 (told m2 n2 ts2 a b2 x xq) (seq m3 k3 n3 ts3 us3 c v3 (separators_rule m4 p ps h s) (steps_so m5 n5 ts5 bs v5 y yq)))) =
      steps_so m2 n5 _ (a ∷ bs) v5 (one_there m2 m5 n5 ts2 ps ts5 p a bs x h s y) (yq ∙ (ap (λ z. extended step_trees (and_last found z) bs) xq ∙ extended_more step_trees found a bs))
  steps_there found m all v n (other m0 n0 ts0 v0 (is_same m1 v1 q)) = steps_so m1 m1 [] [] v1 (none_there m1) (q ∙ sym (extended_none step_trees found))

  steps_back : (found : Flagged (List Step)) (m : ℕ) (ts : List Lexeme) (v : Flagged (List Step)) (n : ℕ) → StepsFrom found m ts v n → StepsStep found m ts v n
  steps_back found m ts v n (steps_so m1 n1 ts1 bs v1 (none_there m2) q) = other m2 m2 [] v1 (is_same m2 v1 (q ∙ extended_none step_trees found))
  steps_back found m ts v n (steps_so m1 n1 ts1 bs v1 (one_there m2 k2 n2 ts2 ps us p b bs2 x h s y) q) =
      one m2 n2 _ v1 (seq m2 k2 n2 ts2 _ (flagged (step_trees b) b) v1 (told m2 k2 ts2 b _ x refl) (seq k2 k2 n2 (p ∷ ps) us _ v1 (separators_rule k2 p ps h s)
      (steps_so k2 n2 us bs2 v1 y (q ∙ sym (extended_more step_trees found b bs2)))))

  rule_begins : (m : ℕ) (ts : List Lexeme) (b : Flagged Step) (n : ℕ) → StepRule m ts b n → Begins ts
  rule_begins m ts b n (told m1 n1 ts1 a b1 x q) = step_begins m1 ts1 a n1 x

  passes_it : (found : Flagged (List Step)) (m : ℕ) (ts : List Lexeme) (v : Flagged (List Step)) (n : ℕ) (rest : List Lexeme) → Seq StepRule (λ b. Seq SeparatorsRule (λ _. StepsFrom (and_last found b))) m ts v n
      → front_is begins_step (ts ++ rest) ≡ true
  passes_it found m all v n rest (seq m1 k1 n1 ts us b v1 x y) = let u = rule_begins m1 ts b k1 x in ap (λ w. front_is begins_step ((w ++ us) ++ rest)) u.text ∙ u.passes

  others_no : (found : Flagged (List Step)) (m : ℕ) (ts : List Lexeme) (v : Flagged (List Step)) (n : ℕ) (rest : List Lexeme) → IsSame found m ts v n → front_is goes_steps rest ≡ false → front_is begins_step (ts ++ rest) ≡ false
  others_no found m ts v n rest (is_same m1 v1 q) h = no_begin rest h

  sep_follow : (found : Flagged (List Step)) (m : ℕ) (ts : List Lexeme) (v : Flagged (List Step)) (n : ℕ) (rest : List Lexeme) → StepsFrom found m ts v n → front_is goes_steps rest ≡ false → front_is is_separator (ts ++ rest) ≡ false
  sep_follow found m ts v n rest (steps_so m1 n1 ts1 bs v1 x q) h = many_front m1 ts1 bs n1 rest x h

  step_follow : (found : Flagged (List Step)) (b : Flagged Step) (j : ℕ) (us : List Lexeme) (v : Flagged (List Step)) (n : ℕ) (rest : List Lexeme) → Seq SeparatorsRule (λ _. StepsFrom (and_last found b)) j us v n → front_is goes_expr (us ++ rest) ≡ false
  step_follow found b j all v n rest (seq m1 k1 n1 ts us c v1 (separators_rule m2 p ps h s) r) = expr_separator p h

  exact_steps_from : (n : ℕ) (found : Flagged (List Step)) → Exact (StepsFrom found) goes_steps (steps_from k d steps n found)
  unfolding steps_from
  exact_steps_from zero found = exact_tired (StepsFrom found) goes_steps (λ m. record { tokens = []; value = found; next = m; holds = steps_so m m [] [] found (none_there m) (sym (extended_none step_trees found)) })
  exact_steps_from (suc n) found =
      exact_as (StepsStep found) (StepsFrom found)
      (exact_peek begins_step (on_line (step k d steps) >>= (λ b. separators >>= (λ _. steps_from k d steps n (and_last found b)))) (pure found)
      (exact_bind (on_line (step k d steps)) (λ b. separators >>= (λ _. steps_from k d steps n (and_last found b))) exact_step
      (λ b. exact_bind separators (λ _. steps_from k d steps n (and_last found b)) exact_separators (λ _. exact_steps_from n (and_last found b)) (λ a j us v i rest r h. sep_follow (and_last found b) j us v i rest r h))
      (λ b j us v i rest r h. step_follow found b j us v i rest r))
      (exact_gives goes_steps found) (λ m ts v i rest r h. passes_it found m ts v i rest r) (others_no found))
      (steps_there found) (steps_back found)

  first_there : (m : ℕ) (ts : List Lexeme) (v : Flagged (List Step)) (n : ℕ) → StepsFrom (Ok []) m ts v n → StepsRule m ts v n
  first_there m ts v n (steps_so m1 n1 ts1 bs v1 x q) = told m1 n1 ts1 bs v1 x (q ∙ extended_first step_trees bs)

  first_back : (m : ℕ) (ts : List Lexeme) (v : Flagged (List Step)) (n : ℕ) → StepsRule m ts v n → StepsFrom (Ok []) m ts v n
  first_back m ts v n (told m1 n1 ts1 bs v1 x q) = steps_so m1 n1 ts1 bs v1 x (q ∙ sym (extended_first step_trees bs))

  pub exact_steps : Exact StepsRule goes_steps (steps_from k d steps k (Ok []))
  exact_steps = exact_as (StepsFrom (Ok [])) StepsRule (exact_steps_from k (Ok [])) first_there first_back

pub exact_steps_within : (k d b : ℕ) → Exact StepsRule goes_steps (steps_within k d b)
unfolding steps_within
exact_steps_within k d zero = exact_tired StepsRule goes_steps (λ m. record { tokens = []; value = Ok []; next = m; holds = told m m [] [] (Ok []) (none_there m) refl })
exact_steps_within k d (suc b) = exact_steps k d (steps_within k d b) (exact_steps_within k d b)
