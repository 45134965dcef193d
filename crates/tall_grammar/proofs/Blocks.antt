-- Statements of functions are read exactly.
use Rattle.std.proofs.Common.{◌≡◌, ℕ, Bool, true, false, ◌||◌, List, [], ◌∷◌, ◌++◌, ◌⊎◌, inl, inr, ⊎_elim, refl, sym, ap, ◌∙◌, subst}
use Rattle.std.proofs.lemmas.Bool.{true≢false}
use Rattle.std.specs.Prelude.{codes, if◌then◌else◌}
use Rattle.std.specs.List.{flat_map}
use Rattle.tall_lex.specs.declared.tokens.TokenKind.{TokenKind}
use Rattle.tall_lex.specs.declared.tokens.TokenKind.TheVariants.{Name, Number, Text, Word, Sign, LineEnd}
use Rattle.tall_grammar.specs.Lexemes.{Lexeme, sign, word, name_token, is_the_sign, is_the_word, is_separator, is_line_end_kind, is_text}
use Rattle.tall_grammar.specs.Trees.{Tree, Step, assign_step, add_step, Steps, and_step}
use Rattle.tall_grammar.specs.Views.{steps_of}
use Rattle.tall_grammar.specs.Refusals.{step_trees}
use Rattle.tall_grammar.specs.Grammar.{AreSeparators, IsExpr, AreSteps, without_steps, next_step, IsStep, name_step, adding_step, choosing_step, looping_step, counting_step}
use Rattle.tall_grammar.specs.Kept.{Flagged, flagged, with_it, with_both}
use Rattle.tall_grammar.specs.Readers.{◌>>=◌, pure, given_if, front_is, is_name}
use Rattle.tall_grammar.specs.ScriptReader.{expr_on, named_assignment, adding, named_step, begins_step}
use Rattle.tall_grammar.proofs.Exact.{Rule, Exact}
use Rattle.tall_grammar.proofs.Combine.{Seq, seq, IsGivenIf, with_token, without_token, exact_as, exact_within, exact_bind, exact_given_if}
use Rattle.tall_grammar.proofs.Signs.{sign_is, word_is, name_is, same_text}
use Rattle.tall_grammar.proofs.Lists.{nothing, none_of_nothing}
use Rattle.tall_grammar.proofs.Levels.{goes_expr}
use Rattle.tall_grammar.proofs.Flags.{flagged_both}
use Rattle.tall_grammar.proofs.Lines.{SeparatorsRule, separators_rule}
use Rattle.tall_grammar.proofs.Tokens.{After, after, a_sign, exact_sign_then, Told, told, itself, alone, ToldExpr, exact_expr_on, exact_made}
use Rattle.tall_grammar.proofs.Extended.{IsSame, is_same, exact_gives}

-- ---- which tokens are apart

of_line_end : (k : TokenKind) → is_line_end_kind k ≡ true → k ≡ LineEnd
of_line_end LineEnd h = refl
of_line_end Sign h = absurd cc
of_line_end Name h = absurd cc
of_line_end Number h = absurd cc
of_line_end Text h = absurd cc
of_line_end Word h = absurd cc

or_three : (a b c : Bool) → (a || (b || c)) ≡ true → (a ≡ true) ⊎ ((b ≡ true) ⊎ (c ≡ true))
or_three true b c h = inl refl
or_three false true c h = inr (inl refl)
or_three false false c h = inr (inr h)

or_four : (a b c d : Bool) → (a || (b || (c || d))) ≡ true → (a ≡ true) ⊎ ((b ≡ true) ⊎ ((c ≡ true) ⊎ (d ≡ true)))
or_four true b c d h = inl refl
or_four false true c d h = inr (inl refl)
or_four false false true d h = inr (inr (inl refl))
or_four false false false d h = inr (inr (inr h))

-- a test that fails at ';', ',' and line ends
pub no_separator : (test : Lexeme → Bool) → ((p : ℕ) → test (sign p (codes ";")) ≡ false) → ((p : ℕ) → test (sign p (codes ",")) ≡ false)
    → ((p : ℕ) (s : List ℕ) → test (record { kind = LineEnd; line = p; text = s }) ≡ false) → (t : Lexeme) → is_separator t ≡ true → test t ≡ false
no_separator test a b c t h = ⊎_elim (λ e. ap test (sign_is (codes ";") t e) ∙ a t.line) (λ g. ⊎_elim (λ e. ap test (sign_is (codes ",") t e) ∙ b t.line)
    (λ e. ap test (ap (λ (k : TokenKind). let l : Lexeme = record { kind = k; line = t.line; text = t.text } in l) (of_line_end t.kind e)) ∙ c t.line t.text) g)
    (or_three (is_the_sign (codes ";") t) (is_the_sign (codes ",") t) (is_line_end_kind t.kind) h)

pub expr_separator : (t : Lexeme) → is_separator t ≡ true → goes_expr t ≡ false
expr_separator t h = no_separator goes_expr (λ p. refl) (λ p. refl) (λ p s. refl) t h

pub step_separator : (t : Lexeme) → begins_step t ≡ true → is_separator t ≡ false
step_separator t h = ⊎_elim (λ e. ap is_separator (name_is t e)) (λ g. ⊎_elim (λ e. ap is_separator (word_is (codes "if") t e)) (λ g. ⊎_elim (λ e. ap is_separator (word_is (codes "while") t e))
    (λ e. ap is_separator (word_is (codes "for") t e)) g) g) (or_four (is_name t) (is_the_word (codes "if") t) (is_the_word (codes "while") t) (is_the_word (codes "for") t) h)

-- separators stand first, or nothing
pub separators_first : (test : Lexeme → Bool) → ((t : Lexeme) → is_separator t ≡ true → test t ≡ false) → (m : ℕ) (ts : List Lexeme) (b : Bool) (n : ℕ) (rest : List Lexeme) → SeparatorsRule m ts b n → front_is test (ts ++ rest) ≡ false
separators_first test apart m ts b n rest (separators_rule m1 p ps h s) = apart p h

abbrev pub goes_steps : Lexeme → Bool
goes_steps t = begins_step t || is_separator t

pub or_parts : (a b : Bool) → (a || b) ≡ false → (a ≡ false) × (b ≡ false)
or_parts true b h = absurd (true≢false h)
or_parts false b h = (refl, h)

pub no_begin : (rest : List Lexeme) → front_is goes_steps rest ≡ false → front_is begins_step rest ≡ false
no_begin [] h = refl
no_begin (t ∷ ts) h = (or_parts (begins_step t) (is_separator t) h).0

pub no_sep : (rest : List Lexeme) → front_is goes_steps rest ≡ false → front_is is_separator rest ≡ false
no_sep [] h = refl
no_sep (t ∷ ts) h = (or_parts (begins_step t) (is_separator t) h).1

-- ---- { fstat }, as lists

-- one statement, on the line of its first token
abbrev pub StepIs : ℕ → List Lexeme → Step → ℕ → Type 0
StepIs = IsStep

pub data ManySteps : ℕ → List Lexeme → List Step → ℕ → Type 0 where
  none_there : (m : ℕ) → ManySteps m [] [] m
  one_there : (m k n : ℕ) (ts ps us : List Lexeme) (p : Lexeme) (b : Step) (bs : List Step) → IsStep m ts b k → is_separator p ≡ true → AreSeparators ps → ManySteps k us bs n
      → ManySteps m (ts ++ p ∷ (ps ++ us)) (b ∷ bs) n

pub many_there : (m : ℕ) (ts : List Lexeme) (bs : List Step) (n : ℕ) → ManySteps m ts bs n → AreSteps m ts (steps_of bs) n
many_there m ts bs n (none_there m1) = without_steps m1
many_there m all bs n (one_there m1 k1 n1 ts ps us p b bs1 r h s q) = next_step m1 k1 n1 ts ps us p b (steps_of bs1) r h s (many_there k1 us bs1 n1 q)

pub record Many (m : ℕ) (ts : List Lexeme) (bs : Steps) (n : ℕ) : Type 0 where
  pub steps : List Step
  pub same : bs ≡ steps_of steps
  pub holds : ManySteps m ts steps n

pub many_back : (m : ℕ) (ts : List Lexeme) (bs : Steps) (n : ℕ) → AreSteps m ts bs n → Many m ts bs n
many_back m ts bs n (without_steps m1) = record { steps = []; same = refl; holds = none_there m1 }
many_back m all bs n (next_step m1 k1 n1 ts ps us p b bs1 r h s q) =
    let u = many_back k1 us bs1 n1 q in
    record { steps = b ∷ u.steps; same = ap (and_step b) u.same; holds = one_there m1 k1 n1 ts ps us p b u.steps r h s u.holds }

-- a statement begins with one of these tokens
pub record Begins (ts : List Lexeme) : Type 0 where
  pub token : Lexeme
  pub others : List Lexeme
  pub text : ts ≡ token ∷ others
  pub passes : begins_step token ≡ true

pub step_begins : (m : ℕ) (ts : List Lexeme) (b : Step) (n : ℕ) → IsStep m ts b n → Begins ts
step_begins m ts b n (name_step l m1 n1 p s ts1 e r) = record { token = name_token l s; others = sign p (codes "=") ∷ ts1; text = refl; passes = refl }
step_begins m ts b n (adding_step l m1 i k n1 p q r u ts1 us vs e f g x y z) =
    record { token = name_token l (codes "add"); others = sign p (codes "(") ∷ (ts1 ++ sign q (codes ",") ∷ (us ++ sign r (codes ",") ∷ (vs ++ sign u (codes ")") ∷ []))); text = refl; passes = refl }
step_begins m ts b n (choosing_step l m1 i n1 q ts1 us e c rest arms x y) = record { token = word l (codes "if"); others = ts1 ++ (us ++ word q (codes "end") ∷ []); text = refl; passes = refl }
step_begins m ts b n (looping_step l m1 n1 q ts1 e c x) = record { token = word l (codes "while"); others = ts1 ++ word q (codes "end") ∷ []; text = refl; passes = refl }
step_begins m ts b n (counting_step l m1 i n1 p q r u s ts1 us e f c x y) =
    record { token = word l (codes "for"); others = name_token p s ∷ sign q (codes "=") ∷ (ts1 ++ sign r (codes ":") ∷ (us ++ word u (codes "end") ∷ [])); text = refl; passes = refl }

pub many_front : (m : ℕ) (ts : List Lexeme) (bs : List Step) (n : ℕ) (rest : List Lexeme) → ManySteps m ts bs n → front_is goes_steps rest ≡ false → front_is is_separator (ts ++ rest) ≡ false
many_front m ts bs n rest (none_there m1) h = no_sep rest h
many_front m all bs n rest (one_there m1 k1 n1 ts ps us p b bs1 r g s q) h =
    let u = step_begins m1 ts b k1 r in
    ap (λ w. front_is is_separator ((w ++ p ∷ (ps ++ us)) ++ rest)) u.text ∙ step_separator u.token u.passes

abbrev pub StepsRule : Rule (Flagged (List Step))
StepsRule = Told ManySteps (flat_map step_trees) itself

pub steps_front : (m : ℕ) (ts : List Lexeme) (b : Flagged (List Step)) (n : ℕ) (rest : List Lexeme) → StepsRule m ts b n → front_is goes_steps rest ≡ false → front_is is_separator (ts ++ rest) ≡ false
steps_front m ts b n rest (told m1 n1 ts1 a b1 r q) h = many_front m1 ts1 a n1 rest r h

-- ---- name '=' expr and add

pub data AddRule (l : ℕ) : ℕ → List Lexeme → Flagged Step → ℕ → Type 0 where
  add_rule : (m i k n q r u : ℕ) (ts us vs : List Lexeme) (e f g : Tree) (b : Flagged Step) → IsExpr l m ts e i → IsExpr l i us f k → IsExpr l k vs g n → b ≡ flagged (e ∷ f ∷ g ∷ []) (add_step l e f g)
      → AddRule l m (ts ++ sign q (codes ",") ∷ (us ++ sign r (codes ",") ∷ (vs ++ sign u (codes ")") ∷ []))) b n

add_value : (l : ℕ) (e f g : Tree) → with_both (λ a h. a h) (with_both (λ e f. add_step l e f) (flagged (e ∷ []) e) (flagged (f ∷ []) f)) (flagged (g ∷ []) g) ≡ flagged (e ∷ f ∷ g ∷ []) (add_step l e f g)
add_value l e f g =
    ap (λ z. with_both (λ a h. a h) z (flagged (g ∷ []) g)) (flagged_both (λ e f. add_step l e f) (e ∷ []) (f ∷ []) e f)
    ∙ flagged_both (λ a h. a h) (e ∷ f ∷ []) (g ∷ []) (add_step l e f) g

module _ (k d l : ℕ) where
  abbrev AddSeq : Rule (Flagged Step)
  AddSeq = Seq (ToldExpr l) (λ e. After (a_sign (codes ",")) (Seq (ToldExpr l) (λ f. After (a_sign (codes ",")) (Seq (ToldExpr l) (λ g. After (a_sign (codes ")")) (IsSame (with_both (λ a h. a h) (with_both (λ e f. add_step l e f) e f) g)))))))

  add_there : (m : ℕ) (ts : List Lexeme) (b : Flagged Step) (n : ℕ) → AddSeq m ts b n → AddRule l m ts b n
  add_there m all b n (seq m1 k1 n1 ts us e b1 (told m2 n2 ts2 e2 e3 x xq) (after m4 n4 q ts4 b4 (seq m5 k5 n5 ts5 us5 f b5 (told m6 n6 ts6 f6 f7 y yq) (after m7 n7 r ts7 b7 (seq m8 k8 n8 ts8 us8 g b8 (told m9 n9 ts9 g9 g10 z zq) (after m11 n11 u ts11 b11 (is_same m12 b12 v))))))) =
      add_rule m2 m4 m7 m12 q r u ts2 ts6 ts9 e2 f6 g9 b12 x y z
      (v ∙ (ap (λ w. with_both (λ a h. a h) (with_both (λ e f. add_step l e f) w f) g) xq ∙ (ap (λ w. with_both (λ a h. a h) (with_both (λ e f. add_step l e f) (flagged (e2 ∷ []) e2) w) g) yq
      ∙ (ap (λ w. with_both (λ a h. a h) (with_both (λ e f. add_step l e f) (flagged (e2 ∷ []) e2) (flagged (f6 ∷ []) f6)) w) zq ∙ add_value l e2 f6 g9))))

  add_back : (m : ℕ) (ts : List Lexeme) (b : Flagged Step) (n : ℕ) → AddRule l m ts b n → AddSeq m ts b n
  add_back m ts b n (add_rule m1 i1 k1 n1 q r u ts1 us vs e f g b1 x y z v) =
      seq m1 i1 n1 ts1 _ (flagged (e ∷ []) e) b1 (told m1 i1 ts1 e _ x refl) (after i1 n1 q _ b1 (seq i1 k1 n1 us _ (flagged (f ∷ []) f) b1 (told i1 k1 us f _ y refl)
      (after k1 n1 r _ b1 (seq k1 n1 n1 vs _ (flagged (g ∷ []) g) b1 (told k1 n1 vs g _ z refl) (after n1 n1 u [] b1 (is_same n1 b1 (v ∙ sym (add_value l e f g))))))))

  comma_after : {A : Type 0} (P : Rule A) (j : ℕ) (us : List Lexeme) (b : A) (n : ℕ) (rest : List Lexeme) → After (a_sign (codes ",")) P j us b n → front_is goes_expr (us ++ rest) ≡ false
  comma_after P j us b n rest (after m1 n1 p ts1 b1 r) = refl

  paren_after : {A : Type 0} (P : Rule A) (j : ℕ) (us : List Lexeme) (b : A) (n : ℕ) (rest : List Lexeme) → After (a_sign (codes ")")) P j us b n → front_is goes_expr (us ++ rest) ≡ false
  paren_after P j us b n rest (after m1 n1 p ts1 b1 r) = refl

  exact_adding : Exact (AddRule l) nothing (adding k d l)
  exact_adding =
      exact_as AddSeq (AddRule l)
      (exact_bind (expr_on k d l) _ (exact_expr_on k d l)
      (λ e. exact_sign_then (codes ",") _ (λ l. refl) (exact_bind (expr_on k d l) _ (exact_expr_on k d l)
      (λ f. exact_sign_then (codes ",") _ (λ l. refl) (exact_bind (expr_on k d l) _ (exact_expr_on k d l)
      (λ g. exact_sign_then (codes ")") (pure (with_both (λ a h. a h) (with_both (λ e f. add_step l e f) e f) g)) (λ l. refl) (exact_gives nothing (with_both (λ a h. a h) (with_both (λ e f. add_step l e f) e f) g)))
      (λ g j us b n rest r h. paren_after _ j us b n rest r)))
      (λ f j us b n rest r h. comma_after _ j us b n rest r)))
      (λ e j us b n rest r h. comma_after _ j us b n rest r))
      add_there add_back

  abbrev NamedRule : List ℕ → Rule (Flagged Step)
  NamedRule s = After (a_sign (codes "=")) (Told (IsExpr l) alone (λ e. assign_step l s e))

  exact_named : (s : List ℕ) → Exact (NamedRule s) goes_expr (named_assignment k d l s)
  exact_named s = exact_sign_then (codes "=") (expr_on k d l >>= (λ e. pure (with_it (assign_step l s) e))) (λ l. refl) (exact_made (assign_step l s) (expr_on k d l) (exact_expr_on k d l))

  pub data NamedStep (s : List ℕ) : ℕ → List Lexeme → Flagged Step → ℕ → Type 0 where
    named_assign : (m n : ℕ) (ts : List Lexeme) (b : Flagged Step) → After (a_sign (codes "=")) (Told (IsExpr l) alone (λ e. assign_step l s e)) m ts b n → NamedStep s m ts b n
    named_add : (m n : ℕ) (ts : List Lexeme) (b : Flagged Step) → s ≡ codes "add" → After (a_sign (codes "(")) (AddRule l) m ts b n → NamedStep s m ts b n

  goes_nothing : (rest : List Lexeme) → front_is goes_expr rest ≡ false → front_is nothing rest ≡ false
  goes_nothing rest h = none_of_nothing rest

  named_first : (s : List ℕ) (m : ℕ) (ts : List Lexeme) (b : Flagged Step) (n : ℕ) (rest : List Lexeme) → NamedRule s m ts b n → front_is goes_expr rest ≡ false → front_is (is_the_sign (codes "(")) (ts ++ rest) ≡ false
  named_first s m ts b n rest (after m1 n1 p ts1 b1 r) h = refl

  add_choice : (s : List ℕ) → Exact (IsGivenIf (is_the_sign (codes "(")) (AddRule l) (NamedRule s)) goes_expr (given_if (is_the_sign (codes "(")) (adding k d l) (named_assignment k d l s))
  add_choice s = exact_given_if (is_the_sign (codes "(")) (adding k d l) (named_assignment k d l s) (exact_within nothing goes_expr goes_nothing exact_adding) (exact_named s) (named_first s)

  choice_there : (s : List ℕ) → s ≡ codes "add" → (m : ℕ) (ts : List Lexeme) (b : Flagged Step) (n : ℕ) → IsGivenIf (is_the_sign (codes "(")) (AddRule l) (NamedRule s) m ts b n → NamedStep s m ts b n
  choice_there s e m all b n (with_token m1 n1 t ts b1 h r) = named_add m1 n1 (t ∷ ts) b1 e (subst (λ (x : Lexeme). After (a_sign (codes "(")) (AddRule l) m1 (x ∷ ts) b1 n1) (sym (sign_is (codes "(") t h)) (after m1 n1 t.line ts b1 r))
  choice_there s e m all b n (without_token m1 n1 ts b1 r) = named_assign m1 n1 ts b1 r

  choice_back : (s : List ℕ) (m : ℕ) (ts : List Lexeme) (b : Flagged Step) (n : ℕ) → NamedStep s m ts b n → IsGivenIf (is_the_sign (codes "(")) (AddRule l) (NamedRule s) m ts b n
  choice_back s m ts b n (named_assign m1 n1 ts1 b1 r) = without_token m1 n1 ts1 b1 r
  choice_back s m ts b n (named_add m1 n1 ts1 b1 e (after m2 n2 p ts2 b2 r)) = with_token m2 n2 (sign p (codes "(")) ts2 b2 refl r

  plain_there : (s : List ℕ) (m : ℕ) (ts : List Lexeme) (b : Flagged Step) (n : ℕ) → NamedRule s m ts b n → NamedStep s m ts b n
  plain_there s m ts b n r = named_assign m n ts b r

  plain_back : (s : List ℕ) → is_text s (codes "add") ≡ false → (m : ℕ) (ts : List Lexeme) (b : Flagged Step) (n : ℕ) → NamedStep s m ts b n → NamedRule s m ts b n
  plain_back s f m ts b n (named_assign m1 n1 ts1 b1 r) = r
  plain_back s f m ts b n (named_add m1 n1 ts1 b1 e r) = absurd (true≢false (sym (ap (λ z. is_text z (codes "add")) e) ∙ f))

  pub exact_named_step : (s : List ℕ) → Exact (NamedStep s) goes_expr (named_step k d l s)
  exact_named_step s = (elim (is_text s (codes "add")) as (λ x. is_text s (codes "add") ≡ x → Exact (NamedStep s) goes_expr (if x then given_if (is_the_sign (codes "(")) (adding k d l) (named_assignment k d l s) else named_assignment k d l s)) [
    | true ↦ λ e. exact_as (IsGivenIf (is_the_sign (codes "(")) (AddRule l) (NamedRule s)) (NamedStep s) (add_choice s) (choice_there s (same_text s (codes "add") e)) (choice_back s)
    | false ↦ λ e. exact_as (NamedRule s) (NamedStep s) (exact_named s) (plain_there s) (plain_back s e)
  ]) refl
