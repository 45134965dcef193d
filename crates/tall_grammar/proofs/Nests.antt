-- Blocks of functions are read exactly.
use Rattle.std.proofs.Common.{◌≡◌, ℕ, suc, zero, Bool, true, false, ◌||◌, List, [], ◌∷◌, ◌++◌, Some, None, refl, sym, ap, ◌∙◌, subst, append_assoc}
use Rattle.std.proofs.lemmas.List.{append-nil}
use Rattle.std.specs.Prelude.{codes, if◌then◌else◌, Ok}
use Rattle.std.specs.List.{flat_map}
use Rattle.tall_lex.specs.declared.tokens.TokenKind.TheVariants.{LineEnd}
use Rattle.tall_grammar.specs.Lexemes.{Lexeme, sign, word, name_token, is_the_word, is_separator}
use Rattle.tall_grammar.specs.Trees.{Tree, tree, name, Step, if_step, while_step, for_step, Steps, no_steps, Arms, and_arm}
use Rattle.tall_grammar.specs.Views.{steps_of, arms_of}
use Rattle.tall_grammar.specs.Refusals.{step_trees, arms_trees}
use Rattle.tall_grammar.specs.Grammar.{AreSeparators, IsExpr, without_steps, IsArm, an_arm, AreArms, no_else, an_else, an_elseif}
use Rattle.tall_grammar.specs.Kept.{Flagged, flagged, with_it, with_both, and_last}
use Rattle.tall_grammar.specs.Readers.{Reader, ◌>>=◌, pure, front_is, front_as, skip_separators}
use Rattle.tall_grammar.specs.ScriptReader.{word_line, separators, expr_on, arm, otherwise, arms_from, rest_arm, choosing, looping, counting}
use Rattle.tall_grammar.proofs.Exact.{Rule, Live, Exact}
use Rattle.tall_grammar.proofs.Combine.{Seq, seq, IsGiven, with_it as given_so, without, IsGivenIf, with_token, without_token, exact_as, exact_within, exact_tired, exact_bind, exact_given, exact_given_if}
use Rattle.tall_grammar.proofs.Signs.{word_is}
use Rattle.tall_grammar.proofs.Lists.{nothing}
use Rattle.tall_grammar.proofs.Levels.{goes_expr, a_name_alone}
use Rattle.tall_grammar.proofs.Flags.{flagged_both, flagged_it}
use Rattle.tall_grammar.proofs.Lines.{SkipRule, skip_rule, exact_skip, SeparatorsRule, separators_rule, exact_separators}
use Rattle.tall_grammar.proofs.Tokens.{After, after, a_sign, a_word, AfterName, after_name, exact_sign_then, exact_word_then, exact_name_then, Told, told, itself, ToldExpr, exact_expr_on}
use Rattle.tall_grammar.proofs.Extended.{IsSame, is_same, exact_gives, same_front, extended, extended_more, extended_none, extended_first, trees_of_steps, arm_trees, trees_of_arms}
use Rattle.tall_grammar.proofs.Blocks.{expr_separator, goes_steps, or_parts, ManySteps, many_there, many_back, StepsRule, steps_front}

-- ---- words

word_line_is : (s : List ℕ) (t : Lexeme) (l : ℕ) → word_line s t ≡ Some l → t ≡ word l s
word_line_is s t l h = (elim (is_the_word s t) as (λ x. is_the_word s t ≡ x → (if x then Some t.line else None) ≡ Some l → t ≡ word l s) [
  | true ↦ λ e h. let g : t.line ≡ l = cc in word_is s t e ∙ ap (λ z. word z s) g
  | false ↦ λ e h. absurd cc
]) refl h

abbrev pub goes_arms : Lexeme → Bool
goes_arms t = goes_steps t || is_the_word (codes "elseif") t

abbrev pub goes_rest : Lexeme → Bool
goes_rest t = goes_steps t || is_the_word (codes "else") t

arms_steps : (rest : List Lexeme) → front_is goes_arms rest ≡ false → front_is goes_steps rest ≡ false
arms_steps [] h = refl
arms_steps (t ∷ ts) h = (or_parts (goes_steps t) _ h).0

arms_word : (rest : List Lexeme) → front_is goes_arms rest ≡ false → front_as (word_line (codes "elseif")) rest ≡ None
arms_word [] h = refl
arms_word (t ∷ ts) h = ap (λ x. if x then Some t.line else None) (or_parts (goes_steps t) _ h).1

rest_steps : (rest : List Lexeme) → front_is goes_rest rest ≡ false → front_is goes_steps rest ≡ false
rest_steps [] h = refl
rest_steps (t ∷ ts) h = (or_parts (goes_steps t) _ h).0

rest_word : (rest : List Lexeme) → front_is goes_rest rest ≡ false → front_is (is_the_word (codes "else")) rest ≡ false
rest_word [] h = refl
rest_word (t ∷ ts) h = (or_parts (goes_steps t) _ h).1

abbrev pub ArmIs : ℕ → ℕ → List Lexeme → Tree × Steps → ℕ → Type 0
ArmIs l m ts a n = IsArm l m ts a.0 a.1 n

abbrev pub ArmRule : ℕ → Rule (Flagged (Tree × Steps))
ArmRule l = Told (ArmIs l) arm_trees itself

pub data ManyArms : ℕ → List Lexeme → List (Tree × Steps) → ℕ → Type 0 where
  no_arm : (m : ℕ) → ManyArms m [] [] m
  more_arms : (l m k n : ℕ) (ts us : List Lexeme) (a : Tree × Steps) (bs : List (Tree × Steps)) → IsArm l m ts a.0 a.1 k → ManyArms k us bs n → ManyArms m (word l (codes "elseif") ∷ (ts ++ us)) (a ∷ bs) n

pub data ArmsFrom (found : Flagged (List (Tree × Steps))) : ℕ → List Lexeme → Flagged (List (Tree × Steps)) → ℕ → Type 0 where
  arms_so : (m n : ℕ) (ts : List Lexeme) (bs : List (Tree × Steps)) (v : Flagged (List (Tree × Steps))) → ManyArms m ts bs n → v ≡ extended arm_trees found bs → ArmsFrom found m ts v n

pub data RestIs : ℕ → List Lexeme → List Step → ℕ → Type 0 where
  no_rest : (m : ℕ) → RestIs m [] [] m
  a_rest : (m n p : ℕ) (ps ts : List Lexeme) (bs : List Step) → AreSeparators ps → ManySteps m ts bs n → RestIs m (word p (codes "else") ∷ (ps ++ ts)) bs n

abbrev pub RestRule : Rule (Flagged (List Step))
RestRule = Told RestIs (flat_map step_trees) itself

arms_both : (m j n : ℕ) (ts us : List Lexeme) (bs : List (Tree × Steps)) (cs : List Step) → ManyArms m ts bs j → RestIs j us cs n → AreArms m (ts ++ us) (arms_of bs) (steps_of cs) n
arms_both m j n ts us bs cs (no_arm m1) (no_rest m2) = no_else m2
arms_both m j n ts us bs cs (no_arm m1) (a_rest m2 n2 p ps vs ds s r) = an_else m2 n2 p ps vs (steps_of ds) s (many_there m2 vs ds n2 r)
arms_both m j n all us bs cs (more_arms l m1 k1 n1 ts vs a as1 x y) r =
    subst (λ (w : List Lexeme). AreArms m1 (word l (codes "elseif") ∷ w) (and_arm a.0 a.1 (arms_of as1)) (steps_of cs) n) (sym (append_assoc ts vs us))
    (an_elseif l m1 k1 n ts (vs ++ us) a.0 a.1 (steps_of cs) (arms_of as1) x (arms_both k1 n1 n vs us as1 cs y r))

record ArmsBack (m : ℕ) (ts : List Lexeme) (arms : Arms) (rest : Steps) (n : ℕ) : Type 0 where
  bs : List (Tree × Steps)
  cs : List Step
  between : ℕ
  left : List Lexeme
  right : List Lexeme
  text : ts ≡ left ++ right
  arms_same : arms ≡ arms_of bs
  rest_same : rest ≡ steps_of cs
  many : ManyArms m left bs between
  last : RestIs between right cs n

arms_split : (m : ℕ) (ts : List Lexeme) (arms : Arms) (rest : Steps) (n : ℕ) → AreArms m ts arms rest n → ArmsBack m ts arms rest n
arms_split m ts arms rest n (no_else m1) = record { bs = []; cs = []; between = m1; left = []; right = []; text = refl; arms_same = refl; rest_same = refl; many = no_arm m1; last = no_rest m1 }
arms_split m ts arms rest n (an_else m1 n1 p ps us b s r) =
    let u = many_back m1 us b n1 r in
    record { bs = []; cs = u.steps; between = m1; left = []; right = word p (codes "else") ∷ (ps ++ us); text = refl; arms_same = refl; rest_same = u.same; many = no_arm m1; last = a_rest m1 n1 p ps us u.steps s u.holds }
arms_split m all arms rest n (an_elseif l m1 k1 n1 ts us e b rest1 arms1 x y) =
    let u = arms_split k1 us arms1 rest1 n1 y in
    record {
      bs = (e, b) ∷ u.bs;
      cs = u.cs;
      between = u.between;
      left = word l (codes "elseif") ∷ (ts ++ u.left);
      right = u.right;
      text = ap (λ w. word l (codes "elseif") ∷ w) (ap (λ w. ts ++ w) u.text ∙ sym (append_assoc ts u.left u.right));
      arms_same = ap (and_arm e b) u.arms_same;
      rest_same = u.rest_same;
      many = more_arms l m1 k1 u.between ts u.left (e, b) u.bs x u.many;
      last = u.last;
    }

-- ---- what stands behind which tokens

a_line : List ℕ → Lexeme
a_line s = record { kind = LineEnd; line = 1; text = s }

live_arm : (l m : ℕ) → Live (ArmRule l) m
live_arm l m = record { tokens = name_token 1 [] ∷ sign 1 (codes ";") ∷ []; value = _; next = suc m; holds = told m (suc m) _ (tree m l (name []), no_steps) _ (an_arm l m (suc m) (suc m) (name_token 1 [] ∷ []) [] [] (sign 1 (codes ";")) _ no_steps (a_name_alone l m 1 []) refl refl (without_steps (suc m))) refl }

abbrev pair_up : Flagged Tree → Flagged (List Step) → Flagged (Tree × Steps)
pair_up e b = with_both (λ e b. (e, steps_of b)) e b

module _ (k d : ℕ) (steps : Reader (Flagged (List Step))) (inner : Exact StepsRule goes_steps steps) where
  -- ---- expr sep { sep } { fstat }

  abbrev ArmSeq : (l : ℕ) → Rule (Flagged (Tree × Steps))
  ArmSeq l = Seq (ToldExpr l) (λ e. Seq SeparatorsRule (λ _. Seq StepsRule (λ b. IsSame (pair_up e b))))

  arm_value : (e : Tree) (bs : List Step) → pair_up (flagged (e ∷ []) e) (flagged (flat_map step_trees bs) bs) ≡ flagged (arm_trees (e, steps_of bs)) (e, steps_of bs)
  arm_value e bs = flagged_both {C = Tree × Steps} (λ e b. (e, steps_of b)) (e ∷ []) (flat_map step_trees bs) e bs ∙ ap (λ z. flagged (e ∷ z) (e, steps_of bs)) (sym (trees_of_steps bs))

  arm_there : (l m : ℕ) (ts : List Lexeme) (b : Flagged (Tree × Steps)) (n : ℕ) → ArmSeq l m ts b n → ArmRule l m ts b n
  arm_there l m all b n (seq m1 k1 n1 ts us e b1 (told m2 n2 ts2 e2 e3 x xq) (seq m4 k4 n4 ts4 us4 c b4 (separators_rule m5 p ps h s) (seq m6 k6 n6 ts6 us6 f b6 (told m7 n7 ts7 f7 f8 y yq) (is_same m9 b9 v)))) =
      told m2 m9 _ (e2, steps_of f7) b9
      (subst (λ (w : List Lexeme). IsArm l m2 (ts2 ++ p ∷ (ps ++ w)) e2 (steps_of f7) m9) (sym (append-nil ts7)) (an_arm l m2 m5 m9 ts2 ps ts7 p e2 (steps_of f7) x h s (many_there m5 ts7 f7 m9 y)))
      (v ∙ (ap (λ w. pair_up w f) xq ∙ (ap (λ w. pair_up (flagged (e2 ∷ []) e2) w) yq ∙ arm_value e2 f7)))

  arm_back : (l m : ℕ) (ts : List Lexeme) (b : Flagged (Tree × Steps)) (n : ℕ) → ArmRule l m ts b n → ArmSeq l m ts b n
  arm_back l m ts b n (told m1 n1 ts1 a b1 r q) = at_arm m1 ts1 a.0 a.1 n1 b1 r q where
    at_arm : (m : ℕ) (ts : List Lexeme) (e : Tree) (c : Steps) (n : ℕ) (b : Flagged (Tree × Steps)) → IsArm l m ts e c n → b ≡ flagged (arm_trees (e, c)) (e, c) → ArmSeq l m ts b n
    at_arm m all e c n b (an_arm l1 m1 k1 n1 ts ps us p e1 c1 x h s y) q =
        let u = many_back k1 us c1 n1 y in
        subst (λ (w : List Lexeme). ArmSeq l1 m1 (ts ++ p ∷ (ps ++ w)) b n1) (append-nil us)
        (seq m1 k1 n1 ts (p ∷ (ps ++ (us ++ []))) (flagged (e1 ∷ []) e1) b (told m1 k1 ts e1 _ x refl)
        (seq k1 k1 n1 (p ∷ ps) (us ++ []) _ b (separators_rule k1 p ps h s) (seq k1 n1 n1 us [] (flagged (flat_map step_trees u.steps) u.steps) b (told k1 n1 us u.steps _ u.holds refl)
        (is_same n1 b (q ∙ (ap (λ z. flagged (arm_trees (e1, z)) (e1, z)) u.same ∙ sym (arm_value e1 u.steps)))))))

  arm_follow : (e : Flagged Tree) (j : ℕ) (us : List Lexeme) (b : Flagged (Tree × Steps)) (n : ℕ) (rest : List Lexeme)
      → Seq SeparatorsRule (λ _. Seq StepsRule (λ b. IsSame (pair_up e b))) j us b n → front_is goes_expr (us ++ rest) ≡ false
  arm_follow e j all b n rest (seq m1 k1 n1 ts us c b1 (separators_rule m2 p ps h s) r) = expr_separator p h

  after_separators : (e : Flagged Tree) (c : Bool) (j : ℕ) (us : List Lexeme) (b : Flagged (Tree × Steps)) (n : ℕ) (rest : List Lexeme)
      → Seq StepsRule (λ b. IsSame (pair_up e b)) j us b n → front_is goes_steps rest ≡ false → front_is is_separator (us ++ rest) ≡ false
  after_separators e c j all b n rest (seq m1 k1 n1 ts us f b1 r (is_same m2 b2 v)) h =
      ap (λ w. front_is is_separator (w ++ rest)) (append-nil ts) ∙ steps_front m1 ts f m2 rest r h

  pub exact_arm : (l : ℕ) → Exact (ArmRule l) goes_steps (arm k d steps l)
  exact_arm l =
      exact_as (ArmSeq l) (ArmRule l)
      (exact_bind (expr_on k d l) _ (exact_expr_on k d l)
      (λ e. exact_bind separators _ exact_separators
      (λ c. exact_bind steps (λ b. pure (pair_up e b)) inner (λ b. exact_gives goes_steps (pair_up e b))
      (λ b j us c n rest r h. same_front goes_steps _ j us c n rest r h))
      (λ c j us b n rest r h. after_separators e c j us b n rest r h))
      (λ e j us b n rest r h. arm_follow e j us b n rest r))
      (arm_there l) (arm_back l)

  -- ---- { 'elseif' .. }

  abbrev ArmsStep : (found : Flagged (List (Tree × Steps))) → Rule (Flagged (List (Tree × Steps)))
  ArmsStep found = IsGiven (word_line (codes "elseif")) (λ l. Seq (ArmRule l) (λ a. ArmsFrom (and_last found a))) (IsSame found)

  arms_there : (found : Flagged (List (Tree × Steps))) (m : ℕ) (ts : List Lexeme) (v : Flagged (List (Tree × Steps))) (n : ℕ) → ArmsStep found m ts v n → ArmsFrom found m ts v n
  arms_there found m all v n (given_so m1 n1 t ts l v1 h (seq m2 k2 n2 ts2 us2 a v2 (told m3 n3 ts3 a3 a4 x xq) (arms_so m5 n5 ts5 bs v5 y yq))) =
      subst (λ (z : Lexeme). ArmsFrom found m3 (z ∷ (ts3 ++ ts5)) v5 n5) (sym (word_line_is (codes "elseif") t l h))
      (arms_so m3 n5 _ (a3 ∷ bs) v5 (more_arms l m3 m5 n5 ts3 ts5 a3 bs x y) (yq ∙ (ap (λ z. extended arm_trees (and_last found z) bs) xq ∙ extended_more arm_trees found a3 bs)))
  arms_there found m all v n (without m1 n1 ts v1 (is_same m2 v2 q)) = arms_so m2 m2 [] [] v2 (no_arm m2) (q ∙ sym (extended_none arm_trees found))

  arms_back : (found : Flagged (List (Tree × Steps))) (m : ℕ) (ts : List Lexeme) (v : Flagged (List (Tree × Steps))) (n : ℕ) → ArmsFrom found m ts v n → ArmsStep found m ts v n
  arms_back found m ts v n (arms_so m1 n1 ts1 bs v1 (no_arm m2) q) = without m2 m2 [] v1 (is_same m2 v1 (q ∙ extended_none arm_trees found))
  arms_back found m ts v n (arms_so m1 n1 ts1 bs v1 (more_arms l m2 k2 n2 ts2 us a bs2 x y) q) =
      given_so m2 n2 (word l (codes "elseif")) (ts2 ++ us) l v1 refl (seq m2 k2 n2 ts2 us (flagged (arm_trees a) a) v1 (told m2 k2 ts2 a _ x refl)
      (arms_so k2 n2 us bs2 v1 y (q ∙ sym (extended_more arm_trees found a bs2))))

  arms_other : (found : Flagged (List (Tree × Steps))) (m : ℕ) (ts : List Lexeme) (v : Flagged (List (Tree × Steps))) (n : ℕ) (rest : List Lexeme) → IsSame found m ts v n → front_is goes_arms rest ≡ false
      → front_as (word_line (codes "elseif")) (ts ++ rest) ≡ None
  arms_other found m ts v n rest (is_same m1 v1 q) h = arms_word rest h

  arms_front : (found : Flagged (List (Tree × Steps))) (m : ℕ) (ts : List Lexeme) (v : Flagged (List (Tree × Steps))) (n : ℕ) (rest : List Lexeme) → ArmsFrom found m ts v n → front_is goes_arms rest ≡ false
      → front_is goes_steps (ts ++ rest) ≡ false
  arms_front found m ts v n rest (arms_so m1 n1 ts1 bs v1 (no_arm m2) q) h = arms_steps rest h
  arms_front found m ts v n rest (arms_so m1 n1 ts1 bs v1 (more_arms l m2 k2 n2 ts2 us a bs2 x y) q) h = refl

  exact_arms : (n : ℕ) (found : Flagged (List (Tree × Steps))) → Exact (ArmsFrom found) goes_arms (arms_from k d steps n found)
  unfolding arms_from
  exact_arms zero found = exact_tired (ArmsFrom found) goes_arms (λ m. record { tokens = []; value = found; next = m; holds = arms_so m m [] [] found (no_arm m) (sym (extended_none arm_trees found)) })
  exact_arms (suc n) found =
      exact_as (ArmsStep found) (ArmsFrom found)
      (exact_given (word_line (codes "elseif")) (λ l. arm k d steps l >>= (λ a. arms_from k d steps n (and_last found a))) (pure found)
      (λ l. exact_bind (arm k d steps l) (λ a. arms_from k d steps n (and_last found a)) (exact_arm l) (λ a. exact_arms n (and_last found a)) (λ a j us v i rest r h. arms_front (and_last found a) j us v i rest r h))
      (exact_gives goes_arms found) (arms_other found))
      (arms_there found) (arms_back found)

  -- ---- [ 'else' .. ]

  abbrev ElseSeq : Rule (Flagged (List Step))
  ElseSeq = IsGivenIf (is_the_word (codes "else")) (Seq SkipRule (λ _. StepsRule)) (IsSame (Ok []))

  else_there : (m : ℕ) (ts : List Lexeme) (v : Flagged (List Step)) (n : ℕ) → ElseSeq m ts v n → RestRule m ts v n
  else_there m all v n (with_token m1 n1 t ts v1 h (seq m2 k2 n2 ts2 us2 c v2 (skip_rule m3 ps s) (told m4 n4 ts4 a v4 x q))) =
      subst (λ (z : Lexeme). RestRule m4 (z ∷ (ps ++ ts4)) v4 n4) (sym (word_is (codes "else") t h)) (told m4 n4 _ a v4 (a_rest m4 n4 t.line ps ts4 a s x) q)
  else_there m all v n (without_token m1 n1 ts v1 (is_same m2 v2 q)) = told m2 m2 [] [] v2 (no_rest m2) q

  else_back : (m : ℕ) (ts : List Lexeme) (v : Flagged (List Step)) (n : ℕ) → RestRule m ts v n → ElseSeq m ts v n
  else_back m ts v n (told m1 n1 ts1 a v1 (no_rest m2) q) = without_token m2 m2 [] v1 (is_same m2 v1 q)
  else_back m ts v n (told m1 n1 ts1 a v1 (a_rest m2 n2 p ps us bs s x) q) =
      with_token m2 n2 (word p (codes "else")) (ps ++ us) v1 refl (seq m2 m2 n2 ps us _ v1 (skip_rule m2 ps s) (told m2 n2 us bs v1 x q))

  else_other : (m : ℕ) (ts : List Lexeme) (v : Flagged (List Step)) (n : ℕ) (rest : List Lexeme) → IsSame {A = Flagged (List Step)} (Ok []) m ts v n → front_is goes_rest rest ≡ false → front_is (is_the_word (codes "else")) (ts ++ rest) ≡ false
  else_other m ts v n rest (is_same m1 v1 q) h = rest_word rest h

  exact_rest : Exact RestRule goes_rest (rest_arm k d steps)
  exact_rest =
      exact_as ElseSeq RestRule
      (exact_given_if (is_the_word (codes "else")) (otherwise k d steps) (pure (Ok []))
      (exact_within goes_steps goes_rest rest_steps (exact_bind skip_separators (λ _. steps) exact_skip (λ _. inner) (λ a j us v n rest r h. steps_front j us v n rest r h)))
      (exact_gives goes_rest (Ok [])) else_other)
      else_there else_back

  -- ---- the three blocks, behind their words

  end_first : {A : Type 0} (test : Lexeme → Bool) (P : Rule A) → ((p : ℕ) → test (word p (codes "end")) ≡ false) → (j : ℕ) (us : List Lexeme) (b : A) (n : ℕ) (rest : List Lexeme) → After (a_word (codes "end")) P j us b n → front_is test (us ++ rest) ≡ false
  end_first test P f j us b n rest (after m1 n1 p ts1 b1 r) = f p

  pub data ChooseRule (l : ℕ) : ℕ → List Lexeme → Flagged Step → ℕ → Type 0 where
    choose_rule : (m i n q : ℕ) (ts us : List Lexeme) (e : Tree) (b rest : Steps) (arms : Arms) (v : Flagged Step) → IsArm l m ts e b i → AreArms i us arms rest n
        → v ≡ flagged (step_trees (if_step l (and_arm e b arms) rest)) (if_step l (and_arm e b arms) rest) → ChooseRule l m (ts ++ (us ++ word q (codes "end") ∷ [])) v n

  abbrev made_if : (l : ℕ) → Flagged (List (Tree × Steps)) → Flagged (List Step) → Flagged Step
  made_if l arms b = with_both (λ arms b. if_step l (arms_of arms) (steps_of b)) arms b

  if_value : (l : ℕ) (a : Tree × Steps) (bs : List (Tree × Steps)) (cs : List Step)
      → made_if l (extended arm_trees (and_last (Ok []) (flagged (arm_trees a) a)) bs) (flagged (flat_map step_trees cs) cs)
      ≡ flagged (step_trees (if_step l (and_arm a.0 a.1 (arms_of bs)) (steps_of cs))) (if_step l (and_arm a.0 a.1 (arms_of bs)) (steps_of cs))
  if_value l a bs cs =
      ap (λ z. made_if l z (flagged (flat_map step_trees cs) cs)) (extended_more arm_trees (Ok []) a bs ∙ extended_first arm_trees (a ∷ bs))
      ∙ (flagged_both (λ arms b. if_step l (arms_of arms) (steps_of b)) (flat_map arm_trees (a ∷ bs)) (flat_map step_trees cs) (a ∷ bs) cs
      ∙ (ap (λ z. flagged (z ++ flat_map step_trees cs) (if_step l (and_arm a.0 a.1 (arms_of bs)) (steps_of cs))) (sym (trees_of_arms (a ∷ bs)))
      ∙ ap (λ z. flagged (arms_trees (and_arm a.0 a.1 (arms_of bs)) ++ z) (if_step l (and_arm a.0 a.1 (arms_of bs)) (steps_of cs))) (sym (trees_of_steps cs))))

  abbrev ChooseSeq : (l : ℕ) → Rule (Flagged Step)
  ChooseSeq l = Seq (ArmRule l) (λ a. Seq (ArmsFrom (and_last (Ok []) a)) (λ arms. Seq RestRule (λ b. After (a_word (codes "end")) (IsSame (made_if l arms b)))))

  choose_there : (l m : ℕ) (ts : List Lexeme) (v : Flagged Step) (n : ℕ) → ChooseSeq l m ts v n → ChooseRule l m ts v n
  choose_there l m all v n (seq m1 k1 n1 ts us a v1 (told m2 n2 ts2 a2 a3 x xq) (seq m4 k4 n4 ts4 us4 arms v4 (arms_so m5 n5 ts5 bs v5 y yq) (seq m6 k6 n6 ts6 us6 b v6 (told m7 n7 ts7 cs b8 z zq) (after m9 n9 q ts9 v9 (is_same m10 v10 w))))) =
      subst (λ (u : List Lexeme). ChooseRule l m2 (ts2 ++ u) v10 m10) (append_assoc ts5 ts7 (word q (codes "end") ∷ []))
      (choose_rule m2 m5 m10 q ts2 (ts5 ++ ts7) a2.0 a2.1 (steps_of cs) (arms_of bs) v10 x (arms_both m5 m7 m10 ts5 ts7 bs cs y z)
      (w ∙ (ap (λ u. made_if l u b) (yq ∙ ap (λ u. extended arm_trees (and_last (Ok []) u) bs) xq)
      ∙ (ap (λ u. made_if l (extended arm_trees (and_last (Ok []) (flagged (arm_trees a2) a2)) bs) u) zq ∙ if_value l a2 bs cs))))

  choose_back : (l m : ℕ) (ts : List Lexeme) (v : Flagged Step) (n : ℕ) → ChooseRule l m ts v n → ChooseSeq l m ts v n
  choose_back l m all v n (choose_rule m1 i1 n1 q ts us e b rest arms v1 x y w) =
      let u = arms_split i1 us arms rest n1 y in
      subst (λ (z : List Lexeme). ChooseSeq l m1 (ts ++ z) v1 n1) (sym (append_assoc u.left u.right (word q (codes "end") ∷ [])) ∙ ap (λ z. z ++ word q (codes "end") ∷ []) (sym u.text))
      (seq m1 i1 n1 ts _ (flagged (arm_trees (e, b)) (e, b)) v1 (told m1 i1 ts (e, b) _ x refl)
      (seq i1 u.between n1 u.left _ (extended arm_trees (and_last (Ok []) (flagged (arm_trees (e, b)) (e, b))) u.bs) v1 (arms_so i1 u.between u.left u.bs _ u.many refl)
      (seq u.between n1 n1 u.right _ (flagged (flat_map step_trees u.cs) u.cs) v1 (told u.between n1 u.right u.cs _ u.last refl)
      (after n1 n1 q [] v1 (is_same n1 v1 (w ∙ (ap (λ z. flagged (step_trees (if_step l (and_arm e b z) rest)) (if_step l (and_arm e b z) rest)) u.arms_same
      ∙ (ap (λ z. flagged (step_trees (if_step l (and_arm e b (arms_of u.bs)) z)) (if_step l (and_arm e b (arms_of u.bs)) z)) u.rest_same ∙ sym (if_value l (e, b) u.bs u.cs)))))))))

  rest_front : (j : ℕ) (us : List Lexeme) (b : Flagged (List Step)) (n : ℕ) (rest : List Lexeme) → RestRule j us b n → front_is goes_arms rest ≡ false → front_is goes_arms (us ++ rest) ≡ false
  rest_front j us b n rest (told m1 n1 ts1 a b1 (no_rest m2) q) h = h
  rest_front j us b n rest (told m1 n1 ts1 a b1 (a_rest m2 n2 p ps vs bs s x) q) h = refl

  after_arms : (l : ℕ) (arms : Flagged (List (Tree × Steps))) (j : ℕ) (us : List Lexeme) (b : Flagged Step) (n : ℕ) (rest : List Lexeme)
      → Seq RestRule (λ b. After (a_word (codes "end")) (IsSame (made_if l arms b))) j us b n → front_is goes_arms (us ++ rest) ≡ false
  after_arms l arms j all b n rest (seq m1 k1 n1 ts us c b1 r s) =
      ap (front_is goes_arms) (append_assoc ts us rest) ∙ rest_front m1 ts c k1 (us ++ rest) r (end_first goes_arms _ (λ p. refl) k1 us b1 n1 rest s)

  after_arm : (l : ℕ) (a : Flagged (Tree × Steps)) (j : ℕ) (us : List Lexeme) (b : Flagged Step) (n : ℕ) (rest : List Lexeme)
      → Seq (ArmsFrom (and_last (Ok []) a)) (λ arms. Seq RestRule (λ b. After (a_word (codes "end")) (IsSame (made_if l arms b)))) j us b n → front_is goes_steps (us ++ rest) ≡ false
  after_arm l a j all b n rest (seq m1 k1 n1 ts us arms b1 r s) =
      ap (front_is goes_steps) (append_assoc ts us rest) ∙ arms_front (and_last (Ok []) a) m1 ts arms k1 (us ++ rest) r (after_arms l arms k1 us b1 n1 rest s)

  pub exact_choosing : (l : ℕ) → Exact (ChooseRule l) nothing (choosing k d steps l)
  exact_choosing l =
      exact_as (ChooseSeq l) (ChooseRule l)
      (exact_bind (arm k d steps l) _ (exact_arm l)
      (λ a. exact_bind (arms_from k d steps k (and_last (Ok []) a)) _ (exact_arms k (and_last (Ok []) a))
      (λ arms. exact_bind (rest_arm k d steps) _ exact_rest
      (λ b. exact_word_then (codes "end") (pure (made_if l arms b)) (λ l. refl) (exact_gives nothing (made_if l arms b)))
      (λ b j us v n rest r h. end_first goes_rest _ (λ p. refl) j us v n rest r))
      (λ arms j us v n rest r h. after_arms l arms j us v n rest r))
      (λ a j us v n rest r h. after_arm l a j us v n rest r))
      (choose_there l) (choose_back l)

  -- while

  pub data LoopRule (l : ℕ) : ℕ → List Lexeme → Flagged Step → ℕ → Type 0 where
    loop_rule : (m n q : ℕ) (ts : List Lexeme) (e : Tree) (b : Steps) (v : Flagged Step) → IsArm l m ts e b n → v ≡ flagged (step_trees (while_step l e b)) (while_step l e b)
        → LoopRule l m (ts ++ word q (codes "end") ∷ []) v n

  abbrev LoopSeq : (l : ℕ) → Rule (Flagged Step)
  LoopSeq l = Seq (ArmRule l) (λ a. After (a_word (codes "end")) (IsSame (with_it (λ a. while_step l a.0 a.1) a)))

  loop_there : (l m : ℕ) (ts : List Lexeme) (v : Flagged Step) (n : ℕ) → LoopSeq l m ts v n → LoopRule l m ts v n
  loop_there l m all v n (seq m1 k1 n1 ts us a v1 (told m2 n2 ts2 a2 a3 x xq) (after m4 n4 q ts4 v4 (is_same m5 v5 w))) =
      loop_rule m2 m5 q ts2 a2.0 a2.1 v5 x (w ∙ (ap (with_it (λ a. while_step l a.0 a.1)) xq ∙ flagged_it (λ a. while_step l a.0 a.1) (arm_trees a2) a2))

  loop_back : (l m : ℕ) (ts : List Lexeme) (v : Flagged Step) (n : ℕ) → LoopRule l m ts v n → LoopSeq l m ts v n
  loop_back l m all v n (loop_rule m1 n1 q ts e b v1 x w) =
      seq m1 n1 n1 ts _ (flagged (arm_trees (e, b)) (e, b)) v1 (told m1 n1 ts (e, b) _ x refl) (after n1 n1 q [] v1 (is_same n1 v1 (w ∙ sym (flagged_it (λ a. while_step l a.0 a.1) (arm_trees (e, b)) (e, b)))))

  pub exact_looping : (l : ℕ) → Exact (LoopRule l) nothing (looping k d steps l)
  exact_looping l =
      exact_as (LoopSeq l) (LoopRule l)
      (exact_bind (arm k d steps l) _ (exact_arm l)
      (λ a. exact_word_then (codes "end") (pure (with_it (λ a. while_step l a.0 a.1) a)) (λ l. refl) (exact_gives nothing (with_it (λ a. while_step l a.0 a.1) a)))
      (λ a j us v n rest r h. end_first goes_steps _ (λ p. refl) j us v n rest r))
      (loop_there l) (loop_back l)

  -- for

  pub data CountRule (l : ℕ) : ℕ → List Lexeme → Flagged Step → ℕ → Type 0 where
    count_rule : (m i n p q r u : ℕ) (s : List ℕ) (ts us : List Lexeme) (e f : Tree) (b : Steps) (v : Flagged Step) → IsExpr l m ts e i → IsArm l i us f b n
        → v ≡ flagged (step_trees (for_step l s e f b)) (for_step l s e f b) → CountRule l m (name_token p s ∷ sign q (codes "=") ∷ (ts ++ sign r (codes ":") ∷ (us ++ word u (codes "end") ∷ []))) v n

  abbrev made_for : (l : ℕ) → List ℕ → Flagged Tree → Flagged (Tree × Steps) → Flagged Step
  made_for l s e a = with_both (λ e a. for_step l s e a.0 a.1) e a

  for_value : (l : ℕ) (s : List ℕ) (e : Tree) (a : Tree × Steps) → made_for l s (flagged (e ∷ []) e) (flagged (arm_trees a) a) ≡ flagged (step_trees (for_step l s e a.0 a.1)) (for_step l s e a.0 a.1)
  for_value l s e a = flagged_both (λ e a. for_step l s e a.0 a.1) (e ∷ []) (arm_trees a) e a

  abbrev CountSeq : (l : ℕ) → Rule (Flagged Step)
  CountSeq l = AfterName (λ s. After (a_sign (codes "=")) (Seq (ToldExpr l) (λ e. After (a_sign (codes ":")) (Seq (ArmRule l) (λ a. After (a_word (codes "end")) (IsSame (made_for l s e a)))))))

  count_there : (l m : ℕ) (ts : List Lexeme) (v : Flagged Step) (n : ℕ) → CountSeq l m ts v n → CountRule l m ts v n
  count_there l m all v n (after_name m0 n0 p s ts0 v0 (after m1 n1 q ts1 v1 (seq m2 k2 n2 ts2 us2 e v2 (told m3 n3 ts3 e3 e4 x xq) (after m5 n5 r ts5 v5 (seq m6 k6 n6 ts6 us6 a v6 (told m7 n7 ts7 a7 a8 y yq) (after m9 n9 u ts9 v9 (is_same m10 v10 w))))))) =
      count_rule m3 m5 m10 p q r u s ts3 ts7 e3 a7.0 a7.1 v10 x y (w ∙ (ap (λ z. made_for l s z a) xq ∙ (ap (λ z. made_for l s (flagged (e3 ∷ []) e3) z) yq ∙ for_value l s e3 a7)))

  count_back : (l m : ℕ) (ts : List Lexeme) (v : Flagged Step) (n : ℕ) → CountRule l m ts v n → CountSeq l m ts v n
  count_back l m ts v n (count_rule m1 i1 n1 p q r u s ts1 us e f b v1 x y w) =
      after_name m1 n1 p s _ v1 (after m1 n1 q _ v1 (seq m1 i1 n1 ts1 _ (flagged (e ∷ []) e) v1 (told m1 i1 ts1 e _ x refl) (after i1 n1 r _ v1 (seq i1 n1 n1 us _ (flagged (arm_trees (f, b)) (f, b)) v1 (told i1 n1 us (f, b) _ y refl)
      (after n1 n1 u [] v1 (is_same n1 v1 (w ∙ sym (for_value l s e (f, b)))))))))

  colon_first : {A : Type 0} (P : Rule A) (j : ℕ) (us : List Lexeme) (b : A) (n : ℕ) (rest : List Lexeme) → After (a_sign (codes ":")) P j us b n → front_is goes_expr (us ++ rest) ≡ false
  colon_first P j us b n rest (after m1 n1 p ts1 b1 r) = refl

  pub exact_counting : (l : ℕ) → Exact (CountRule l) nothing (counting k d steps l)
  exact_counting l =
      exact_as (CountSeq l) (CountRule l)
      (exact_name_then _ (λ s. exact_sign_then (codes "=") _ (λ l. refl) (exact_bind (expr_on k d l) _ (exact_expr_on k d l)
      (λ e. exact_sign_then (codes ":") _ (λ l. refl) (exact_bind (arm k d steps l) _ (exact_arm l)
      (λ a. exact_word_then (codes "end") (pure (made_for l s e a)) (λ l. refl) (exact_gives nothing (made_for l s e a)))
      (λ a j us v n rest r h. end_first goes_steps _ (λ p. refl) j us v n rest r)))
      (λ e j us v n rest r h. colon_first _ j us v n rest r))))
      (count_there l) (count_back l)
