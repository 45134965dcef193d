-- Functions are read exactly.
use Rattle.std.proofs.Common.{◌≡◌, ◌<◌, ℕ, suc, zero, ◌+◌, Bool, true, false, ◌&&◌, ◌||◌, not, List, [], ◌∷◌, ◌++◌, map, length, Option, Some, None, refl, sym, ap, ◌∙◌, subst, arith, append_assoc}
use Rattle.std.proofs.lemmas.List.{append-nil}
use Rattle.std.proofs.lemmas.Bool.{and_parts, and_from, true≢false, eq-eqb}
use Rattle.std.specs.Prelude.{codes, nat_eq, if◌then◌else◌, Result, Ok}
use Rattle.std.specs.List.{flat_map, list_any, list_all}
use Rattle.std.specs.Cmp.Lexicographic.{pointwise}
use Rattle.tall_grammar.specs.Lexemes.{Lexeme, sign, word, name_token, is_the_sign, is_the_word, is_separator, is_text}
use Rattle.tall_grammar.specs.Trees.{Tree, Step, Steps, no_steps, SeenFunction}
use Rattle.tall_grammar.specs.Views.{steps_of}
use Rattle.tall_grammar.specs.Refusals.{step_trees, steps_trees}
use Rattle.tall_grammar.specs.Grammar.{AreSeparators, first_line, AreSteps, without_steps, IsParameter, named, passed_over, AreFunctions, no_functions, next_function, function_name}
use Rattle.tall_value.specs.Names.{are_distinct}
use Rattle.tall_grammar.specs.Kept.{Flagged, flagged, with_it, and_last}
use Rattle.tall_grammar.specs.Readers.{input, ◌>>=◌, pure, front_is, is_name, take_as, expect_word, skip_separators}
use Rattle.tall_grammar.specs.ScriptReader.{on_line, separators, steps_within, parameter_of, parameter, parameters, new_name, routine, function_rest, functions_from}
use Rattle.tall_grammar.proofs.Exact.{Rule, Live, Exact}
use Rattle.tall_grammar.proofs.Combine.{IsTaken, is_taken, Seq, seq, Passes, passes, exact_as, exact_bind, exact_take}
use Rattle.tall_grammar.proofs.Signs.{sign_is, word_is, name_is, same_text, exact_expect}
use Rattle.tall_grammar.proofs.Lists.{nothing, none_of_nothing}
use Rattle.tall_grammar.proofs.Flags.{flagged_it}
use Rattle.tall_grammar.proofs.Lines.{SkipRule, skip_rule, exact_skip, SeparatorsRule, separators_rule, exact_separators, OnLine, on_line_is, Some_tokens}
use Rattle.tall_grammar.proofs.Tokens.{After, after, a_sign, a_word, exact_sign_then, exact_word_then, told}
use Rattle.tall_grammar.proofs.Extended.{IsSame, is_same, exact_gives, same_front, extended, extended_more, extended_none, trees_of_steps}
use Rattle.tall_grammar.proofs.Blocks.{goes_steps, many_there, many_back, StepsRule, steps_front}
use Rattle.tall_grammar.proofs.Stepwise.{exact_steps_within}
use Rattle.tall_grammar.proofs.Endings.{Ending, EndOr, at_the_end, before_it, AtEnd, end_as, end_tired, end_bind, end_or, end_on_line}

-- ---- parameters

parameter_there : (t : Lexeme) (a : Option (List ℕ)) → parameter_of t ≡ Some a → IsParameter t a
parameter_there t a h = (elim (is_name t) as (λ x. is_name t ≡ x → (if x then Some (Some t.text) else if is_the_sign (codes "~") t then Some None else None) ≡ Some a → IsParameter t a) [
  | true ↦ λ e h. let g : Some t.text ≡ a = cc in subst (λ (b : Option (List ℕ)). IsParameter t b) g (subst (λ (u : Lexeme). IsParameter u (Some t.text)) (sym (name_is t e)) (named t.line t.text))
  | false ↦ λ e h. (elim (is_the_sign (codes "~") t) as (λ x. is_the_sign (codes "~") t ≡ x → (if x then Some None else None) ≡ Some a → IsParameter t a) [
    | true ↦ λ f h. let g : None ≡ a = cc in subst (λ (b : Option (List ℕ)). IsParameter t b) g (subst (λ (u : Lexeme). IsParameter u None) (sym (sign_is (codes "~") t f)) (passed_over t.line))
    | false ↦ λ f h. absurd cc
  ]) refl h
]) refl h

parameter_back : (t : Lexeme) (a : Option (List ℕ)) → IsParameter t a → parameter_of t ≡ Some a
parameter_back t a (named p s) = refl
parameter_back t a (passed_over p) = refl

pub data ParamRule : ℕ → List Lexeme → Option (List ℕ) → ℕ → Type 0 where
  param_rule : (m : ℕ) (t : Lexeme) (a : Option (List ℕ)) → IsParameter t a → ParamRule m (t ∷ []) a m

exact_param : Exact ParamRule nothing parameter
exact_param = exact_as (IsTaken parameter_of) ParamRule (exact_take nothing parameter_of (name_token 1 []) (Some []) refl) there back where
  there : (m : ℕ) (ts : List Lexeme) (a : Option (List ℕ)) (n : ℕ) → IsTaken parameter_of m ts a n → ParamRule m ts a n
  there m ts a n (is_taken m1 t b h) = param_rule m1 t b (parameter_there t b h)

  back : (m : ℕ) (ts : List Lexeme) (a : Option (List ℕ)) (n : ℕ) → ParamRule m ts a n → IsTaken parameter_of m ts a n
  back m ts a n (param_rule m1 t b h) = is_taken m1 t b (parameter_back t b h)

pub data ParamsRule : ℕ → List Lexeme → List (Option (List ℕ)) → ℕ → Type 0 where
  params_rule : (m q r u v : ℕ) (t1 t2 t3 : Lexeme) (a b c : Option (List ℕ)) (ps : List (Option (List ℕ))) → IsParameter t1 a → IsParameter t2 b → IsParameter t3 c → ps ≡ a ∷ b ∷ c ∷ []
      → ParamsRule m (sign q (codes "(") ∷ t1 ∷ sign r (codes ",") ∷ t2 ∷ sign u (codes ",") ∷ t3 ∷ sign v (codes ")") ∷ []) ps m

abbrev ParamsSeq : Rule (List (Option (List ℕ)))
ParamsSeq = After (a_sign (codes "(")) (Seq ParamRule (λ a. After (a_sign (codes ",")) (Seq ParamRule (λ b. After (a_sign (codes ",")) (Seq ParamRule (λ c. After (a_sign (codes ")")) (IsSame (a ∷ b ∷ c ∷ []))))))))

exact_params : Exact ParamsRule nothing parameters
exact_params =
    exact_as ParamsSeq ParamsRule
    (exact_sign_then (codes "(") _ (λ l. refl) (exact_bind parameter _ exact_param
    (λ a. exact_sign_then (codes ",") _ (λ l. refl) (exact_bind parameter _ exact_param
    (λ b. exact_sign_then (codes ",") _ (λ l. refl) (exact_bind parameter _ exact_param
    (λ c. exact_sign_then (codes ")") (pure (a ∷ b ∷ c ∷ [])) (λ l. refl) (exact_gives nothing (a ∷ b ∷ c ∷ [])))
    (λ c j us v n rest r h. none_of_nothing (us ++ rest))))
    (λ b j us v n rest r h. none_of_nothing (us ++ rest))))
    (λ a j us v n rest r h. none_of_nothing (us ++ rest)))) there back where
      there : (m : ℕ) (ts : List Lexeme) (ps : List (Option (List ℕ))) (n : ℕ) → ParamsSeq m ts ps n → ParamsRule m ts ps n
      there m all ps n (after m1 n1 q ts1 ps1 (seq m2 k2 n2 ts2 us2 a ps2 (param_rule m3 t1 a3 x) (after m4 n4 r ts4 ps4 (seq m5 k5 n5 ts5 us5 b ps5 (param_rule m6 t2 b6 y) (after m7 n7 u ts7 ps7 (seq m8 k8 n8 ts8 us8 c ps8 (param_rule m9 t3 c9 z) (after m10 n10 v ts10 ps10 (is_same m11 ps11 e)))))))) =
          params_rule m11 q r u v t1 t2 t3 a3 b6 c9 ps11 x y z e

      back : (m : ℕ) (ts : List Lexeme) (ps : List (Option (List ℕ))) (n : ℕ) → ParamsRule m ts ps n → ParamsSeq m ts ps n
      back m ts ps n (params_rule m1 q r u v t1 t2 t3 a b c ps1 x y z e) =
          after m1 m1 q _ ps1 (seq m1 m1 m1 (t1 ∷ []) _ a ps1 (param_rule m1 t1 a x) (after m1 m1 r _ ps1 (seq m1 m1 m1 (t2 ∷ []) _ b ps1 (param_rule m1 t2 b y) (after m1 m1 u _ ps1 (seq m1 m1 m1 (t3 ∷ []) _ c ps1 (param_rule m1 t3 c z)
          (after m1 m1 v [] ps1 (is_same m1 ps1 e)))))))

-- ---- a function behind its name

pub data FunctionRule (l : ℕ) (s : List ℕ) : ℕ → List Lexeme → Flagged SeenFunction → ℕ → Type 0 where
  function_rule : (m n q r u v w : ℕ) (t1 t2 t3 sep : Lexeme) (a b c : Option (List ℕ)) (ps ts qs : List Lexeme) (body : Steps) (f : Flagged SeenFunction)
      → IsParameter t1 a → IsParameter t2 b → IsParameter t3 c → is_separator sep ≡ true → AreSeparators ps → AreSteps m ts body n → AreSeparators qs
      → f ≡ flagged (steps_trees body) (record { name = s; line = l; params = a ∷ b ∷ c ∷ []; body = body })
      → FunctionRule l s m (sign q (codes "(") ∷ t1 ∷ sign r (codes ",") ∷ t2 ∷ sign u (codes ",") ∷ t3 ∷ sign v (codes ")") ∷ sep ∷ (ps ++ (ts ++ word w (codes "end") ∷ qs))) f n

abbrev made_routine : (l : ℕ) (s : List ℕ) → List (Option (List ℕ)) → Flagged (List Step) → Flagged SeenFunction
made_routine l s params body = with_it (routine l s params) body

abbrev FunctionSeq : (l : ℕ) (s : List ℕ) → Rule (Flagged SeenFunction)
FunctionSeq l s = Seq ParamsRule (λ params. Seq SeparatorsRule (λ _. Seq StepsRule (λ body. After (a_word (codes "end")) (Seq SkipRule (λ _. IsSame (made_routine l s params body))))))

routine_value : (l : ℕ) (s : List ℕ) (params : List (Option (List ℕ))) (bs : List Step)
    → made_routine l s params (flagged (flat_map step_trees bs) bs) ≡ flagged (steps_trees (steps_of bs)) (record { name = s; line = l; params = params; body = steps_of bs })
routine_value l s params bs =
    flagged_it (routine l s params) (flat_map step_trees bs) bs
    ∙ ap (λ z. flagged z (routine l s params bs)) (sym (trees_of_steps bs))

function_there : (l : ℕ) (s : List ℕ) (m : ℕ) (ts : List Lexeme) (f : Flagged SeenFunction) (n : ℕ) → FunctionSeq l s m ts f n → FunctionRule l s m ts f n
function_there l s m all f n (seq m1 k1 n1 ts1 us1 params f1 (params_rule m2 q r u v t1 t2 t3 a b c ps2 x y z e) (seq m3 k3 n3 ts3 us3 shown f3 (separators_rule m4 sep ps h sp) (seq m5 k5 n5 ts5 us5 body f5 (told m6 n6 ts6 bs b6 d dq) (after m7 n7 w ts7 f7 (seq m8 k8 n8 ts8 us8 c8 f8 (skip_rule m9 qs sq) (is_same m10 f10 g)))))) =
    subst (λ (i : List Lexeme). FunctionRule l s m4 (sign q (codes "(") ∷ t1 ∷ sign r (codes ",") ∷ t2 ∷ sign u (codes ",") ∷ t3 ∷ sign v (codes ")") ∷ sep ∷ (ps ++ (ts6 ++ word w (codes "end") ∷ i))) f10 m10) (sym (append-nil qs))
    (function_rule m4 m10 q r u v w t1 t2 t3 sep a b c ps ts6 qs (steps_of bs) f10 x y z h sp (many_there m4 ts6 bs m10 d) sq
    (g ∙ (ap (λ i. made_routine l s i body) e ∙ (ap (made_routine l s (a ∷ b ∷ c ∷ [])) dq ∙ routine_value l s (a ∷ b ∷ c ∷ []) bs))))

function_back : (l : ℕ) (s : List ℕ) (m : ℕ) (ts : List Lexeme) (f : Flagged SeenFunction) (n : ℕ) → FunctionRule l s m ts f n → FunctionSeq l s m ts f n
function_back l s m ts f n (function_rule m1 n1 q r u v w t1 t2 t3 sep a b c ps ts1 qs body f1 x y z h sp d sq g) =
    let k = many_back m1 ts1 body n1 d in
    subst (λ (i : List Lexeme). FunctionSeq l s m1 (sign q (codes "(") ∷ t1 ∷ sign r (codes ",") ∷ t2 ∷ sign u (codes ",") ∷ t3 ∷ sign v (codes ")") ∷ sep ∷ (ps ++ (ts1 ++ word w (codes "end") ∷ i))) f1 n1) (append-nil qs)
    (seq m1 m1 n1 (sign q (codes "(") ∷ t1 ∷ sign r (codes ",") ∷ t2 ∷ sign u (codes ",") ∷ t3 ∷ sign v (codes ")") ∷ []) _ (a ∷ b ∷ c ∷ []) f1 (params_rule m1 q r u v t1 t2 t3 a b c _ x y z refl)
    (seq m1 m1 n1 (sep ∷ ps) _ _ f1 (separators_rule m1 sep ps h sp) (seq m1 n1 n1 ts1 _ (flagged (flat_map step_trees k.steps) k.steps) f1 (told m1 n1 ts1 k.steps _ k.holds refl)
    (after n1 n1 w _ f1 (seq n1 n1 n1 qs [] tt f1 (skip_rule n1 qs sq) (is_same n1 f1
    (g ∙ (ap (λ i. flagged (steps_trees i) (record { name = s; line = l; params = a ∷ b ∷ c ∷ []; body = i })) k.same ∙ sym (routine_value l s (a ∷ b ∷ c ∷ []) k.steps)))))))))

end_follow : (test : Lexeme → Bool) → ((p : ℕ) → test (word p (codes "end")) ≡ false) → {A : Type 0} (P : Rule A) (j : ℕ) (us : List Lexeme) (b : A) (n : ℕ) (rest : List Lexeme) → After (a_word (codes "end")) P j us b n → front_is test (us ++ rest) ≡ false
end_follow test f P j us b n rest (after m1 n1 p ts1 b1 r) = f p

not_separator : (bs : (p : ℕ) → goes_steps (word p (codes "end")) ≡ false) (p : ℕ) → is_separator (word p (codes "end")) ≡ false
not_separator bs p = refl

steps_follow : (l : ℕ) (s : List ℕ) (params : List (Option (List ℕ))) (j : ℕ) (us : List Lexeme) (b : Flagged SeenFunction) (n : ℕ) (rest : List Lexeme)
    → Seq StepsRule (λ body. After (a_word (codes "end")) (Seq SkipRule (λ _. IsSame (made_routine l s params body)))) j us b n → front_is is_separator (us ++ rest) ≡ false
steps_follow l s params j all b n rest (seq m1 k1 n1 ts us body b1 r y) =
    ap (front_is is_separator) (append_assoc ts us rest) ∙ steps_front m1 ts body k1 (us ++ rest) r (end_follow goes_steps (λ p. refl) _ k1 us b1 n1 rest y)

exact_function : (k d l : ℕ) (s : List ℕ) → Exact (FunctionRule l s) is_separator (function_rest k d l s)
exact_function k d l s =
    exact_as (FunctionSeq l s) (FunctionRule l s)
    (exact_bind parameters _ exact_params
    (λ params. exact_bind separators _ exact_separators
    (λ c. exact_bind (steps_within k d d) _ (exact_steps_within k d d)
    (λ body. exact_word_then (codes "end") _ (λ l. refl) (exact_bind skip_separators (λ _. pure (made_routine l s params body)) exact_skip (λ _. exact_gives is_separator (made_routine l s params body))
    (λ a j us b n rest r h. same_front is_separator _ j us b n rest r h)))
    (λ body j us b n rest r h. end_follow goes_steps (λ p. refl) _ j us b n rest r))
    (λ c j us b n rest r h. steps_follow l s params j us b n rest r))
    (λ params j us b n rest r h. none_of_nothing (us ++ rest)))
    (function_there l s) (function_back l s)

-- ---- names that no function has yet

same_is_text : (s : List ℕ) → is_text s s ≡ true
same_is_text [] = refl
same_is_text (x ∷ s) = and_from (nat_eq x x) (pointwise nat_eq s s) (eq-eqb x x refl) (same_is_text s)

either_order : (s t : List ℕ) → is_text s t ≡ is_text t s
either_order s t = (elim (is_text s t) as (λ b. is_text s t ≡ b → b ≡ is_text t s) [
  | true ↦ λ e. sym (ap (λ z. is_text t z) (same_text s t e) ∙ same_is_text t)
  | false ↦ λ e. (elim (is_text t s) as (λ c. is_text t s ≡ c → false ≡ c) [
    | true ↦ λ f. absurd (true≢false (sym (ap (λ z. is_text z t) (sym (same_text t s f)) ∙ same_is_text t) ∙ e))
    | false ↦ λ f. refl
  ]) refl
]) refl

abbrev total : List (List ℕ) → ℕ
total [] = 0
total (s ∷ ss) = suc (length s) + total ss

longer : (before : List (List ℕ)) (t : List ℕ) → total before < length t → list_any (is_text t) before ≡ false
longer [] t h = refl
longer (s ∷ ss) t h = (elim (is_text t s) as (λ b. is_text t s ≡ b → (b || list_any (is_text t) ss) ≡ false) [
  | true ↦ λ e. let g : length t ≡ length s = ap length (same_text t s e) in absurd (omega (arith, g, h))
  | false ↦ λ e. longer ss t (omega (arith, h))
]) refl

zeros : ℕ → List ℕ
zeros zero = []
zeros (suc n) = 0 ∷ zeros n

zeros_long : (n : ℕ) → length (zeros n) ≡ n
unfolding zeros
zeros_long zero = refl
zeros_long (suc n) = ap suc (zeros_long n)

-- a name that none before has
abbrev fresh_name : List (List ℕ) → List ℕ
fresh_name before = zeros (suc (total before))

is_fresh : (before : List (List ℕ)) → list_any (is_text (fresh_name before)) before ≡ false
is_fresh before = let e = zeros_long (suc (total before)) in longer before (fresh_name before) (omega (arith, e))

abbrev pub is_new : List (List ℕ) → List ℕ → Bool
is_new before s = not (list_any (is_text s) before)

new_there : (before : List (List ℕ)) (t : Lexeme) (s : List ℕ) → new_name before t ≡ Some s → (t ≡ name_token t.line s) × (is_new before s ≡ true)
new_there before t s h = (elim (is_name t && is_new before t.text) as (λ x. (is_name t && is_new before t.text) ≡ x → (if x then Some t.text else None) ≡ Some s → (t ≡ name_token t.line s) × (is_new before s ≡ true)) [
  | true ↦ λ e h. let p = and_parts (is_name t) (is_new before t.text) e in let g : t.text ≡ s = cc in
      (name_is t p.0 ∙ ap (λ (z : List ℕ). name_token t.line z) g, ap (is_new before) (sym g) ∙ p.1)
  | false ↦ λ e h. absurd cc
]) refl h

new_back : (before : List (List ℕ)) (p : ℕ) (s : List ℕ) → is_new before s ≡ true → new_name before (name_token p s) ≡ Some s
new_back before p s h = ap (λ x. if x then Some s else None) h

-- ---- { function }

abbrev pub routine_trees : SeenFunction → List Tree
routine_trees f = steps_trees f.body

-- the names are new, one after the other
abbrev pub all_new : List (List ℕ) → List SeenFunction → Bool
all_new before [] = true
all_new before (f ∷ fs) = is_new before f.name && all_new (f.name ∷ before) fs

pub data FunctionsRule (before : List (List ℕ)) (found : Flagged (List SeenFunction)) : ℕ → List Lexeme → Flagged (List SeenFunction) → ℕ → Type 0 where
  functions_rule : (m n : ℕ) (ts : List Lexeme) (fs : List SeenFunction) (v : Flagged (List SeenFunction)) → AreFunctions m ts fs n → all_new before fs ≡ true → v ≡ extended routine_trees found fs
      → FunctionsRule before found m ts v n

abbrev OneMore : (before : List (List ℕ)) (found : Flagged (List SeenFunction)) → ℕ → Rule (Flagged (List SeenFunction))
OneMore before found l = Seq (Passes (is_the_word (codes "function"))) (λ _. Seq (IsTaken (new_name before)) (λ s. Seq (FunctionRule l s) (λ f. FunctionsRule (s ∷ before) (and_last found f))))

abbrev NoMore : (found : Flagged (List SeenFunction)) → ℕ → Flagged (List SeenFunction) → ℕ → Type 0
NoMore found m v n = (v ≡ found) × (m ≡ n)

functions_first : (before : List (List ℕ)) (found : Flagged (List SeenFunction)) (test : Lexeme → Bool) → ((p : ℕ) → test (word p (codes "function")) ≡ false) → (m : ℕ) (ts : List Lexeme) (v : Flagged (List SeenFunction)) (n : ℕ)
    → FunctionsRule before found m ts v n → front_is test ts ≡ false
functions_first before found test f m ts v n (functions_rule m1 n1 ts1 fs v1 (no_functions m2) e q) = refl
functions_first before found test f m ts v n (functions_rule m1 n1 ts1 fs v1 (next_function l2 m2 k2 n2 p2 q2 r2 u2 v2 w2 s2 t1 t2 t3 sep a b c ps ts2 qs us body gs x y z h sp d sq g) e q) = f l2

more_there : (before : List (List ℕ)) (found : Flagged (List SeenFunction)) (m : ℕ) (ts : List Lexeme) (v : Flagged (List SeenFunction)) (n : ℕ) → EndOr (NoMore found) (OnLine (OneMore before found)) m ts v n → FunctionsRule before found m ts v n
more_there before found m ts v n (at_the_end m1 n1 v1 e) = subst (λ (z : ℕ). FunctionsRule before found m1 [] v1 z) e.1 (functions_rule m1 m1 [] [] v1 (no_functions m1) refl (e.0 ∙ sym (extended_none routine_trees found)))
more_there before found m ts v n (before_it m1 n1 t ts1 v1 r) = on_a_line m1 (t ∷ ts1) v1 n1 r where
  at_line : (l m : ℕ) (ts : List Lexeme) (v : Flagged (List SeenFunction)) (n : ℕ) → OneMore before found l m ts v n → first_line ts ≡ Some l → FunctionsRule before found m ts v n
  at_line l m all v n (seq m1 k1 n1 ts1 us1 c1 v1 (passes m2 t h) (seq m3 k3 n3 ts3 us3 s v3 (is_taken m4 t4 s4 g) (seq m5 k5 n5 ts5 us5 f v5 (function_rule m6 n6 q r u v6 w t1 t2 t3 sep a b c ps ts6 qs body f6 x y z hs sp d sq fq) (functions_rule m7 n7 ts7 fs v7 fr en vq)))) e =
      let p = new_there before t4 s4 g in
      let le : t.line ≡ l = cc in
      subst (λ (i : Lexeme). FunctionsRule before found m6 (i ∷ t4 ∷ (sign q (codes "(") ∷ t1 ∷ sign r (codes ",") ∷ t2 ∷ sign u (codes ",") ∷ t3 ∷ sign v6 (codes ")") ∷ sep ∷ ((ps ++ (ts6 ++ word w (codes "end") ∷ qs)) ++ ts7))) v7 n7)
      (sym (word_is (codes "function") t h ∙ ap (λ i. word i (codes "function")) le))
      (subst (λ (i : Lexeme). FunctionsRule before found m6 (word l (codes "function") ∷ i ∷ (sign q (codes "(") ∷ t1 ∷ sign r (codes ",") ∷ t2 ∷ sign u (codes ",") ∷ t3 ∷ sign v6 (codes ")") ∷ sep ∷ ((ps ++ (ts6 ++ word w (codes "end") ∷ qs)) ++ ts7))) v7 n7) (sym p.0)
      (subst (λ (i : List Lexeme). FunctionsRule before found m6 (word l (codes "function") ∷ name_token t4.line s4 ∷ (sign q (codes "(") ∷ t1 ∷ sign r (codes ",") ∷ t2 ∷ sign u (codes ",") ∷ t3 ∷ sign v6 (codes ")") ∷ sep ∷ i)) v7 n7)
      (sym (append_assoc ps (ts6 ++ word w (codes "end") ∷ qs) ts7 ∙ ap (λ i. ps ++ i) (append_assoc ts6 (word w (codes "end") ∷ qs) ts7)))
      (functions_rule m6 n7 _ (record { name = s4; line = l; params = a ∷ b ∷ c ∷ []; body = body } ∷ fs) v7
      (next_function l m6 n6 n7 t4.line q r u v6 w s4 t1 t2 t3 sep a b c ps ts6 qs ts7 body fs x y z hs sp d sq fr)
      (and_from (is_new before s4) _ p.1 en)
      (vq ∙ (ap (λ i. extended routine_trees (and_last found i) fs) fq ∙ extended_more routine_trees found (record { name = s4; line = l; params = a ∷ b ∷ c ∷ []; body = body }) fs)))))

  on_a_line : (m : ℕ) (ts : List Lexeme) (v : Flagged (List SeenFunction)) (n : ℕ) → OnLine (OneMore before found) m ts v n → FunctionsRule before found m ts v n
  on_a_line m ts v n (on_line_is l m1 n1 ts1 v1 r e) = at_line l m1 ts1 v1 n1 r e

more_back : (before : List (List ℕ)) (found : Flagged (List SeenFunction)) (m : ℕ) (ts : List Lexeme) (v : Flagged (List SeenFunction)) (n : ℕ) → FunctionsRule before found m ts v n → EndOr (NoMore found) (OnLine (OneMore before found)) m ts v n
more_back before found m ts v n (functions_rule m1 n1 ts1 fs v1 (no_functions m2) e q) = at_the_end m2 m2 v1 (q ∙ extended_none routine_trees found, refl)
more_back before found m ts v n (functions_rule m1 n1 ts1 fs v1 (next_function l m2 k2 n2 p q r u w6 w s t1 t2 t3 sep a b c ps ts2 qs us body gs x y z h sp d sq fr) e vq) =
    let en = and_parts (is_new before s) (all_new (s ∷ before) gs) e in
    before_it m2 n2 (word l (codes "function")) _ v1 (on_line_is l m2 n2 _ v1
    (seq m2 m2 n2 (word l (codes "function") ∷ []) _ tt v1 (passes m2 (word l (codes "function")) refl)
    (seq m2 m2 n2 (name_token p s ∷ []) _ s v1 (is_taken m2 (name_token p s) s (new_back before p s en.0))
    (subst (λ (i : List Lexeme). Seq (FunctionRule l s) (λ f. FunctionsRule (s ∷ before) (and_last found f)) m2 (sign q (codes "(") ∷ t1 ∷ sign r (codes ",") ∷ t2 ∷ sign u (codes ",") ∷ t3 ∷ sign w6 (codes ")") ∷ sep ∷ i) v1 n2)
    (append_assoc ps (ts2 ++ word w (codes "end") ∷ qs) us ∙ ap (λ i. ps ++ i) (append_assoc ts2 (word w (codes "end") ∷ qs) us))
    (seq m2 k2 n2 (sign q (codes "(") ∷ t1 ∷ sign r (codes ",") ∷ t2 ∷ sign u (codes ",") ∷ t3 ∷ sign w6 (codes ")") ∷ sep ∷ (ps ++ (ts2 ++ word w (codes "end") ∷ qs))) us (flagged (steps_trees body) (record { name = s; line = l; params = a ∷ b ∷ c ∷ []; body = body })) v1
    (function_rule m2 k2 q r u w6 w t1 t2 t3 sep a b c ps ts2 qs body _ x y z h sp d sq refl)
    (functions_rule k2 n2 us gs v1 fr en.1 (vq ∙ sym (extended_more routine_trees found (record { name = s; line = l; params = a ∷ b ∷ c ∷ []; body = body }) gs)))))))
    refl)

found_at_end : (found : Flagged (List SeenFunction)) → AtEnd (NoMore found) (pure found)
found_at_end found = record {
  found = λ m a j h. let e = ok_value (found, input [] m) (a, j) h in (ap (λ q. q.1.rest) (sym e), (ap (λ q. q.0) (sym e), ap (λ q. q.1.next) e));
  no_stop = λ m k h. absurd cc;
  only = λ m a n e. ap (λ z. (z, input [] m)) (sym e.0) ∙ ap (λ z. (a, input [] z)) e.1;
} where
  ok_value : {X E : Type 0} (x y : X) → ◌≡◌ {A = Result X E} (Ok x) (Ok y) → x ≡ y
  ok_value x y h = cc

one_more_tokens : (before : List (List ℕ)) (found : Flagged (List SeenFunction)) (l m : ℕ) (ts : List Lexeme) (v : Flagged (List SeenFunction)) (n : ℕ) → OneMore before found l m ts v n → Some_tokens ts
one_more_tokens before found l m all v n (seq m1 k1 n1 ts us c v1 (passes m2 t h) r) = record { token = t; others = us; text = refl }

never_none : (before : List (List ℕ)) (found : Flagged (List SeenFunction)) (m : ℕ) (v : Flagged (List SeenFunction)) (n : ℕ) → OnLine (OneMore before found) m [] v n → ⊥
never_none before found m v n r = by [] r refl where
  by : (ts : List Lexeme) → OnLine (OneMore before found) m ts v n → ts ≡ [] → ⊥
  by ts (on_line_is l m1 n1 ts1 v1 x e) q = let t = one_more_tokens before found l m1 ts1 v1 n1 x in let g : [] ≡ t.token ∷ t.others = sym q ∙ t.text in absurd cc

live_function : (before : List (List ℕ)) (found : Flagged (List SeenFunction)) (m : ℕ) → Live (OnLine (OneMore before found)) m
live_function before found m = record {
  tokens = word 1 (codes "function") ∷ name_token 1 (fresh_name before) ∷ sign 1 (codes "(") ∷ name_token 1 [] ∷ sign 1 (codes ",") ∷ name_token 1 [] ∷ sign 1 (codes ",") ∷ name_token 1 [] ∷ sign 1 (codes ")") ∷ sign 1 (codes ";") ∷ word 1 (codes "end") ∷ [];
  value = _;
  next = m;
  holds = on_line_is 1 m m _ _ (seq m m m (word 1 (codes "function") ∷ []) _ tt _ (passes m (word 1 (codes "function")) refl)
      (seq m m m (name_token 1 (fresh_name before) ∷ []) _ (fresh_name before) _ (is_taken m (name_token 1 (fresh_name before)) (fresh_name before) (new_back before 1 (fresh_name before) (ap not (is_fresh before))))
      (seq m m m _ [] (flagged [] (record { name = fresh_name before; line = 1; params = Some [] ∷ Some [] ∷ Some [] ∷ []; body = no_steps })) _
      (function_rule m m 1 1 1 1 1 (name_token 1 []) (name_token 1 []) (name_token 1 []) (sign 1 (codes ";")) (Some []) (Some []) (Some []) [] [] [] no_steps _ (named 1 []) (named 1 []) (named 1 []) refl refl (without_steps m) refl refl)
      (functions_rule m m [] [] _ (no_functions m) refl refl)))) refl;
}

pub exact_functions : (k d n : ℕ) (before : List (List ℕ)) (found : Flagged (List SeenFunction)) → Ending (FunctionsRule before found) (functions_from k d n before found)
unfolding functions_from
exact_functions k d zero before found = end_tired (FunctionsRule before found) (λ m. record { tokens = []; value = found; next = m; holds = functions_rule m m [] [] found (no_functions m) refl (sym (extended_none routine_trees found)) }) _ (λ i. refl)
exact_functions k d (suc n) before found =
    end_as (EndOr (NoMore found) (OnLine (OneMore before found))) (FunctionsRule before found)
    (end_or (pure found) (on_line (λ l. expect_word (codes "function") >>= (λ _. take_as (new_name before) >>= (λ s. function_rest k d l s >>= (λ f. functions_from k d n (s ∷ before) (and_last found f))))))
    (λ m. record { tokens = []; value = found; next = m; holds = at_the_end m m found (refl, refl) }) (found_at_end found)
    (end_on_line (λ l. expect_word (codes "function") >>= (λ _. take_as (new_name before) >>= (λ s. function_rest k d l s >>= (λ f. functions_from k d n (s ∷ before) (and_last found f)))))
    (λ l. end_bind (expect_word (codes "function")) _ (exact_expect nothing (is_the_word (codes "function")) (word 1 (codes "function")) refl)
    (λ _. end_bind (take_as (new_name before)) _ (exact_take nothing (new_name before) (name_token 1 (fresh_name before)) (fresh_name before) (new_back before 1 (fresh_name before) (ap not (is_fresh before))))
    (λ s. end_bind (function_rest k d l s) (λ f. functions_from k d n (s ∷ before) (and_last found f)) (exact_function k d l s) (λ f. exact_functions k d n (s ∷ before) (and_last found f))
    (λ f j us v i r. functions_first (s ∷ before) (and_last found f) is_separator (λ p. refl) j us v i r))
    (λ s j us v i r. nothing_there us))
    (λ c j us v i r. nothing_there us))
    (one_more_tokens before found) (live_function before found))
    (never_none before found))
    (more_there before found) (more_back before found) where
      nothing_there : (us : List Lexeme) → front_is nothing us ≡ false
      nothing_there [] = refl
      nothing_there (u ∷ us) = refl

-- ---- names that are new, and names that are distinct

new_of_both : (s : List ℕ) (before ss : List (List ℕ)) → list_all (λ u. is_new (s ∷ before) u) ss ≡ true → (list_any (is_text s) ss ≡ false) × (list_all (λ u. is_new before u) ss ≡ true)
new_of_both s before [] h = (refl, refl)
new_of_both s before (u ∷ ss) h =
    let p = and_parts (is_new (s ∷ before) u) (list_all (λ u. is_new (s ∷ before) u) ss) h in
    let q = new_of_both s before ss p.1 in
    let r = no_or (is_text u s) (list_any (is_text u) before) p.0 in
    (or_no (is_text s u) (list_any (is_text s) ss) (either_order s u ∙ r.0) q.0, and_from (is_new before u) _ (ap not r.1) q.1) where
      no_or : (a b : Bool) → not (a || b) ≡ true → (a ≡ false) × (b ≡ false)
      no_or true b h = absurd (true≢false (sym h))
      no_or false true h = absurd (true≢false (sym h))
      no_or false false h = (refl, refl)

      or_no : (a b : Bool) → a ≡ false → b ≡ false → (a || b) ≡ false
      or_no true b h g = absurd (true≢false h)
      or_no false b h g = g

both_of_new : (s : List ℕ) (before ss : List (List ℕ)) → list_any (is_text s) ss ≡ false → list_all (λ u. is_new before u) ss ≡ true → list_all (λ u. is_new (s ∷ before) u) ss ≡ true
both_of_new s before [] h g = refl
both_of_new s before (u ∷ ss) h g =
    let p = and_parts (is_new before u) (list_all (λ u. is_new before u) ss) g in
    let r = or_parts (is_text s u) (list_any (is_text s) ss) h in
    and_from (is_new (s ∷ before) u) _ (not_or (is_text u s) (list_any (is_text u) before) (either_order u s ∙ r.0) p.0) (both_of_new s before ss r.1 p.1) where
      or_parts : (a b : Bool) → (a || b) ≡ false → (a ≡ false) × (b ≡ false)
      or_parts true b h = absurd (true≢false h)
      or_parts false b h = (refl, h)

      not_or : (a b : Bool) → a ≡ false → not b ≡ true → not (a || b) ≡ true
      not_or true b h g = absurd (true≢false h)
      not_or false b h g = g

new_distinct : (before : List (List ℕ)) (fs : List SeenFunction) → all_new before fs ≡ true → (are_distinct (map function_name fs) ≡ true) × (list_all (λ u. is_new before u) (map function_name fs) ≡ true)
new_distinct before [] h = (refl, refl)
new_distinct before (f ∷ fs) h =
    let p = and_parts (is_new before f.name) (all_new (f.name ∷ before) fs) h in
    let q = new_distinct (f.name ∷ before) fs p.1 in
    let r = new_of_both f.name before (map function_name fs) q.1 in
    (and_from (not (list_any (is_text f.name) (map function_name fs))) _ (ap not r.0) q.0, and_from (is_new before f.name) _ p.0 r.1)

distinct_new : (before : List (List ℕ)) (fs : List SeenFunction) → are_distinct (map function_name fs) ≡ true → list_all (λ u. is_new before u) (map function_name fs) ≡ true → all_new before fs ≡ true
distinct_new before [] h g = refl
distinct_new before (f ∷ fs) h g =
    let p = and_parts (not (list_any (is_text f.name) (map function_name fs))) _ h in
    let q = and_parts (is_new before f.name) _ g in
    and_from (is_new before f.name) _ q.0 (distinct_new (f.name ∷ before) fs p.1 (both_of_new f.name before (map function_name fs) (no_not _ p.0) q.1)) where
      no_not : (a : Bool) → not a ≡ true → a ≡ false
      no_not true h = absurd (true≢false (sym h))
      no_not false h = refl

all_new_first : (ss : List (List ℕ)) → list_all (λ u. is_new [] u) ss ≡ true
all_new_first [] = refl
all_new_first (s ∷ ss) = all_new_first ss

pub distinct_is_new : (fs : List SeenFunction) → are_distinct (map function_name fs) ≡ true → all_new [] fs ≡ true
distinct_is_new fs h = distinct_new [] fs h (all_new_first (map function_name fs))

pub new_is_distinct : (fs : List SeenFunction) → all_new [] fs ≡ true → are_distinct (map function_name fs) ≡ true
new_is_distinct fs h = (new_distinct [] fs h).0
