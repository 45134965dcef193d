-- Scripts are read exactly.
use Rattle.std.proofs.Common.{◌≡◌, ℕ, suc, zero, Bool, true, false, List, [], ◌∷◌, ◌++◌, Option, Some, refl, sym, ap, ◌∙◌, subst}
use Rattle.std.proofs.lemmas.List.{append-nil}
use Rattle.std.specs.Prelude.{codes, if◌then◌else◌, Ok, Err}
use Rattle.tall_grammar.specs.declared.faults.Fault.TheVariants.{OutOfTurns}
use Rattle.tall_grammar.specs.Lexemes.{Lexeme, sign, word, name_token, is_the_word, is_separator, shows}
use Rattle.tall_grammar.specs.Trees.{Tree, Body, assigned, gathered, property, bare, SeenStatement, SeenFunction, SeenScript}
use Rattle.tall_grammar.specs.Refusals.{body_trees}
use Rattle.tall_grammar.specs.Grammar.{AreSeparators, first_line, IsBody, name_body, gather_body, property_body, bare_body, AreFunctions, no_functions, next_function}
use Rattle.tall_grammar.specs.Kept.{Flagged, flagged, with_it, with_both, and_last}
use Rattle.tall_grammar.specs.Readers.{Input, input, Outcome, Reader, and_then, ◌>>=◌, pure, front_is, skip_separators}
use Rattle.tall_grammar.specs.ScriptReader.{on_line, at_end, ends_statements, separators, ended, entry_of, body, statement, statements_from, functions_from, program_of_parts, program}
use Rattle.tall_grammar.proofs.Exact.{Rule, Live, IsRead}
use Rattle.tall_grammar.proofs.Combine.{Seq, seq, Either, one, other}
use Rattle.tall_grammar.proofs.Firsts.{NoExpr, First, first_of_expr}
use Rattle.tall_grammar.proofs.Levels.{a_name_alone}
use Rattle.tall_grammar.proofs.Lines.{SkipRule, exact_skip, SeparatorsRule, separators_rule, exact_separators, OnLine, on_line_is, Some_tokens}
use Rattle.tall_grammar.proofs.Tokens.{after, after_name, Told, told, itself}
use Rattle.tall_grammar.proofs.Bodies.{gather_args, some_names}
use Rattle.tall_grammar.proofs.Forms.{RawBody, raw_assignment, raw_property, raw_targets, raw_bare, goes_body, exact_body}
use Rattle.tall_grammar.proofs.Signs.{prefix_is, given_among}
use Rattle.tall_grammar.proofs.Flags.{flagged_it}
use Rattle.tall_grammar.proofs.Extended.{extended}
use Rattle.tall_grammar.proofs.Blocks.{no_separator}
use Rattle.tall_grammar.proofs.Routines.{FunctionsRule, functions_rule, all_new, routine_trees, exact_functions}
use Rattle.tall_grammar.proofs.Endings.{Ending, EndOr, at_the_end, before_it, AtEnd, Made, made, end_as, end_same, end_tired, end_bind, end_made, end_choice, end_or, end_on_line}

-- ---- the forms, on the line of their first token

abbrev pub BodyRule : ℕ → Rule (Flagged Body)
BodyRule l = Told (IsBody l) body_trees itself

same_line : (p l : ℕ) → ◌≡◌ {A = Option ℕ} (Some p) (Some l) → p ≡ l
same_line p l h = cc

body_there : (l m : ℕ) (ts : List Lexeme) (b : Flagged Body) (n : ℕ) → RawBody l m ts b n → first_line ts ≡ Some l → BodyRule l m ts b n
body_there l m ts b n (raw_assignment m1 n1 ts1 b1 (after_name m2 n2 p s ts2 b2 (after m3 n3 q ts3 b3 (told m4 n4 ts4 e b4 r v)))) h =
    told m4 n4 _ (assigned s e) b4 (subst (λ (z : ℕ). IsBody l m4 (name_token z s ∷ sign q (codes "=") ∷ ts4) (assigned s e) n4) (sym (same_line p l h)) (name_body l m4 n4 q s ts4 e r)) v
body_there l m ts b n (raw_property m1 n1 ts1 b1 (after_name m2 n2 p s ts2 b2 (after m3 n3 q ts3 b3 (after_name m4 n4 u t ts4 b4 (after m5 n5 w ts5 b5 (told m6 n6 ts6 e b6 r v)))))) h =
    told m6 n6 _ (property s t e) b6 (subst (λ (z : ℕ). IsBody l m6 (name_token z s ∷ sign q (codes ".") ∷ name_token u t ∷ sign w (codes "=") ∷ ts6) (property s t e) n6) (sym (same_line p l h)) (property_body l m6 n6 q u w s t ts6 e r)) v
body_there l m ts b n (raw_targets m1 n1 ts1 b1 (after m2 n2 p ts2 b2 (seq m3 k3 n3 ts3 us3 ss b3 (some_names m4 q s ts4 ss4 a) (after m5 n5 r5 ts5 b5 (after m6 n6 r6 ts6 b6 (after m7 n7 r7 ts7 b7 (after m8 n8 r8 ts8 b8 (gather_args m9 n9 r9 ts9 args b9 x v)))))))) h =
    told m9 n9 _ (gathered (s ∷ ss4) args) b9 (subst (λ (z : ℕ). IsBody l m9 (sign z (codes "[") ∷ name_token q s ∷ (ts4 ++ sign r5 (codes "]") ∷ sign r6 (codes "=") ∷ name_token r7 (codes "gather") ∷ sign r8 (codes "(") ∷ (ts9 ++ sign r9 (codes ")") ∷ []))) (gathered (s ∷ ss4) args) n9)
    (sym (same_line p l h)) (gather_body l m9 n9 q r5 r6 r7 r8 r9 s ts4 ts9 ss4 args a x)) v
body_there l m ts b n (raw_bare m1 n1 ts1 b1 (told m2 n2 ts2 e b2 r v)) h = told m2 n2 ts2 (bare e) b2 (bare_body l m2 n2 ts2 e r h) v

body_back : (l m : ℕ) (ts : List Lexeme) (b : Flagged Body) (n : ℕ) → BodyRule l m ts b n → RawBody l m ts b n
body_back l m ts b n (told m1 n1 ts1 a b1 (name_body l2 m2 n2 p s ts2 e r) v) = raw_assignment m2 n2 _ b1 (after_name m2 n2 l2 s _ b1 (after m2 n2 p ts2 b1 (told m2 n2 ts2 e b1 r v)))
body_back l m ts b n (told m1 n1 ts1 a b1 (gather_body l2 m2 n2 p q r u w x s ts2 us ss args d g) v) =
    raw_targets m2 n2 _ b1 (after m2 n2 l2 _ b1 (seq m2 m2 n2 (name_token p s ∷ ts2) _ (s ∷ ss) b1 (some_names m2 p s ts2 ss d) (after m2 n2 q _ b1 (after m2 n2 r _ b1 (after m2 n2 u _ b1 (after m2 n2 w _ b1 (gather_args m2 n2 x us args b1 g v)))))))
body_back l m ts b n (told m1 n1 ts1 a b1 (property_body l2 m2 n2 p q r s t ts2 e x) v) = raw_property m2 n2 _ b1 (after_name m2 n2 l2 s _ b1 (after m2 n2 p _ b1 (after_name m2 n2 q t _ b1 (after m2 n2 r ts2 b1 (told m2 n2 ts2 e b1 x v)))))
body_back l m ts b n (told m1 n1 ts1 a b1 (bare_body l2 m2 n2 ts2 e r h) v) = raw_bare m2 n2 ts2 b1 (told m2 n2 ts2 e b1 r v)

body_line : (l m : ℕ) (ts : List Lexeme) (b : Body) (n : ℕ) → IsBody l m ts b n → first_line ts ≡ Some l
body_line l m ts b n (name_body l2 m2 n2 p s ts2 e r) = refl
body_line l m ts b n (gather_body l2 m2 n2 p q r u w x s ts2 us ss args d g) = refl
body_line l m ts b n (property_body l2 m2 n2 p q r s t ts2 e x) = refl
body_line l m ts b n (bare_body l2 m2 n2 ts2 e r h) = h

-- a statement begins with none of these tokens
record NoBody (test : Lexeme → Bool) : Type 0 where
  exprs : NoExpr test
  brackets : (p : ℕ) → test (sign p (codes "[")) ≡ false

raw_first : (test : Lexeme → Bool) → NoExpr test → (l m : ℕ) (ts : List Lexeme) (b : Flagged Body) (n : ℕ) → RawBody l m ts b n → First test ts
raw_first test free l m ts b n (raw_assignment m1 n1 ts1 b1 (after_name m2 n2 p s ts2 b2 r)) = record { token = name_token p s; others = ts2; text = refl; fails = free.operand.names p s }
raw_first test free l m ts b n (raw_property m1 n1 ts1 b1 (after_name m2 n2 p s ts2 b2 r)) = record { token = name_token p s; others = ts2; text = refl; fails = free.operand.names p s }
raw_first test free l m ts b n (raw_targets m1 n1 ts1 b1 (after m2 n2 p ts2 b2 r)) = record { token = sign p (codes "["); others = ts2; text = refl; fails = free.operand.bracket p }
raw_first test free l m ts b n (raw_bare m1 n1 ts1 b1 (told m2 n2 ts2 e b2 r v)) = first_of_expr test free l m2 ts2 e n2 r

no_function_word : NoExpr (is_the_word (codes "function"))
no_function_word = record { operand = record { numbers = λ p s. refl; texts = λ p s. refl; names = λ p s. refl; paren = λ p. refl; brace = λ p. refl; bracket = λ p. refl; at_sign = λ p. refl }; prefixes = λ p s o h. refl }

no_separator_first : NoExpr is_separator
no_separator_first = record {
  operand = record { numbers = λ p s. refl; texts = λ p s. refl; names = λ p s. refl; paren = λ p. refl; brace = λ p. refl; bracket = λ p. refl; at_sign = λ p. refl };
  prefixes = λ p t o h. given_among is_separator false 1 _ t (prefix_is t o h) (refl, (refl, (refl, tt)));
}

-- ---- from the statements that were found on

abbrev pub entry_trees : SeenStatement → List Tree
entry_trees e = body_trees e.form

abbrev last_of : Flagged (List SeenStatement) → ℕ → Body → Flagged SeenScript
last_of found l b = with_both program_of_parts (and_last found (flagged (body_trees b) (entry_of l true b))) (Ok [])

pub data ProgramFrom : Flagged (List SeenStatement) → ℕ → List Lexeme → Flagged SeenScript → ℕ → Type 0 where
  p_functions : (found : Flagged (List SeenStatement)) (m n : ℕ) (ts : List Lexeme) (fs : List SeenFunction) (v : Flagged SeenScript) → AreFunctions m ts fs n → all_new [] fs ≡ true
      → v ≡ with_both program_of_parts found (extended routine_trees (Ok []) fs) → ProgramFrom found m ts v n
  p_last : (found : Flagged (List SeenStatement)) (l m n : ℕ) (ts : List Lexeme) (b : Body) (v : Flagged SeenScript) → IsBody l m ts b n
      → v ≡ with_both program_of_parts (and_last found (flagged (body_trees b) (entry_of l true b))) (Ok []) → ProgramFrom found m ts v n
  p_next : (found : Flagged (List SeenStatement)) (l m k n : ℕ) (ts ps us : List Lexeme) (p : Lexeme) (b : Body) (v : Flagged SeenScript) → IsBody l m ts b k → is_separator p ≡ true → AreSeparators ps
      → ProgramFrom (and_last found (flagged (body_trees b) (entry_of l (shows p) b))) k us v n → ProgramFrom found m (ts ++ p ∷ (ps ++ us)) v n

module _ (k d : ℕ) where
  abbrev rest_of : Flagged (List SeenStatement) → Reader (Flagged SeenScript)
  rest_of bs = functions_from k d k [] (Ok []) >>= (λ fs. pure (with_both program_of_parts bs fs))

  abbrev whole_from : ℕ → Flagged (List SeenStatement) → Reader (Flagged SeenScript)
  whole_from n found = statements_from k d n found >>= rest_of

  abbrev RestRule : Flagged (List SeenStatement) → Rule (Flagged SeenScript)
  RestRule bs = Made (FunctionsRule [] (Ok [])) (λ fs. with_both program_of_parts bs fs)

  end_rest : (bs : Flagged (List SeenStatement)) → Ending (RestRule bs) (rest_of bs)
  end_rest bs = end_made (λ fs. with_both program_of_parts bs fs) (functions_from k d k [] (Ok [])) (exact_functions k d k [] (Ok []))

  -- behind a statement's form

  abbrev next_of : ℕ → Flagged (List SeenStatement) → ℕ → Flagged Body → Bool → Flagged (List SeenStatement)
  next_of n found l b shown = and_last found (with_it (entry_of l shown) b)

  abbrev behind_body : ℕ → Flagged (List SeenStatement) → ℕ → Flagged Body → Reader (Flagged SeenScript)
  behind_body n found l b = λ i. if at_end i.rest then whole_from n (next_of n found l b true) i else (separators >>= (λ shown. whole_from n (next_of n found l b shown))) i

  abbrev one_statement : ℕ → Flagged (List SeenStatement) → Reader (Flagged SeenScript)
  one_statement n found = on_line (λ l. body k d l >>= (λ b. behind_body n found l b))

  unrolled : (n : ℕ) (found : Flagged (List SeenStatement)) (ts : List Lexeme) (m : ℕ)
      → whole_from (suc n) found (input ts m) ≡ (if ends_statements ts then rest_of found (input ts m) else one_statement n found (input ts m))
  unfolding statements_from
  unrolled n found ts m = by (ends_statements ts) where
    behind : (l : ℕ) (b : Flagged Body) (j : Input) (c : Bool) (o : Outcome Bool)
        → and_then (and_then (and_then (if c then Ok (true, j) else o) (λ shown. pure (with_it (entry_of l shown) b))) (λ e. statements_from k d n (and_last found e))) rest_of
        ≡ (if c then whole_from n (next_of n found l b true) j else and_then o (λ shown. whole_from n (next_of n found l b shown)))
    behind l b j true o = refl
    behind l b j false (Ok p) = refl
    behind l b j false (Err e) = refl

    of_body : (l : ℕ) (o : Outcome (Flagged Body))
        → and_then (and_then (and_then o (λ b. ended >>= (λ shown. pure (with_it (entry_of l shown) b)))) (λ e. statements_from k d n (and_last found e))) rest_of ≡ and_then o (λ b. behind_body n found l b)
    of_body l (Ok p) = behind l p.0 p.1 (at_end p.1.rest) (separators p.1)
    of_body l (Err e) = refl

    by : (c : Bool) → and_then (if c then Ok (found, input ts m) else (on_line (statement k d) >>= (λ b. statements_from k d n (and_last found b))) (input ts m)) rest_of ≡ (if c then rest_of found (input ts m) else one_statement n found (input ts m))
    by true = refl
    by false = of_body _ (body k d _ (input ts m))

  -- the end of the text

  abbrev IsNothing : Flagged (List SeenStatement) → ℕ → Flagged SeenScript → ℕ → Type 0
  IsNothing found m v n = (v ≡ with_both program_of_parts found (Ok [])) × (m ≡ n)

  at_nothing : (n : ℕ) (found : Flagged (List SeenStatement)) (m : ℕ) → IsRead (whole_from n found (input [] m)) (with_both program_of_parts found (Ok [])) (input [] m)
  unfolding statements_from functions_from
  at_nothing zero found m = tt
  at_nothing (suc n) found m = by k where
    by : (i : ℕ) → IsRead (and_then (functions_from k d i [] (Ok []) (input [] m)) (λ fs. pure (with_both program_of_parts found fs))) (with_both program_of_parts found (Ok [])) (input [] m)
    by zero = tt
    by (suc i) = refl

  nothing_ends : (n : ℕ) (found : Flagged (List SeenStatement)) → AtEnd (IsNothing found) (whole_from n found)
  nothing_ends n found = record {
    found = λ m a j h. let e = subst (λ (o : _). IsRead o (with_both program_of_parts found (Ok [])) (input [] m)) h (at_nothing n found m) in (ap (λ q. q.1.rest) e, (ap (λ q. q.0) e, ap (λ q. q.1.next) (sym e)));
    no_stop = λ m i h. subst (λ (o : _). IsRead o (with_both program_of_parts found (Ok [])) (input [] m)) h (at_nothing n found m);
    only = λ m a i e. subst (λ (z : ℕ). IsRead (whole_from n found (input [] m)) a (input [] z)) e.1 (subst (λ (z : Flagged SeenScript). IsRead (whole_from n found (input [] m)) z (input [] m)) (sym e.0) (at_nothing n found m));
  }

  -- ---- one statement

  abbrev SepRule : ℕ → Flagged (List SeenStatement) → ℕ → Flagged Body → Rule (Flagged SeenScript)
  SepRule n found l b = Seq SeparatorsRule (λ shown. ProgramFrom (next_of n found l b shown))

  abbrev BehindRule : ℕ → Flagged (List SeenStatement) → ℕ → Flagged Body → Rule (Flagged SeenScript)
  BehindRule n found l b = EndOr (IsNothing (next_of n found l b true)) (SepRule n found l b)

  program_first : (test : Lexeme → Bool) → NoExpr test → ((p : ℕ) → test (word p (codes "function")) ≡ false) → (found : Flagged (List SeenStatement)) (m : ℕ) (ts : List Lexeme) (v : Flagged SeenScript) (n : ℕ) → ProgramFrom found m ts v n → front_is test ts ≡ false
  program_first test free f found m ts v n (p_functions found1 m1 n1 ts1 fs v1 (no_functions m2) e q) = refl
  program_first test free f found m ts v n (p_functions found1 m1 n1 ts1 fs v1 (next_function l2 m2 k2 n2 p2 q2 r2 u2 v2 w2 s2 t1 t2 t3 sep a b c ps ts2 qs us bd gs x y z h sp dd sq g) e q) = f l2
  program_first test free f found m ts v n (p_last found1 l m1 n1 ts1 b v1 r q) =
      let u = raw_first test free l m1 ts1 (flagged (body_trees b) b) n1 (body_back l m1 ts1 _ n1 (told m1 n1 ts1 b _ r refl)) in ap (front_is test) u.text ∙ u.fails
  program_first test free f found m all v n (p_next found1 l m1 k1 n1 ts ps us p b v1 r h s q) =
      let u = raw_first test free l m1 ts (flagged (body_trees b) b) k1 (body_back l m1 ts _ k1 (told m1 k1 ts b _ r refl)) in ap (λ w. front_is test (w ++ p ∷ (ps ++ us))) u.text ∙ u.fails

  sep_nonempty : (n : ℕ) (found : Flagged (List SeenStatement)) (l : ℕ) (b : Flagged Body) (m : ℕ) (v : Flagged SeenScript) (i : ℕ) → SepRule n found l b m [] v i → ⊥
  sep_nonempty n found l b m v i r = by [] r refl where
    by : (ts : List Lexeme) → SepRule n found l b m ts v i → ts ≡ [] → ⊥
    by all (seq m1 k1 n1 ts us c v1 (separators_rule m2 p ps h s) x) e = let g : p ∷ (ps ++ us) ≡ [] = e in absurd cc

  body_follow : (n : ℕ) (found : Flagged (List SeenStatement)) (l : ℕ) (b : Flagged Body) (j : ℕ) (us : List Lexeme) (v : Flagged SeenScript) (i : ℕ) → BehindRule n found l b j us v i → front_is goes_body us ≡ false
  body_follow n found l b j us v i (at_the_end m1 n1 v1 e) = refl
  body_follow n found l b j us v i (before_it m1 n1 t ts1 v1 r) = by (t ∷ ts1) r where
    by : (ts : List Lexeme) → SepRule n found l b m1 ts v1 n1 → front_is goes_body ts ≡ false
    by all (seq m2 k2 n2 ts us2 c v2 (separators_rule m3 p ps h s) x) = no_separator goes_body (λ p. refl) (λ p. refl) (λ p s. refl) p h

  abbrev LineRule : ℕ → Flagged (List SeenStatement) → ℕ → Rule (Flagged SeenScript)
  LineRule n found l = Seq (RawBody l) (λ b. BehindRule n found l b)

  line_tokens : (n : ℕ) (found : Flagged (List SeenStatement)) (l m : ℕ) (ts : List Lexeme) (v : Flagged SeenScript) (i : ℕ) → LineRule n found l m ts v i → Some_tokens ts
  line_tokens n found l m all v i (seq m1 k1 n1 ts us b v1 r x) =
      let u = raw_first is_separator no_separator_first l m1 ts b k1 r in record { token = u.token; others = u.others ++ us; text = ap (λ w. w ++ us) u.text }

  live_line : (n : ℕ) (found : Flagged (List SeenStatement)) (m : ℕ) → Live (OnLine (LineRule n found)) m
  live_line n found m = record {
    tokens = name_token 1 [] ∷ [];
    value = _;
    next = suc m;
    holds = on_line_is 1 m (suc m) (name_token 1 [] ∷ []) _ (seq m (suc m) (suc m) (name_token 1 [] ∷ []) [] _ _ (raw_bare m (suc m) _ _ (told m (suc m) _ _ _ (a_name_alone 1 m 1 []) refl)) (at_the_end (suc m) (suc m) _ (refl, refl))) refl;
  }

  abbrev AnyRule : ℕ → Flagged (List SeenStatement) → Rule (Flagged SeenScript)
  AnyRule n found = Either (RestRule found) (OnLine (LineRule n found))

  -- as the grammar has it

  next_value : (found : Flagged (List SeenStatement)) (l : ℕ) (shown : Bool) (b : Body) → and_last found (with_it (entry_of l shown) (flagged (body_trees b) b)) ≡ and_last found (flagged (body_trees b) (entry_of l shown b))
  next_value found l shown b = ap (and_last found) (flagged_it (entry_of l shown) (body_trees b) b)

  first_of_front : (ts us : List Lexeme) (l : ℕ) (t : Lexeme) (rest : List Lexeme) → ts ≡ t ∷ rest → first_line (ts ++ us) ≡ Some l → first_line ts ≡ Some l
  first_of_front ts us l t rest e h = ap first_line e ∙ (ap (λ w. first_line (w ++ us)) (sym e) ∙ h)

  any_there : (n : ℕ) (found : Flagged (List SeenStatement)) (m : ℕ) (ts : List Lexeme) (v : Flagged SeenScript) (i : ℕ) → AnyRule n found m ts v i → ProgramFrom found m ts v i
  any_there n found m ts v i (one m1 n1 ts1 v1 (made m2 n2 ts2 fs v2 (functions_rule m3 n3 ts3 gs v3 r e q) w)) =
      p_functions found m3 n3 ts3 gs v2 r e (w ∙ ap (λ z. with_both program_of_parts found z) q)
  any_there n found m ts v i (other m1 n1 ts1 v1 (on_line_is l m2 n2 ts2 v2 r h)) = at_line l m2 ts2 v2 n2 r h where
    behind : (l m : ℕ) (ts : List Lexeme) (b : Body) (j : ℕ) (us : List Lexeme) (c : Flagged Body) (v : Flagged SeenScript) (i : ℕ) → IsBody l m ts b j → c ≡ flagged (body_trees b) b → BehindRule n found l c j us v i → ProgramFrom found m (ts ++ us) v i
    behind l m ts b j us c v i r q (at_the_end m4 n4 v4 e) =
        subst (λ (w : List Lexeme). ProgramFrom found m w v4 n4) (sym (append-nil ts))
        (p_last found l m n4 ts b v4 (subst (λ (z : ℕ). IsBody l m ts b z) e.1 r) (e.0 ∙ ap (λ z. with_both program_of_parts z (Ok [])) (ap (λ z. and_last found (with_it (entry_of l true) z)) q ∙ next_value found l true b)))
    behind l m ts b j us c v i r q (before_it m4 n4 t ts4 v4 x) = by (t ∷ ts4) x where
      by : (us : List Lexeme) → SepRule n found l c m4 us v4 n4 → ProgramFrom found m (ts ++ us) v4 n4
      by all (seq m5 k5 n5 ts5 us5 shown v5 (separators_rule m6 p ps h s) y) =
          p_next found l m m6 n5 ts ps us5 p b v5 r h s (subst (λ (z : Flagged (List SeenStatement)). ProgramFrom z m6 us5 v5 n5) (ap (λ z. and_last found (with_it (entry_of l (shows p)) z)) q ∙ next_value found l (shows p) b) y)

    at_line : (l m : ℕ) (ts : List Lexeme) (v : Flagged SeenScript) (i : ℕ) → LineRule n found l m ts v i → first_line ts ≡ Some l → ProgramFrom found m ts v i
    at_line l m all v i (seq m3 k3 n3 ts us c v3 r x) h =
        let u = raw_first is_separator no_separator_first l m3 ts c k3 r in
        of_told m3 ts c k3 (body_there l m3 ts c k3 r (first_of_front ts us l u.token u.others u.text h)) us v3 n3 x where
          of_told : (m : ℕ) (ts : List Lexeme) (c : Flagged Body) (j : ℕ) → BodyRule l m ts c j → (us : List Lexeme) (v : Flagged SeenScript) (i : ℕ) → BehindRule n found l c j us v i → ProgramFrom found m (ts ++ us) v i
          of_told m ts c j (told m4 n4 ts4 b c4 r q) us v i x = behind l m4 ts4 b n4 us c4 v i r q x

  any_back : (n : ℕ) (found : Flagged (List SeenStatement)) (m : ℕ) (ts : List Lexeme) (v : Flagged SeenScript) (i : ℕ) → ProgramFrom found m ts v i → AnyRule n found m ts v i
  any_back n found m ts v i (p_functions found1 m1 n1 ts1 fs v1 r e q) = one m1 n1 ts1 v1 (made m1 n1 ts1 (extended routine_trees (Ok []) fs) v1 (functions_rule m1 n1 ts1 fs _ r e refl) q)
  any_back n found m ts v i (p_last found1 l m1 n1 ts1 b v1 r q) =
      other m1 n1 ts1 v1 (on_line_is l m1 n1 ts1 v1 (subst (λ (w : List Lexeme). LineRule n found1 l m1 w v1 n1) (append-nil ts1) (seq m1 n1 n1 ts1 [] (flagged (body_trees b) b) v1 (body_back l m1 ts1 _ n1 (told m1 n1 ts1 b _ r refl))
      (at_the_end n1 n1 v1 (q ∙ ap (λ z. with_both program_of_parts z (Ok [])) (sym (next_value found1 l true b)), refl)))) (body_line l m1 ts1 b n1 r))
  any_back n found m all v i (p_next found1 l m1 k1 n1 ts ps us p b v1 r h s x) =
      other m1 n1 _ v1 (on_line_is l m1 n1 _ v1 (seq m1 k1 n1 ts (p ∷ (ps ++ us)) (flagged (body_trees b) b) v1 (body_back l m1 ts _ k1 (told m1 k1 ts b _ r refl))
      (before_it k1 n1 p (ps ++ us) v1 (seq k1 k1 n1 (p ∷ ps) us (shows p) v1 (separators_rule k1 p ps h s) (subst (λ (z : Flagged (List SeenStatement)). ProgramFrom z k1 us v1 n1) (sym (next_value found1 l (shows p) b)) x))))
      (line_front ts (p ∷ (ps ++ us)) l (body_line l m1 ts b k1 r))) where
        line_front : (ts us : List Lexeme) (l : ℕ) → first_line ts ≡ Some l → first_line (ts ++ us) ≡ Some l
        line_front [] us l h = absurd cc
        line_front (t ∷ ts) us l h = h

  -- ---- all of them

  front_stays : (ts : List Lexeme) (x : Lexeme) (r s : List Lexeme) → ends_statements (ts ++ x ∷ r) ≡ ends_statements (ts ++ x ∷ s)
  front_stays [] x r s = refl
  front_stays (t ∷ ts) x r s = refl

  rest_ends : (found : Flagged (List SeenStatement)) (m : ℕ) (ts : List Lexeme) (v : Flagged SeenScript) (n : ℕ) → RestRule found m ts v n → ends_statements ts ≡ true
  rest_ends found m ts v n (made m1 n1 ts1 fs v1 (functions_rule m2 n2 ts2 gs v2 (no_functions m3) e q) w) = refl
  rest_ends found m ts v n (made m1 n1 ts1 fs v1 (functions_rule m2 n2 ts2 gs v2 (next_function l3 m3 k3 n3 p3 q3 r3 u3 v3 w3 s3 t1 t2 t3 sep a b c ps ts3 qs us bd hs x y z h sp dd sq g) e q) w) = refl

  line_goes : (n : ℕ) (found : Flagged (List SeenStatement)) (m : ℕ) (ts : List Lexeme) (v : Flagged SeenScript) (i : ℕ) → OnLine (LineRule n found) m ts v i → ends_statements ts ≡ false
  line_goes n found m ts v i (on_line_is l m1 n1 ts1 v1 r h) = by l m1 ts1 v1 n1 r where
    by : (l m : ℕ) (ts : List Lexeme) (v : Flagged SeenScript) (i : ℕ) → LineRule n found l m ts v i → ends_statements ts ≡ false
    by l m all v i (seq m2 k2 n2 ts us b v2 r x) = let u = raw_first (is_the_word (codes "function")) no_function_word l m2 ts b k2 r in ap (λ w. ends_statements (w ++ us)) u.text ∙ u.fails

  live_from : (found : Flagged (List SeenStatement)) (m : ℕ) → Live (ProgramFrom found) m
  live_from found m = record { tokens = []; value = _; next = m; holds = p_functions found m m [] [] _ (no_functions m) refl refl }

  tired_from : (found : Flagged (List SeenStatement)) (i : Input) → whole_from zero found i ≡ Err OutOfTurns
  unfolding statements_from
  tired_from found i = refl

  exact_from : (n : ℕ) (found : Flagged (List SeenStatement)) → Ending (ProgramFrom found) (whole_from n found)
  exact_from zero found = end_tired (ProgramFrom found) (live_from found) (whole_from zero found) (tired_from found)
  exact_from (suc n) found =
      end_as (AnyRule n found) (ProgramFrom found)
      (end_same (whole_from (suc n) found) (λ i. if ends_statements i.rest then rest_of found i else one_statement n found i) (unrolled n found)
      (end_choice ends_statements (rest_of found) (one_statement n found) front_stays (end_rest found)
      (end_on_line (λ l. body k d l >>= (λ b. behind_body n found l b))
      (λ l. end_bind (body k d l) (λ b. behind_body n found l b) (exact_body k d l)
      (λ b. end_or (whole_from n (next_of n found l b true)) (separators >>= (λ shown. whole_from n (next_of n found l b shown)))
      (λ m. record { tokens = []; value = _; next = m; holds = at_the_end m m _ (refl, refl) })
      (nothing_ends n (next_of n found l b true))
      (end_bind separators (λ shown. whole_from n (next_of n found l b shown)) exact_separators (λ shown. exact_from n (next_of n found l b shown))
      (λ shown j us v i r. program_first is_separator no_separator_first (λ p. refl) (next_of n found l b shown) j us v i r))
      (sep_nonempty n found l b))
      (λ b j us v i r. body_follow n found l b j us v i r))
      (line_tokens n found) (live_line n found))
      (rest_ends found) (line_goes n found)))
      (any_there n found) (any_back n found)

  abbrev ScriptRule : Rule (Flagged SeenScript)
  ScriptRule = Seq SkipRule (λ _. ProgramFrom (Ok []))

  pub exact_program : Ending (Seq SkipRule (λ _. ProgramFrom (Ok []))) (program k d)
  exact_program =
      end_same (program k d) (skip_separators >>= (λ _. whole_from k (Ok []))) same
      (end_bind skip_separators (λ _. whole_from k (Ok [])) exact_skip (λ _. exact_from k (Ok []))
      (λ c j us v i r. program_first is_separator no_separator_first (λ p. refl) (Ok []) j us v i r)) where
        same : (ts : List Lexeme) (m : ℕ) → program k d (input ts m) ≡ (skip_separators >>= (λ _. whole_from k (Ok []))) (input ts m)
        same ts m = refl
