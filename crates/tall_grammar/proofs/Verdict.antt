-- What the reader of scripts says of tokens is what the grammar says of them.
use Rattle.std.proofs.Common.{◌≡◌, ℕ, suc, true, List, [], ◌∷◌, ◌++◌, length, refl, sym, ap, ◌∙◌, subst, append_assoc}
use Rattle.std.specs.Prelude.{Ok, Err}
use Rattle.std.specs.List.{flat_map}
use Rattle.tall_grammar.specs.declared.faults.Fault.TheVariants.{Stop}
use Rattle.tall_grammar.specs.Lexemes.{Lexeme, is_separator, shows}
use Rattle.tall_grammar.specs.Trees.{Body, SeenStatement, SeenFunction, SeenScript}
use Rattle.tall_grammar.specs.Refusals.{body_trees, script_trees, GoesOn, StopsAt, EndsEarly}
use Rattle.tall_grammar.specs.Grammar.{AreSeparators, IsBody, AreStatements, no_statements, next_statement, AreFunctions, IsScript, a_script, a_script_to_the_end}
use Rattle.tall_grammar.specs.Kept.{Flagged, flagged, with_both, and_last}
use Rattle.tall_grammar.specs.Readers.{Input, input}
use Rattle.tall_grammar.specs.ScriptReader.{entry_of, program_of_parts, program}
use Rattle.tall_grammar.proofs.Exact.{IsRead}
use Rattle.tall_grammar.proofs.Combine.{Seq, seq}
use Rattle.tall_grammar.proofs.Lines.{SkipRule, skip_rule}
use Rattle.tall_grammar.proofs.Flags.{flagged_both}
use Rattle.tall_grammar.proofs.Extended.{extended, extended_more, extended_none, extended_first}
use Rattle.tall_grammar.proofs.Routines.{routine_trees, all_new, distinct_is_new, new_is_distinct}
use Rattle.tall_grammar.proofs.Programs.{ProgramFrom, p_functions, p_last, p_next, entry_trees, exact_program}

abbrev ScriptRule : ℕ → List Lexeme → Flagged SeenScript → ℕ → Type 0
ScriptRule = Seq SkipRule (λ _. ProgramFrom (Ok []))

-- a script, of which this is told
pub record Scripted (ts : List Lexeme) (v : Flagged SeenScript) : Type 0 where
  pub script : SeenScript
  pub holds : IsScript ts script
  pub told : v ≡ flagged (script_trees script) script

-- ---- what the rules have is a script

-- statements and functions, or statements and a last one, behind those that were found
data Parts (found : Flagged (List SeenStatement)) (m : ℕ) (v : Flagged SeenScript) : List Lexeme → Type 0 where
  with_functions : (k n : ℕ) (ts us : List Lexeme) (bs : List SeenStatement) (fs : List SeenFunction) → AreStatements m ts bs k → AreFunctions k us fs n → all_new [] fs ≡ true
      → v ≡ with_both program_of_parts (extended entry_trees found bs) (extended routine_trees (Ok []) fs) → Parts found m v (ts ++ us)
  with_last : (l k n : ℕ) (ts us : List Lexeme) (bs : List SeenStatement) (b : Body) → AreStatements m ts bs k → IsBody l k us b n
      → v ≡ with_both program_of_parts (extended entry_trees found (bs ++ entry_of l true b ∷ [])) (Ok []) → Parts found m v (ts ++ us)

one_entry : (found : Flagged (List SeenStatement)) (e : SeenStatement) → extended entry_trees found (e ∷ []) ≡ and_last found (flagged (entry_trees e) e)
one_entry found e = sym (extended_more entry_trees found e []) ∙ extended_none entry_trees (and_last found (flagged (entry_trees e) e))

add_statement : (found : Flagged (List SeenStatement)) (l m k : ℕ) (v : Flagged SeenScript) (ts ps us : List Lexeme) (p : Lexeme) (b : Body) → IsBody l m ts b k → is_separator p ≡ true → AreSeparators ps
    → Parts (and_last found (flagged (body_trees b) (entry_of l (shows p) b))) k v us → Parts found m v (ts ++ p ∷ (ps ++ us))
add_statement found l m k v ts ps all p b r h s (with_functions k1 n1 ts1 us1 bs fs x y e q) =
    subst (λ (w : List Lexeme). Parts found m v w) (append_assoc ts (p ∷ (ps ++ ts1)) us1 ∙ ap (λ w. ts ++ p ∷ w) (append_assoc ps ts1 us1))
    (with_functions k1 n1 (ts ++ p ∷ (ps ++ ts1)) us1 (entry_of l (shows p) b ∷ bs) fs (next_statement l m k k1 ts ps ts1 p b bs r h s x) y e
    (q ∙ ap (λ z. with_both program_of_parts z (extended routine_trees (Ok []) fs)) (extended_more entry_trees found (entry_of l (shows p) b) bs)))
add_statement found l m k v ts ps all p b r h s (with_last l1 k1 n1 ts1 us1 bs c x y q) =
    subst (λ (w : List Lexeme). Parts found m v w) (append_assoc ts (p ∷ (ps ++ ts1)) us1 ∙ ap (λ w. ts ++ p ∷ w) (append_assoc ps ts1 us1))
    (with_last l1 k1 n1 (ts ++ p ∷ (ps ++ ts1)) us1 (entry_of l (shows p) b ∷ bs) c (next_statement l m k k1 ts ps ts1 p b bs r h s x) y
    (q ∙ ap (λ z. with_both program_of_parts z (Ok [])) (extended_more entry_trees found (entry_of l (shows p) b) (bs ++ entry_of l1 true c ∷ []))))

parts : (found : Flagged (List SeenStatement)) (m : ℕ) (ts : List Lexeme) (v : Flagged SeenScript) (n : ℕ) → ProgramFrom found m ts v n → Parts found m v ts
parts found m ts v n (p_functions found1 m1 n1 ts1 fs v1 r e q) =
    with_functions m1 n1 [] ts1 [] fs (no_statements m1) r e (q ∙ ap (λ z. with_both program_of_parts z (extended routine_trees (Ok []) fs)) (sym (extended_none entry_trees found1)))
parts found m ts v n (p_last found1 l m1 n1 ts1 b v1 r q) =
    with_last l m1 n1 [] ts1 [] b (no_statements m1) r (q ∙ ap (λ z. with_both program_of_parts z (Ok [])) (sym (one_entry found1 (entry_of l true b))))
parts found m all v n (p_next found1 l m1 k1 n1 ts ps us p b v1 r h s x) = add_statement found1 l m1 k1 v1 ts ps us p b r h s (parts (and_last found1 (flagged (body_trees b) (entry_of l (shows p) b))) k1 us v1 n1 x)

whole_value : (bs : List SeenStatement) (fs : List SeenFunction) → with_both program_of_parts (extended entry_trees (Ok []) bs) (extended routine_trees (Ok []) fs) ≡ flagged (script_trees (program_of_parts bs fs)) (program_of_parts bs fs)
whole_value bs fs =
    ap (λ z. with_both program_of_parts z (extended routine_trees (Ok []) fs)) (extended_first entry_trees bs)
    ∙ (ap (λ z. with_both program_of_parts (flagged (flat_map entry_trees bs) bs) z) (extended_first routine_trees fs)
    ∙ flagged_both program_of_parts (flat_map entry_trees bs) (flat_map routine_trees fs) bs fs)

no_functions_value : Ok [] ≡ extended routine_trees (Ok []) []
no_functions_value = refl

script_of_parts : (ps ts : List Lexeme) (v : Flagged SeenScript) → AreSeparators ps → Parts (Ok []) 1 v ts → Scripted (ps ++ ts) v
script_of_parts ps all v s (with_functions k n ts us bs fs x y e q) =
    record { script = program_of_parts bs fs; holds = a_script k n ps ts us bs fs s x y (new_is_distinct fs e); told = q ∙ whole_value bs fs }
script_of_parts ps all v s (with_last l k n ts us bs b x y q) =
    record { script = program_of_parts (bs ++ entry_of l true b ∷ []) []; holds = a_script_to_the_end l k n ps ts us bs b s x y; told = q ∙ whole_value (bs ++ entry_of l true b ∷ []) [] }

rule_script : (ts : List Lexeme) (v : Flagged SeenScript) (n : ℕ) → ScriptRule 1 ts v n → Scripted ts v
rule_script ts v n r = by 1 ts v n r refl where
  by : (m : ℕ) (ts : List Lexeme) (v : Flagged SeenScript) (n : ℕ) → ScriptRule m ts v n → m ≡ 1 → Scripted ts v
  by m all v n (seq m1 k1 n1 ts us c v1 (skip_rule m2 ps s) x) e =
      script_of_parts ps us v1 s (subst (λ (z : ℕ). Parts (Ok []) z v1 us) e (parts (Ok []) m2 us v1 n1 x))

-- ---- a script is what the rules have

pub record Ruled (ts : List Lexeme) (s : SeenScript) : Type 0 where
  pub next : ℕ
  pub holds : ScriptRule 1 ts (flagged (script_trees s) s) next

statements_on : (m : ℕ) (ts : List Lexeme) (bs : List SeenStatement) (k : ℕ) → AreStatements m ts bs k → (found : Flagged (List SeenStatement)) (us : List Lexeme) (v : Flagged SeenScript) (n : ℕ)
    → ProgramFrom (extended entry_trees found bs) k us v n → ProgramFrom found m (ts ++ us) v n
statements_on m ts bs k (no_statements m1) found us v n x = subst (λ (z : Flagged (List SeenStatement)). ProgramFrom z m1 us v n) (extended_none entry_trees found) x
statements_on m all bs k (next_statement l m1 k1 n1 ts ps us1 p b bs1 r h s y) found us v n x =
    subst (λ (w : List Lexeme). ProgramFrom found m1 w v n) (sym (append_assoc ts (p ∷ (ps ++ us1)) us ∙ ap (λ w. ts ++ p ∷ w) (append_assoc ps us1 us)))
    (p_next found l m1 k1 n ts ps (us1 ++ us) p b v r h s (statements_on k1 us1 bs1 n1 y (and_last found (flagged (body_trees b) (entry_of l (shows p) b))) us v n
    (subst (λ (z : Flagged (List SeenStatement)). ProgramFrom z n1 us v n) (sym (extended_more entry_trees found (entry_of l (shows p) b) bs1)) x)))

snoc_entry : (bs : List SeenStatement) (e : SeenStatement) → and_last (extended entry_trees (Ok []) bs) (flagged (entry_trees e) e) ≡ extended entry_trees (Ok []) (bs ++ e ∷ [])
snoc_entry bs e = by bs (Ok []) where
  by : (bs : List SeenStatement) (found : Flagged (List SeenStatement)) → and_last (extended entry_trees found bs) (flagged (entry_trees e) e) ≡ extended entry_trees found (bs ++ e ∷ [])
  by [] found = ap (λ z. and_last z (flagged (entry_trees e) e)) (extended_none entry_trees found) ∙ sym (one_entry found e)
  by (b ∷ bs) found =
      ap (λ z. and_last z (flagged (entry_trees e) e)) (sym (extended_more entry_trees found b bs))
      ∙ (by bs (and_last found (flagged (entry_trees b) b)) ∙ extended_more entry_trees found b (bs ++ e ∷ []))

script_rule : (ts : List Lexeme) (s : SeenScript) → IsScript ts s → Ruled ts s
script_rule ts s (a_script k n ps ts1 us bs fs h x y e) =
    record {
      next = n;
      holds = seq 1 1 n ps (ts1 ++ us) tt _ (skip_rule 1 ps h) (statements_on 1 ts1 bs k x (Ok []) us _ n
          (p_functions (extended entry_trees (Ok []) bs) k n us fs _ y (distinct_is_new fs e) (sym (whole_value bs fs))));
    }
script_rule ts s (a_script_to_the_end l k n ps ts1 us bs b h x y) =
    record {
      next = n;
      holds = seq 1 1 n ps (ts1 ++ us) tt _ (skip_rule 1 ps h) (statements_on 1 ts1 bs k x (Ok []) us _ n
          (p_last (extended entry_trees (Ok []) bs) l k n us b _ y (sym (ap (λ z. with_both program_of_parts z (Ok [])) (snoc_entry bs (entry_of l true b)) ∙ whole_value (bs ++ entry_of l true b ∷ []) []))));
    }

-- ---- what the reader says

module _ (k d : ℕ) where
  -- what is read is a script
  pub read_is_script : (ts : List Lexeme) (v : Flagged SeenScript) (j : Input) → program k d (input ts 1) ≡ Ok (v, j) → Scripted ts v
  read_is_script ts v j h = rule_script ts v j.next ((exact_program k d).sound ts 1 v j h).holds

  -- a script is read so, if turns and depth are enough
  script_is_read : (ts : List Lexeme) (s : SeenScript) → IsScript ts s → (n : ℕ) × IsRead (program k d (input ts 1)) (flagged (script_trees s) s) (input [] n)
  script_is_read ts s r = let u = script_rule ts s r in (u.next, (exact_program k d).whole ts 1 (flagged (script_trees s) s) u.next u.holds)

  pub only_read : (ts : List Lexeme) (v : Flagged SeenScript) (j : Input) → program k d (input ts 1) ≡ Ok (v, j) → (s : SeenScript) → IsScript ts s → v ≡ flagged (script_trees s) s
  only_read ts v j h s r = let u = script_is_read ts s r in ap (λ q. q.0) (subst (λ (o : _). IsRead o (flagged (script_trees s) s) (input [] u.0)) h u.1)

  pub stopped_is_none : (ts : List Lexeme) (n : ℕ) → program k d (input ts 1) ≡ Err (Stop n) → (s : SeenScript) → IsScript ts s → ⊥
  stopped_is_none ts n h s r = let u = script_is_read ts s r in subst (λ (o : _). IsRead o (flagged (script_trees s) s) (input [] u.0)) h u.1

  -- where it stopped
  pub record Stopped (ts : List Lexeme) (n : ℕ) : Type 0 where
    pub front : List Lexeme
    pub left : List Lexeme
    pub text : ts ≡ front ++ left
    pub count : length left ≡ n
    pub goes : GoesOn front

  pub where_stopped : (ts : List Lexeme) (n : ℕ) → program k d (input ts 1) ≡ Err (Stop n) → Stopped ts n
  where_stopped ts n h =
      let v = (exact_program k d).viable ts 1 n h in
      let s = rule_script (v.taken ++ v.more) v.value v.next v.holds in
      record { front = v.taken; left = v.left; text = v.text; count = v.count; goes = (v.more, s.script, s.holds) }

  -- at a token, with which no script goes on
  pub stops_at : (ts front : List Lexeme) (stop : Lexeme) (rest : List Lexeme) → ts ≡ front ++ stop ∷ rest → GoesOn front → program k d (input ts 1) ≡ Err (Stop (suc (length rest))) → StopsAt ts stop.line
  stops_at ts front stop rest text goes h = record {
    front = front;
    stop = stop;
    rest = rest;
    text = text;
    goes = goes;
    there = refl;
    stops = λ g.
        let e : program k d (input (front ++ stop ∷ rest) 1) ≡ Err (Stop (suc (length rest))) = ap (λ w. program k d (input w 1)) (sym text) ∙ h in
        let f = (exact_program k d).same_stop front stop rest g.0 1 e in
        stopped_is_none (front ++ stop ∷ g.0) (suc (length g.0)) f g.1 (subst (λ (w : List Lexeme). IsScript w g.1) (append_assoc front (stop ∷ []) g.0) g.2);
  }

  -- at the end of the text
  pub ends_early_at : (ts front : List Lexeme) → ts ≡ front → GoesOn front → program k d (input ts 1) ≡ Err (Stop 0) → EndsEarly ts
  ends_early_at ts front text goes h = record { goes = subst (λ (w : List Lexeme). GoesOn w) (sym text) goes; ends = λ s r. stopped_is_none ts 0 h s r }
