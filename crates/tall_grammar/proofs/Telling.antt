-- What the reader of scripts says is the one answer that the definitions have for the tokens.
use Rattle.std.proofs.Common.{◌≡◌, ℕ, ◌-◌, List, [], ◌∷◌, ◌++◌, length, drop, Option, Some, None, refl, sym, ap, ◌∙◌, subst, arith, append_assoc, length-append}
use Rattle.std.proofs.Math.Seq.{drop-append_seam}
use Rattle.std.specs.Prelude.{Ok, Err}
use Rattle.tall_grammar.specs.declared.faults.Fault.TheVariants.{Stop, OutOfTurns, Memory}
use Rattle.tall_grammar.specs.Lexemes.{Lexeme}
use Rattle.tall_grammar.specs.Trees.{SeenScript}
use Rattle.tall_grammar.specs.Grammar.{IsScript}
use Rattle.tall_grammar.specs.Refusals.{script_trees, too_high, too_deep, GoesOn, StopsAt, EndsEarly, Verdict, read, too_deep_at, syntax_at, Reads, is_too_deep, stops_short, ends_early, is_too_high, is_script}
use Rattle.tall_grammar.specs.Kept.{Flagged, flagged, flagged_by}
use Rattle.tall_grammar.specs.Readers.{Input, Outcome, input}
use Rattle.tall_grammar.specs.ScriptReader.{program}
use Rattle.tall_grammar.specs.Verdicts.{line_from, of_flag, said, syntax_from}
use Rattle.tall_grammar.proofs.Verdict.{read_is_script, only_read, stopped_is_none, where_stopped, stops_at, ends_early_at}

-- ---- what is told of a script

told_by : (o : Option ℕ) (s : SeenScript) (v : Flagged SeenScript) → v ≡ flagged_by o s → (l : ℕ) → o ≡ Some l → of_flag v ≡ too_deep_at l
told_by o s v q l e = ap of_flag (q ∙ ap (λ o. flagged_by o s) e)

told_read : (o : Option ℕ) (s : SeenScript) (v : Flagged SeenScript) → v ≡ flagged_by o s → o ≡ None → of_flag v ≡ read s
told_read o s v q e = ap of_flag (q ∙ ap (λ o. flagged_by o s) e)

script_tells : (last : ℕ) (ts : List Lexeme) (s : SeenScript) (v : Flagged SeenScript) → too_deep ts ≡ None → IsScript ts s → v ≡ flagged (script_trees s) s → Reads last ts (of_flag v)
script_tells last ts s v deep r q = (elim (too_high s) as (λ o. too_high s ≡ o → Reads last ts (of_flag v)) [
  | None ↦ λ e. subst (λ (a : Verdict). Reads last ts a) (sym (told_read (too_high s) s v q e)) (is_script deep r e)
  | Some l ↦ λ e. subst (λ (a : Verdict). Reads last ts a) (sym (told_by (too_high s) s v q l e)) (is_too_high deep r e)
]) refl

-- ---- prefixes

prefix_goes : (ts us : List Lexeme) → GoesOn (ts ++ us) → GoesOn ts
prefix_goes ts us g = (us ++ g.0, g.1, subst (λ (w : List Lexeme). IsScript w g.1) (append_assoc ts us g.0) g.2)

script_goes : (ts front : List Lexeme) (stop : Lexeme) (rest : List Lexeme) (s : SeenScript) → ts ≡ front ++ stop ∷ rest → IsScript ts s → GoesOn (front ++ stop ∷ [])
script_goes ts front stop rest s e r = (rest, s, subst (λ (w : List Lexeme). IsScript w s) (e ∙ sym (append_assoc front (stop ∷ []) rest)) r)

-- one front is the other's with its stop, or the stops are one
data Apart (f1 f2 : List Lexeme) (s1 s2 : Lexeme) : Type 0 where
  together : s1 ≡ s2 → Apart f1 f2 s1 s2
  first_shorter : (w : List Lexeme) → f2 ≡ (f1 ++ s1 ∷ []) ++ w → Apart f1 f2 s1 s2
  second_shorter : (w : List Lexeme) → f1 ≡ (f2 ++ s2 ∷ []) ++ w → Apart f1 f2 s1 s2

apart : (f1 f2 : List Lexeme) (s1 s2 : Lexeme) (r1 r2 : List Lexeme) → f1 ++ s1 ∷ r1 ≡ f2 ++ s2 ∷ r2 → Apart f1 f2 s1 s2
apart [] [] s1 s2 r1 r2 e = together (let g : s1 ≡ s2 = cc in g)
apart [] (x ∷ f2) s1 s2 r1 r2 e = let g : s1 ≡ x = cc in first_shorter f2 (ap (λ z. z ∷ f2) (sym g))
apart (x ∷ f1) [] s1 s2 r1 r2 e = let g : x ≡ s2 = cc in second_shorter f1 (ap (λ z. z ∷ f1) g)
apart (x ∷ f1) (y ∷ f2) s1 s2 r1 r2 e = let g : x ≡ y = cc in let h : f1 ++ s1 ∷ r1 ≡ f2 ++ s2 ∷ r2 = cc in more g (apart f1 f2 s1 s2 r1 r2 h) where
  more : x ≡ y → Apart f1 f2 s1 s2 → Apart (x ∷ f1) (y ∷ f2) s1 s2
  more g (together q) = together q
  more g (first_shorter w q) = first_shorter w (ap (λ z. y ∷ z) q ∙ ap (λ z. z ∷ ((f1 ++ s1 ∷ []) ++ w)) (sym g))
  more g (second_shorter w q) = second_shorter w (ap (λ z. x ∷ z) q ∙ ap (λ z. z ∷ ((f2 ++ s2 ∷ []) ++ w)) g)

same_line : (ts : List Lexeme) (l m : ℕ) → StopsAt ts l → StopsAt ts m → l ≡ m
same_line ts l m a b = by (apart a.front b.front a.stop b.stop a.rest b.rest (sym a.text ∙ b.text)) where
  by : Apart a.front b.front a.stop b.stop → l ≡ m
  by (together q) = sym a.there ∙ (ap (λ (t : Lexeme). t.line) q ∙ b.there)
  by (first_shorter w q) = absurd (a.stops (prefix_goes (a.front ++ a.stop ∷ []) w (subst (λ (z : List Lexeme). GoesOn z) q b.goes)))
  by (second_shorter w q) = absurd (b.stops (prefix_goes (b.front ++ b.stop ∷ []) w (subst (λ (z : List Lexeme). GoesOn z) q a.goes)))

not_both : (ts : List Lexeme) (l : ℕ) → StopsAt ts l → GoesOn ts → ⊥
not_both ts l a g = a.stops (prefix_goes (a.front ++ a.stop ∷ []) a.rest (subst (λ (w : List Lexeme). GoesOn w) (a.text ∙ sym (append_assoc a.front (a.stop ∷ []) a.rest)) g))

left_is : (ts front left : List Lexeme) (n : ℕ) → ts ≡ front ++ left → length left ≡ n → drop (length ts - n) ts ≡ left
left_is ts front left n e c =
    let h : length ts - n ≡ length front = omega (arith, c, ap length e, length-append front left) in
    ap (λ i. drop i ts) h ∙ (ap (λ w. drop (length front) w) e ∙ drop-append_seam front left)

module _ (k d last : ℕ) (ts : List Lexeme) (deep : too_deep ts ≡ None) where
  -- ---- what the reader says is the answer

  pub read_tells : (v : Flagged SeenScript) (j : Input) → program k d (input ts 1) ≡ Ok (v, j) → Reads last ts (of_flag v)
  read_tells v j h = let u = read_is_script k d ts v j h in script_tells last ts u.script v deep u.holds u.told

  -- a stop as the definitions have it
  data Place (n : ℕ) : Type 0 where
    inside : StopsAt ts (line_from last (drop (length ts - n) ts)) → Place n
    at_end : EndsEarly ts → line_from last (drop (length ts - n) ts) ≡ last → Place n

  place : (n : ℕ) → program k d (input ts 1) ≡ Err (Stop n) → Place n
  place n h = let u = where_stopped k d ts n h in by u.front u.left u.text u.count u.goes where
    by : (front left : List Lexeme) → ts ≡ front ++ left → length left ≡ n → GoesOn front → Place n
    by front [] text count goes =
        let e : ts ≡ front = text ∙ nil front in
        at_end (ends_early_at k d ts front e goes (h ∙ ap (λ i. Err (Stop i)) (sym count))) (ap (line_from last) (left_is ts front [] n text count)) where
          nil : (xs : List Lexeme) → xs ++ [] ≡ xs
          nil [] = refl
          nil (x ∷ xs) = ap (λ w. x ∷ w) (nil xs)
    by front (stop ∷ rest) text count goes =
        inside (subst (λ (l : ℕ). StopsAt ts l) (sym (ap (line_from last) (left_is ts front (stop ∷ rest) n text count)))
        (stops_at k d ts front stop rest text goes (h ∙ ap (λ i. Err (Stop i)) (sym count))))

  pub stop_tells : (n : ℕ) → program k d (input ts 1) ≡ Err (Stop n) → Reads last ts (syntax_from last ts n)
  stop_tells n h = by (place n h) where
    by : Place n → Reads last ts (syntax_from last ts n)
    by (inside a) = stops_short deep a
    by (at_end a e) = subst (λ (l : ℕ). Reads last ts (syntax_at l)) (sym e) (ends_early deep a)

  -- ---- and there is no other

  no_depth : (l : ℕ) → too_deep ts ≡ Some l → ⊥
  no_depth l e = let g : ◌≡◌ {A = Option ℕ} None (Some l) = sym deep ∙ e in absurd cc

  pub read_alone : (v : Flagged SeenScript) (j : Input) → program k d (input ts 1) ≡ Ok (v, j) → (a : Verdict) → Reads last ts a → a ≡ of_flag v
  read_alone v j h a (is_too_deep {l} e) = absurd (no_depth l e)
  read_alone v j h a (stops_short {l} e s) = let u = read_is_script k d ts v j h in absurd (s.stops (script_goes ts s.front s.stop s.rest u.script s.text u.holds))
  read_alone v j h a (ends_early e s) = let u = read_is_script k d ts v j h in absurd (s.ends u.script u.holds)
  read_alone v j h a (is_too_high {l} {s} e r q) = sym (told_by (too_high s) s v (only_read k d ts v j h s r) l q)
  read_alone v j h a (is_script {s} e r q) = sym (told_read (too_high s) s v (only_read k d ts v j h s r) q)

  pub stop_alone : (n : ℕ) → program k d (input ts 1) ≡ Err (Stop n) → (a : Verdict) → Reads last ts a → a ≡ syntax_from last ts n
  stop_alone n h a (is_too_deep {l} e) = absurd (no_depth l e)
  stop_alone n h a (stops_short {l} e s) = by (place n h) where
    by : Place n → syntax_at l ≡ syntax_from last ts n
    by (inside b) = ap syntax_at (same_line ts l _ s b)
    by (at_end b q) = absurd (not_both ts l s b.goes)
  stop_alone n h a (ends_early e s) = by (place n h) where
    by : Place n → syntax_at last ≡ syntax_from last ts n
    by (inside b) = absurd (not_both ts _ b s.goes)
    by (at_end b q) = ap syntax_at (sym q)
  stop_alone n h a (is_too_high {l} {s} e r q) = absurd (stopped_is_none k d ts n h s r)
  stop_alone n h a (is_script {s} e r q) = absurd (stopped_is_none k d ts n h s r)

-- ---- what is said of an outcome

pub said_tells : (k d last : ℕ) (ts : List Lexeme) (answer : Verdict) → too_deep ts ≡ None → said last ts (program k d (input ts 1)) ≡ Some answer → Reads last ts answer
said_tells k d last ts answer deep e = by (program k d (input ts 1)) refl e
  where
    by : (o : Outcome (Flagged SeenScript)) → program k d (input ts 1) ≡ o → said last ts o ≡ Some answer → Reads last ts answer
    by (Ok p) h q = let same : of_flag p.0 ≡ answer = cc in subst (Reads last ts) same (read_tells k d last ts deep p.0 p.1 h)
    by (Err (Stop n)) h q = let same : syntax_from last ts n ≡ answer = cc in subst (Reads last ts) same (stop_tells k d last ts deep n h)
    by (Err OutOfTurns) h q = absurd cc
    by (Err Memory) h q = absurd cc

pub said_alone : (k d last : ℕ) (ts : List Lexeme) (answer other : Verdict) → too_deep ts ≡ None → said last ts (program k d (input ts 1)) ≡ Some answer
    → Reads last ts other → other ≡ answer
said_alone k d last ts answer other deep e r = by (program k d (input ts 1)) refl e
  where
    by : (o : Outcome (Flagged SeenScript)) → program k d (input ts 1) ≡ o → said last ts o ≡ Some answer → other ≡ answer
    by (Ok p) h q = let same : of_flag p.0 ≡ answer = cc in read_alone k d last ts deep p.0 p.1 h other r ∙ same
    by (Err (Stop n)) h q = let same : syntax_from last ts n ≡ answer = cc in stop_alone k d last ts deep n h other r ∙ same
    by (Err OutOfTurns) h q = absurd cc
    by (Err Memory) h q = absurd cc
