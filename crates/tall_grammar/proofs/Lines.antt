-- Separators, and readers that look at the line on which they begin.
use Rattle.std.proofs.Common.{◌≡◌, ℕ, Bool, true, false, List, [], ◌∷◌, ◌++◌, length, Some, None, refl, sym, ap, ◌∙◌, subst, arith, length-append}
use Rattle.std.proofs.lemmas.Bool.{and_parts, and_from}
use Rattle.std.specs.Prelude.{if◌then◌else◌, Result, Ok, codes}
use Rattle.std.specs.List.{list_all}
use Rattle.tall_grammar.specs.Lexemes.{Lexeme, sign, is_separator, shows}
use Rattle.tall_grammar.specs.Grammar.{AreSeparators, first_line}
use Rattle.tall_grammar.specs.Readers.{Input, input, Reader, ◌>>=◌, pure, front_is, take_as, skip_separators, without_separators}
use Rattle.tall_grammar.specs.ScriptReader.{line_here, on_line, separator_shows, separators}
use Rattle.tall_grammar.proofs.Exact.{Rule, Steady, Live, Begun, IsRead, Exact, front_same, read_is, read_as}
use Rattle.tall_grammar.proofs.Combine.{IsPure, is_pure, IsTaken, is_taken, Seq, seq, exact_as, exact_pure, exact_bind, exact_take}
use Rattle.tall_grammar.proofs.Lists.{nothing, none_of_nothing}

ok_value : {X E : Type 0} (x y : X) → ◌≡◌ {A = Result X E} (Ok x) (Ok y) → x ≡ y
ok_value x y h = cc

ok_parts : {A : Type 0} {E : Type 0} (a b : A) (i j : Input) → ◌≡◌ {A = Result (A × Input) E} (Ok (a, i)) (Ok (b, j)) → (a ≡ b) × (i ≡ j)
ok_parts a b i j h = let e = ok_value (a, i) (b, j) h in (ap (λ p. p.0) e, ap (λ p. p.1) e)

-- ---- { sep }

pub data SkipRule : ℕ → List Lexeme → Unit {0} → ℕ → Type 0 where
  skip_rule : (m : ℕ) (ps : List Lexeme) → AreSeparators ps → SkipRule m ps tt m

record Skipped (ts : List Lexeme) : Type 0 where
  taken : List Lexeme
  text : ts ≡ taken ++ without_separators ts
  all : AreSeparators taken

skipped : (ts : List Lexeme) → Skipped ts
skipped [] = record { taken = []; text = refl; all = refl }
skipped (t ∷ ts) = (elim (is_separator t) as (λ b. is_separator t ≡ b → Skipped (t ∷ ts)) [
  | true ↦ λ e. let u = skipped ts in
      record { taken = t ∷ u.taken; text = ap (λ w. t ∷ w) u.text ∙ ap (λ b. t ∷ (u.taken ++ (if b then without_separators ts else t ∷ ts))) (sym e) ∙ here t ts u.taken e; all = and_from (is_separator t) _ e u.all }
  | false ↦ λ e. record { taken = []; text = sym (ap (λ b. if b then without_separators ts else t ∷ ts) e); all = refl }
]) refl where
  here : (t : Lexeme) (ts taken : List Lexeme) → is_separator t ≡ true → t ∷ (taken ++ (if is_separator t then without_separators ts else t ∷ ts)) ≡ t ∷ (taken ++ without_separators (t ∷ ts))
  here t ts taken e = refl

not_skipped : (ts rest : List Lexeme) → AreSeparators ts → front_is is_separator rest ≡ false → without_separators (ts ++ rest) ≡ rest
not_skipped [] [] a h = refl
not_skipped [] (r ∷ rest) a h = ap (λ b. if b then without_separators rest else r ∷ rest) h
not_skipped (t ∷ ts) rest a h =
    let p = and_parts (is_separator t) (list_all is_separator ts) a in
    ap (λ b. if b then without_separators (ts ++ rest) else t ∷ (ts ++ rest)) p.0 ∙ not_skipped ts rest p.1 h

shorter : (ts : List Lexeme) (us : List Lexeme) (x : Lexeme) → without_separators ts ≡ us ++ x ∷ ts → ⊥
shorter ts us x e =
    let u = skipped ts in
    let h : length ts ≡ length (u.taken ++ (us ++ x ∷ ts)) = ap length (u.text ∙ ap (λ w. u.taken ++ w) e) in
    omega (arith, h, length-append u.taken (us ++ x ∷ ts), length-append us (x ∷ ts))

same_skip : (ts us : List Lexeme) (x : Lexeme) (r s : List Lexeme) → without_separators (ts ++ x ∷ r) ≡ us ++ x ∷ r → without_separators (ts ++ x ∷ s) ≡ us ++ x ∷ s
same_skip [] us x r s e = (elim (is_separator x) as (λ b. is_separator x ≡ b → (if b then without_separators r else x ∷ r) ≡ us ++ x ∷ r → (if b then without_separators s else x ∷ s) ≡ us ++ x ∷ s) [
  | true ↦ λ h e. absurd (shorter r us x e)
  | false ↦ λ h e. ap (λ w. w ++ x ∷ s) (front_same [] us (x ∷ r) e)
]) refl e
same_skip (t ∷ ts) us x r s e = (elim (is_separator t) as (λ b. (if b then without_separators (ts ++ x ∷ r) else t ∷ (ts ++ x ∷ r)) ≡ us ++ x ∷ r → (if b then without_separators (ts ++ x ∷ s) else t ∷ (ts ++ x ∷ s)) ≡ us ++ x ∷ s) [
  | true ↦ λ e. same_skip ts us x r s e
  | false ↦ λ e. ap (λ w. w ++ x ∷ s) (front_same (t ∷ ts) us (x ∷ r) e)
]) e

pub exact_skip : Exact SkipRule is_separator skip_separators
exact_skip = record {
  live = λ m. record { tokens = []; value = tt; next = m; holds = skip_rule m [] refl };
  steady = record {
    took = λ ts m a j h. let p = ok_parts tt a (input (without_separators ts) m) j h in let u = skipped ts in record { taken = u.taken; text = u.text ∙ ap (λ i. u.taken ++ i.rest) p.1 };
    left = λ ts m k h. absurd cc;
    same_read = λ ts us x r s m n a h.
        let p = ok_parts tt a (input (without_separators (ts ++ x ∷ r)) m) (input (us ++ x ∷ r) n) h in
        ap (λ w. Ok (tt, input w m)) (same_skip ts us x r s (ap (λ i. i.rest) p.1)) ∙ (ap (λ z. Ok (z, input (us ++ x ∷ s) m)) p.0 ∙ ap (λ z. Ok (a, input (us ++ x ∷ s) z)) (ap (λ i. i.next) p.1));
    same_stop = λ ts x r s m h. absurd cc;
  };
  sound = λ ts m a j h.
      let p = ok_parts tt a (input (without_separators ts) m) j h in let u = skipped ts in
      record { taken = u.taken; text = u.text ∙ ap (λ i. u.taken ++ i.rest) p.1; holds = subst (λ (n : ℕ). SkipRule m u.taken a n) (ap (λ i. i.next) p.1) (skip_rule m u.taken u.all) };
  viable = λ ts m k h. absurd cc;
  whole = skip_whole;
} where
  skip_whole : (ts : List Lexeme) (m : ℕ) (a : Unit {0}) (n : ℕ) (rest : List Lexeme) → SkipRule m ts a n → front_is is_separator rest ≡ false → IsRead (skip_separators (input (ts ++ rest) m)) a (input rest n)
  skip_whole ts m a n rest (skip_rule m1 ps s) h = read_is _ tt (input rest m1) (ap (λ w. Ok (tt, input w m1)) (not_skipped ps rest s h))

-- ---- sep { sep }

pub data SeparatorsRule : ℕ → List Lexeme → Bool → ℕ → Type 0 where
  separators_rule : (m : ℕ) (p : Lexeme) (ps : List Lexeme) → is_separator p ≡ true → AreSeparators ps → SeparatorsRule m (p ∷ ps) (shows p) m

pub shows_if : (t : Lexeme) (b : Bool) → separator_shows t ≡ Some b → (is_separator t ≡ true) × (shows t ≡ b)
shows_if t b h = (elim (is_separator t) as (λ x. is_separator t ≡ x → (if x then Some (shows t) else None) ≡ Some b → (is_separator t ≡ true) × (shows t ≡ b)) [
  | true ↦ λ e h. (e, let g : shows t ≡ b = cc in g)
  | false ↦ λ e h. absurd cc
]) refl h

if_shows : (t : Lexeme) → is_separator t ≡ true → separator_shows t ≡ Some (shows t)
if_shows t h = ap (λ x. if x then Some (shows t) else None) h

pub exact_separators : Exact SeparatorsRule is_separator separators
exact_separators =
    exact_as (Seq (IsTaken separator_shows) (λ shown. Seq SkipRule (λ _. IsPure shown))) SeparatorsRule
    (exact_bind (take_as separator_shows) (λ shown. skip_separators >>= (λ _. pure shown)) (exact_take nothing separator_shows (sign 1 (codes ";")) false refl)
    (λ shown. exact_bind skip_separators (λ _. pure shown) exact_skip (λ _. exact_pure is_separator shown) (follows shown)) (λ a k us b n rest r h. none_of_nothing (us ++ rest)))
    there back where
      follows : (shown : Bool) (a : Unit {0}) (k : ℕ) (us : List Lexeme) (b : Bool) (n : ℕ) (rest : List Lexeme) → IsPure shown k us b n → front_is is_separator rest ≡ false → front_is is_separator (us ++ rest) ≡ false
      follows shown a k us b n rest (is_pure m1) h = h

      append_nil : (xs : List Lexeme) → xs ≡ xs ++ []
      append_nil [] = refl
      append_nil (x ∷ xs) = ap (λ w. x ∷ w) (append_nil xs)

      there : (m : ℕ) (ts : List Lexeme) (b : Bool) (n : ℕ) → Seq (IsTaken separator_shows) (λ shown. Seq SkipRule (λ _. IsPure shown)) m ts b n → SeparatorsRule m ts b n
      there m all b n (seq m1 k1 n1 ts us shown b1 (is_taken m2 t s h) q) = close m2 t shown us b1 n1 h q where
        close : (m : ℕ) (t : Lexeme) (shown : Bool) (us : List Lexeme) (b : Bool) (n : ℕ) → separator_shows t ≡ Some shown → Seq SkipRule (λ _. IsPure shown) m us b n → SeparatorsRule m (t ∷ us) b n
        close m t shown us b n h (seq m3 k3 n3 ts3 us3 c b3 (skip_rule m4 ps s) (is_pure m5)) =
            let p = shows_if t shown h in
            subst (λ (w : List Lexeme). SeparatorsRule m5 (t ∷ w) shown m5) (append_nil ps) (subst (λ (z : Bool). SeparatorsRule m5 (t ∷ ps) z m5) p.1 (separators_rule m5 t ps p.0 s))

      back : (m : ℕ) (ts : List Lexeme) (b : Bool) (n : ℕ) → SeparatorsRule m ts b n → Seq (IsTaken separator_shows) (λ shown. Seq SkipRule (λ _. IsPure shown)) m ts b n
      back m ts b n (separators_rule m1 p ps h s) =
          subst (λ (w : List Lexeme). Seq (IsTaken separator_shows) (λ shown. Seq SkipRule (λ _. IsPure shown)) m1 (p ∷ w) (shows p) m1) (sym (append_nil ps))
          (seq m1 m1 m1 (p ∷ []) (ps ++ []) (shows p) (shows p) (is_taken m1 p (shows p) (if_shows p h)) (seq m1 m1 m1 ps [] tt (shows p) (skip_rule m1 ps s) (is_pure m1)))

-- ---- readers on a line

pub data OnLine {A : Type 0} (R : ℕ → Rule A) : ℕ → List Lexeme → A → ℕ → Type 0 where
  on_line_is : (l m n : ℕ) (ts : List Lexeme) (a : A) → R l m ts a n → first_line ts ≡ Some l → OnLine R m ts a n

same_line : (ts : List Lexeme) (x : Lexeme) (r s : List Lexeme) → line_here (ts ++ x ∷ r) ≡ line_here (ts ++ x ∷ s)
same_line [] x r s = refl
same_line (t ∷ ts) x r s = refl

pub steady_on_line : {A : Type 0} (f : ℕ → Reader A) → ((l : ℕ) → Steady (f l)) → Steady (on_line f)
steady_on_line f x = record {
  took = λ ts m a j h. (x (line_here ts)).took ts m a j h;
  left = λ ts m k h. (x (line_here ts)).left ts m k h;
  same_read = λ ts us y r s m n a h. ap (λ l. f l (input (ts ++ y ∷ s) m)) (sym (same_line ts y r s)) ∙ (x (line_here (ts ++ y ∷ r))).same_read ts us y r s m n a h;
  same_stop = λ ts y r s m h. ap (λ l. f l (input (ts ++ y ∷ s) m)) (sym (same_line ts y r s)) ∙ (x (line_here (ts ++ y ∷ r))).same_stop ts y r s m h;
}

-- there is a token
pub record Some_tokens (ts : List Lexeme) : Type 0 where
  pub token : Lexeme
  pub others : List Lexeme
  pub text : ts ≡ token ∷ others

pub exact_on_line : {A : Type 0} {R : ℕ → Rule A} {goes : Lexeme → Bool} (f : ℕ → Reader A) → ((l : ℕ) → Exact (R l) goes (f l))
    → ((l m : ℕ) (ts : List Lexeme) (a : A) (n : ℕ) → R l m ts a n → Some_tokens ts) → ((m : ℕ) → Live (OnLine R) m) → Exact (OnLine R) goes (on_line f)
exact_on_line {A} {R} {goes} f x some live = record {
  live = live;
  steady = steady_on_line f (λ l. (x l).steady);
  sound = λ ts m a j h.
      let u = (x (line_here ts)).sound ts m a j h in
      let t = some (line_here ts) m u.taken a j.next u.holds in
      record { taken = u.taken; text = u.text; holds = on_line_is (line_here ts) m j.next u.taken a u.holds (ap first_line t.text ∙ ap Some (sym (ap line_here (u.text ∙ ap (λ w. w ++ j.rest) t.text)))) };
  viable = λ ts m k h. begun m ts k ((x (line_here ts)).viable ts m k h);
  whole = line_whole f x;
} where
  begun : (m : ℕ) (ts : List Lexeme) (k : ℕ) → Begun (R (line_here ts)) m ts k → Begun (OnLine R) m ts k
  begun m ts k v = from v.taken v.text v.holds where
    from : (taken : List Lexeme) → ts ≡ taken ++ v.left → R (line_here ts) m (taken ++ v.more) v.value v.next → Begun (OnLine R) m ts k
    from [] text holds = let l = live m in record { taken = []; left = v.left; text = text; count = v.count; more = l.tokens; value = l.value; next = l.next; holds = l.holds }
    from (t ∷ ws) text holds = record {
      taken = t ∷ ws;
      left = v.left;
      text = text;
      count = v.count;
      more = v.more;
      value = v.value;
      next = v.next;
      holds = on_line_is (line_here ts) m v.next (t ∷ (ws ++ v.more)) v.value holds (ap Some (sym (ap line_here text)));
    }

  first_is : (l : ℕ) (ts rest : List Lexeme) → first_line ts ≡ Some l → line_here (ts ++ rest) ≡ l
  first_is l [] rest h = absurd cc
  first_is l (t ∷ ts) rest h = let g : t.line ≡ l = cc in g

  line_whole : {A : Type 0} {R : ℕ → Rule A} {goes : Lexeme → Bool} (f : ℕ → Reader A) → ((l : ℕ) → Exact (R l) goes (f l)) → (ts : List Lexeme) (m : ℕ) (a : A) (n : ℕ) (rest : List Lexeme)
      → OnLine R m ts a n → front_is goes rest ≡ false → IsRead (on_line f (input (ts ++ rest) m)) a (input rest n)
  line_whole f x ts m a n rest (on_line_is l m1 n1 ts1 a1 r e) h =
      read_as _ _ a1 (input rest n1) (ap (λ l. f l (input (ts1 ++ rest) m1)) (first_is l ts1 rest e)) ((x l).whole ts1 m1 a1 n1 rest r h)
