-- Readers that read to the end of the text, and when such a reader and a rule say the same.
use Rattle.std.proofs.Common.{◌≡◌, ℕ, suc, Bool, true, false, List, [], ◌∷◌, ◌++◌, length, Some, ⊎_elim, refl, sym, ap, ◌∙◌, subst, append_assoc}
use Rattle.std.specs.Prelude.{if◌then◌else◌, Result, Ok, Err}
use Rattle.tall_grammar.specs.declared.faults.Fault.TheVariants.{Stop, OutOfTurns}
use Rattle.tall_grammar.specs.Lexemes.{Lexeme}
use Rattle.tall_grammar.specs.Grammar.{first_line}
use Rattle.tall_grammar.specs.Readers.{Input, input, Reader, ◌>>=◌, pure, front_is}
use Rattle.tall_grammar.specs.ScriptReader.{line_here, on_line, at_end}
use Rattle.tall_grammar.proofs.Exact.{Rule, Live, Begun, IsRead, Exact, tail_same, bind_ok, bind_stop, bind_known, bind_stopped, bind_read, read_as}
use Rattle.tall_grammar.proofs.Combine.{Seq, seq, Either, one, other}
use Rattle.tall_grammar.proofs.Lines.{OnLine, on_line_is, Some_tokens}

-- all tokens are taken
pub record Ended {A : Type 0} (R : Rule A) (m : ℕ) (ts : List Lexeme) (a : A) (j : Input) : Type 0 where
  pub nothing_left : j.rest ≡ []
  pub holds : R m ts a j.next

pub record Ending {A : Type 0} (R : Rule A) (p : Reader A) : Type 0 where
  pub live : (m : ℕ) → Live R m
  pub same_stop : (ts : List Lexeme) (x : Lexeme) (r s : List Lexeme) (m : ℕ)
      → p (input (ts ++ x ∷ r) m) ≡ Err (Stop (suc (length r))) → p (input (ts ++ x ∷ s) m) ≡ Err (Stop (suc (length s)))
  pub sound : (ts : List Lexeme) (m : ℕ) (a : A) (j : Input) → p (input ts m) ≡ Ok (a, j) → Ended R m ts a j
  pub viable : (ts : List Lexeme) (m k : ℕ) → p (input ts m) ≡ Err (Stop k) → Begun R m ts k
  pub whole : (ts : List Lexeme) (m : ℕ) (a : A) (n : ℕ) → R m ts a n → IsRead (p (input ts m)) a (input [] n)

pub end_as : {A : Type 0} {p : Reader A} (R S : Rule A) → Ending R p → ((m : ℕ) (ts : List Lexeme) (a : A) (n : ℕ) → R m ts a n → S m ts a n) → ((m : ℕ) (ts : List Lexeme) (a : A) (n : ℕ) → S m ts a n → R m ts a n) → Ending S p
end_as R S x to from = record {
  live = λ m. let l = x.live m in record { tokens = l.tokens; value = l.value; next = l.next; holds = to _ _ _ _ l.holds };
  same_stop = x.same_stop;
  sound = λ ts m a j h. let s = x.sound ts m a j h in record { nothing_left = s.nothing_left; holds = to _ _ _ _ s.holds };
  viable = λ ts m k h. let v = x.viable ts m k h in record { taken = v.taken; left = v.left; text = v.text; count = v.count; more = v.more; value = v.value; next = v.next; holds = to _ _ _ _ v.holds };
  whole = λ ts m a n r. x.whole ts m a n (from _ _ _ _ r);
}

pub end_same : {A : Type 0} {R : Rule A} (p q : Reader A) → ((ts : List Lexeme) (m : ℕ) → p (input ts m) ≡ q (input ts m)) → Ending R q → Ending R p
end_same p q e x = record {
  live = x.live;
  same_stop = λ ts y r s m h. e (ts ++ y ∷ s) m ∙ x.same_stop ts y r s m (sym (e (ts ++ y ∷ r) m) ∙ h);
  sound = λ ts m a j h. x.sound ts m a j (sym (e ts m) ∙ h);
  viable = λ ts m k h. x.viable ts m k (sym (e ts m) ∙ h);
  whole = λ ts m a n r. read_as _ _ a (input [] n) (e ts m) (x.whole ts m a n r);
}

pub end_tired : {A : Type 0} (R : Rule A) → ((m : ℕ) → Live R m) → (p : Reader A) → ((i : Input) → p i ≡ Err OutOfTurns) → Ending R p
end_tired R live p e = record {
  live = live;
  same_stop = λ ts x r s m h. let g = sym (e (input (ts ++ x ∷ r) m)) ∙ h in absurd cc;
  sound = λ ts m a j h. let g = sym (e (input ts m)) ∙ h in absurd cc;
  viable = λ ts m k h. let g = sym (e (input ts m)) ∙ h in absurd cc;
  whole = λ ts m a n r. subst (λ (o : _). IsRead o a (input [] n)) (sym (e (input ts m))) tt;
}

pub end_bind : {A B : Type 0} {P : Rule A} {S : A → Rule B} {near : Lexeme → Bool} (p : Reader A) (f : A → Reader B) → Exact P near p → ((a : A) → Ending (S a) (f a))
    → ((a : A) (k : ℕ) (us : List Lexeme) (b : B) (n : ℕ) → S a k us b n → front_is near us ≡ false) → Ending (Seq P S) (p >>= f)
end_bind {A} {B} {P} {S} {near} p f x y follows = record {
  live = λ m. let l = x.live m in let r = (y l.value).live l.next in
      record { tokens = l.tokens ++ r.tokens; value = r.value; next = r.next; holds = seq m l.next r.next l.tokens r.tokens l.value r.value l.holds r.holds };
  same_stop = λ ts z r s m h. ⊎_elim (λ g. bind_stopped _ f _ (x.steady.same_stop ts z r s m g)) (λ o.
      let u = x.steady.took (ts ++ z ∷ r) m o.0 o.1 o.2 in
      let v = (y o.0).viable o.1.rest o.1.next (suc (length r)) o.3 in
      let t : ts ++ z ∷ r ≡ (u.taken ++ v.taken) ++ v.left = u.text ∙ (ap (λ w. u.taken ++ w) v.text ∙ sym (append_assoc u.taken v.taken v.left)) in
      let e : o.1.rest ≡ v.taken ++ z ∷ r = v.text ∙ ap (λ w. v.taken ++ w) (sym (tail_same ts (u.taken ++ v.taken) (z ∷ r) v.left t (sym v.count))) in
      let h1 : p (input (ts ++ z ∷ r) m) ≡ Ok (o.0, input (v.taken ++ z ∷ r) o.1.next) = o.2 ∙ ap (λ w. Ok (o.0, input w o.1.next)) e in
      let h2 : f o.0 (input (v.taken ++ z ∷ r) o.1.next) ≡ Err (Stop (suc (length r))) = ap (λ w. f o.0 (input w o.1.next)) (sym e) ∙ o.3 in
      bind_known _ f _ _ (x.steady.same_read ts v.taken z r s m o.1.next o.0 h1) ∙ (y o.0).same_stop v.taken z r s o.1.next h2)
      (bind_stop (p (input (ts ++ z ∷ r) m)) f (suc (length r)) h);
  sound = λ ts m b j h.
      let z = bind_ok (p (input ts m)) f (b, j) h in
      let u = x.sound ts m z.0 z.1 z.2 in
      let v = (y z.0).sound z.1.rest z.1.next b j z.3 in
      record { nothing_left = v.nothing_left; holds = subst (λ (w : List Lexeme). Seq P S m w b j.next) (sym u.text) (seq m z.1.next j.next u.taken z.1.rest z.0 b u.holds v.holds) };
  viable = λ ts m k h. ⊎_elim (λ g.
      let u = x.viable ts m k g in
      let r = (y u.value).live u.next in
      record {
        taken = u.taken;
        left = u.left;
        text = u.text;
        count = u.count;
        more = u.more ++ r.tokens;
        value = r.value;
        next = r.next;
        holds = subst (λ (w : List Lexeme). Seq P S m w r.value r.next) (append_assoc u.taken u.more r.tokens) (seq m u.next r.next (u.taken ++ u.more) r.tokens u.value r.value u.holds r.holds);
      }) (λ z.
      let u = x.sound ts m z.0 z.1 z.2 in
      let v = (y z.0).viable z.1.rest z.1.next k z.3 in
      record {
        taken = u.taken ++ v.taken;
        left = v.left;
        text = u.text ∙ (ap (λ w. u.taken ++ w) v.text ∙ sym (append_assoc u.taken v.taken v.left));
        count = v.count;
        more = v.more;
        value = v.value;
        next = v.next;
        holds = subst (λ (w : List Lexeme). Seq P S m w v.value v.next) (sym (append_assoc u.taken v.taken v.more)) (seq m z.1.next v.next u.taken (v.taken ++ v.more) z.0 v.value u.holds v.holds);
      })
      (bind_stop (p (input ts m)) f k h);
  whole = end_whole p f x y follows;
} where
  end_whole : {A B : Type 0} {P : Rule A} {S : A → Rule B} {near : Lexeme → Bool} (p : Reader A) (f : A → Reader B) → Exact P near p → ((a : A) → Ending (S a) (f a))
      → ((a : A) (k : ℕ) (us : List Lexeme) (b : B) (n : ℕ) → S a k us b n → front_is near us ≡ false) → (ts : List Lexeme) (m : ℕ) (b : B) (n : ℕ) → Seq P S m ts b n → IsRead ((p >>= f) (input ts m)) b (input [] n)
  end_whole p f x y follows all m b n (seq m1 k n1 ts us a b1 u v) =
      bind_read _ f a (input us k) b1 (input [] n1) (x.whole ts m1 a k us u (follows a k us b1 n1 v)) ((y a).whole us k b1 n1 v)

-- something is made of what was read
pub data Made {A B : Type 0} (R : Rule A) (g : A → B) : ℕ → List Lexeme → B → ℕ → Type 0 where
  made : (m n : ℕ) (ts : List Lexeme) (a : A) (b : B) → R m ts a n → b ≡ g a → Made R g m ts b n

pub end_made : {A B : Type 0} {R : Rule A} (g : A → B) (p : Reader A) → Ending R p → Ending (Made R g) (p >>= (λ a. pure (g a)))
end_made {A} {B} {R} g p x = record {
  live = λ m. let l = x.live m in record { tokens = l.tokens; value = g l.value; next = l.next; holds = made m l.next l.tokens l.value _ l.holds refl };
  same_stop = λ ts z r s m h. ⊎_elim (λ e. bind_stopped _ (λ a. pure (g a)) _ (x.same_stop ts z r s m e)) (λ o. let q = o.3 in absurd cc) (bind_stop (p (input (ts ++ z ∷ r) m)) (λ a. pure (g a)) (suc (length r)) h);
  sound = λ ts m b j h.
      let z = bind_ok (p (input ts m)) (λ a. pure (g a)) (b, j) h in
      let u = x.sound ts m z.0 z.1 z.2 in
      let e = ok_value (g z.0, z.1) (b, j) z.3 in
      let i : z.1 ≡ j = ap (λ q. q.1) e in
      record { nothing_left = ap (λ q. q.rest) (sym i) ∙ u.nothing_left; holds = subst (λ (n : ℕ). Made R g m ts b n) (ap (λ q. q.next) i) (made m z.1.next ts z.0 b u.holds (sym (ap (λ q. q.0) e))) };
  viable = λ ts m k h. ⊎_elim (λ e. let u = x.viable ts m k e in
      record { taken = u.taken; left = u.left; text = u.text; count = u.count; more = u.more; value = g u.value; next = u.next; holds = made m u.next _ u.value _ u.holds refl }) (λ o. let q = o.3 in absurd cc) (bind_stop (p (input ts m)) (λ a. pure (g a)) k h);
  whole = made_whole g p x;
} where
  ok_value : {X E : Type 0} (x y : X) → ◌≡◌ {A = Result X E} (Ok x) (Ok y) → x ≡ y
  ok_value x y h = cc

  made_whole : {A B : Type 0} {R : Rule A} (g : A → B) (p : Reader A) → Ending R p → (ts : List Lexeme) (m : ℕ) (b : B) (n : ℕ) → Made R g m ts b n → IsRead ((p >>= (λ a. pure (g a))) (input ts m)) b (input [] n)
  made_whole g p x ts m b n (made m1 n1 ts1 a b1 r q) = bind_read _ (λ a. pure (g a)) a (input [] n1) b1 (input [] n1) (x.whole ts1 m1 a n1 r) (ap (λ z. (z, input [] n1)) (sym q))

-- a choice by what stands first
pub end_choice : {A : Type 0} {P Q : Rule A} (test : List Lexeme → Bool) (p q : Reader A) → ((ts : List Lexeme) (x : Lexeme) (r s : List Lexeme) → test (ts ++ x ∷ r) ≡ test (ts ++ x ∷ s)) → Ending P p → Ending Q q
    → ((m : ℕ) (ts : List Lexeme) (a : A) (n : ℕ) → P m ts a n → test ts ≡ true) → ((m : ℕ) (ts : List Lexeme) (a : A) (n : ℕ) → Q m ts a n → test ts ≡ false)
    → Ending (Either P Q) (λ i. if test i.rest then p i else q i)
end_choice {A} {P} {Q} test p q same x y passes others = record {
  live = λ m. let l = x.live m in record { tokens = l.tokens; value = l.value; next = l.next; holds = one _ _ _ _ l.holds };
  same_stop = λ ts z r s m h. ap (λ b. if b then p (input (ts ++ z ∷ s) m) else q (input (ts ++ z ∷ s) m)) (same ts z s r) ∙ stop ts z r s m (test (ts ++ z ∷ r)) h;
  sound = λ ts m a j h. ended ts m a j (test ts) h;
  viable = λ ts m k h. begun ts m k (test ts) h;
  whole = choice_whole test p q x y passes others;
} where
  stop : (ts : List Lexeme) (z : Lexeme) (r s : List Lexeme) (m : ℕ) (b : Bool) → (if b then p (input (ts ++ z ∷ r) m) else q (input (ts ++ z ∷ r) m)) ≡ Err (Stop (suc (length r)))
      → (if b then p (input (ts ++ z ∷ s) m) else q (input (ts ++ z ∷ s) m)) ≡ Err (Stop (suc (length s)))
  stop ts z r s m true h = x.same_stop ts z r s m h
  stop ts z r s m false h = y.same_stop ts z r s m h

  ended : (ts : List Lexeme) (m : ℕ) (a : A) (j : Input) (b : Bool) → (if b then p (input ts m) else q (input ts m)) ≡ Ok (a, j) → Ended (Either P Q) m ts a j
  ended ts m a j true h = let u = x.sound ts m a j h in record { nothing_left = u.nothing_left; holds = one _ _ _ _ u.holds }
  ended ts m a j false h = let u = y.sound ts m a j h in record { nothing_left = u.nothing_left; holds = other _ _ _ _ u.holds }

  begun : (ts : List Lexeme) (m k : ℕ) (b : Bool) → (if b then p (input ts m) else q (input ts m)) ≡ Err (Stop k) → Begun (Either P Q) m ts k
  begun ts m k true h = let u = x.viable ts m k h in record { taken = u.taken; left = u.left; text = u.text; count = u.count; more = u.more; value = u.value; next = u.next; holds = one _ _ _ _ u.holds }
  begun ts m k false h = let u = y.viable ts m k h in record { taken = u.taken; left = u.left; text = u.text; count = u.count; more = u.more; value = u.value; next = u.next; holds = other _ _ _ _ u.holds }

  choice_whole : {A : Type 0} {P Q : Rule A} (test : List Lexeme → Bool) (p q : Reader A) → Ending P p → Ending Q q
      → ((m : ℕ) (ts : List Lexeme) (a : A) (n : ℕ) → P m ts a n → test ts ≡ true) → ((m : ℕ) (ts : List Lexeme) (a : A) (n : ℕ) → Q m ts a n → test ts ≡ false)
      → (ts : List Lexeme) (m : ℕ) (a : A) (n : ℕ) → Either P Q m ts a n → IsRead (if test ts then p (input ts m) else q (input ts m)) a (input [] n)
  choice_whole test p q x y passes others ts m a n (one m1 n1 ts1 a1 r) = read_as _ _ a1 (input [] n1) (ap (λ b. if b then p (input ts1 m1) else q (input ts1 m1)) (passes m1 ts1 a1 n1 r)) (x.whole ts1 m1 a1 n1 r)
  choice_whole test p q x y passes others ts m a n (other m1 n1 ts1 a1 r) = read_as _ _ a1 (input [] n1) (ap (λ b. if b then p (input ts1 m1) else q (input ts1 m1)) (others m1 ts1 a1 n1 r)) (y.whole ts1 m1 a1 n1 r)

-- at the end of the text this is read, before it what another reader reads
pub data EndOr {A : Type 0} (P : ℕ → A → ℕ → Type 0) (Q : Rule A) : ℕ → List Lexeme → A → ℕ → Type 0 where
  at_the_end : (m n : ℕ) (a : A) → P m a n → EndOr P Q m [] a n
  before_it : (m n : ℕ) (t : Lexeme) (ts : List Lexeme) (a : A) → Q m (t ∷ ts) a n → EndOr P Q m (t ∷ ts) a n

pub record AtEnd {A : Type 0} (P : ℕ → A → ℕ → Type 0) (p : Reader A) : Type 0 where
  pub found : (m : ℕ) (a : A) (j : Input) → p (input [] m) ≡ Ok (a, j) → (j.rest ≡ []) × P m a j.next
  pub no_stop : (m k : ℕ) → p (input [] m) ≡ Err (Stop k) → ⊥
  pub only : (m : ℕ) (a : A) (n : ℕ) → P m a n → IsRead (p (input [] m)) a (input [] n)

pub end_or : {A : Type 0} {P : ℕ → A → ℕ → Type 0} {Q : Rule A} (p q : Reader A) → ((m : ℕ) → Live (EndOr P Q) m) → AtEnd P p → Ending Q q → ((m : ℕ) (a : A) (n : ℕ) → Q m [] a n → ⊥)
    → Ending (EndOr P Q) (λ i. if at_end i.rest then p i else q i)
end_or {A} {P} {Q} p q live x y never = record {
  live = live;
  same_stop = stop;
  sound = ended;
  viable = begun;
  whole = or_whole p q x y;
} where
  stop : (ts : List Lexeme) (z : Lexeme) (r s : List Lexeme) (m : ℕ) → (if at_end (ts ++ z ∷ r) then p (input (ts ++ z ∷ r) m) else q (input (ts ++ z ∷ r) m)) ≡ Err (Stop (suc (length r)))
      → (if at_end (ts ++ z ∷ s) then p (input (ts ++ z ∷ s) m) else q (input (ts ++ z ∷ s) m)) ≡ Err (Stop (suc (length s)))
  stop [] z r s m h = y.same_stop [] z r s m h
  stop (t ∷ ts) z r s m h = y.same_stop (t ∷ ts) z r s m h

  ended : (ts : List Lexeme) (m : ℕ) (a : A) (j : Input) → (if at_end ts then p (input ts m) else q (input ts m)) ≡ Ok (a, j) → Ended (EndOr P Q) m ts a j
  ended [] m a j h = let u = x.found m a j h in record { nothing_left = u.0; holds = at_the_end m j.next a u.1 }
  ended (t ∷ ts) m a j h = let u = y.sound (t ∷ ts) m a j h in record { nothing_left = u.nothing_left; holds = before_it m j.next t ts a u.holds }

  held : (m n : ℕ) (ts : List Lexeme) (a : A) → Q m ts a n → EndOr P Q m ts a n
  held m n [] a r = absurd (never m a n r)
  held m n (t ∷ ts) a r = before_it m n t ts a r

  begun : (ts : List Lexeme) (m k : ℕ) → (if at_end ts then p (input ts m) else q (input ts m)) ≡ Err (Stop k) → Begun (EndOr P Q) m ts k
  begun [] m k h = absurd (x.no_stop m k h)
  begun (t ∷ ts) m k h = let u = y.viable (t ∷ ts) m k h in record { taken = u.taken; left = u.left; text = u.text; count = u.count; more = u.more; value = u.value; next = u.next; holds = held m u.next (u.taken ++ u.more) u.value u.holds }

  or_whole : {A : Type 0} {P : ℕ → A → ℕ → Type 0} {Q : Rule A} (p q : Reader A) → AtEnd P p → Ending Q q → (ts : List Lexeme) (m : ℕ) (a : A) (n : ℕ) → EndOr P Q m ts a n
      → IsRead (if at_end ts then p (input ts m) else q (input ts m)) a (input [] n)
  or_whole p q x y ts m a n (at_the_end m1 n1 a1 r) = x.only m1 a1 n1 r
  or_whole p q x y ts m a n (before_it m1 n1 t ts1 a1 r) = y.whole (t ∷ ts1) m1 a1 n1 r

-- on the line of the first token
pub end_on_line : {A : Type 0} {R : ℕ → Rule A} (f : ℕ → Reader A) → ((l : ℕ) → Ending (R l) (f l)) → ((l m : ℕ) (ts : List Lexeme) (a : A) (n : ℕ) → R l m ts a n → Some_tokens ts) → ((m : ℕ) → Live (OnLine R) m)
    → Ending (OnLine R) (on_line f)
end_on_line {A} {R} f x some live = record {
  live = live;
  same_stop = λ ts y r s m h. ap (λ l. f l (input (ts ++ y ∷ s) m)) (sym (same_line ts y r s)) ∙ (x (line_here (ts ++ y ∷ r))).same_stop ts y r s m h;
  sound = λ ts m a j h.
      let u = (x (line_here ts)).sound ts m a j h in
      let t = some (line_here ts) m ts a j.next u.holds in
      record { nothing_left = u.nothing_left; holds = on_line_is (line_here ts) m j.next ts a u.holds (ap first_line t.text ∙ ap Some (sym (ap line_here t.text))) };
  viable = λ ts m k h. begun m ts k ((x (line_here ts)).viable ts m k h);
  whole = line_whole f x;
} where
  same_line : (ts : List Lexeme) (x : Lexeme) (r s : List Lexeme) → line_here (ts ++ x ∷ r) ≡ line_here (ts ++ x ∷ s)
  same_line [] x r s = refl
  same_line (t ∷ ts) x r s = refl

  begun : (m : ℕ) (ts : List Lexeme) (k : ℕ) → Begun (R (line_here ts)) m ts k → Begun (OnLine R) m ts k
  begun m ts k v = from v.taken v.text v.holds where
    from : (taken : List Lexeme) → ts ≡ taken ++ v.left → R (line_here ts) m (taken ++ v.more) v.value v.next → Begun (OnLine R) m ts k
    from [] text holds = let l = live m in record { taken = []; left = v.left; text = text; count = v.count; more = l.tokens; value = l.value; next = l.next; holds = l.holds }
    from (t ∷ ws) text holds = record {
      taken = t ∷ ws;
      left = v.left;
      text = text;
      count = v.count;
      more = v.more;
      value = v.value;
      next = v.next;
      holds = on_line_is (line_here ts) m v.next (t ∷ (ws ++ v.more)) v.value holds (ap Some (sym (ap line_here text)));
    }

  first_is : (l : ℕ) (ts : List Lexeme) → first_line ts ≡ Some l → line_here ts ≡ l
  first_is l [] h = absurd cc
  first_is l (t ∷ ts) h = let g : t.line ≡ l = cc in g

  line_whole : {A : Type 0} {R : ℕ → Rule A} (f : ℕ → Reader A) → ((l : ℕ) → Ending (R l) (f l)) → (ts : List Lexeme) (m : ℕ) (a : A) (n : ℕ) → OnLine R m ts a n → IsRead (on_line f (input ts m)) a (input [] n)
  line_whole f x ts m a n (on_line_is l m1 n1 ts1 a1 r e) = read_as _ _ a1 (input [] n1) (ap (λ l. f l (input ts1 m1)) (first_is l ts1 e)) ((x l).whole ts1 m1 a1 n1 r)
