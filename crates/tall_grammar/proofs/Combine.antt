-- Readers that are put together are exact where their parts are.
use Rattle.std.proofs.Common.{◌≡◌, ℕ, suc, Bool, true, false, List, [], ◌∷◌, ◌++◌, length, Option, Some, None, ⊎_elim, refl, sym, ap, ◌∙◌, subst, arith, append_assoc, length-append}
use Rattle.std.specs.Prelude.{Result, Ok, Err, if◌then◌else◌}
use Rattle.tall_grammar.specs.declared.faults.Fault.{Fault}
use Rattle.tall_grammar.specs.declared.faults.Fault.TheVariants.{Stop}
use Rattle.tall_grammar.specs.Lexemes.{Lexeme}
use Rattle.tall_grammar.specs.Readers.{Input, input, Outcome, Reader, and_then, ◌>>=◌, pure, stopped, tired, front_as, front_is, chosen, given, given_if, peek, take_as, numbered}
use Rattle.tall_grammar.proofs.Exact.{Rule, Took, Left, Steady, Live, Holds, Begun, IsRead, Exact, tail_same, front_same, front_of, bind_ok, bind_stop, bind_known, bind_stopped, bind_read, read_is, read_as}

ok_value : {X E : Type 0} (x y : X) → ◌≡◌ {A = Result X E} (Ok x) (Ok y) → x ≡ y
ok_value x y h = cc

ok_parts : {A : Type 0} (a b : A) (i j : Input) → ◌≡◌ {A = Outcome A} (Ok (a, i)) (Ok (b, j)) → (a ≡ b) × (i ≡ j)
ok_parts a b i j h = let e = ok_value (a, i) (b, j) h in (ap (λ p. p.0) e, ap (λ p. p.1) e)

stop_count : {X : Type 0} (k n : ℕ) → ◌≡◌ {A = Result X Fault} (Err (Stop k)) (Err (Stop n)) → k ≡ n
stop_count k n h = cc

-- ---- steady readers

steady_pure : {A : Type 0} (a : A) → Steady (pure a)
steady_pure {A} a = record {
  took = λ ts m b j h. record { taken = []; text = ap (λ i. i.rest) (ok_parts a b (input ts m) j h).1 };
  left = λ ts m k h. absurd cc;
  same_read = λ ts us x r s m n b h.
      let e = ok_parts a b (input (ts ++ x ∷ r) m) (input (us ++ x ∷ r) n) h in
      let f = front_same ts us (x ∷ r) (ap (λ i. i.rest) e.1) in
      ap (λ c. Ok (c, input (ts ++ x ∷ s) m)) e.0 ∙ (ap (λ w. Ok (b, input (w ++ x ∷ s) m)) f
      ∙ ap (λ k. Ok (b, input (us ++ x ∷ s) k)) (ap (λ i. i.next) e.1));
  same_stop = λ ts x r s m h. absurd cc;
}

steady_numbered : {A : Type 0} (g : ℕ → A) → Steady (numbered g)
steady_numbered {A} g = record {
  took = λ ts m b j h. record { taken = []; text = ap (λ i. i.rest) (ok_parts (g m) b (input ts (suc m)) j h).1 };
  left = λ ts m k h. absurd cc;
  same_read = λ ts us x r s m n b h.
      let e = ok_parts (g m) b (input (ts ++ x ∷ r) (suc m)) (input (us ++ x ∷ r) n) h in
      let f = front_same ts us (x ∷ r) (ap (λ i. i.rest) e.1) in
      ap (λ c. Ok (c, input (ts ++ x ∷ s) (suc m))) e.0 ∙ (ap (λ w. Ok (b, input (w ++ x ∷ s) (suc m))) f
      ∙ ap (λ k. Ok (b, input (us ++ x ∷ s) k)) (ap (λ i. i.next) e.1));
  same_stop = λ ts x r s m h. absurd cc;
}

steady_tired : {A : Type 0} → Steady {A = A} tired
steady_tired {A} = record {
  took = λ ts m b j h. absurd cc;
  left = λ ts m k h. absurd cc;
  same_read = λ ts us x r s m n b h. absurd cc;
  same_stop = λ ts x r s m h. absurd cc;
}

pub steady_stopped : {A : Type 0} → Steady {A = A} stopped
steady_stopped {A} = record {
  took = λ ts m b j h. absurd cc;
  left = λ ts m k h. record { taken = []; left = ts; text = refl; count = stop_count (length ts) k h };
  same_read = λ ts us x r s m n b h. absurd cc;
  same_stop = λ ts x r s m h.
      let e : length (ts ++ x ∷ r) ≡ suc (length r) = stop_count _ _ h in
      let f : length (ts ++ x ∷ s) ≡ suc (length s) = omega (arith, e, length-append ts (x ∷ r), length-append ts (x ∷ s)) in
      ap (λ k. Err (Stop k)) f;
}

pub steady_bind : {A B : Type 0} (p : Reader A) (f : A → Reader B) → Steady p → ((a : A) → Steady (f a)) → Steady (p >>= f)
steady_bind {A} {B} p f ps fs = record {
  took = λ ts m b j h.
      let x = bind_ok (p (input ts m)) f (b, j) h in
      let u = ps.took ts m x.0 x.1 x.2 in
      let v = (fs x.0).took x.1.rest x.1.next b j x.3 in
      record { taken = u.taken ++ v.taken; text = u.text ∙ (ap (λ w. u.taken ++ w) v.text ∙ sym (append_assoc u.taken v.taken j.rest)) };
  left = λ ts m k h. ⊎_elim (λ g. ps.left ts m k g) (λ x.
      let u = ps.took ts m x.0 x.1 x.2 in
      let v = (fs x.0).left x.1.rest x.1.next k x.3 in
      record { taken = u.taken ++ v.taken; left = v.left; text = u.text ∙ (ap (λ w. u.taken ++ w) v.text ∙ sym (append_assoc u.taken v.taken v.left)); count = v.count })
      (bind_stop (p (input ts m)) f k h);
  same_read = λ ts us x r s m n b h.
      let y = bind_ok (p (input (ts ++ x ∷ r) m)) f (b, input (us ++ x ∷ r) n) h in
      let v = (fs y.0).took y.1.rest y.1.next b (input (us ++ x ∷ r) n) y.3 in
      let e : y.1.rest ≡ (v.taken ++ us) ++ x ∷ r = v.text ∙ sym (append_assoc v.taken us (x ∷ r)) in
      let h1 : p (input (ts ++ x ∷ r) m) ≡ Ok (y.0, input ((v.taken ++ us) ++ x ∷ r) y.1.next) = y.2 ∙ ap (λ w. Ok (y.0, input w y.1.next)) e in
      let h2 : f y.0 (input ((v.taken ++ us) ++ x ∷ r) y.1.next) ≡ Ok (b, input (us ++ x ∷ r) n) = ap (λ w. f y.0 (input w y.1.next)) (sym e) ∙ y.3 in
      bind_known _ f _ _ (ps.same_read ts (v.taken ++ us) x r s m y.1.next y.0 h1)
      ∙ (fs y.0).same_read (v.taken ++ us) us x r s y.1.next n b h2;
  same_stop = λ ts x r s m h. ⊎_elim (λ g. bind_stopped _ f _ (ps.same_stop ts x r s m g)) (λ y.
      let u = ps.took (ts ++ x ∷ r) m y.0 y.1 y.2 in
      let v = (fs y.0).left y.1.rest y.1.next (suc (length r)) y.3 in
      let t : ts ++ x ∷ r ≡ (u.taken ++ v.taken) ++ v.left = u.text ∙ (ap (λ w. u.taken ++ w) v.text ∙ sym (append_assoc u.taken v.taken v.left)) in
      let e : y.1.rest ≡ v.taken ++ x ∷ r = v.text ∙ ap (λ w. v.taken ++ w) (sym (tail_same ts (u.taken ++ v.taken) (x ∷ r) v.left t (sym v.count))) in
      let h1 : p (input (ts ++ x ∷ r) m) ≡ Ok (y.0, input (v.taken ++ x ∷ r) y.1.next) = y.2 ∙ ap (λ w. Ok (y.0, input w y.1.next)) e in
      let h2 : f y.0 (input (v.taken ++ x ∷ r) y.1.next) ≡ Err (Stop (suc (length r))) = ap (λ w. f y.0 (input w y.1.next)) (sym e) ∙ y.3 in
      bind_known _ f _ _ (ps.same_read ts v.taken x r s m y.1.next y.0 h1) ∙ (fs y.0).same_stop v.taken x r s y.1.next h2)
      (bind_stop (p (input (ts ++ x ∷ r) m)) f (suc (length r)) h);
}

chosen_took : {A B : Type 0} (c : Lexeme → Option B) (f : B → Reader A) (q : Reader A) → ((b : B) → Steady (f b)) → Steady q
    → (ts : List Lexeme) (m : ℕ) (a : A) (j : Input) → given c f q (input ts m) ≡ Ok (a, j) → Took ts j.rest
chosen_took c f q fs qs [] m a j h = qs.took [] m a j h
chosen_took {A} {B} c f q fs qs (t ∷ ts) m a j h =
    (elim (c t) as (λ o. chosen o f q (input (t ∷ ts) m) ≡ Ok (a, j) → Took (t ∷ ts) j.rest) [
      | None ↦ λ h. qs.took (t ∷ ts) m a j h
      | Some b ↦ λ h. let u = (fs b).took ts m a j h in record { taken = t ∷ u.taken; text = ap (λ w. t ∷ w) u.text }
    ]) h

chosen_left : {A B : Type 0} (c : Lexeme → Option B) (f : B → Reader A) (q : Reader A) → ((b : B) → Steady (f b)) → Steady q
    → (ts : List Lexeme) (m k : ℕ) → given c f q (input ts m) ≡ Err (Stop k) → Left ts k
chosen_left c f q fs qs [] m k h = qs.left [] m k h
chosen_left {A} {B} c f q fs qs (t ∷ ts) m k h =
    (elim (c t) as (λ o. chosen o f q (input (t ∷ ts) m) ≡ Err (Stop k) → Left (t ∷ ts) k) [
      | None ↦ λ h. qs.left (t ∷ ts) m k h
      | Some b ↦ λ h. let u = (fs b).left ts m k h in record { taken = t ∷ u.taken; left = u.left; text = ap (λ w. t ∷ w) u.text; count = u.count }
    ]) h

never_longer : (r taken us : List Lexeme) (x : Lexeme) → r ≡ taken ++ (us ++ x ∷ r) → ⊥
never_longer r taken us x e =
    let h : length r ≡ length (taken ++ (us ++ x ∷ r)) = ap length e in
    omega (arith, h, length-append taken (us ++ x ∷ r), length-append us (x ∷ r))

never_left : (r taken left : List Lexeme) → r ≡ taken ++ left → length left ≡ suc (length r) → ⊥
never_left r taken left e l =
    let h : length r ≡ length (taken ++ left) = ap length e in omega (arith, h, l, length-append taken left)

chosen_read : {A B : Type 0} (c : Lexeme → Option B) (f : B → Reader A) (q : Reader A) → ((b : B) → Steady (f b)) → Steady q
    → (ts us : List Lexeme) (x : Lexeme) (r s : List Lexeme) (m n : ℕ) (a : A)
    → given c f q (input (ts ++ x ∷ r) m) ≡ Ok (a, input (us ++ x ∷ r) n) → given c f q (input (ts ++ x ∷ s) m) ≡ Ok (a, input (us ++ x ∷ s) n)
chosen_read {A} {B} c f q fs qs [] us x r s m n a h =
    (elim (c x) as (λ o. chosen o f q (input (x ∷ r) m) ≡ Ok (a, input (us ++ x ∷ r) n) → chosen o f q (input (x ∷ s) m) ≡ Ok (a, input (us ++ x ∷ s) n)) [
      | None ↦ λ h. qs.same_read [] us x r s m n a h
      | Some b ↦ λ h. let u = (fs b).took r m a (input (us ++ x ∷ r) n) h in absurd (never_longer r u.taken us x u.text)
    ]) h
chosen_read {A} {B} c f q fs qs (t ∷ ts) us x r s m n a h =
    (elim (c t) as (λ o. chosen o f q (input (t ∷ (ts ++ x ∷ r)) m) ≡ Ok (a, input (us ++ x ∷ r) n) → chosen o f q (input (t ∷ (ts ++ x ∷ s)) m) ≡ Ok (a, input (us ++ x ∷ s) n)) [
      | None ↦ λ h. qs.same_read (t ∷ ts) us x r s m n a h
      | Some b ↦ λ h. (fs b).same_read ts us x r s m n a h
    ]) h

chosen_stop : {A B : Type 0} (c : Lexeme → Option B) (f : B → Reader A) (q : Reader A) → ((b : B) → Steady (f b)) → Steady q
    → (ts : List Lexeme) (x : Lexeme) (r s : List Lexeme) (m : ℕ)
    → given c f q (input (ts ++ x ∷ r) m) ≡ Err (Stop (suc (length r))) → given c f q (input (ts ++ x ∷ s) m) ≡ Err (Stop (suc (length s)))
chosen_stop {A} {B} c f q fs qs [] x r s m h =
    (elim (c x) as (λ o. chosen o f q (input (x ∷ r) m) ≡ Err (Stop (suc (length r))) → chosen o f q (input (x ∷ s) m) ≡ Err (Stop (suc (length s)))) [
      | None ↦ λ h. qs.same_stop [] x r s m h
      | Some b ↦ λ h. let u = (fs b).left r m (suc (length r)) h in absurd (never_left r u.taken u.left u.text u.count)
    ]) h
chosen_stop {A} {B} c f q fs qs (t ∷ ts) x r s m h =
    (elim (c t) as (λ o. chosen o f q (input (t ∷ (ts ++ x ∷ r)) m) ≡ Err (Stop (suc (length r))) → chosen o f q (input (t ∷ (ts ++ x ∷ s)) m) ≡ Err (Stop (suc (length s)))) [
      | None ↦ λ h. qs.same_stop (t ∷ ts) x r s m h
      | Some b ↦ λ h. (fs b).same_stop ts x r s m h
    ]) h

pub steady_given : {A B : Type 0} (c : Lexeme → Option B) (f : B → Reader A) (q : Reader A) → ((b : B) → Steady (f b)) → Steady q → Steady (given c f q)
steady_given c f q fs qs = record {
  took = chosen_took c f q fs qs;
  left = chosen_left c f q fs qs;
  same_read = chosen_read c f q fs qs;
  same_stop = chosen_stop c f q fs qs;
}

pub steady_peek : {A : Type 0} (test : Lexeme → Bool) (p q : Reader A) → Steady p → Steady q → Steady (peek test p q)
steady_peek {A} test p q ps qs = record {
  took = λ ts m a j h. (elim (front_is test ts) as (λ b. (if b then p (input ts m) else q (input ts m)) ≡ Ok (a, j) → Took ts j.rest) [
    | true ↦ λ h. ps.took ts m a j h
    | false ↦ λ h. qs.took ts m a j h
  ]) h;
  left = λ ts m k h. (elim (front_is test ts) as (λ b. (if b then p (input ts m) else q (input ts m)) ≡ Err (Stop k) → Left ts k) [
    | true ↦ λ h. ps.left ts m k h
    | false ↦ λ h. qs.left ts m k h
  ]) h;
  same_read = λ ts us x r s m n a h.
      subst (λ (b : Bool). (if b then p (input (ts ++ x ∷ s) m) else q (input (ts ++ x ∷ s) m)) ≡ Ok (a, input (us ++ x ∷ s) n)) (front_of test ts x r s)
      ((elim (front_is test (ts ++ x ∷ r)) as (λ b. (if b then p (input (ts ++ x ∷ r) m) else q (input (ts ++ x ∷ r) m)) ≡ Ok (a, input (us ++ x ∷ r) n)
      → (if b then p (input (ts ++ x ∷ s) m) else q (input (ts ++ x ∷ s) m)) ≡ Ok (a, input (us ++ x ∷ s) n)) [
        | true ↦ λ h. ps.same_read ts us x r s m n a h
        | false ↦ λ h. qs.same_read ts us x r s m n a h
      ]) h);
  same_stop = λ ts x r s m h.
      subst (λ (b : Bool). (if b then p (input (ts ++ x ∷ s) m) else q (input (ts ++ x ∷ s) m)) ≡ Err (Stop (suc (length s)))) (front_of test ts x r s)
      ((elim (front_is test (ts ++ x ∷ r)) as (λ b. (if b then p (input (ts ++ x ∷ r) m) else q (input (ts ++ x ∷ r) m)) ≡ Err (Stop (suc (length r)))
      → (if b then p (input (ts ++ x ∷ s) m) else q (input (ts ++ x ∷ s) m)) ≡ Err (Stop (suc (length s)))) [
        | true ↦ λ h. ps.same_stop ts x r s m h
        | false ↦ λ h. qs.same_stop ts x r s m h
      ]) h);
}

pub steady_same : {A : Type 0} (p q : Reader A) → ((ts : List Lexeme) (m : ℕ) → p (input ts m) ≡ q (input ts m)) → Steady q → Steady p
steady_same p q e qs = record {
  took = λ ts m a j h. qs.took ts m a j (sym (e ts m) ∙ h);
  left = λ ts m k h. qs.left ts m k (sym (e ts m) ∙ h);
  same_read = λ ts us x r s m n a h. e (ts ++ x ∷ s) m ∙ qs.same_read ts us x r s m n a (sym (e (ts ++ x ∷ r) m) ∙ h);
  same_stop = λ ts x r s m h. e (ts ++ x ∷ s) m ∙ qs.same_stop ts x r s m (sym (e (ts ++ x ∷ r) m) ∙ h);
}

-- ---- rules that are put together

pub data IsPure {A : Type 0} (a : A) : ℕ → List Lexeme → A → ℕ → Type 0 where
  is_pure : (m : ℕ) → IsPure a m [] a m

pub data IsNumbered {A : Type 0} (g : ℕ → A) : ℕ → List Lexeme → A → ℕ → Type 0 where
  is_numbered : (m : ℕ) → IsNumbered g m [] (g m) (suc m)

pub data IsTaken {B : Type 0} (c : Lexeme → Option B) : ℕ → List Lexeme → B → ℕ → Type 0 where
  is_taken : (m : ℕ) (t : Lexeme) (b : B) → c t ≡ Some b → IsTaken c m (t ∷ []) b m

pub data Seq {A B : Type 0} (P : Rule A) (S : A → Rule B) : ℕ → List Lexeme → B → ℕ → Type 0 where
  seq : (m k n : ℕ) (ts us : List Lexeme) (a : A) (b : B) → P m ts a k → S a k us b n → Seq P S m (ts ++ us) b n

pub data IsGiven {A B : Type 0} (c : Lexeme → Option B) (P : B → Rule A) (Q : Rule A) : ℕ → List Lexeme → A → ℕ → Type 0 where
  with_it : (m n : ℕ) (t : Lexeme) (ts : List Lexeme) (b : B) (a : A) → c t ≡ Some b → P b m ts a n → IsGiven c P Q m (t ∷ ts) a n
  without : (m n : ℕ) (ts : List Lexeme) (a : A) → Q m ts a n → IsGiven c P Q m ts a n

pub data Either {A : Type 0} (P Q : Rule A) : ℕ → List Lexeme → A → ℕ → Type 0 where
  one : (m n : ℕ) (ts : List Lexeme) (a : A) → P m ts a n → Either P Q m ts a n
  other : (m n : ℕ) (ts : List Lexeme) (a : A) → Q m ts a n → Either P Q m ts a n

pub exact_as : {A : Type 0} {goes : Lexeme → Bool} {p : Reader A} (R S : Rule A) → Exact R goes p
    → ((m : ℕ) (ts : List Lexeme) (a : A) (n : ℕ) → R m ts a n → S m ts a n) → ((m : ℕ) (ts : List Lexeme) (a : A) (n : ℕ) → S m ts a n → R m ts a n) → Exact S goes p
exact_as R S x to from = record {
  live = λ m. let l = x.live m in record { tokens = l.tokens; value = l.value; next = l.next; holds = to _ _ _ _ l.holds };
  steady = x.steady;
  sound = λ ts m a j h. let s = x.sound ts m a j h in record { taken = s.taken; text = s.text; holds = to _ _ _ _ s.holds };
  viable = λ ts m k h. let v = x.viable ts m k h in
      record { taken = v.taken; left = v.left; text = v.text; count = v.count; more = v.more; value = v.value; next = v.next; holds = to _ _ _ _ v.holds };
  whole = λ ts m a n rest r f. x.whole ts m a n rest (from _ _ _ _ r) f;
}

pub exact_same : {A : Type 0} {R : Rule A} {goes : Lexeme → Bool} (p q : Reader A) → ((ts : List Lexeme) (m : ℕ) → p (input ts m) ≡ q (input ts m)) → Exact R goes q → Exact R goes p
exact_same p q e x = record {
  live = x.live;
  steady = steady_same p q e x.steady;
  sound = λ ts m a j h. x.sound ts m a j (sym (e ts m) ∙ h);
  viable = λ ts m k h. x.viable ts m k (sym (e ts m) ∙ h);
  whole = λ ts m a n rest r f. read_as _ _ a (input rest n) (e (ts ++ rest) m) (x.whole ts m a n rest r f);
}

-- with fewer tokens that may follow
pub exact_within : {A : Type 0} {R : Rule A} {p : Reader A} (few more : Lexeme → Bool) → ((rest : List Lexeme) → front_is more rest ≡ false → front_is few rest ≡ false)
    → Exact R few p → Exact R more p
exact_within few more h x = record {
  live = x.live;
  steady = x.steady;
  sound = x.sound;
  viable = x.viable;
  whole = λ ts m a n rest r f. x.whole ts m a n rest r (h rest f);
}

pub exact_pure : {A : Type 0} (goes : Lexeme → Bool) (a : A) → Exact (IsPure a) goes (pure a)
exact_pure {A} goes a = record {
  live = λ m. record { tokens = []; value = a; next = m; holds = is_pure m };
  steady = steady_pure a;
  sound = λ ts m b j h.
      let e = ok_parts a b (input ts m) j h in
      record { taken = []; text = ap (λ i. i.rest) e.1; holds = subst (λ (b : A). IsPure a m [] b j.next) e.0 (subst (λ (n : ℕ). IsPure a m [] a n) (ap (λ i. i.next) e.1) (is_pure m)) };
  viable = λ ts m k h. absurd cc;
  whole = pure_whole goes a;
} where
  pure_whole : {A : Type 0} (goes : Lexeme → Bool) (a : A) (ts : List Lexeme) (m : ℕ) (b : A) (n : ℕ) (rest : List Lexeme) → IsPure a m ts b n → front_is goes rest ≡ false
      → IsRead (pure a (input (ts ++ rest) m)) b (input rest n)
  pure_whole goes a ts m b n rest (is_pure m1) f = refl

pub exact_numbered : {A : Type 0} (goes : Lexeme → Bool) (g : ℕ → A) → Exact (IsNumbered g) goes (numbered g)
exact_numbered {A} goes g = record {
  live = λ m. record { tokens = []; value = g m; next = suc m; holds = is_numbered m };
  steady = steady_numbered g;
  sound = λ ts m b j h.
      let e = ok_parts (g m) b (input ts (suc m)) j h in
      record { taken = []; text = ap (λ i. i.rest) e.1; holds = subst (λ (b : A). IsNumbered g m [] b j.next) e.0 (subst (λ (n : ℕ). IsNumbered g m [] (g m) n) (ap (λ i. i.next) e.1) (is_numbered m)) };
  viable = λ ts m k h. absurd cc;
  whole = numbered_whole goes g;
} where
  numbered_whole : {A : Type 0} (goes : Lexeme → Bool) (g : ℕ → A) (ts : List Lexeme) (m : ℕ) (b : A) (n : ℕ) (rest : List Lexeme) → IsNumbered g m ts b n → front_is goes rest ≡ false
      → IsRead (numbered g (input (ts ++ rest) m)) b (input rest n)
  numbered_whole goes g ts m b n rest (is_numbered m1) f = refl

pub exact_tired : {A : Type 0} (R : Rule A) (goes : Lexeme → Bool) → ((m : ℕ) → Live R m) → Exact R goes tired
exact_tired R goes live = record {
  live = live;
  steady = steady_tired;
  sound = λ ts m b j h. absurd cc;
  viable = λ ts m k h. absurd cc;
  whole = λ ts m a n rest r f. tt;
}

pub exact_bind : {A B : Type 0} {P : Rule A} {S : A → Rule B} {near far : Lexeme → Bool} (p : Reader A) (f : A → Reader B) → Exact P near p → ((a : A) → Exact (S a) far (f a))
    → ((a : A) (k : ℕ) (us : List Lexeme) (b : B) (n : ℕ) (rest : List Lexeme) → S a k us b n → front_is far rest ≡ false → front_is near (us ++ rest) ≡ false)
    → Exact (Seq P S) far (p >>= f)
exact_bind {A} {B} {P} {S} {near} {far} p f x y follows = record {
  live = λ m. let l = x.live m in let r = (y l.value).live l.next in
      record { tokens = l.tokens ++ r.tokens; value = r.value; next = r.next; holds = seq m l.next r.next l.tokens r.tokens l.value r.value l.holds r.holds };
  steady = steady_bind p f x.steady (λ a. (y a).steady);
  sound = λ ts m b j h.
      let z = bind_ok (p (input ts m)) f (b, j) h in
      let u = x.sound ts m z.0 z.1 z.2 in
      let v = (y z.0).sound z.1.rest z.1.next b j z.3 in
      record {
        taken = u.taken ++ v.taken;
        text = u.text ∙ (ap (λ w. u.taken ++ w) v.text ∙ sym (append_assoc u.taken v.taken j.rest));
        holds = seq m z.1.next j.next u.taken v.taken z.0 b u.holds v.holds;
      };
  viable = λ ts m k h. ⊎_elim (λ g.
      let u = x.viable ts m k g in
      let r = (y u.value).live u.next in
      record {
        taken = u.taken;
        left = u.left;
        text = u.text;
        count = u.count;
        more = u.more ++ r.tokens;
        value = r.value;
        next = r.next;
        holds = subst (λ (w : List Lexeme). Seq P S m w r.value r.next) (append_assoc u.taken u.more r.tokens) (seq m u.next r.next (u.taken ++ u.more) r.tokens u.value r.value u.holds r.holds);
      }) (λ z.
      let u = x.sound ts m z.0 z.1 z.2 in
      let v = (y z.0).viable z.1.rest z.1.next k z.3 in
      record {
        taken = u.taken ++ v.taken;
        left = v.left;
        text = u.text ∙ (ap (λ w. u.taken ++ w) v.text ∙ sym (append_assoc u.taken v.taken v.left));
        count = v.count;
        more = v.more;
        value = v.value;
        next = v.next;
        holds = subst (λ (w : List Lexeme). Seq P S m w v.value v.next) (sym (append_assoc u.taken v.taken v.more)) (seq m z.1.next v.next u.taken (v.taken ++ v.more) z.0 v.value u.holds v.holds);
      })
      (bind_stop (p (input ts m)) f k h);
  whole = bind_whole p f x y follows;
} where
  bind_whole : {A B : Type 0} {P : Rule A} {S : A → Rule B} {near far : Lexeme → Bool} (p : Reader A) (f : A → Reader B) → Exact P near p → ((a : A) → Exact (S a) far (f a))
      → ((a : A) (k : ℕ) (us : List Lexeme) (b : B) (n : ℕ) (rest : List Lexeme) → S a k us b n → front_is far rest ≡ false → front_is near (us ++ rest) ≡ false)
      → (ts : List Lexeme) (m : ℕ) (b : B) (n : ℕ) (rest : List Lexeme) → Seq P S m ts b n → front_is far rest ≡ false → IsRead ((p >>= f) (input (ts ++ rest) m)) b (input rest n)
  bind_whole p f x y follows all m b n rest (seq m1 k n1 ts us a b1 u v) h =
      let e = append_assoc ts us rest in
      read_as _ _ b1 (input rest n1) (ap (λ w. and_then (p (input w m1)) f) e)
      (bind_read _ f a (input (us ++ rest) k) b1 (input rest n1) (x.whole ts m1 a k (us ++ rest) u (follows a k us b1 n1 rest v h)) ((y a).whole us k b1 n1 rest v h))

pub exact_given : {A B : Type 0} {P : B → Rule A} {Q : Rule A} {goes : Lexeme → Bool} (c : Lexeme → Option B) (f : B → Reader A) (q : Reader A)
    → ((b : B) → Exact (P b) goes (f b)) → Exact Q goes q
    → ((m : ℕ) (ts : List Lexeme) (a : A) (n : ℕ) (rest : List Lexeme) → Q m ts a n → front_is goes rest ≡ false → front_as c (ts ++ rest) ≡ None)
    → Exact (IsGiven c P Q) goes (given c f q)
exact_given {A} {B} {P} {Q} {goes} c f q x y others = record {
  live = λ m. let l = y.live m in record { tokens = l.tokens; value = l.value; next = l.next; holds = without _ _ _ _ l.holds };
  steady = steady_given c f q (λ b. (x b).steady) y.steady;
  sound = given_sound c f q x y;
  viable = given_viable c f q x y;
  whole = given_whole c f q x y others;
} where
  given_sound : {A B : Type 0} {P : B → Rule A} {Q : Rule A} {goes : Lexeme → Bool} (c : Lexeme → Option B) (f : B → Reader A) (q : Reader A)
      → ((b : B) → Exact (P b) goes (f b)) → Exact Q goes q
      → (ts : List Lexeme) (m : ℕ) (a : A) (j : Input) → given c f q (input ts m) ≡ Ok (a, j) → Holds (IsGiven c P Q) m ts a j
  given_sound c f q x y [] m a j h = let u = y.sound [] m a j h in record { taken = u.taken; text = u.text; holds = without _ _ _ _ u.holds }
  given_sound {A} {B} {P} {Q} c f q x y (t ∷ ts) m a j h =
      (elim (c t) as (λ o. c t ≡ o → chosen o f q (input (t ∷ ts) m) ≡ Ok (a, j) → Holds (IsGiven c P Q) m (t ∷ ts) a j) [
        | None ↦ λ e h. let u = y.sound (t ∷ ts) m a j h in record { taken = u.taken; text = u.text; holds = without _ _ _ _ u.holds }
        | Some b ↦ λ e h. let u = (x b).sound ts m a j h in record { taken = t ∷ u.taken; text = ap (λ w. t ∷ w) u.text; holds = with_it _ _ t u.taken b a e u.holds }
      ]) refl h

  given_viable : {A B : Type 0} {P : B → Rule A} {Q : Rule A} {goes : Lexeme → Bool} (c : Lexeme → Option B) (f : B → Reader A) (q : Reader A)
      → ((b : B) → Exact (P b) goes (f b)) → Exact Q goes q
      → (ts : List Lexeme) (m k : ℕ) → given c f q (input ts m) ≡ Err (Stop k) → Begun (IsGiven c P Q) m ts k
  given_viable c f q x y [] m k h = let u = y.viable [] m k h in
      record { taken = u.taken; left = u.left; text = u.text; count = u.count; more = u.more; value = u.value; next = u.next; holds = without _ _ _ _ u.holds }
  given_viable {A} {B} {P} {Q} c f q x y (t ∷ ts) m k h =
      (elim (c t) as (λ o. c t ≡ o → chosen o f q (input (t ∷ ts) m) ≡ Err (Stop k) → Begun (IsGiven c P Q) m (t ∷ ts) k) [
        | None ↦ λ e h. let u = y.viable (t ∷ ts) m k h in
            record { taken = u.taken; left = u.left; text = u.text; count = u.count; more = u.more; value = u.value; next = u.next; holds = without _ _ _ _ u.holds }
        | Some b ↦ λ e h. let u = (x b).viable ts m k h in
            record { taken = t ∷ u.taken; left = u.left; text = ap (λ w. t ∷ w) u.text; count = u.count; more = u.more; value = u.value; next = u.next; holds = with_it _ _ t (u.taken ++ u.more) b u.value e u.holds }
      ]) refl h

  given_whole : {A B : Type 0} {P : B → Rule A} {Q : Rule A} {goes : Lexeme → Bool} (c : Lexeme → Option B) (f : B → Reader A) (q : Reader A)
      → ((b : B) → Exact (P b) goes (f b)) → Exact Q goes q
      → ((m : ℕ) (ts : List Lexeme) (a : A) (n : ℕ) (rest : List Lexeme) → Q m ts a n → front_is goes rest ≡ false → front_as c (ts ++ rest) ≡ None)
      → (ts : List Lexeme) (m : ℕ) (a : A) (n : ℕ) (rest : List Lexeme) → IsGiven c P Q m ts a n → front_is goes rest ≡ false → IsRead (given c f q (input (ts ++ rest) m)) a (input rest n)
  given_whole c f q x y others all m a n rest (with_it m1 n1 t ts b a1 e p) h =
      read_as _ _ a1 (input rest n1) (ap (λ o. chosen o f q (input (t ∷ (ts ++ rest)) m1)) e) ((x b).whole ts m1 a1 n1 rest p h)
  given_whole c f q x y others all m a n rest (without m1 n1 ts a1 r) h =
      read_as _ _ a1 (input rest n1) (ap (λ o. chosen o f q (input (ts ++ rest) m1)) (others m1 ts a1 n1 rest r h)) (y.whole ts m1 a1 n1 rest r h)

pub exact_peek : {A : Type 0} {P Q : Rule A} {goes : Lexeme → Bool} (test : Lexeme → Bool) (p q : Reader A) → Exact P goes p → Exact Q goes q
    → ((m : ℕ) (ts : List Lexeme) (a : A) (n : ℕ) (rest : List Lexeme) → P m ts a n → front_is goes rest ≡ false → front_is test (ts ++ rest) ≡ true)
    → ((m : ℕ) (ts : List Lexeme) (a : A) (n : ℕ) (rest : List Lexeme) → Q m ts a n → front_is goes rest ≡ false → front_is test (ts ++ rest) ≡ false)
    → Exact (Either P Q) goes (peek test p q)
exact_peek {A} {P} {Q} {goes} test p q x y passes others = record {
  live = λ m. let l = y.live m in record { tokens = l.tokens; value = l.value; next = l.next; holds = other _ _ _ _ l.holds };
  steady = steady_peek test p q x.steady y.steady;
  sound = λ ts m a j h. (elim (front_is test ts) as (λ b. (if b then p (input ts m) else q (input ts m)) ≡ Ok (a, j) → Holds (Either P Q) m ts a j) [
    | true ↦ λ h. let u = x.sound ts m a j h in record { taken = u.taken; text = u.text; holds = one _ _ _ _ u.holds }
    | false ↦ λ h. let u = y.sound ts m a j h in record { taken = u.taken; text = u.text; holds = other _ _ _ _ u.holds }
  ]) h;
  viable = λ ts m k h. (elim (front_is test ts) as (λ b. (if b then p (input ts m) else q (input ts m)) ≡ Err (Stop k) → Begun (Either P Q) m ts k) [
    | true ↦ λ h. let u = x.viable ts m k h in
        record { taken = u.taken; left = u.left; text = u.text; count = u.count; more = u.more; value = u.value; next = u.next; holds = one _ _ _ _ u.holds }
    | false ↦ λ h. let u = y.viable ts m k h in
        record { taken = u.taken; left = u.left; text = u.text; count = u.count; more = u.more; value = u.value; next = u.next; holds = other _ _ _ _ u.holds }
  ]) h;
  whole = peek_whole test p q x y passes others;
} where
  peek_whole : {A : Type 0} {P Q : Rule A} {goes : Lexeme → Bool} (test : Lexeme → Bool) (p q : Reader A) → Exact P goes p → Exact Q goes q
      → ((m : ℕ) (ts : List Lexeme) (a : A) (n : ℕ) (rest : List Lexeme) → P m ts a n → front_is goes rest ≡ false → front_is test (ts ++ rest) ≡ true)
      → ((m : ℕ) (ts : List Lexeme) (a : A) (n : ℕ) (rest : List Lexeme) → Q m ts a n → front_is goes rest ≡ false → front_is test (ts ++ rest) ≡ false)
      → (ts : List Lexeme) (m : ℕ) (a : A) (n : ℕ) (rest : List Lexeme) → Either P Q m ts a n → front_is goes rest ≡ false → IsRead (peek test p q (input (ts ++ rest) m)) a (input rest n)
  peek_whole test p q x y passes others all m a n rest (one m1 n1 ts a1 r) h =
      read_as _ _ a1 (input rest n1) (ap (λ b. if b then p (input (ts ++ rest) m1) else q (input (ts ++ rest) m1)) (passes m1 ts a1 n1 rest r h)) (x.whole ts m1 a1 n1 rest r h)
  peek_whole test p q x y passes others all m a n rest (other m1 n1 ts a1 r) h =
      read_as _ _ a1 (input rest n1) (ap (λ b. if b then p (input (ts ++ rest) m1) else q (input (ts ++ rest) m1)) (others m1 ts a1 n1 rest r h)) (y.whole ts m1 a1 n1 rest r h)

pub exact_take : {B : Type 0} (goes : Lexeme → Bool) (c : Lexeme → Option B) (t : Lexeme) (b : B) → c t ≡ Some b → Exact (IsTaken c) goes (take_as c)
exact_take {B} goes c t b e = record {
  live = λ m. record { tokens = t ∷ []; value = b; next = m; holds = is_taken m t b e };
  steady = steady_given c pure stopped steady_pure steady_stopped;
  sound = take_sound c;
  viable = take_viable c t b e;
  whole = take_whole goes c;
} where
  take_sound : {B : Type 0} (c : Lexeme → Option B) (ts : List Lexeme) (m : ℕ) (a : B) (j : Input) → take_as c (input ts m) ≡ Ok (a, j) → Holds (IsTaken c) m ts a j
  take_sound c [] m a j h = absurd cc
  take_sound {B} c (t ∷ ts) m a j h =
      (elim (c t) as (λ o. c t ≡ o → chosen o pure stopped (input (t ∷ ts) m) ≡ Ok (a, j) → Holds (IsTaken c) m (t ∷ ts) a j) [
        | None ↦ λ e h. absurd cc
        | Some b ↦ λ e h.
            let p = ok_parts b a (input ts m) j h in
            record { taken = t ∷ []; text = ap (λ i. t ∷ i.rest) p.1; holds = subst (λ (n : ℕ). IsTaken c m (t ∷ []) a n) (ap (λ i. i.next) p.1) (is_taken m t a (e ∙ ap Some p.0)) }
      ]) refl h

  take_viable : {B : Type 0} (c : Lexeme → Option B) (t : Lexeme) (b : B) → c t ≡ Some b → (ts : List Lexeme) (m k : ℕ) → take_as c (input ts m) ≡ Err (Stop k) → Begun (IsTaken c) m ts k
  take_viable c t b e [] m k h =
      record { taken = []; left = []; text = refl; count = stop_count 0 k h; more = t ∷ []; value = b; next = m; holds = is_taken m t b e }
  take_viable {B} c t b e (x ∷ ts) m k h =
      (elim (c x) as (λ o. chosen o pure stopped (input (x ∷ ts) m) ≡ Err (Stop k) → Begun (IsTaken c) m (x ∷ ts) k) [
        | None ↦ λ h. record { taken = []; left = x ∷ ts; text = refl; count = stop_count _ k h; more = t ∷ []; value = b; next = m; holds = is_taken m t b e }
        | Some y ↦ λ h. absurd cc
      ]) h

  take_whole : {B : Type 0} (goes : Lexeme → Bool) (c : Lexeme → Option B) (ts : List Lexeme) (m : ℕ) (a : B) (n : ℕ) (rest : List Lexeme) → IsTaken c m ts a n → front_is goes rest ≡ false
      → IsRead (take_as c (input (ts ++ rest) m)) a (input rest n)
  take_whole goes c all m a n rest (is_taken m1 t b e) h = read_is _ b (input rest m1) (ap (λ o. chosen o pure stopped (input (t ∷ rest) m1)) e)

-- ---- tokens that pass a test

abbrev pub pass : (Lexeme → Bool) → Lexeme → Option (Unit {0})
pass test t = if test t then Some tt else None

pub pass_is : (test : Lexeme → Bool) (t : Lexeme) (b : Unit {0}) → pass test t ≡ Some b → test t ≡ true
pass_is test t b h = (elim (test t) as (λ x. test t ≡ x → (if x then Some tt else None) ≡ Some b → test t ≡ true) [
  | true ↦ λ e h. e
  | false ↦ λ e h. absurd cc
]) refl h

pub is_pass : (test : Lexeme → Bool) (t : Lexeme) → test t ≡ true → pass test t ≡ Some tt
is_pass test t h = ap (λ x. if x then Some tt else None) h

pub no_pass : (test : Lexeme → Bool) (ts : List Lexeme) → front_is test ts ≡ false → front_as (pass test) ts ≡ None
no_pass test [] h = refl
no_pass test (t ∷ ts) h = ap (λ x. if x then Some tt else None) h

given_pass : {A : Type 0} (test : Lexeme → Bool) (p q : Reader A) (ts : List Lexeme) (m : ℕ) → given_if test p q (input ts m) ≡ given (pass test) (λ _. p) q (input ts m)
given_pass test p q [] m = refl
given_pass test p q (t ∷ ts) m = elim (test t) as (λ x. (if x then p (input ts m) else q (input (t ∷ ts) m)) ≡ chosen (if x then Some tt else None) (λ _. p) q (input (t ∷ ts) m)) [
  | true ↦ refl
  | false ↦ refl
]

pub data IsGivenIf {A : Type 0} (test : Lexeme → Bool) (P Q : Rule A) : ℕ → List Lexeme → A → ℕ → Type 0 where
  with_token : (m n : ℕ) (t : Lexeme) (ts : List Lexeme) (a : A) → test t ≡ true → P m ts a n → IsGivenIf test P Q m (t ∷ ts) a n
  without_token : (m n : ℕ) (ts : List Lexeme) (a : A) → Q m ts a n → IsGivenIf test P Q m ts a n

pub data Passes (test : Lexeme → Bool) : ℕ → List Lexeme → Unit {0} → ℕ → Type 0 where
  passes : (m : ℕ) (t : Lexeme) → test t ≡ true → Passes test m (t ∷ []) tt m

pub exact_given_if : {A : Type 0} {P Q : Rule A} {goes : Lexeme → Bool} (test : Lexeme → Bool) (p q : Reader A) → Exact P goes p → Exact Q goes q
    → ((m : ℕ) (ts : List Lexeme) (a : A) (n : ℕ) (rest : List Lexeme) → Q m ts a n → front_is goes rest ≡ false → front_is test (ts ++ rest) ≡ false)
    → Exact (IsGivenIf test P Q) goes (given_if test p q)
exact_given_if {A} {P} {Q} {goes} test p q x y others =
    exact_as (IsGiven (pass test) (λ _. P) Q) (IsGivenIf test P Q)
    (exact_same (given_if test p q) (given (pass test) (λ _. p) q) (given_pass test p q)
    (exact_given (pass test) (λ _. p) q (λ _. x) y (λ m ts a n rest r h. no_pass test (ts ++ rest) (others m ts a n rest r h))))
    (there test) (back test) where
      there : {A : Type 0} {P Q : Rule A} (test : Lexeme → Bool) (m : ℕ) (ts : List Lexeme) (a : A) (n : ℕ) → IsGiven (pass test) (λ _. P) Q m ts a n → IsGivenIf test P Q m ts a n
      there test m all a n (with_it m1 n1 t ts b a1 e p) = with_token m1 n1 t ts a1 (pass_is test t b e) p
      there test m all a n (without m1 n1 ts a1 r) = without_token m1 n1 ts a1 r

      back : {A : Type 0} {P Q : Rule A} (test : Lexeme → Bool) (m : ℕ) (ts : List Lexeme) (a : A) (n : ℕ) → IsGivenIf test P Q m ts a n → IsGiven (pass test) (λ _. P) Q m ts a n
      back test m all a n (with_token m1 n1 t ts a1 e p) = with_it m1 n1 t ts tt a1 (is_pass test t e) p
      back test m all a n (without_token m1 n1 ts a1 r) = without m1 n1 ts a1 r
