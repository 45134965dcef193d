-- Calls after one another: what they do is what the definitions do one after the other.
use Rattle.std.proofs.Common.{◌≡◌, refl, sym, subst, ap, ◌∙◌, ℕ}
use Rattle.std.specs.Prelude.{Result, Ok, Err, Option, None, Some, IfOk, IfErr}
use Rattle.tall_local.specs.Expressions.{Valued, gives, stops, go_on, answered}
use Rattle.tall_local.specs.Refusals.{Refusal, Stop}
use Rattle.tall_local.specs.StateLaws.{state_after, IsKept}
use Rattle.tall_evaluate.specs.Senses.{Senses, Laws, Agrees, Does, DoesValue, Finds, Refuses, IsFree}

-- what goes on after a stop stops
stops_on : {V Y S W Z E : Type 0} (shown : W → V) (shown' : Z → Y) (stop_of : E → Option Stop) (k : V → S → Valued Y S) (v : Valued V S) (e : E) (t : S)
    → Agrees {W = W} shown stop_of v (Err e) t → Agrees {W = Z} shown' stop_of (go_on v k) (Err e) t
stops_on shown shown' stop_of k v e t h stop is = ap (λ u. go_on u k) (h stop is)

-- ---- states that are reached

-- what follows a value goes on from the state that came with it
pub reached_on : {V W S : Type 0} (R : S → S → Type 0) → IsKept R → (s : S) (v : Valued V S) (f : V → S → Valued W S)
    → R s (state_after v) → ((x : V) (t : S) → R t (state_after (f x t))) → R s (state_after (go_on v f))
reached_on R kept s (gives x t) f first rest = kept.both s t (state_after (f x t)) first (rest x t)
reached_on R kept s (stops stop t) f first rest = first

pub answered_here : {V S : Type 0} (line : ℕ) (s : S) (r : Result V Refusal) → state_after (answered line s r) ≡ s
answered_here line s (Ok v) = refl
answered_here line s (Err e) = refl

pub reached_answer : {V S : Type 0} (R : S → S → Type 0) → IsKept R → (line : ℕ) (s : S) (r : Result V Refusal) → R s (state_after (answered line s r))
reached_answer R kept line s r = subst (λ u. R s u) (sym (answered_here line s r)) (kept.nothing s)

-- the same failure, whatever would have been given
pub same_failure : {X Y E : Type 0} (e f : E) → ◌≡◌ {A = Result X E} (Err e) (Err f) → ◌≡◌ {A = Result Y E} (Err e) (Err f)
same_failure {X} {Y} {E} e f h = ap (λ (x : E). failure x) (one h)
  where
    failure : E → Result Y E
    failure x = Err x

    one : ◌≡◌ {A = Result X E} (Err e) (Err f) → e ≡ f
    one h = cc

pub no_failure : {X E : Type 0} (x : X) (e : E) → Ok x ≡ Err e → ⊥
no_failure x e h = cc

module _ {L G W E F V S I : Type 0} (m : Senses L G W E F V S I) where
  pub failed : (laws : Laws m) {X Y Z U : Type 0} (Fits : L → X → Type 0) (Fits' : L → Z → Type 0) (shown : I → X → Y) (shown' : I → Z → U)
      (want : I → S → Valued Y S) (k : I → Y → S → Valued U S) → ((i : I) (y : Y) (u : S) → m.reaches u (state_after (k i y u))) → (s t : L) (e : E)
      → Does {X = X} {Y = Y} m Fits shown want s t (Err e) → Does {X = Z} {Y = U} m Fits' shown' (λ i u. go_on (want i u) (k i)) s t (Err e)
  failed laws {X} {Y} {Z} {U} Fits Fits' shown shown' want k on s t e h = record {
    later = h.later;
    fits = tt;
    agrees = λ i holds. stops_on (shown i) (shown' i) m.stop_of (k i) (want i (m.state i s)) e (m.state i t) (h.agrees i holds);
    blames = h.blames;
    unfinished = λ i holds other is none.
        reached_on m.reaches laws.reaches_on (m.state i t) (want i (m.state i s)) (k i) (h.unfinished i holds other (same_failure {X = Z} {Y = X} e other is) none) (on i);
  }

  -- the second call does what follows the first one's value
  pub after : (laws : Laws m) {X Y Z U : Type 0} (Fits : L → X → Type 0) (Fits' : L → Z → Type 0) (shown : I → X → Y) (shown' : I → Z → U)
      (want : I → S → Valued Y S) (k : I → Y → S → Valued U S) (s t u : L) (x : X) (r : Result Z E)
      → Does {X = X} {Y = Y} m Fits shown want s t (Ok x) → Does {X = Z} {Y = U} m Fits' shown' (λ i v. k i (shown i x) v) t u r
      → Does {X = Z} {Y = U} m Fits' shown' (λ i v. go_on (want i v) (k i)) s u r
  after laws Fits Fits' shown shown' want k s t u x r h g = record {
    later = laws.both s t u h.later g.later;
    fits = g.fits;
    agrees = λ i holds.
        let first : want i (m.state i s) ≡ gives (shown i x) (m.state i t) = h.agrees i (laws.holds_before t u i g.later holds) in
        subst (λ w. Agrees (shown' i) m.stop_of w r (m.state i u)) (sym (ap (λ w. go_on w (k i)) first)) (g.agrees i holds);
    blames = explained laws s t u r h.later g.blames;
    unfinished = λ i holds other is none.
        let first : want i (m.state i s) ≡ gives (shown i x) (m.state i t) = h.agrees i (laws.holds_before t u i g.later holds) in
        subst (λ w. m.reaches (m.state i u) (state_after w)) (sym (ap (λ w. go_on w (k i)) first)) (g.unfinished i holds other is none);
  } where
    explained : {Z : Type 0} (laws : Laws m) (s t u : L) (r : Result Z E) → m.later s t → IfErr r (λ e. m.blames t u e) → IfErr r (λ e. m.blames s u e)
    explained laws s t u (Ok z) l b = tt
    explained laws s t u (Err e) l b = laws.blames_before s t u e l b

  -- a call that changes nothing
  pub found : (laws : Laws m) (want : I → S → Valued V S) → ((i : I) (u : S) → state_after (want i u) ≡ u) → (s : L) (r : Result W E)
      → Finds m want s r → DoesValue m want s s r
  found laws want here s r h = record {
    later = laws.same s;
    fits = h.fits;
    agrees = h.agrees;
    blames = h.blames;
    unfinished = λ i holds other is none. subst (λ u. m.reaches (m.state i s) u) (sym (here i (m.state i s))) (laws.reaches_on.nothing (m.state i s));
  }

  pub refused : (laws : Laws m) {X Y : Type 0} (Fits : L → X → Type 0) (shown : I → X → Y) (stop : I → Stop) (want : I → S → Valued Y S) (s : L) (e : E)
      → ((i : I) → m.holds i s → want i (m.state i s) ≡ stops (stop i) (m.state i s))
      → Refuses m stop s e → Does {X = X} {Y = Y} m Fits shown want s s (Err e)
  refused laws Fits shown stop want s e is h = record {
    later = laws.same s;
    fits = tt;
    agrees = λ i holds other named. is i holds ∙ ap (λ x. stops x (m.state i s)) (h.stops i holds other named);
    blames = h.blames;
    unfinished = λ i holds other same none. subst (λ w. m.reaches (m.state i s) (state_after w)) (sym (is i holds)) (laws.reaches_on.nothing (m.state i s));
  }

  -- a failure that names no stop comes where the definitions may still go on
  pub free : (laws : Laws m) {X Y : Type 0} (Fits : L → X → Type 0) (shown : I → X → Y) (want : I → S → Valued Y S) (s t : L) (e : E)
      → m.later s t → IsFree m t e → ((i : I) → m.holds i t → m.reaches (m.state i t) (state_after (want i (m.state i s))))
      → Does {X = X} {Y = Y} m Fits shown want s t (Err e)
  free laws Fits shown want s t e l h on = record {
    later = l;
    fits = tt;
    agrees = λ i holds other named. absurd (none (m.stop_of e) other h.free named);
    blames = laws.blames_before s t t e l h.blames;
    unfinished = λ i holds other same is. on i holds;
  } where
    none : (o : Option Stop) (other : Stop) → o ≡ None → o ≡ Some other → ⊥
    none o other a b = cc
