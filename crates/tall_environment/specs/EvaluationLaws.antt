-- What is evaluated on a line, from what an operation on values does, and failures that change nothing.
use Rattle.std.proofs.Common.{◌≡◌, ℕ, [], ◌++◌, refl, sym, ap, subst, ◌∙◌, append-nil, append_assoc, length}
use Rattle.std.specs.Prelude.{None, Some, Result, Ok, Err, IfOk, IfErr}
use Rattle.tall_outside.specs.declared.shelf.Shelf as shelf
use Rattle.tall_outside.specs.Shelf.{Files}
use Rattle.tall_semantics.specs.Talls.{Tall}
use Rattle.tall_local.specs.Expressions.{Valued, answered, stops}
use Rattle.tall_local.specs.Refusals.{Refusal, Stop}
use Rattle.tall_local.specs.StateLaws.{state_after}
use Rattle.tall_script.specs.ScriptValues.{TallValue}
use Rattle.tall_script.specs.States.{State}
use Rattle.tall_evaluate.specs.Senses.{Agrees}
use Rattle.tall_deferred.specs.Answers.{Comes}
use Rattle.tall_deferred.specs.declared.faults.ValueFault.{ValueFault}
use Rattle.tall_deferred.specs.declared.values.ScriptValue.{ScriptValue}
use Rattle.tall_deferred.specs.Values.{IsValue, value_at}
use Rattle.tall_environment.specs.declared.failures.Failure.{Failure}
use Rattle.tall_environment.specs.Computations.{Computes}
use Rattle.tall_environment.specs.Environments.{SeenEnvironment, state_at}
use Rattle.tall_environment.specs.Expressions.{Answers, Evaluates, OpensOn}
use Rattle.tall_environment.specs.Failures.{AnswersAt, Blames, IsInside, stop_of}
use Rattle.tall_environment.specs.MoveLaws.{inside_blames, moves_computed, moves_none}

-- ---- what is left to open

pub opens_same : (s : State Tall) → OpensOn s s
opens_same s = ([], sym (append-nil s.opened))

pub opens_both : (s t u : State Tall) → OpensOn s t → OpensOn t u → OpensOn s u
opens_both s t u h k = (h.0 ++ k.0, k.1 ∙ (ap (λ os. os ++ k.0) h.1 ∙ append_assoc s.opened h.0 k.0))

-- ---- answers on a line

pub agrees_at : {V D : Type 0} (view : V → D) (line : ℕ) (want : Result D Refusal) (r : Result V Failure) (t : State Tall) → AnswersAt view line want r → Agrees view stop_of (answered line t want) r t
agrees_at view line want (Ok v) t h = ap (λ w. answered line t w) h
agrees_at view line want (Err e) t h = λ stop is. let x = h stop is in ap (λ w. answered line t w) x.1 ∙ ap (λ z. stops z t) x.2

pub answered_state : {V : Type 0} (line : ℕ) (s : State Tall) (want : Result V Refusal) → state_after (answered line s want) ≡ s
answered_state line s (Ok v) = refl
answered_state line s (Err e) = refl

pub answers_at : {V D : Type 0} (view : V → D) (line : ℕ) (want : Result D Refusal) (r : Result V Failure) (s t : State Tall) → t ≡ s → AnswersAt view line want r → Answers view (answered line s want) r t
answers_at view line want r s t same h = record {
  agrees = subst (λ x. Agrees view stop_of (answered line x want) r t) same (agrees_at view line want r t h);
  unfinished = λ e is none. subst (OpensOn t) (same ∙ sym (answered_state line s want)) (opens_same t);
}

pub inside_all : {W S : Type 0} (s : shelf.Ghosts S) (x y : S) (r : Result W Failure) → IfErr r IsInside → IfErr r (λ e. Blames s e x y)
inside_all s x y (Ok w) h = tt
inside_all s x y (Err e) h = inside_blames s x y e h

if_ok : {W : Type 0} {P : Type 0} (r : Result W Failure) → P → IfOk r (λ _. P)
if_ok (Ok w) h = h
if_ok (Err e) h = tt

abbrev failed_by : Failure → Result ScriptValue Failure
failed_by e = Err e

same_failure : (a b : Failure) → failed_by a ≡ failed_by b → a ≡ b
same_failure a b h = cc

-- ---- evaluations

module _ {S : Type 0} (s : shelf.Ghosts S) (n : ℕ) where
  -- an operation on values, whose answer is put on a line
  pub computed_evaluates : (line : ℕ) (want : Files → (ℕ → Tall) → Result TallValue Refusal) (old new : SeenEnvironment) (now : S) (answer : Result ScriptValue ValueFault) (r : Result ScriptValue Failure)
      → Computes n want old new answer
      → IfErr r IsInside
      → ((k : ℕ) → IfOk answer (IsValue k) → IfOk r (IsValue k))
      → ((f : ℕ → Tall) (due : Result TallValue Refusal) → Comes (value_at f) due answer → AnswersAt (value_at f) line due r)
      → Evaluates s n (λ files f t. answered line t (want files f)) old new now now r
  computed_evaluates line want old new now answer r h inside kept answers = record {
    moves = moves_computed s n want old new answer now h;
    within = kept (length new.graph) h.within;
    last = if_ok r h.last;
    tells = λ files told columns f sense.
        answers_at (value_at f) line (want files f) r (state_at f old) (state_at f new) (ap (state_at f) h.same) (answers f (want files f) (h.given files columns f sense.stored sense.solved));
    blames = inside_all s now now r inside;
  }

  -- the definitions may say it in other words
  pub evaluates_as : (want due : Files → (ℕ → Tall) → State Tall → Valued TallValue (State Tall)) (old new : SeenEnvironment) (before now : S) (r : Result ScriptValue Failure)
      → ((files : Files) (f : ℕ → Tall) → want files f (state_at f old) ≡ due files f (state_at f old)) → Evaluates s n want old new before now r → Evaluates s n due old new before now r
  evaluates_as want due old new before now r same h = record {
    moves = h.moves;
    within = h.within;
    last = h.last;
    tells = λ files told columns f sense. subst (λ w. Answers (value_at f) w r (state_at f new)) (same files f) (h.tells files told columns f sense);
    blames = h.blames;
  }

  -- a failure that changes nothing: a stop is that of the definitions, and else these may go on
  pub failed_evaluates : (want : Files → (ℕ → Tall) → State Tall → Valued TallValue (State Tall)) (env : SeenEnvironment) (now : S) (e : Failure) → IsInside e
      → ((files : Files) (f : ℕ → Tall) (stop : Stop) → stop_of e ≡ Some stop → want files f (state_at f env) ≡ stops stop (state_at f env))
      → ((files : Files) (f : ℕ → Tall) → stop_of e ≡ None → OpensOn (state_at f env) (state_after (want files f (state_at f env))))
      → Evaluates s n want env env now now (Err e)
  failed_evaluates want env now e inside stopped opens = record {
    moves = moves_none s env now;
    within = tt;
    last = tt;
    tells = λ files told columns f sense. record {
      agrees = λ stop is. stopped files f stop is;
      unfinished = λ d is none. opens files f (ap stop_of (same_failure e d is) ∙ none);
    };
    blames = inside_blames s now now e inside;
  }
