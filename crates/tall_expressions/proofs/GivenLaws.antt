-- What the values of arguments tell, by what their evaluation tells.
use Rattle.std.proofs.Common.{◌≡◌, refl, ap, sym, subst, ◌∙◌, ℕ, List, length}
use Rattle.std.specs.Prelude.{false, Option, None, Some, Result, Ok, Err, IfErr, IfOk, Vec}
use Rattle.tall_outside.specs.declared.shelf.Shelf as shelf
use Rattle.tall_grammar.specs.Trees.{Args}
use Rattle.tall_semantics.specs.Talls.{Tall}
use Rattle.tall_local.specs.Arguments as arguments
use Rattle.tall_local.specs.Arguments.{value_given}
use Rattle.tall_local.specs.Expressions.{Valued, arguments as given_arguments, gives, stops, go_on}
use Rattle.tall_local.specs.Lists.{all_of}
use Rattle.tall_local.specs.Refusals.{Stop}
use Rattle.tall_local.specs.StateLaws.{state_after}
use Rattle.tall_script.specs.ScriptLanguage.{script_language}
use Rattle.tall_script.specs.ScriptValues.{TallValue}
use Rattle.tall_script.specs.States.{State}
use Rattle.tall_evaluate.specs.Senses.{ArgumentsFit, Does}
use Rattle.tall_evaluate.specs.declared.languages.Argument.{Argument}
use Rattle.tall_deferred.specs.declared.values.ScriptValue.{ScriptValue}
use Rattle.tall_deferred.specs.Values.{IsValue}
use Rattle.tall_environment.specs.declared.failures.Failure.{Failure}
use Rattle.tall_environment.specs.declared.failures.Failure.TheVariants as failure
use Rattle.tall_environment.specs.Environments.{SeenEnvironment, state_at}
use Rattle.tall_environment.specs.Expressions.{Answers, OpensOn, Tells, found_at, given_values, setting_in}
use Rattle.tall_environment.specs.Failures.{stop_of}
use Rattle.tall_environment.specs.Values.{arguments_at}
use Rattle.tall_expressions.specs.declared.evaluation.Evaluation.{Evaluation}
use Rattle.tall_expressions.specs.Evaluations.{Sense, script_senses}
use Rattle.tall_expressions.proofs.AnswerLaws.{tells_all}
use Rattle.tall_environment.specs.EvaluationLaws.{opens_same}

abbrev Given : Type 0
Given = Valued (List (arguments.Argument TallValue)) (State Tall)

abbrev as_values : Given → Valued (Option (List TallValue)) (State Tall)
as_values r = go_on r (λ given t. gives (all_of value_given given) t)

-- the values are taken in the same state
same_after : (r : Given) → state_after (as_values r) ≡ state_after r
same_after (gives args t) = refl
same_after (stops stop t) = refl

same_failure : {X : Type 0} (a b : Failure) → ◌≡◌ {A = Result X Failure} (Err a) (Err b) → a ≡ b
same_failure a b h = cc

-- where the arguments have no values
module _ (r : Given) (e : Failure) (t : State Tall) where
  stopped_values : {W X : Type 0} (shown : W → List (arguments.Argument TallValue)) (view : X → Option (List TallValue)) → Answers shown r (Err e) t → Answers view (as_values r) (Err e) t
  stopped_values shown view h = record {
    agrees = λ stop is. ap as_values (h.agrees stop is);
    unfinished = λ d same none. subst (OpensOn t) (sym (same_after r)) (h.unfinished e refl (ap stop_of (same_failure e d same) ∙ none));
  }

-- where they have
found_values : {X : Type 0} (r : Given) (args : List (arguments.Argument TallValue)) (view : X → Option (List TallValue)) (o : Result X Failure) (t : State Tall) → r ≡ gives args t
    → IfOk o (λ x. view x ≡ all_of value_given args) → IfErr o (λ e. e ≡ failure.Memory) → Answers view (as_values r) o t
found_values r args view (Ok x) t is found memory = record {
  agrees = ap as_values is ∙ ap (λ vs. gives vs t) (sym found);
  unfinished = λ e fails none. absurd (never e fails);
} where
  never : (e : Failure) → Ok x ≡ Err e → ⊥
  never e h = cc
found_values r args view (Err d) t is found memory = record {
  agrees = λ stop told. absurd (never stop (ap stop_of (sym memory) ∙ told));
  unfinished = λ e fails none. subst (OpensOn t) (sym (same_after r ∙ ap state_after is)) (opens_same t);
} where
  never : (stop : Stop) → None ≡ Some stop → ⊥
  never stop h = cc

-- ---- what the values of arguments tell

module _ {S : Type 0} (Z : Type 0) (s : shelf.Ghosts S) (l m : Evaluation S) (args : Args) where
  abbrev EvaluatesArguments : Result (Vec (Argument ScriptValue) Z) Failure → Type 0
  EvaluatesArguments r =
      Does (script_senses {S = S} s) (λ (k : Evaluation S) (given : Vec (Argument ScriptValue) Z). ArgumentsFit (IsValue (length k.environment.now.graph)) given.items)
      (λ (i : Sense) (given : Vec (Argument ScriptValue) Z). arguments_at i.meaning given.items) (λ i t. given_arguments (script_language i.setting) args false t) l m r

  abbrev TellsArguments : SeenEnvironment → Result (Vec (Argument ScriptValue) Z) Failure → Type 0
  TellsArguments new r =
      Tells s l.shelf.now (λ f (given : Vec (Argument ScriptValue) Z). arguments_at f given.items) (λ files f t. given_arguments (script_language (setting_in files l.functions.now)) args false t)
      l.environment.now new r

  arguments_tell : (new : SeenEnvironment) (r : Result (Vec (Argument ScriptValue) Z) Failure) → new ≡ m.environment.now → EvaluatesArguments r → TellsArguments new r
  arguments_tell new r same h =
      subst (λ e. TellsArguments e r) (sym same)
      (tells_all s l m (λ (k : Evaluation S) (given : Vec (Argument ScriptValue) Z). ArgumentsFit (IsValue (length k.environment.now.graph)) given.items)
      (λ f (given : Vec (Argument ScriptValue) Z). arguments_at f given.items) (λ setting t. given_arguments (script_language setting) args false t) r h)

  module _ (X : Type 0) (new : SeenEnvironment) (same : new ≡ m.environment.now) where
    pub found_tells : (given : Vec (Argument ScriptValue) Z) (r : Result (Option (Vec ScriptValue X)) Failure) → EvaluatesArguments (Ok given)
        → ((f : ℕ → Tall) → IfOk r (λ found. found_at f found ≡ all_of value_given (arguments_at f given.items))) → IfErr r (λ e. e ≡ failure.Memory)
        → Tells s l.shelf.now found_at (λ files f t. given_values (setting_in files l.functions.now) args t) l.environment.now new r
    found_tells given r h found memory files told columns f sense =
        found_values (given_arguments (script_language (setting_in files l.functions.now)) args false (state_at f l.environment.now)) (arguments_at f given.items) (found_at f) r (state_at f new)
        (arguments_tell new (Ok given) same h files told columns f sense).agrees (found f) memory

    pub stopped_tells : (e : Failure) → EvaluatesArguments (Err e)
        → Tells {W = Option (Vec ScriptValue X)} s l.shelf.now found_at (λ files f t. given_values (setting_in files l.functions.now) args t) l.environment.now new (Err e)
    stopped_tells e h files told columns f sense =
        stopped_values (given_arguments (script_language (setting_in files l.functions.now)) args false (state_at f l.environment.now)) e (state_at f new)
        (λ (given : Vec (Argument ScriptValue) Z). arguments_at f given.items) (found_at f) (arguments_tell new (Err e) same h files told columns f sense)
