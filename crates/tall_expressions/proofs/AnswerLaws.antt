-- What look-ups, operations on values and calls of functions do, over an evaluation.
use Rattle.std.proofs.Common.{◌≡◌, ℕ, List, length, map, refl, sym, ap, subst, ◌∙◌}
use Rattle.std.specs.Prelude.{true, false, if◌then◌else◌, None, Some, Result, Ok, Err, IfOk, IfErr}
use Rattle.std.proofs.lemmas.Bool.{true≢false}
use Rattle.std.specs.Option.{is_some}
use Rattle.tall_value.specs.Cells.{Seen}
use Rattle.tall_grammar.specs.Trees.{SeenFunction}
use Rattle.tall_grammar.specs.Views.{routine_of}
use Rattle.tall_local.specs.Constants.{constant_named}
use Rattle.tall_local.specs.Memory.{scalar}
use Rattle.tall_local.specs.Values.{in_memory}
use Rattle.tall_outside.specs.declared.shelf.Shelf as shelf
use Rattle.tall_outside.specs.Shelf.{Files}
use Rattle.tall_semantics.specs.Talls.{Tall}
use Rattle.tall_local.specs.Applications.{application_of}
use Rattle.tall_local.specs.Arguments.{value_given}
use Rattle.tall_local.specs.Expressions.{Valued, answered}
use Rattle.tall_local.specs.Lists.{all_of}
use Rattle.tall_local.specs.declared.functions.ScriptFunction.TheVariants as function
use Rattle.tall_local.specs.declared.functions.ScriptFunction.{ScriptFunction}
use Rattle.tall_local.specs.declared.functions.ValueFunction.{ValueFunction}
use Rattle.tall_local.specs.Refusals.{Refusal, bad_argument, undefined, Stop, stop_at}
use Rattle.tall_script.specs.Datastores.{datastore_call}
use Rattle.tall_script.specs.Gathers.{gather_call}
use Rattle.tall_script.specs.OpeningLaws.{opens_files}
use Rattle.tall_script.specs.ScriptLanguage.{application_answer, function_in, handle_refusal, mapreduce_with, place, read_name, readall_answer, reduced_arguments, Setting, script_call}
use Rattle.tall_script.specs.ScriptValues.{TallValue, scalar_given}
use Rattle.tall_script.specs.States.{State}
use Rattle.tall_script.specs.TallTables.{tall_call}
use Rattle.tall_evaluate.specs.declared.languages.Argument.{Argument}
use Rattle.tall_evaluate.specs.Senses.{CallDoes, Does, DoesValue, Finds, Refuses}
use Rattle.tall_deferred.specs.Answers.{Comes}
use Rattle.tall_deferred.specs.declared.faults.ValueFault.{ValueFault}
use Rattle.tall_deferred.specs.declared.faults.ValueFault.TheVariants as fault
use Rattle.tall_deferred.specs.declared.values.ScriptValue.{ScriptValue}
use Rattle.tall_deferred.specs.Values.{IsValue, value_at}
use Rattle.tall_expressions.specs.declared.evaluation.Evaluation.{Evaluation}
use Rattle.tall_environment.specs.declared.failures.Failure.{Failure}
use Rattle.tall_environment.specs.Computations.{Computes}
use Rattle.tall_environment.specs.Environments.{IsNext, SeenEnvironment, state_at}
use Rattle.tall_environment.specs.Expressions.{Answers, Evaluates, Tells, setting_in}
use Rattle.tall_expressions.specs.Evaluations.{Holds, Sense, script_senses}
use Rattle.tall_environment.specs.Failures as failures
use Rattle.tall_environment.specs.Failures.{AnswersAt, IsInside}
use Rattle.tall_environment.specs.Values.{arguments_at}
use Rattle.tall_environment.specs.MoveLaws.{inside_blames}
use Rattle.tall_environment.specs.EvaluationLaws.{agrees_at, computed_evaluates, inside_all}
use Rattle.tall_environment.proofs.EnvironmentLaws.{stays_same}

abbrev tall_err : Refusal → Result TallValue Refusal
tall_err e = Err e

abbrev pub tall_scalar : Seen → Result TallValue Refusal
tall_scalar c = Ok (in_memory (scalar c))

-- ---- what a look-up finds

module _ {S : Type 0} (s : shelf.Ghosts S) (l : Evaluation S) (line : ℕ) (want : Sense → State Tall → Result TallValue Refusal) (r : Result ScriptValue Failure) where
  pub finds : IfOk r (IsValue (length l.environment.now.graph)) → IfErr r IsInside
      → ((i : Sense) → AnswersAt (value_at i.meaning) line (want i (state_at i.meaning l.environment.now)) r)
      → Finds (script_senses {S = S} s) (λ i t. answered line t (want i t)) l r
  finds fits inside h = record {
    fits = fits;
    agrees = λ i holds. agrees_at (value_at i.meaning) line (want i (state_at i.meaning l.environment.now)) r (state_at i.meaning l.environment.now) (h i);
    blames = inside_all s l.shelf.now l.shelf.now r inside;
  }

-- ---- what is evaluated

module _ {S : Type 0} (s : shelf.Ghosts S) (l m : Evaluation S) (n : ℕ) (r : Result ScriptValue Failure)
    (lent : m.shelf.ghost_name ≡ l.shelf.ghost_name) (name : m.environment.ghost_name ≡ l.environment.ghost_name) (functions : m.functions ≡ l.functions)
    (want : Files → (ℕ → Tall) → State Tall → Valued TallValue (State Tall)) (due : Sense → State Tall → Valued TallValue (State Tall))
    (is : (i : Sense) → Holds s i m → want i.setting.files i.meaning (state_at i.meaning l.environment.now) ≡ due i (state_at i.meaning l.environment.now))
    (h : Evaluates s n want l.environment.now m.environment.now l.shelf.now m.shelf.now r) where
  told : (i : Sense) → Holds s i m → Answers (value_at i.meaning) (due i (state_at i.meaning l.environment.now)) r (state_at i.meaning m.environment.now)
  told i holds =
      subst (λ w. Answers (value_at i.meaning) w r (state_at i.meaning m.environment.now)) (is i holds)
      (h.tells i.setting.files (sym h.moves.held ∙ holds.told) i.columns i.meaning (record { stored = holds.stored; solved = holds.solved }))

  evaluated_does : DoesValue (script_senses {S = S} s) due l m r
  evaluated_does = record {
    later = record { shelf = lent; environment = name; functions = functions; moves = h.moves };
    fits = h.within;
    agrees = λ i holds. (told i holds).agrees;
    blames = h.blames;
    unfinished = λ i holds e fails none. (told i holds).unfinished e fails none;
  }

-- ---- operations on values

module _ {S : Type 0} (s : shelf.Ghosts S) (l m : Evaluation S) (n line : ℕ) (answer : Result ScriptValue ValueFault) (r : Result ScriptValue Failure)
    (same : m.shelf ≡ l.shelf) (name : m.environment.ghost_name ≡ l.environment.ghost_name) (functions : m.functions ≡ l.functions)
    (inside : IfErr r IsInside) (kept : (k : ℕ) → IfOk answer (IsValue k) → IfOk r (IsValue k))
    (answers : (f : ℕ → Tall) (due : Result TallValue Refusal) → Comes (value_at f) due answer → AnswersAt (value_at f) line due r) where
  computed : (want : Files → (ℕ → Tall) → Result TallValue Refusal) → Computes n want l.environment.now m.environment.now answer
      → Evaluates s n (λ files f t. answered line t (want files f)) l.environment.now m.environment.now l.shelf.now m.shelf.now r
  computed want h =
      subst (λ x. Evaluates s n (λ files f t. answered line t (want files f)) l.environment.now m.environment.now l.shelf.now x.now r) (sym same)
      (computed_evaluates s n line want l.environment.now m.environment.now l.shelf.now answer r h inside kept answers)

  pub computed_does : (want : Files → (ℕ → Tall) → Result TallValue Refusal) (due : Sense → State Tall → Result TallValue Refusal)
      → ((i : Sense) → want i.setting.files i.meaning ≡ due i (state_at i.meaning l.environment.now)) → Computes n want l.environment.now m.environment.now answer
      → DoesValue (script_senses {S = S} s) (λ i t. answered line t (due i t)) l m r
  computed_does want due is h =
      evaluated_does s l m n r (ap (λ x. x.ghost_name) same) name functions (λ files f t. answered line t (want files f)) (λ i t. answered line t (due i t))
      (λ i holds. ap (answered line (state_at i.meaning l.environment.now)) (is i)) (computed want h)

  module _ (args : List (Argument ScriptValue)) where
    computed_call : (g : ScriptFunction) (want : Files → (ℕ → Tall) → Result TallValue Refusal)
        → ((i : Sense) → answered line (state_at i.meaning l.environment.now) (want i.setting.files i.meaning) ≡ script_call i.setting (place n line) g (arguments_at i.meaning args) (state_at i.meaning l.environment.now))
        → Computes n want l.environment.now m.environment.now answer → CallDoes (script_senses {S = S} s) n line g args l m r
    computed_call g want is h = record {
      does = evaluated_does s l m n r (ap (λ x. x.ghost_name) same) name functions (λ files f t. answered line t (want files f)) (λ i t. script_call i.setting (place n line) g (arguments_at i.meaning args) t)
          (λ i holds. is i) (computed want h);
      done = (computed want h).last;
      still = λ none. ap (λ x. x.now) same;
    }

    pub values_call : (g : ValueFunction) → Computes n (λ files f. application_answer (place n line) (application_of scalar_given g (arguments_at f args))) l.environment.now m.environment.now answer
        → CallDoes (script_senses {S = S} s) n line (function.OfValues g) args l m r
    unfolding script_call
    values_call g h = computed_call (function.OfValues g) (λ files f. application_answer (place n line) (application_of scalar_given g (arguments_at f args))) (λ i. refl) h

    pub tall_table_call : Computes n (λ files f. tall_call files (arguments_at f args) (state_at f l.environment.now)) l.environment.now m.environment.now answer
        → CallDoes (script_senses {S = S} s) n line function.Tall args l m r
    unfolding script_call
    tall_table_call h = computed_call function.Tall (λ files f. tall_call files (arguments_at f args) (state_at f l.environment.now)) (λ i. refl) h

    pub read_all_call : Computes n (λ files f. readall_answer (all_of value_given (arguments_at f args))) l.environment.now m.environment.now answer
        → CallDoes (script_senses {S = S} s) n line function.ReadAll args l m r
    unfolding script_call
    read_all_call h = computed_call function.ReadAll (λ files f. readall_answer (all_of value_given (arguments_at f args))) (λ i. refl) h

    pub elsewhere_call : Computes n (λ files f. Err bad_argument) l.environment.now m.environment.now answer → CallDoes (script_senses {S = S} s) n line function.Elsewhere args l m r
    unfolding script_call
    elsewhere_call h = computed_call function.Elsewhere (λ files f. Err bad_argument) (λ i. refl) h

-- what is refused changes nothing
pub refused_computes : (n : ℕ) (e : SeenEnvironment) → IsNext n e → Computes n (λ files f. Err bad_argument) e e (Err fault.BadArgument)
refused_computes n e next = stays_same n (λ files f. Err bad_argument) e (Err fault.BadArgument) next tt (λ files f. refl)

-- ---- calls that open files

module _ {S : Type 0} (s : shelf.Ghosts S) (l m : Evaluation S) (n line : ℕ) (args : List (Argument ScriptValue)) (r : Result ScriptValue Failure)
    (lent : m.shelf.ghost_name ≡ l.shelf.ghost_name) (name : m.environment.ghost_name ≡ l.environment.ghost_name) (functions : m.functions ≡ l.functions) where
  opening_call : (g : ScriptFunction) (want : Files → (ℕ → Tall) → State Tall → Valued TallValue (State Tall)) → opens_files g ≡ true
      → ((i : Sense) → Holds s i m → want i.setting.files i.meaning (state_at i.meaning l.environment.now) ≡ script_call i.setting (place n line) g (arguments_at i.meaning args) (state_at i.meaning l.environment.now))
      → Evaluates s n want l.environment.now m.environment.now l.shelf.now m.shelf.now r → CallDoes (script_senses {S = S} s) n line g args l m r
  opening_call g want opening is h = record {
    does = evaluated_does s l m n r lent name functions want (λ i t. script_call i.setting (place n line) g (arguments_at i.meaning args) t) is h;
    done = h.last;
    still = λ none. absurd (true≢false (sym opening ∙ none));
  }

  pub datastore_made : Evaluates s n (λ files f t. datastore_call files (place n line) (arguments_at f args) t) l.environment.now m.environment.now l.shelf.now m.shelf.now r
      → CallDoes (script_senses {S = S} s) n line function.TabularTextDatastore args l m r
  unfolding script_call
  datastore_made h = opening_call function.TabularTextDatastore (λ files f t. datastore_call files (place n line) (arguments_at f args) t) refl (λ i holds. refl) h

  pub one_gathered : Evaluates s n (λ files f t. gather_call (place n line) (arguments_at f args) t) l.environment.now m.environment.now l.shelf.now m.shelf.now r
      → CallDoes (script_senses {S = S} s) n line function.Gather args l m r
  unfolding script_call
  one_gathered h = opening_call function.Gather (λ files f t. gather_call (place n line) (arguments_at f args) t) refl (λ i holds. refl) h

  pub map_reduced : Evaluates s n (λ files f t. mapreduce_with (setting_in files l.functions.now) (place n line) (reduced_arguments (arguments_at f args)) t) l.environment.now m.environment.now l.shelf.now m.shelf.now r
      → CallDoes (script_senses {S = S} s) n line function.MapReduce args l m r
  unfolding script_call
  map_reduced h =
      opening_call function.MapReduce (λ files f t. mapreduce_with (setting_in files l.functions.now) (place n line) (reduced_arguments (arguments_at f args)) t) refl
      (λ i holds. ap (λ fs. mapreduce_with (record { files = i.setting.files; functions = fs }) (place n line) (reduced_arguments (arguments_at i.meaning args)) (state_at i.meaning l.environment.now))
      (ap (λ fs. map routine_of fs.now) (sym functions) ∙ sym holds.functions)) h

-- ---- what a whole evaluation tells

module _ {S W V : Type 0} (s : shelf.Ghosts S) (l m : Evaluation S) (Fits : Evaluation S → W → Type 0) (shown : (ℕ → Tall) → W → V) (want : Setting → State Tall → Valued V (State Tall)) (r : Result W Failure) where
  pub tells_all : Does (script_senses {S = S} s) Fits (λ i w. shown i.meaning w) (λ i t. want i.setting t) l m r
      → Tells s l.shelf.now shown (λ files f t. want (setting_in files l.functions.now) t) l.environment.now m.environment.now r
  tells_all h files told columns f sense =
      let i : Sense = record { setting = setting_in files l.functions.now; columns = columns; meaning = f } in
      let holds : Holds s i m = record {
        told = h.later.moves.held ∙ told;
        functions = ap (λ fs. map routine_of fs.now) (sym h.later.functions);
        stored = sense.stored;
        solved = sense.solved;
      } in
      record { agrees = h.agrees i holds; unfinished = λ e fails none. h.unfinished i holds e fails none }

-- ---- names that stand for nothing

err_same : (a b : Refusal) → tall_err a ≡ tall_err b → a ≡ b
err_same a b h = cc

module _ {S : Type 0} (s : shelf.Ghosts S) (l : Evaluation S) (line : ℕ) (name : List ℕ) where
  pub undefined_refuses : (want : Sense → Stop) (e : Failure) → IsInside e → ((w : Result TallValue Refusal) → w ≡ Err (undefined name) → failures.Refuses line w e)
      → ((i : Sense) → Holds s i l → want i ≡ stop_at line (undefined name)) → Refuses (script_senses {S = S} s) want l e
  undefined_refuses want e inside h w = record {
    stops = λ i holds stop is.
        let x = h (Err (undefined name)) refl stop is in
        w i holds ∙ (ap (stop_at line) (err_same (undefined name) x.0 x.1) ∙ x.2);
    blames = inside_blames s l.shelf.now l.shelf.now e inside;
  }

pub not_there : (fs gs : List SeenFunction) (name : List ℕ) → fs ≡ gs → is_some (function_in gs name) ≡ false → handle_refusal fs name ≡ undefined name
not_there fs gs name e h = ap (λ hs. handle_refusal hs name) e ∙ ap (λ b. if b then bad_argument else undefined name) h

pub constant_is : (name : List ℕ) (x : Seen) → Some x ≡ constant_named name → tall_scalar x ≡ read_name name None
constant_is name x e = ap (λ o. elim o [ Some c ↦ tall_scalar c | None ↦ Err (undefined name) ]) e
