-- What a public call of an evaluation says, in words of the environment and of the shelf.
use Rattle.std.specs.Prelude.{◌≡◌, ℕ, false, List, ◌++◌, length, map, Option, None, Some, Result, Err, IfOk, IfErr, Vec}
use Rattle.std.specs.List.{All}
use Rattle.tall_outside.specs.declared.shelf.Shelf as shelf
use Rattle.tall_outside.specs.Shelf.{Files}
use Rattle.tall_grammar.specs.declared.scripts.Function.{Function}
use Rattle.tall_grammar.specs.Views.{routine_of}
use Rattle.tall_semantics.specs.Deferred.{IsMeaning}
use Rattle.tall_semantics.specs.Talls.{Columns, Tall}
use Rattle.tall_stored.specs.StoredColumns.{AreStored}
use Rattle.tall_grammar.specs.Trees.{Args}
use Rattle.tall_local.specs.Arguments.{value_given}
use Rattle.tall_local.specs.Expressions.{Valued, arguments, gives, go_on}
use Rattle.tall_local.specs.Lists.{all_of}
use Rattle.tall_local.specs.Memory.{Memory}
use Rattle.tall_script.specs.ScriptLanguage.{Setting, script_language}
use Rattle.tall_script.specs.ScriptValues.{TallValue}
use Rattle.tall_deferred.specs.declared.values.ScriptValue.{ScriptValue}
use Rattle.tall_deferred.specs.Values.{IsValue, Shared, shared_seen, value_at}
use Rattle.tall_script.specs.States.{Openings, State}
use Rattle.tall_local.specs.StateLaws.{state_after}
use Rattle.tall_evaluate.specs.Senses.{Agrees}
use Rattle.tall_environment.specs.declared.failures.Failure.{Failure}
use Rattle.tall_environment.specs.Environments.{IsLast, SeenEnvironment, state_at}
use Rattle.tall_environment.specs.Failures.{Blames, stop_of}
use Rattle.tall_environment.specs.Moves.{Moves}

abbrev pub setting_in : Files → List Function → Setting
setting_in files functions = record { files = files; functions = map routine_of functions }

-- the columns are those of the datastores over these files, and f solves the graph
pub record IsSense (files : Files) (e : SeenEnvironment) (columns : Columns) (f : ℕ → Tall) : Type 0 where
  pub stored : AreStored files e.stores e.graph columns
  pub solved : IsMeaning columns e.graph f

-- no more is left to open than from one state to the other
abbrev pub OpensOn : State Tall → State Tall → Type 0
OpensOn s t = (more : List Openings) × (t.opened ≡ s.opened ++ more)

-- an answer in code to what the definitions give, and the state that is left; where no definition has the failure, the
-- definitions may go on and open more
pub record Answers {W V : Type 0} (shown : W → V) (want : Valued V (State Tall)) (r : Result W Failure) (t : State Tall) : Type 0 where
  pub agrees : Agrees shown stop_of want r t
  pub unfinished : (e : Failure) → r ≡ Err e → stop_of e ≡ None → OpensOn t (state_after want)

-- where the shelf tells its files: whatever the values mean, the answer and the state that is left are those of the definitions
abbrev pub Tells : {S W V : Type 0} → shelf.Ghosts S → (before : S) → ((ℕ → Tall) → W → V) → (Files → (ℕ → Tall) → State Tall → Valued V (State Tall)) → (old new : SeenEnvironment) → Result W Failure → Type 0
Tells s before shown want old new r = (files : Files) → s.held before ≡ Some files → (columns : Columns) (f : ℕ → Tall)
    → IsSense files new columns f → Answers (shown f) (want files f (state_at f old)) r (state_at f new)

-- an expression with this number was evaluated, between two moments of the shelf
pub record Evaluates {S : Type 0} (s : shelf.Ghosts S) (n : ℕ) (want : Files → (ℕ → Tall) → State Tall → Valued TallValue (State Tall))
    (old new : SeenEnvironment) (before now : S) (r : Result ScriptValue Failure) : Type 0 where
  pub moves : Moves s old new before now
  pub within : IfOk r (IsValue (length new.graph))
  pub last : IfOk r (λ v. IsLast n new)
  pub tells : Tells s before value_at want old new r
  pub blames : IfErr r (λ e. Blames s e before now)

-- the values of arguments that are values alone
abbrev pub given_values : Setting → Args → State Tall → Valued (Option (List TallValue)) (State Tall)
given_values setting args s = go_on (arguments (script_language setting) args false s) (λ given t. gives (all_of value_given given) t)

abbrev pub values_at : (ℕ → Tall) → List ScriptValue → List TallValue
values_at f vs = map (value_at f) vs

abbrev pub found_at : {Z : Type 0} → (ℕ → Tall) → Option (Vec ScriptValue Z) → Option (List TallValue)
found_at f None = None
found_at f (Some vs) = Some (values_at f vs.items)

abbrev pub memories_at : {Z : Type 0} → (ℕ → Tall) → Vec Shared Z → List Memory
memories_at f ms = map shared_seen ms.items

abbrev pub AreValues : {Z : Type 0} → (n : ℕ) → Option (Vec ScriptValue Z) → Type 0
AreValues n None = Unit {0}
AreValues n (Some vs) = All (IsValue n) vs.items
