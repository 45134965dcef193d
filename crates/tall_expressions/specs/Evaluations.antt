-- The language of a script over an evaluation: what its values may mean, and what each call keeps.
use Rattle.std.specs.Prelude.{◌≡◌, ℕ, map, length, Some}
use Rattle.tall_outside.specs.declared.shelf.Shelf as shelf
use Rattle.tall_grammar.specs.Views.{routine_of}
use Rattle.tall_semantics.specs.Deferred.{IsMeaning}
use Rattle.tall_semantics.specs.Talls.{Columns, Tall}
use Rattle.tall_stored.specs.StoredColumns.{AreStored}
use Rattle.tall_local.specs.Functions.{script_function_named}
use Rattle.tall_local.specs.declared.functions.ScriptFunction.{ScriptFunction}
use Rattle.tall_script.specs.OpeningLaws.{is_opening, opens_files}
use Rattle.tall_script.specs.ScriptLanguage.{Setting, script_language}
use Rattle.tall_script.specs.ScriptValues.{TallValue}
use Rattle.tall_script.specs.States.{State}
use Rattle.tall_evaluate.specs.Senses.{Senses}
use Rattle.tall_deferred.specs.declared.values.ScriptValue.{ScriptValue}
use Rattle.tall_deferred.specs.Turns.{IsLater}
use Rattle.tall_deferred.specs.Values.{IsValue, value_at}
use Rattle.tall_expressions.specs.declared.evaluation.Evaluation.{Evaluation}
use Rattle.tall_environment.specs.declared.failures.Failure.{Failure}
use Rattle.tall_environment.specs.Environments.{IsLast, IsNext, state_at}
use Rattle.tall_environment.specs.Expressions.{OpensOn}
use Rattle.tall_environment.specs.Failures.{Blames, stop_of}
use Rattle.tall_environment.specs.Moves.{Moves}

-- the files and the functions of a script, the columns of its graph, and what its nodes are
pub record Sense : Type 0 where
  pub setting : Setting
  pub columns : Columns
  pub meaning : ℕ → Tall

-- the files are those that the shelf tells; the columns are those of the datastores over them; the meaning solves
-- the graph
pub record Holds {S : Type 0} (s : shelf.Ghosts S) (i : Sense) (l : Evaluation S) : Type 0 where
  pub told : s.held l.shelf.now ≡ Some i.setting.files
  pub functions : i.setting.functions ≡ map routine_of l.functions.now
  pub stored : AreStored i.setting.files l.environment.now.stores l.environment.now.graph i.columns
  pub solved : IsMeaning i.columns l.environment.now.graph i.meaning

-- what each call keeps: what is lent is the same, and what is kept behind it only grows
pub record Later {S : Type 0} (s : shelf.Ghosts S) (l m : Evaluation S) : Type 0 where
  pub shelf : m.shelf.ghost_name ≡ l.shelf.ghost_name
  pub environment : m.environment.ghost_name ≡ l.environment.ghost_name
  pub functions : m.functions ≡ l.functions
  pub moves : Moves s l.environment.now m.environment.now l.shelf.now m.shelf.now

abbrev pub script_senses : {S : Type 0} → shelf.Ghosts S → Senses (Evaluation S) ScriptFunction ScriptValue Failure ScriptFunction TallValue (State Tall) Sense
script_senses s = record {
  defined = λ i. script_language i.setting;
  holds = λ i l. Holds s i l;
  state = λ i l. state_at i.meaning l.environment.now;
  shown = λ i v. value_at i.meaning v;
  named = λ f. f;
  stop_of = stop_of;
  blames = λ l m e. Blames s e l.shelf.now m.shelf.now;
  later = λ l m. Later s l m;
  fits = λ l v. IsValue (length l.environment.now.graph) v;
  follows = IsLater;
  ready = λ l n. IsNext n l.environment.now;
  done = λ l n. IsLast n l.environment.now;
  reaches = OpensOn;
  functions = script_function_named;
  opens = is_opening;
  opens_by = opens_files;
  still = λ l m. m.shelf.now ≡ l.shelf.now;
}
