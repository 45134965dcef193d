-- What an operation on values adds, and what it gives.
use Rattle.std.specs.Prelude.{◌≡◌, ◌≤◌, ℕ, length, Result, IfOk}
use Rattle.tall_outside.specs.Shelf.{Files}
use Rattle.tall_semantics.specs.Deferred.{IsMeaning}
use Rattle.tall_semantics.specs.Talls.{Columns, Tall}
use Rattle.tall_stored.specs.StoredColumns.{AreStored}
use Rattle.tall_local.specs.Refusals.{Refusal}
use Rattle.tall_script.specs.ScriptValues.{TallValue}
use Rattle.tall_deferred.specs.Answers.{Comes}
use Rattle.tall_deferred.specs.declared.faults.ValueFault.{ValueFault}
use Rattle.tall_deferred.specs.declared.values.ScriptValue.{ScriptValue}
use Rattle.tall_deferred.specs.Values.{IsValue, value_at}
use Rattle.tall_environment.specs.Environments.{IsLast, SeenEnvironment}

-- what adds to the graph alone, as the expression with this number
pub record Computes (n : ℕ) (want : Files → (ℕ → Tall) → Result TallValue Refusal) (old new : SeenEnvironment) (r : Result ScriptValue ValueFault) : Type 0 where
  pub same : new ≡ record old { graph = new.graph }
  pub size : length old.graph ≤ length new.graph
  pub stored : (files : Files) (columns : Columns) → AreStored files new.stores new.graph columns → AreStored files old.stores old.graph columns
  pub meant : (columns : Columns) (f : ℕ → Tall) → IsMeaning columns new.graph f → IsMeaning columns old.graph f
  pub within : IfOk r (IsValue (length new.graph))
  pub last : IsLast n new
  pub given : (files : Files) (columns : Columns) (f : ℕ → Tall) → AreStored files new.stores new.graph columns → IsMeaning columns new.graph f → Comes (value_at f) (want files f) r
