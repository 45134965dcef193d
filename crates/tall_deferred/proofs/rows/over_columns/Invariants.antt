use Rattle.std.specs.Prelude.{◌≡◌, ℕ, ◌++◌, length, drop, take}
use Rattle.std.specs.List.{All}
use Rattle.tall_semantics.specs.Deferred.{IsMeaning}
use Rattle.tall_semantics.specs.Talls.{Tall, Columns}
use Rattle.tall_script.specs.ScriptValues.{over_columns}
use Rattle.tall_deferred.specs.Lists.{followed}
use Rattle.tall_deferred.specs.Values.{IsVariable, at_seen, variables_at}
use Rattle.tall_deferred.proofs.RowLaws.{column_vertices, kept}
use Rattle.tall_deferred.proofs.rows.over_columns.Given as goal

-- the columns so far, in front of those of the rest
abbrev pub invariant-loop-variable : goal.invariant-loop-variable
invariant-loop-variable l = record {
  grown : l.graph ≡ l.fn.graph ++ take l.variable-index (column_vertices (at_seen l.at) l.rows l.variables);
  within : All (IsVariable (length l.graph)) l.kept.items;
  given : (columns : Columns) (f : ℕ → Tall) → IsMeaning columns l.graph f
      → followed (variables_at f l.kept.items) (over_columns (kept (at_seen l.at) l.rows f) (variables_at f (drop l.variable-index l.variables))) ≡ over_columns (kept (at_seen l.at) l.rows f) (variables_at f l.variables);
}
