-- The table of the columns.
use Rattle.std.specs.Prelude.{refl}
use Rattle.std.proofs.Common.{ap}
use Rattle.tall_script.specs.ScriptValues.{table_answer, over_columns}
use Rattle.tall_deferred.specs.Values.{at_seen, variables_at}
use Rattle.tall_deferred.proofs.Grown.{due_through}
use Rattle.tall_deferred.proofs.RowLaws.{kept}
use Rattle.tall_deferred.proofs.rows.kept_table.Goals as goal

pub returns-in-Ok-clause-given : goal.returns-in-Ok-clause-given
returns-in-Ok-clause-given c columns f m = ap table_answer (c.in-Ok.ensures.given columns f m)

pub returns-in-Err-clause-given : goal.returns-in-Err-clause-given
returns-in-Err-clause-given c columns f m =
    due_through table_answer (λ r. refl) (over_columns (kept (at_seen c.args.at) c.args.rows.now f) (variables_at f c.args.variables.now)) c.in-Err.fault (c.in-Err.ensures.given columns f m)
