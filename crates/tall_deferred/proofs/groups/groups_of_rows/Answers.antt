-- The key's column, and its groups.
use Rattle.std.specs.Prelude.{refl, [], ◌∷◌}
use Rattle.std.proofs.Common.{subst, sym}
use Rattle.tall_value.specs.SummaryNames.{summary_names}
use Rattle.tall_value.specs.declared.functions.Method.TheVariants.{Count}
use Rattle.tall_semantics.specs.Talls.{Tall}
use Rattle.tall_local.specs.Refusals.{and_then}
use Rattle.tall_script.specs.ScriptValues.{group_columns, summary_table, tall_variable}
use Rattle.tall_deferred.specs.Answers.{Comes}
use Rattle.tall_deferred.specs.Values.{at_seen, value_at, variables_at}
use Rattle.tall_deferred.proofs.Grown.{due_through}
use Rattle.tall_deferred.proofs.groups.groups_of_rows.Goals as goal

pub returns-in-Ok-clause-given : goal.returns-in-Ok-clause-given
returns-in-Ok-clause-given c columns f m =
    subst (λ r. Comes (value_at f) (and_then r (λ (g : Tall). summary_table (summary_names Count c.args.key.now c.args.value.now) (group_columns (at_seen c.args.at) Count (g ∷ [])))) c.summary.result)
    (sym (c.in-Ok.ensures.given f)) (c.summary.ensures.given columns f m)

pub returns-in-Err-clause-given : goal.returns-in-Err-clause-given
returns-in-Err-clause-given c columns f m =
    due_through (λ r. and_then r (λ (g : Tall). summary_table (summary_names Count c.args.key.now c.args.value.now) (group_columns (at_seen c.args.at) Count (g ∷ [])))) (λ r. refl)
    (tall_variable (variables_at f c.args.variables.now) c.args.key.now) c.in-Err.fault (c.in-Err.ensures.given f)
