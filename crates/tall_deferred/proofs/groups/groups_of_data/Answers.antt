-- The key's column, the data's, and their groups.
use Rattle.std.specs.Prelude.{refl, [], ◌∷◌}
use Rattle.std.proofs.Common.{subst, sym}
use Rattle.tall_value.specs.SummaryNames.{summary_names}
use Rattle.tall_semantics.specs.Talls.{Tall}
use Rattle.tall_local.specs.Refusals.{and_then}
use Rattle.tall_script.specs.ScriptValues.{group_columns, summary_table, tall_variable}
use Rattle.tall_deferred.specs.Answers.{Comes}
use Rattle.tall_deferred.specs.Faults.{IsDue}
use Rattle.tall_deferred.specs.Values.{at_seen, value_at, variables_at}
use Rattle.tall_deferred.proofs.Grown.{due_through}
use Rattle.tall_deferred.proofs.groups.groups_of_data.Goals as goal

pub returns-in-Ok-tall_variable-clause-given : goal.returns-in-Ok-tall_variable-clause-given
returns-in-Ok-tall_variable-clause-given c columns f m =
    let names = summary_names c.args.how c.args.key.now c.args.value.now in
    let t = variables_at f c.args.variables.now in
    subst (λ r. Comes (value_at f) (and_then r (λ (g : Tall). and_then (tall_variable t c.args.value.now) (λ (v : Tall). summary_table names (group_columns (at_seen c.args.at) c.args.how (g ∷ v ∷ []))))) c.summary.result)
    (sym (c.in-Ok.ensures.given f))
    (subst (λ r. Comes (value_at f) (and_then r (λ (v : Tall). summary_table names (group_columns (at_seen c.args.at) c.args.how (f c.in-Ok.g ∷ v ∷ [])))) c.summary.result)
    (sym (c.in-Ok-tall_variable.ensures.given f)) (c.summary.ensures.given columns f m))

pub returns-in-Err-tall_variable-clause-given : goal.returns-in-Err-tall_variable-clause-given
returns-in-Err-tall_variable-clause-given c columns f m =
    let names = summary_names c.args.how c.args.key.now c.args.value.now in
    let t = variables_at f c.args.variables.now in
    subst (λ r. IsDue (and_then r (λ (g : Tall). and_then (tall_variable t c.args.value.now) (λ (v : Tall). summary_table names (group_columns (at_seen c.args.at) c.args.how (g ∷ v ∷ []))))) c.in-Err-tall_variable.missing)
    (sym (c.in-Ok.ensures.given f))
    (due_through (λ r. and_then r (λ (v : Tall). summary_table names (group_columns (at_seen c.args.at) c.args.how (f c.in-Ok.g ∷ v ∷ [])))) (λ r. refl) (tall_variable t c.args.value.now) c.in-Err-tall_variable.missing (c.in-Err-tall_variable.ensures.given f))

pub returns-in-Err-clause-given : goal.returns-in-Err-clause-given
returns-in-Err-clause-given c columns f m =
    let names = summary_names c.args.how c.args.key.now c.args.value.now in
    let t = variables_at f c.args.variables.now in
    due_through (λ r. and_then r (λ (g : Tall). and_then (tall_variable t c.args.value.now) (λ (v : Tall). summary_table names (group_columns (at_seen c.args.at) c.args.how (g ∷ v ∷ []))))) (λ r. refl)
    (tall_variable t c.args.key.now) c.in-Err.fault (c.in-Err.ensures.given f)
