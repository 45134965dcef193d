-- The method's columns, under their names.
use Rattle.std.specs.Prelude.{refl, Ok, length, map}
use Rattle.std.proofs.Common.{ap, subst, sym, ◌∙◌}
use Rattle.tall_value.specs.SummaryNames.{summary_names}
use Rattle.tall_semantics.specs.Deferred.{AllBelow}
use Rattle.tall_script.specs.ScriptValues.{group_columns, summary_table}
use Rattle.tall_deferred.specs.Answers.{Comes}
use Rattle.tall_deferred.specs.Values.{at_seen, value_at}
use Rattle.tall_deferred.proofs.Grown.{due_through}
use Rattle.tall_deferred.proofs.groups.summary.Goals as goal

pub returns-in-Ok-clause-within : goal.returns-in-Ok-clause-within
returns-in-Ok-clause-within c = c.summary_table.ensures.within (length c.group_columns.new.graph) (subst (AllBelow (length c.group_columns.new.graph)) (sym c.as_slice.ensures.value) c.in-Ok.ensures.within)

pub returns-in-Ok-clause-given : goal.returns-in-Ok-clause-given
returns-in-Ok-clause-given c columns f m =
    subst (λ r. Comes (value_at f) (summary_table (summary_names c.args.method c.args.key.now c.args.value.now) r) c.summary_table.result)
    (ap (λ xs. Ok (map f xs)) c.as_slice.ensures.value ∙ sym (c.in-Ok.ensures.given columns f m)) (c.summary_table.ensures.given f)

pub returns-in-Err-clause-given : goal.returns-in-Err-clause-given
returns-in-Err-clause-given c columns f m =
    due_through (summary_table (summary_names c.args.method c.args.key.now c.args.value.now)) (λ r. refl) (group_columns (at_seen c.args.at) c.args.method (map f c.args.args.now)) c.in-Err.fault (c.in-Err.ensures.given columns f m)
