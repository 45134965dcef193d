-- A table itself; else its class is refused.
use Rattle.std.proofs.Common.{sym, subst, ◌∙◌}
use Rattle.tall_deferred.specs.Answers.{Comes}
use Rattle.tall_deferred.specs.Values.{value_at}
use Rattle.tall_script_calls.proofs.SingleLaws.{no_table, table_itself}
use Rattle.tall_script_calls.proofs.tables.shared_table.Goals as goal

pub returns-then-is_table-clause-given : goal.returns-then-is_table-clause-given
returns-then-is_table-clause-given c f =
    subst (λ w. Comes (value_at f) w c.shared.result) (sym (table_itself (value_at f c.args.value.now) (sym (c.is_table.ensures f) ∙ c.if-is_table.true))) (c.shared.ensures.given f)

pub returns-clause-given : goal.returns-clause-given
returns-clause-given c f = no_table (value_at f c.args.value.now) (sym (c.is_table.ensures f) ∙ c.if-is_table.false)
