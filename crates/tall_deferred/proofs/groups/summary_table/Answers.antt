-- The names that the method's has.
use Rattle.std.specs.Prelude.{Some, Ok, length, map, option_map, string_bytes}
use Rattle.std.proofs.Common.{ap, subst, sym, ◌∙◌}
use Rattle.tall_functions.specs.Summaries.{names_with}
use Rattle.tall_script.specs.ScriptValues.{summary_table}
use Rattle.tall_deferred.specs.Answers.{Comes}
use Rattle.tall_deferred.specs.Values.{value_at}
use Rattle.tall_deferred.proofs.GroupLaws.{names_are_parts}
use Rattle.tall_deferred.proofs.groups.summary_table.Goals as goal

pub named_table-requires : goal.named_table-requires
named_table-requires c =
    c.requires ∙ (sym (names_are_parts c.args.method c.args.key.now c.args.value.now)
    ∙ ap length (c.in_ok-name.ensures c.args.key.now ∙ ap (λ o. names_with c.args.key.now (option_map string_bytes o)) c.in-Some.is))

pub named_table-requires-in-None : goal.named_table-requires-in-None
named_table-requires-in-None c =
    c.requires ∙ (sym (names_are_parts c.args.method c.args.key.now c.args.value.now)
    ∙ ap length (c.in_ok-name.ensures c.args.key.now ∙ ap (λ o. names_with c.args.key.now (option_map string_bytes o)) c.in-None.is))

pub returns-in-Some-clause-given : goal.returns-in-Some-clause-given
returns-in-Some-clause-given c f =
    subst (λ ns. Comes (value_at f) (summary_table ns (Ok (map f c.args.nodes.now))) c.named_table.result)
    (sym (c.in_ok-name.ensures c.args.key.now ∙ (ap (λ o. names_with c.args.key.now (option_map string_bytes o)) c.in-Some.is ∙ ap (λ s. names_with c.args.key.now (Some s)) (sym c.as_str.ensures.value))))
    (c.named_table.ensures.given f)

pub returns-clause-given : goal.returns-clause-given
returns-clause-given c f =
    subst (λ ns. Comes (value_at f) (summary_table ns (Ok (map f c.args.nodes.now))) c.named_table-in-None.result)
    (sym (c.in_ok-name.ensures c.args.key.now ∙ ap (λ o. names_with c.args.key.now (option_map string_bytes o)) c.in-None.is))
    (c.named_table-in-None.ensures.given f)
