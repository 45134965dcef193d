use Rattle.std.proofs.Common.{◌≡◌, ◌∙◌, sym, subst, option_map}
use Rattle.tall_value.specs.Classes.{kind_of}
use Rattle.tall_value.specs.GroupSummary.{summary_columns}
use Rattle.tall_value.proofs.KindLaws.{same_ok}
use Rattle.tall_group.proofs.NamedLemmas.{columns_even}
use Rattle.tall_memory.specs.Values.{Gives}
use Rattle.tall_functions.specs.Summaries.{names_with}
use Rattle.tall_functions.proofs.GroupLemmas.{summary_answer}
use Rattle.tall_functions.proofs.groups.named_summary.Goals as goal

pub summary_table-requires-clause-even : goal.summary_table-requires-clause-even
summary_table-requires-clause-even c = columns_even c.args.how (kind_of c.args.v.now.class) c.args.g.now.cells c.args.v.now.cells c.in-Ok.columns c.in-Ok.ensures.cells

pub returns-in-Ok : goal.returns-in-Ok
returns-in-Ok c classes h =
    let names = names_with c.args.key.now (option_map (λ s. s.now) c.args.name) in
    let e = summary_answer names classes c.in-Ok.columns (summary_columns c.args.how (kind_of c.args.v.now.class) c.args.g.now.cells c.args.v.now.cells) (sym c.are_distinct.ensures ∙ c.if-not-are_distinct.false)
    (same_ok _ _ (sym h ∙ c.in-Ok.ensures.classes)) c.in-Ok.ensures.cells in
    subst (λ r. Gives r c.summary_table.result) (sym e) c.summary_table.ensures
