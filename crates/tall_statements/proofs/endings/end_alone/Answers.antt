use Rattle.std.specs.Prelude.{Some, codes}
use Rattle.std.proofs.Common.{ap, ◌∙◌}
use Rattle.tall_grammar.specs.Views.{tree_of}
use Rattle.tall_deferred.specs.Values.{value_at}
use Rattle.tall_script.specs.Statements.{alone, assign, shown_text, shows}
use Rattle.tall_statements.proofs.EndLaws.{ends_as, name_is, no_name_is}
use Rattle.tall_statements.proofs.endings.end_alone.Goals as goal

pub returns-in-Some : goal.returns-in-Some
returns-in-Some c =
    ends_as (λ f s. shows (shown_text c.args.shown c.as_str.result.now (value_at f c.args.value)) s) (λ f s. alone c.args.shown (tree_of c.args.e.now) (value_at f c.args.value) s) c.args.environment.now c.args.environment.now c.end_shown.result
    (λ f s. name_is c.args.shown (tree_of c.args.e.now) c.as_str.result.now (ap Some c.as_str.ensures ∙ c.in-Some.ensures) (value_at f c.args.value) s) c.end_shown.ensures

pub returns-in-None : goal.returns-in-None
returns-in-None c =
    ends_as (λ f s. assign c.args.shown (codes "ans") (value_at f c.args.value) s) (λ f s. alone c.args.shown (tree_of c.args.e.now) (value_at f c.args.value) s) c.args.environment.now c.end_assigned.new.environment c.end_assigned.result
    (λ f s. no_name_is c.args.shown (tree_of c.args.e.now) c.in-None.ensures (value_at f c.args.value) s) c.end_assigned.ensures
