use Rattle.std.specs.Prelude.{length, option_map}
use Rattle.std.proofs.Common.{sym, subst, ap, ◌∙◌}
use Rattle.tall_script.specs.ScriptLanguage.{read_name}
use Rattle.tall_deferred.specs.Answers.{Comes}
use Rattle.tall_deferred.specs.Values.{value_at}
use Rattle.tall_environment.proofs.NameLaws.{named_at}
use Rattle.tall_expressions.proofs.lookups.value_named.Goals as goal

pub returns-in-Some-clause-within : goal.returns-in-Some-clause-within
returns-in-Some-clause-within c = c.shared.ensures.within (length c.args.environment.now.graph) c.in-Some.ensures.within

pub returns-in-Some-clause-given : goal.returns-in-Some-clause-given
returns-in-Some-clause-given c = λ f.
    subst (λ o. Comes (value_at f) (read_name c.args.name.now o) c.shared.result)
    (sym (named_at f c.args.environment.now.names c.args.name.now ∙ ap (option_map (value_at f)) (sym c.in-Some.ensures.value))) (c.shared.ensures.given f)

pub returns-in-None-clause-within : goal.returns-in-None-clause-within
returns-in-None-clause-within c = c.constant.ensures.within (length c.args.environment.now.graph)

pub returns-in-None-clause-given : goal.returns-in-None-clause-given
returns-in-None-clause-given c = λ f.
    subst (λ o. Comes (value_at f) (read_name c.args.name.now o) c.constant.result)
    (sym (named_at f c.args.environment.now.names c.args.name.now ∙ ap (option_map (value_at f)) (sym c.in-None.ensures.value))) (c.constant.ensures.given f)
