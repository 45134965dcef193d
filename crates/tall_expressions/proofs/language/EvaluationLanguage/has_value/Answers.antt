use Rattle.std.proofs.Common.{◌≡◌, sym, subst, ◌∙◌}
use Rattle.std.specs.Option.{is_some}
use Rattle.tall_local.specs.Names.{named}
use Rattle.tall_environment.specs.Environments.{names_at}
use Rattle.tall_environment.proofs.TableLaws.{has_named}
use Rattle.tall_expressions.proofs.language.EvaluationLanguage.has_value.Goals as goal

pub returns : goal.returns
returns g c = λ i holds.
    subst (λ n. is_some (named (names_at i.meaning c.args.self.now.environment.now.names) n) ≡ c.is_some.result) c.as_str.ensures
    (has_named i.meaning c.args.self.now.environment.now.names c.as_str.result.now c.value.result c.value.ensures.value ∙ sym c.is_some.ensures)
