use Rattle.std.proofs.Common.{◌∙◌, ap, subst, length}
use Rattle.std.specs.List.{All}
use Rattle.tall_local.specs.Names.{named}
use Rattle.tall_environment.specs.Environments.{IsNamed, SeenEnvironment}
use Rattle.tall_environment.proofs.TableLaws.{found_within, looked_up, shown_copied}
use Rattle.tall_environment.proofs.environment.Environment.value.Goals as goal

pub returns-clause-value : goal.returns-clause-value
returns-clause-value c =
    shown_copied c.get.result
    ∙ (c.get.ensures.value ∙ (looked_up c.self.inside.names.entries c.args.name.now ∙ ap (λ (e : SeenEnvironment). named e.names c.args.name.now) c.self.view_is))

pub returns-clause-within : goal.returns-clause-within
returns-clause-within c =
    found_within (length c.args.self.now.graph) c.args.self.now.names c.args.name.now c.get.result
    (subst (λ (e : SeenEnvironment). All (IsNamed (length e.graph)) e.names) c.self.view_is c.self.invariant.names)
    (shown_copied c.get.result
    ∙ (c.get.ensures.value ∙ (looked_up c.self.inside.names.entries c.args.name.now ∙ ap (λ (e : SeenEnvironment). named e.names c.args.name.now) c.self.view_is)))
