use Rattle.std.proofs.Common.{subst}
use Rattle.tall_script.specs.Statements.{changed_store}
use Rattle.tall_sources.specs.Changed.{AddsStore}
use Rattle.tall_environment.proofs.environment.Environment.change.Goals as goal

pub returns-clause-changed : goal.returns-clause-changed
returns-clause-changed c = λ f d there.
    subst (λ v. AddsStore (changed_store c.args.property.now v d) c.args.self.now.stores c.change_lent.result c.change_lent.new.self.stores) (c.lend.ensures.value f) (c.change_lent.ensures.changed f d there)
