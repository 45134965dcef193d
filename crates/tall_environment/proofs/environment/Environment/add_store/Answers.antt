use Rattle.std.proofs.Common.{sym, subst}
use Rattle.tall_stored.specs.StoredColumns.{AreStored}
use Rattle.tall_deferred.specs.Values.{at_seen}
use Rattle.tall_environment.specs.Environments.{IsNext, SeenEnvironment}
use Rattle.tall_environment.specs.contracts.environment.Environment.{the_view}
use Rattle.tall_environment.proofs.EnvironmentLaws.{made_kept, made_more, made_seen, stored_more}
use Rattle.tall_environment.proofs.environment.Environment.add_store.Goals as goal

pub invariant_of-self : goal.invariant_of-self
invariant_of-self c = record {
  names = c.self.invariant.names;
  kept = made_kept c.self.inside.sources c.add.new.self c.datastores_are_kept.ensures.made (at_seen c.args.at) c.args.store c.self.inside.graph c.self.invariant.kept
      (subst (IsNext c.args.at.number) (sym c.self.view_is) c.requires).graph c.add.result c.add.ensures;
}

pub returns-clause-added : goal.returns-clause-added
returns-clause-added c = made_seen (the_view c.self.inside) c.args.self.now c.self.view_is c.add.new.self (record { at = at_seen c.args.at; store = c.args.store }) c.add.result c.add.ensures

pub returns-clause-stored : goal.returns-clause-stored
returns-clause-stored c = λ files columns h.
    let later = made_more c.self.inside.sources c.add.new.self (record { at = at_seen c.args.at; store = c.args.store }) c.add.result c.add.ensures in
    subst (λ (e : SeenEnvironment). AreStored files e.stores e.graph columns) c.self.view_is
    (stored_more c.earlier_columns_are_stored.ensures.stored files c.self.inside.sources c.add.new.self later.0 c.self.inside.graph columns c.self.invariant.kept later.1 h)
