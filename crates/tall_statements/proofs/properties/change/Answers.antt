use Rattle.tall_local.specs.Names.{named}
use Rattle.tall_deferred.specs.Values.{value_at}
use Rattle.tall_environment.specs.Environments.{names_at}
use Rattle.tall_script.specs.ScriptLanguage.{read_name}
use Rattle.tall_script.specs.Statements.{changed_store, datastore_named}
use Rattle.tall_statements.proofs.PropertyLaws.{any_value, change_found, change_refused, within_found}
use Rattle.tall_statements.proofs.properties.change.Goals as goal

pub change-requires : goal.change-requires
change-requires c =
    let e = c.args.environment.now in
    let n = c.args.name.now in
    within_found e.stores (datastore_named e.stores n (read_name n (named (names_at any_value e.names) n))) c.in-Ok.place (c.in-Ok.ensures any_value)

pub returns-in-Ok-clause-adds : goal.returns-in-Ok-clause-adds
returns-in-Ok-clause-adds c = λ f.
    let e = c.args.environment.now in
    let n = c.args.name.now in
    change_found e.stores c.change.new.self.stores (datastore_named e.stores n (read_name n (named (names_at f e.names) n))) (changed_store c.args.property.now (value_at f c.args.value.now)) c.in-Ok.place c.change.result (c.in-Ok.ensures f)
    (c.change.ensures.changed f)

pub returns-in-Err-clause-adds : goal.returns-in-Err-clause-adds
returns-in-Err-clause-adds c = λ f.
    let e = c.args.environment.now in
    let n = c.args.name.now in
    change_refused e.stores (datastore_named e.stores n (read_name n (named (names_at f e.names) n))) (changed_store c.args.property.now (value_at f c.args.value.now)) c.in-Err.fault (c.in-Err.ensures f)
