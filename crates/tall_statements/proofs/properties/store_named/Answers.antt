use Rattle.std.proofs.Common.{sym, subst}
use Rattle.tall_script.specs.ScriptLanguage.{read_name}
use Rattle.tall_script.specs.Statements.{datastore_named}
use Rattle.tall_deferred.specs.Faults.{IsDue}
use Rattle.tall_statements.specs.Endings.{IsPlaceOf}
use Rattle.tall_statements.proofs.PropertyLaws.{found_at_name}
use Rattle.tall_statements.proofs.properties.store_named.Goals as goal

pub returns-in-Some : goal.returns-in-Some
returns-in-Some c = λ f.
    let e = c.args.environment.now in
    subst (λ o. IsPlaceOf e.stores (datastore_named e.stores c.args.name.now (read_name c.args.name.now o)) c.place_of.result)
    (sym (found_at_name f e.names c.args.name.now _ c.in-Some.ensures.value)) (c.place_of.ensures f e.stores c.args.name.now c.store_count.ensures)

pub returns-in-None : goal.returns-in-None
returns-in-None c = λ f.
    let e = c.args.environment.now in
    subst (λ o. IsDue (datastore_named e.stores c.args.name.now (read_name c.args.name.now o)) c.unnamed.result)
    (sym (found_at_name f e.names c.args.name.now _ c.in-None.ensures.value)) (c.unnamed.ensures e.stores)
