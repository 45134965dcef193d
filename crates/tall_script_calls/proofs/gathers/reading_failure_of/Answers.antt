use Rattle.std.proofs.Common.{sym, ap}
use Rattle.tall_semantics.specs.Deferred.{least_in}
use Rattle.tall_semantics.specs.Faults.{At}
use Rattle.tall_script_calls.proofs.GatherFailureLaws.{reading_stop}
use Rattle.tall_script_calls.proofs.GatherStores.{element_is}
use Rattle.tall_script_calls.proofs.gathers.reading_failure_of.Goals as goal

pub returns-clause-stops : goal.returns-clause-stops
returns-clause-stops c = λ f roots stop told named.
    let stores = c.args.environment.now.stores in
    reading_stop stores c.args.store told.0 c.args.fault (least_in f roots) stop told.1 told.2
    (c.reading_failure.ensures.stops told.0 stop (element_is stores c.stores.result.now c.args.store c.index-stores-place.result told.0 c.stores.ensures c.index-stores-place.is told.1)
    (sym (ap (λ (at : At). at.line) (c.call-line.ensures told.0 told.1))) named)
