use Rattle.tall_value.specs.Cells.{seen}
use Rattle.tall_statements.proofs.PropertyLaws.{constant_refused, nothing_named}
use Rattle.tall_statements.proofs.properties.unnamed.Goals as goal

pub returns-in-Some : goal.returns-in-Some
returns-in-Some c = λ stores. constant_refused stores c.args.name.now (seen c.in-Some.field-0) c.in-Some.ensures

pub returns-in-Ok : goal.returns-in-Ok
returns-in-Ok c = λ stores. nothing_named stores c.args.name.now c.in-Ok.name c.in-None.ensures c.in-Ok.ensures
