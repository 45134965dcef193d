use Rattle.tall_statements.proofs.PropertyLaws.{property_ends, property_refused}
use Rattle.tall_statements.proofs.properties.end_property.Goals as goal

pub returns-in-Ok : goal.returns-in-Ok
returns-in-Ok c =
    property_ends c.args.line c.args.shown c.args.name.now c.args.property.now c.args.value.now c.args.environment.now c.change.new.environment c.end_assigned.new.environment c.in-Ok.ensures.same
    c.in-Ok.place c.end_assigned.result c.in-Ok.ensures.stored c.in-Ok.ensures.adds c.end_assigned.ensures

pub returns-in-Err : goal.returns-in-Err
returns-in-Err c =
    property_refused c.args.line c.args.shown c.args.name.now c.args.property.now c.args.value.now c.args.environment.now c.change.new.environment c.change.new.environment c.in-Err.ensures.same
    c.in-Err.fault c.refused.result c.in-Err.ensures.adds c.refused.ensures.inside c.refused.ensures.names
