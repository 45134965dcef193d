use Rattle.std.specs.Prelude.{map}
use Rattle.tall_deferred.specs.Values.{shared_seen}
use Rattle.tall_statements.proofs.EndLaws.{named_ends, unnamed_ends}
use Rattle.tall_statements.proofs.endings.end_named.Goals as goal

pub returns-in-Ok : goal.returns-in-Ok
returns-in-Ok c = named_ends c.args.shown c.args.names.now (map shared_seen c.args.values.items) c.args.environment.now c.assign_each.new.environment c.in-Ok.ensures.same c.in-Ok.text c.in-Ok.ensures.named

pub returns-in-Err : goal.returns-in-Err
returns-in-Err c = unnamed_ends c.args.shown c.args.names.now (map shared_seen c.args.values.items) c.args.environment.now c.assign_each.new.environment c.in-Err.ensures.same
