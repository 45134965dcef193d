use Rattle.tall_statements.proofs.EndLaws.{assigned_ends, unassigned_ends}
use Rattle.tall_statements.proofs.endings.end_assigned.Goals as goal

pub returns-in-Ok : goal.returns-in-Ok
returns-in-Ok c = assigned_ends c.args.shown c.args.name.now c.args.value c.args.environment.now c.assign.new.environment c.new-text.result.items c.assign.new.text c.new-text.ensures.items c.in-Ok.ensures.ok c.in-Ok.ensures.text

pub returns-in-Err : goal.returns-in-Err
returns-in-Err c = unassigned_ends c.args.shown c.args.name.now c.args.value c.args.environment.now c.assign.new.environment c.in-Err.ensures.err
