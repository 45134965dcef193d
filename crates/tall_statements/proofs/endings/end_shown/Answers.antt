use Rattle.tall_statements.proofs.EndLaws.{shown_ends, unshown_ends}
use Rattle.tall_statements.proofs.endings.end_shown.Goals as goal

pub returns-in-Ok : goal.returns-in-Ok
returns-in-Ok c = shown_ends c.args.shown c.args.name.now c.args.value.now c.args.environment.now c.new-text.result.items c.graph.result.now c.show.new.text c.new-text.ensures.items c.graph.ensures c.in-Ok.ensures

pub returns-in-Err : goal.returns-in-Err
returns-in-Err c = unshown_ends c.args.shown c.args.name.now c.args.value.now c.args.environment.now
