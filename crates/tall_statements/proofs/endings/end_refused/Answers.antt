use Rattle.tall_statements.proofs.EndLaws.{refused_ends}
use Rattle.tall_statements.proofs.endings.end_refused.Goals as goal

pub returns : goal.returns
returns c = refused_ends c.args.line c.args._environment.now
