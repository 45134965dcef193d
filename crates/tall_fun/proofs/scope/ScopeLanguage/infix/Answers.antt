use Rattle.tall_local.specs.Locals.{held_infix}
use Rattle.tall_fun.specs.Values.{held_seen}
use Rattle.tall_fun.proofs.ScopeLaws.{answered_does}
use Rattle.tall_fun.proofs.scope.ScopeLanguage.infix.Goals as goal

pub returns-clause-does : goal.returns-clause-does
returns-clause-does c =
    answered_does c.args.place.line (held_infix c.args.op (held_seen c.args.left) (held_seen c.args.right)) c.args.self.now c.at_line.result
    (c.at_line.ensures (held_infix c.args.op (held_seen c.args.left) (held_seen c.args.right)) c.infix_of.ensures)
