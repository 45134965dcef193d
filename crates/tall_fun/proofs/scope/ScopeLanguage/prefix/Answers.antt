use Rattle.tall_local.specs.Locals.{with_memory}
use Rattle.tall_local.specs.MemoryOperators.{memory_prefix}
use Rattle.tall_fun.specs.Values.{held_seen}
use Rattle.tall_fun.proofs.ScopeLaws.{answered_does}
use Rattle.tall_fun.proofs.scope.ScopeLanguage.prefix.Goals as goal

pub returns-clause-does : goal.returns-clause-does
returns-clause-does c =
    answered_does c.args.place.line (with_memory (held_seen c.args.operand) (memory_prefix c.args.op)) c.args.self.now c.at_line.result
    (c.at_line.ensures (with_memory (held_seen c.args.operand) (memory_prefix c.args.op)) c.prefix_of.ensures)
