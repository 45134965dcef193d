use Rattle.tall_pass.specs.Endings.{PutsCells}
use Rattle.tall_pass.proofs.finish.put_carries.Given as goal

abbrev pub invariant-loop-block : goal.invariant-loop-block
invariant-loop-block l = PutsCells l.node l.block l.cells l.fn.known l.known
