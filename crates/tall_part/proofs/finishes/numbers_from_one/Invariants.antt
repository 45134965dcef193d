use Rattle.std.proofs.Common.{◌≡◌}
use Rattle.tall_part.specs.Finished.{numbers_from}
use Rattle.tall_part.proofs.finishes.numbers_from_one.Given as goal

abbrev pub invariant-loop-at : goal.invariant-loop-at
invariant-loop-at l = l.numbers.items ≡ numbers_from 1 l.at
