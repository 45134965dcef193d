use Rattle.std.proofs.Common.{rules}
use Rattle.tall_outside.proofs.Files.{first_file}
use Rattle.tall_outside.proofs.mem_shelf.place_of.Goals as goal

pub returns-then-eq-clause-found : goal.returns-then-eq-clause-found
returns-then-eq-clause-found c =
    first_file _ _ _ c.index-files-i.result c.loop-i.invariant c.loop-i-test.true c.index-files-i.is (search rules)
