use Rattle.tall_dense.proofs.Lists.{range-map}
use Rattle.std.proofs.Common.{rules}
use Rattle.tall_dense.proofs.stored.part.Goals as goal

pub returns : goal.returns
returns g c = search (rules, range-map)
