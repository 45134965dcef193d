use Rattle.tall_dense.proofs.Narrowed.{narrowed}
use Rattle.tall_dense.proofs.integer.sum.Goals as goal

pub returns : goal.returns
returns g c = narrowed _ _ _ _ _ _ _ c.plus.ensures c.narrow.ensures g.met.I.Integer.within
