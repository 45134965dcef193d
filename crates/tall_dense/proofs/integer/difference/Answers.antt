use Rattle.tall_dense.proofs.Narrowed.{narrowed}
use Rattle.tall_dense.proofs.integer.difference.Goals as goal

pub returns : goal.returns
returns g c = narrowed _ _ _ _ _ _ _ c.minus.ensures c.narrow.ensures g.met.I.Integer.within
