use Rattle.std.proofs.Common.{arith}
use Rattle.std.proofs.lemmas.Int.{ints, clamps}
use Rattle.tall_clamp.specs.ClampLaws.{same_bounds}
use Rattle.tall_group.proofs.limits.one_after.Goals as goal

pub returns : goal.returns
returns c =
    same_bounds _ _ _ _ _ _
    (omega (arith, ints))
    (omega (arith, ints, clamps))
    (omega (arith, ints, clamps))
