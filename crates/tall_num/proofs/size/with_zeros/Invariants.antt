use Rattle.std.proofs.Common.{◌≡◌, ◌*◌, ◌^◌}
use Rattle.tall_num.specs.Sizes.{capped}
use Rattle.tall_num.proofs.size.with_zeros.Given as goal

abbrev pub invariant-loop-turn : goal.invariant-loop-turn
invariant-loop-turn l = l.number ≡ capped (l.start * 10 ^ l._turn)
