use Rattle.std.proofs.Common.{◌≡◌, ◌≤◌, ◌^◌, drop}
use Rattle.tall_num.specs.Spelling.{digits_onto}
use Rattle.tall_num.specs.Sizes.{capped}
use Rattle.tall_num.proofs.size.read_onto.Given as goal

abbrev pub invariant-loop-digit : goal.invariant-loop-digit
invariant-loop-digit l =
    (capped (digits_onto l.number (drop l.digit-index l.digits)) ≡ capped (digits_onto l.start l.digits))
    × (l.number ≤ 10 ^ 20)
