use Rattle.std.proofs.Common.{ap, ◌∙◌, min, w64}
use Rattle.std.specs.Int.{bit_at, bit_not}
use Rattle.std.proofs.lemmas.Nat.Bits.{bit_at_and, bit_at_not}
use Rattle.tall_scan.proofs.words.without.Goals as goal

pub returns : goal.returns
returns c k h =
    bit_at_and c.args.word (bit_not w64 c.args.other) k ∙ ap (λ x. min (bit_at c.args.word k) x) (bit_at_not w64 c.args.other k c.ranges.other.fits h)
