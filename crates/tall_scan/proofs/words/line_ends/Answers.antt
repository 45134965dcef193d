use Rattle.std.proofs.Common.{ap₂, ◌∙◌, max, get_or}
use Rattle.std.specs.Prelude.{◌==◌}
use Rattle.std.proofs.lemmas.Nat.Bits.{bit_at_or}
use Rattle.tall_scan.proofs.Bits.{bit_at-one_if}
use Rattle.tall_scan.proofs.words.line_ends.Goals as goal

pub returns : goal.returns
returns c k h =
    bit_at_or c.equals-carriage.result c.equals-feed.result k ∙ ap₂ max (c.equals-carriage.ensures k h) (c.equals-feed.ensures k h)
    ∙ bit_at-one_if (get_or c.args.v k 0 == 13) (get_or c.args.v k 0 == 10)
