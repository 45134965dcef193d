use Rattle.tall_piece.proofs.SampleLaws.{sample}
use Rattle.tall_piece.proofs.laws.premises_can_be_met.Goals as goal

pub returns : goal.returns
returns c = sample
