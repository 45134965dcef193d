use Rattle.tall_script.proofs.OpeningsKept.{longer_opens_more}
use Rattle.tall_script.proofs.laws.openings_only_grow.Goals as goal

pub returns : goal.returns
returns c = longer_opens_more
