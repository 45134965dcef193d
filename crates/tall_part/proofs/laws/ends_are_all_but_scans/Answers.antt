use Rattle.tall_part.proofs.OperationLaws.{end_found}
use Rattle.tall_part.proofs.laws.ends_are_all_but_scans.Goals as goal

pub returns : goal.returns
returns c = end_found
