use Rattle.tall_semantics.proofs.PassLaws.{bound}
use Rattle.tall_semantics.proofs.laws.one_pass_a_level_and_datastore.Goals as goal

pub returns : goal.returns
returns c = bound
