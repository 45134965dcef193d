-- Vertices of the call's number are variables, and those of the datastore have its call.
use Rattle.tall_sources.proofs.KeptLaws.{may_stand}
use Rattle.tall_sources.proofs.laws.variables_may_be_added.Goals as goal

pub returns : goal.returns
returns c = may_stand
