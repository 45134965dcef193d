use Rattle.std.proofs.Common.{arith}
use Rattle.tall_stored_blocks.proofs.SampleLaws.{sample_free, sample_meaning, sample_stored}
use Rattle.tall_stored_blocks.proofs.laws.premises_can_be_met.Goals as goal

pub returns-clause-stored : goal.returns-clause-stored
returns-clause-stored c = sample_stored

pub returns-clause-meaning : goal.returns-clause-meaning
returns-clause-meaning c = sample_meaning

pub returns-clause-no_fault : goal.returns-clause-no_fault
returns-clause-no_fault c = sample_free

pub returns-clause-sizes : goal.returns-clause-sizes
returns-clause-sizes c = omega (arith)
