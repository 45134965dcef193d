use Rattle.tall_semantics.proofs.SampleLaws.{sound, numbered, readings, stores}
use Rattle.tall_semantics.proofs.laws.premises_can_be_met.Goals as goal

pub returns-clause-sound : goal.returns-clause-sound
returns-clause-sound c = sound

pub returns-clause-numbered : goal.returns-clause-numbered
returns-clause-numbered c = numbered

pub returns-clause-readings : goal.returns-clause-readings
returns-clause-readings c = readings

pub returns-clause-stores : goal.returns-clause-stores
returns-clause-stores c = stores
