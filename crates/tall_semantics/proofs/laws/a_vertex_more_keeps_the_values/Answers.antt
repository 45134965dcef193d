use Rattle.tall_semantics.proofs.InOrderLaws.{sound_push, meaning_kept, meaning_last}
use Rattle.tall_semantics.proofs.laws.a_vertex_more_keeps_the_values.Goals as goal

pub returns-clause-sound : goal.returns-clause-sound
returns-clause-sound c = sound_push

pub returns-clause-kept : goal.returns-clause-kept
returns-clause-kept c = meaning_kept

pub returns-clause-last : goal.returns-clause-last
returns-clause-last c = meaning_last
