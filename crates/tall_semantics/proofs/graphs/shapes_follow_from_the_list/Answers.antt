use Rattle.tall_semantics.proofs.ShapesInOrderLaws.{made_sound, value_shape, shapes_mean, shape_longer, made_push, chain_short}
use Rattle.tall_semantics.proofs.graphs.shapes_follow_from_the_list.Goals as goal

pub returns-clause-sound : goal.returns-clause-sound
returns-clause-sound c = made_sound

pub returns-clause-values : goal.returns-clause-values
returns-clause-values c = value_shape

pub returns-clause-equations : goal.returns-clause-equations
returns-clause-equations c = shapes_mean

pub returns-clause-kept : goal.returns-clause-kept
returns-clause-kept c = shape_longer

pub returns-clause-pushed : goal.returns-clause-pushed
returns-clause-pushed c = made_push

pub returns-clause-chains : goal.returns-clause-chains
returns-clause-chains c = chain_short
