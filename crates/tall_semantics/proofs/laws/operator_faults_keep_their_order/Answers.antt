use Rattle.std.specs.Prelude.{refl}
use Rattle.tall_semantics.proofs.laws.operator_faults_keep_their_order.Goals as goal

pub returns : goal.returns
returns c f g = refl
