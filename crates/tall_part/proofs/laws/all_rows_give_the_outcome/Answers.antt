use Rattle.std.specs.Prelude.{refl}
use Rattle.tall_part.proofs.OperationLaws.{one_told}
use Rattle.tall_part.proofs.laws.all_rows_give_the_outcome.Goals as goal

pub returns-clause-one : goal.returns-clause-one
returns-clause-one c = one_told

pub returns-clause-two : goal.returns-clause-two
returns-clause-two c at m n x y = refl
