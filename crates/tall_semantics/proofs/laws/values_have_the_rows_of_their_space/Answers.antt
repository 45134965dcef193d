use Rattle.tall_semantics.proofs.SpaceLaws.{value_fits, value_numbers, value_told}
use Rattle.tall_semantics.proofs.laws.values_have_the_rows_of_their_space.Goals as goal

pub returns-clause-scalars : goal.returns-clause-scalars
returns-clause-scalars c = value_fits

pub returns-clause-numbers : goal.returns-clause-numbers
returns-clause-numbers c = value_numbers

pub returns-clause-told : goal.returns-clause-told
returns-clause-told c = value_told
