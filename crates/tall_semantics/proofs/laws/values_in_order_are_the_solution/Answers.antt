use Rattle.tall_semantics.proofs.InOrderLaws.{talls_mean, one_solution}
use Rattle.tall_semantics.proofs.laws.values_in_order_are_the_solution.Goals as goal

pub returns-clause-solution : goal.returns-clause-solution
returns-clause-solution c = talls_mean

pub returns-clause-only : goal.returns-clause-only
returns-clause-only c = one_solution
