use Rattle.tall_value.proofs.OrderLaws.{cells_total, cells_exact}
use Rattle.tall_value.proofs.ordering.cells_are_ordered.Goals as goal

pub returns-clause-total : goal.returns-clause-total
returns-clause-total c = cells_total

pub returns-clause-exact : goal.returns-clause-exact
returns-clause-exact c = cells_exact
