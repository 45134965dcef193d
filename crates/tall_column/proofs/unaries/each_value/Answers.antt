use Rattle.tall_column.proofs.unaries.each_value.Goals as goal

pub returns : goal.returns
returns g c = c.values_of.ensures _ c.each.ensures
