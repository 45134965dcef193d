use Rattle.tall_column.proofs.beside.values_behind.Goals as goal

pub returns : goal.returns
returns g c = c.made.ensures _ c.behind.ensures
