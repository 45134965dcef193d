use Rattle.tall_column.proofs.beside.values_before.Goals as goal

pub returns : goal.returns
returns g c = c.made.ensures _ c.before-2.ensures
