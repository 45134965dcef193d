use Rattle.tall_column.proofs.binaries.pair_values.Goals as goal

pub returns : goal.returns
returns g c = c.made.ensures _ c.pairs.ensures
