use Rattle.std.specs.Prelude.{Ok}
use Rattle.tall_value.specs.Cells.{seen}
use Rattle.tall_local.specs.Memory.{scalar}
use Rattle.tall_fun.proofs.values.kept_scalar.Goals as goal

pub returns : goal.returns
returns c = c.kept.ensures (Ok (scalar (seen c.args.c.now))) c.scalar.ensures
