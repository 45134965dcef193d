use Rattle.std.specs.Prelude.{Ok}
use Rattle.tall_value.specs.Cells.{double}
use Rattle.tall_local.specs.Locals.{value}
use Rattle.tall_local.specs.Memory.{scalar}
use Rattle.tall_fun.proofs.ScopeLaws.{answered_finds}
use Rattle.tall_fun.proofs.scope.ScopeLanguage.number.Goals as goal

pub returns : goal.returns
returns c =
    answered_finds 0 (Ok (value (scalar (double c.args.value)))) c.args.self.now c.at_line.result (c.at_line.ensures (Ok (value (scalar (double c.args.value)))) c.kept_scalar.ensures)
