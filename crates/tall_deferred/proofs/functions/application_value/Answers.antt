-- Each arm is the word's case.
use Rattle.std.specs.Prelude.{Ok}
use Rattle.tall_value.specs.Cells.{seen}
use Rattle.tall_local.specs.Memory.{scalar}
use Rattle.tall_script.specs.ScriptValues.{application_value}
use Rattle.tall_deferred.proofs.functions.application_value.Goals as goal

pub returns-in-Constant-clause-given : goal.returns-in-Constant-clause-given
unfolding application_value
returns-in-Constant-clause-given c columns f m = rw c.in-Constant.is (c.in_memory.ensures.given f (Ok (scalar (seen c.in-Constant.c))) c.scalar.ensures)

pub returns-in-ToOne-clause-given : goal.returns-in-ToOne-clause-given
unfolding application_value
returns-in-ToOne-clause-given c columns f m = rw c.in-ToOne.is (c.on_first.ensures.given columns f m)

pub returns-in-ToTwo-clause-given : goal.returns-in-ToTwo-clause-given
unfolding application_value
returns-in-ToTwo-clause-given c columns f m = rw c.in-ToTwo.is (c.on_two.ensures.given columns f m)
