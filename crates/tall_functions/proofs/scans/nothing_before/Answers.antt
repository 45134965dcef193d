use Rattle.std.proofs.Common.{◌∙◌, ap, subst}
use Rattle.std.specs.Prelude.{List, length}
use Rattle.tall_value.specs.Cells.{Seen}
use Rattle.tall_dense.specs.Columns.{SeenColumn}
use Rattle.tall_fold.specs.Carries.{IsCarry}
use Rattle.tall_functions.proofs.scans.nothing_before.Goals as goal

pub returns-clause-operation : goal.returns-clause-operation
returns-clause-operation c = c.carry.ensures.carry.operation

pub returns-clause-rows : goal.returns-clause-rows
returns-clause-rows c = c.carry.ensures.carry.rows ∙ ap (λ (x : SeenColumn). length x.cells) c.new-none.ensures

pub returns-clause-carry : goal.returns-clause-carry
returns-clause-carry c =
    subst (λ (cs : List Seen). IsCarry c.args.s c.carry.result.class cs c.carry.result) (ap (λ (x : SeenColumn). x.cells) c.new-none.ensures) c.carry.ensures.carry
