use Rattle.std.proofs.Common.{◌∙◌, ap}
use Rattle.std.specs.Prelude.{length}
use Rattle.tall_dense.specs.Columns.{SeenColumn}
use Rattle.bench_folds.proofs.folds.nothing_before.Goals as goal

pub returns-clause-operation : goal.returns-clause-operation
returns-clause-operation c = c.carry.ensures.carry.operation

pub returns-clause-rows : goal.returns-clause-rows
returns-clause-rows c = c.carry.ensures.carry.rows ∙ ap (λ (x : SeenColumn). length x.cells) c.new-none.ensures
