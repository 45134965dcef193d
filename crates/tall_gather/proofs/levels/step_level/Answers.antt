use Rattle.std.specs.Prelude.{◌*◌, ◌+◌, Option}
use Rattle.std.proofs.Common.{sym, subst}
use Rattle.tall_semantics.specs.Faults.{Fault}
use Rattle.tall_gather.specs.Told.{Holds}
use Rattle.tall_gather.proofs.levels.step_level.Goals as goal

pub returns-in-Ok-rest_level-clause-told : goal.returns-in-Ok-rest_level-clause-told
returns-in-Ok-rest_level-clause-told g c files e list columns f told holds =
    let first = c.in-Ok.ensures.told files e list columns f told holds in
    let passed = subst (λ (x : Option Fault). Holds files list c.args.graph.now f c.args.roots.now c.args.stores.now (2 * c.args.level) x c.run_level.new.known c.run_level.new.counts.items) (sym c.earlier-passed.ensures.seen) first in
    let rest = c.in-Ok-rest_level.ensures.told files c.args.stores.now c.run_level.new.counts.items list columns f told passed in
    subst (λ (x : Option Fault). Holds files list c.args.graph.now f c.args.roots.now c.args.stores.now (2 * c.args.level + 1) x c.rest_level.new.known c.run_level.new.counts.items) (sym c.earlier.ensures.seen) rest
