use Rattle.std.specs.Prelude.{refl}
use Rattle.tall_gather.proofs.RootLaws.{root_made}
use Rattle.tall_gather.proofs.roots.root_column.Goals as goal

pub returns : goal.returns
returns c = root_made c.args.graph.now c.args.roots.now c.args.known.now c.args.n c.least_height-least.result _ c.in-Some.column.now refl c.in-Some.ensures c.least_height-least.ensures _ c.slice.result c.slice.ensures
