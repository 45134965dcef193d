use Rattle.std.proofs.Common.{◌+◌, ◌*◌, ◌<◌, length}
use Rattle.tall_graph.specs.Later.{IsAbove}
use Rattle.bench_graph.proofs.build.Given as goal

abbrev pub invariant-loop-i : goal.invariant-loop-i
invariant-loop-i l = IsAbove l.graph (2 * l.i + 2) × (l.last < length l.graph)
