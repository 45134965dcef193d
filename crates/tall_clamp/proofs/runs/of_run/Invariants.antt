use Rattle.std.proofs.Common.{take}
use Rattle.tall_clamp.proofs.RunLemmas.{IsRun}
use Rattle.tall_clamp.proofs.runs.of_run.Given as goal

abbrev pub invariant-loop-v : goal.invariant-loop-v
invariant-loop-v g l =
    IsRun g.I.IntClass.MIN g.I.IntClass.MAX g.I.IntClass.number l.fn.first l.shift (g.I.IntClass.number l.low) (g.I.IntClass.number l.high) (take l.v-index l.rest) l.v-index
