use Rattle.std.proofs.Common.{◌≡◌, take, map}
use Rattle.std.specs.List.{fold}
use Rattle.tall_fold.proofs.slices.best.Given as goal

abbrev pub invariant-loop-v : goal.invariant-loop-v
invariant-loop-v g l =
    g.I.IntClass.number l.best ≡ fold g.C.Choice.pick (g.I.IntClass.number l.fn.first) (map g.I.IntClass.number (take l.v-index l.rest))
