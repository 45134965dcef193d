use Rattle.std.proofs.Common.{take}
use Rattle.tall_clamp.proofs.BlockLemmas.{IsFolded}
use Rattle.tall_clamp.proofs.blocks.fold_rows.Given as goal

abbrev pub invariant-loop-v : goal.invariant-loop-v
invariant-loop-v g l = IsFolded g.F.Fold.rows g.F.Fold.nothing g.F.Fold.one g.F.Fold.joined g.F.Fold.is_fold g.F.Fold.is_input l.total (take l.v-index l.rows)
