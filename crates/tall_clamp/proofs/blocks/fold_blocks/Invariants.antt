use Rattle.std.proofs.Common.{take}
use Rattle.std.specs.List.{flat_map}
use Rattle.tall_clamp.proofs.BlockLemmas.{IsFolded}
use Rattle.tall_clamp.proofs.blocks.fold_blocks.Given as goal

abbrev pub invariant-loop-block : goal.invariant-loop-block
invariant-loop-block g l = IsFolded g.F.Fold.rows g.F.Fold.nothing g.F.Fold.one g.F.Fold.joined g.F.Fold.is_fold g.F.Fold.is_input l.total (flat_map (λ b. b.items) (take l.block-index l.blocks))
