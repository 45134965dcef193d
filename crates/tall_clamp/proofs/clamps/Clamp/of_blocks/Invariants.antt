use Rattle.std.proofs.Common.{take, map}
use Rattle.std.specs.List.{flat_map}
use Rattle.tall_clamp.specs.Clamps.{Sums}
use Rattle.tall_clamp.proofs.clamps.Clamp.of_blocks.Given as goal

abbrev pub invariant-loop-block : goal.invariant-loop-block
invariant-loop-block g l = Sums g.I.IntClass.MIN g.I.IntClass.MAX (map g.I.IntClass.number (flat_map (λ b. b.items) (take l.block-index l.blocks))) l.clamp
