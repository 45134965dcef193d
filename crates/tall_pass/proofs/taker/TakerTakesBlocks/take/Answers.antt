use Rattle.std.proofs.Common.{[], ◌∷◌, ◌++◌}
use Rattle.tall_walk.specs.Events.{a_block, block_of}
use Rattle.tall_pass.specs.Takers.{inputs_of}
use Rattle.tall_pass.proofs.TakerLaws.{stopped_blocks}
use Rattle.tall_pass.proofs.taker.TakerTakesBlocks.take.Goals as goal

pub work_if_full-requires : goal.work_if_full-requires
work_if_full-requires g c = (c.requires.taken.0 ++ a_block (block_of c.args.block) ∷ [], c.in-Ok.ensures.waits c.requires.taken.0 c.requires.taken.1)

pub returns-in-Err-work_if_full-clause-stopped : goal.returns-in-Err-work_if_full-clause-stopped
returns-in-Err-work_if_full-clause-stopped g c = λ before t.
    let s = c.in-Ok.ensures.waits before t in
    stopped_blocks g.K.PassGiven.inputs (inputs_of c.wait.new.self) g.K.PassGiven.counts c.in-Err-work_if_full.fault before (a_block (block_of c.args.block)) s.0
    (c.in-Err-work_if_full.ensures.ends (before ++ a_block (block_of c.args.block) ∷ []) s)

pub returns-in-Ok-work_if_full-clause-took : goal.returns-in-Ok-work_if_full-clause-took
returns-in-Ok-work_if_full-clause-took g c = λ before t.
    c.spare_block.ensures.takes (before ++ a_block (block_of c.args.block) ∷ []) (c.in-Ok-work_if_full.ensures.goes (before ++ a_block (block_of c.args.block) ∷ []) (c.in-Ok.ensures.waits before t))
