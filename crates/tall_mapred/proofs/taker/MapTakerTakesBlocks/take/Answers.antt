use Rattle.std.proofs.Common.{[], ◌∷◌, ◌++◌}
use Rattle.tall_walk.specs.Events.{a_block, block_of}
use Rattle.tall_mapred.proofs.WalkLaws.{memory_ends}
use Rattle.tall_mapred.proofs.taker.MapTakerTakesBlocks.take.Goals as goal

pub work_if_full-requires : goal.work_if_full-requires
work_if_full-requires g c = (c.requires.taken.0 ++ a_block (block_of c.args.block) ∷ [], c.in-Ok.ensures.waits c.requires.taken.0 c.requires.taken.1)

pub returns-in-Err-clause-stopped : goal.returns-in-Err-clause-stopped
returns-in-Err-clause-stopped g c = λ before taken.
    let t = c.args.self.now in
    memory_ends g.K.MapGiven.given (goal.C-pre g t.call.now) (goal.C-post g t.call.now) t.most 1 t.pairs t.window.items before (before ++ a_block (block_of c.args.block) ∷ []) c.in-Err.fault c.in-Err.ensures.memory taken

pub returns-in-Err-work_if_full-clause-stopped : goal.returns-in-Err-work_if_full-clause-stopped
returns-in-Err-work_if_full-clause-stopped g c = λ before taken.
    c.in-Err-work_if_full.ensures.ends (before ++ a_block (block_of c.args.block) ∷ []) (c.in-Ok.ensures.waits before taken)

pub returns-in-Ok-work_if_full-clause-took : goal.returns-in-Ok-work_if_full-clause-took
returns-in-Ok-work_if_full-clause-took g c = λ before taken.
    c.spare_block.ensures (before ++ a_block (block_of c.args.block) ∷ []) (c.in-Ok-work_if_full.ensures.goes (before ++ a_block (block_of c.args.block) ∷ []) (c.in-Ok.ensures.waits before taken))
