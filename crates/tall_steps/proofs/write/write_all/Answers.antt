use Rattle.std.proofs.Common.{rules}
use Rattle.tall_steps.proofs.Writing.{more_taken}
use Rattle.tall_steps.proofs.write.write_all.Goals as goal

pub loop-at-preserved : goal.loop-at-preserved
loop-at-preserved g c = record {
  within = search rules;
  later = search rules;
  taken = more_taken _ _ _ c.args.text.now c.loop-at.at c.in-Ok.count c.loop-at.invariant.taken c.in-Ok.ensures.bytes;
}
