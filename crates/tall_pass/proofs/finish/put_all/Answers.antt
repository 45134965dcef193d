use Rattle.std.specs.Prelude.{length, option_map}
use Rattle.std.specs.Vec.Iter.{into_iter_items}
use Rattle.tall_semantics.specs.Faults.{fault_seen}
use Rattle.tall_pass.proofs.EndingListLaws.{there_behind, there_here}
use Rattle.tall_pass.proofs.PuttingLaws.{last, turn}
use Rattle.tall_pass.proofs.finish.put_all.Goals as goal

pub put_below-requires : goal.put_below-requires
put_below-requires c = there_here (length c.args.graph.now) (into_iter_items c.loop-ended.endings) (into_iter_items c.next_ended.new.endings) c.in-Some.ended c.in-Some.ensures.some c.loop-ended.invariant.0

pub loop-ended-preserved : goal.loop-ended-preserved
loop-ended-preserved c = (
  there_behind (length c.args.graph.now) (into_iter_items c.loop-ended.endings) (into_iter_items c.next_ended.new.endings) c.in-Some.ended c.in-Some.ensures.some c.loop-ended.invariant.0,
  turn c.args.graph.now (option_map fault_seen c.args.bound) (into_iter_items c.loop-ended.endings) (into_iter_items c.next_ended.new.endings) c.args.endings.items c.in-Some.ended c.args.known.now c.loop-ended.known c.put_below.new.known
      c.in-Some.ensures.some c.in_ok-put_below.ensures c.loop-ended.invariant.1,
)

pub returns : goal.returns
returns c = last c.args.graph.now (option_map fault_seen c.args.bound) (into_iter_items c.loop-ended.endings) c.args.endings.items c.args.known.now c.loop-ended.known c.in_default.ensures.none c.loop-ended.invariant.1
