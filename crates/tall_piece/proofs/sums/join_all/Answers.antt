use Rattle.std.specs.Vec.Iter.{into_iter_items}
use Rattle.tall_piece.proofs.SumsLaws.{all_joined, joinable}
use Rattle.tall_piece.proofs.sums.join_all.Goals as goal

pub join-requires : goal.join-requires
join-requires c =
    joinable (into_iter_items c.loop-sum.sums) c.in-Some.sum (into_iter_items c.next_sum.new.sums) (into_iter_items c.loop-sum.parts) c.next_part-part.result c.in-Some.ensures.some c.loop-sum.invariant.0 c.next_part-part.ensures.part

pub returns : goal.returns
returns c = all_joined (into_iter_items c.loop-sum.sums) (into_iter_items c.loop-sum.parts) c.args.parts.items c.args.sums.items c.loop-sum.joined.items c.in_default.ensures.none c.loop-sum.invariant.1
