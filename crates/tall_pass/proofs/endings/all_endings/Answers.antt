use Rattle.std.specs.Prelude.{◌≡◌, ◌+◌, [], ◌∷◌, drop, option_map}
use Rattle.std.specs.Vec.Iter.{into_iter_items}
use Rattle.std.proofs.Common.{rules}
use Rattle.tall_semantics.specs.Faults.{fault_seen}
use Rattle.tall_piece.proofs.SumsLaws.{item_drop, next_way, nothing_left, rest_ways}
use Rattle.tall_pass.proofs.EndingListLaws.{every_ending, no_sum_is_missing, one_ending, sum_here, sums_behind}
use Rattle.tall_pass.proofs.endings.all_endings.Goals as goal

pub unreachable-requires : goal.unreachable-requires
unreachable-requires c =
    let e : drop c.loop-w.w-index c.args.wanted.now ≡ c.w-item.result ∷ drop (c.loop-w.w-index + 1) c.args.wanted.now = item_drop c.args.wanted.now c.loop-w.w-index c.w-item.result c.loop-w-test.true c.w-item.is in
    no_sum_is_missing c.args.graph.now (drop c.loop-w.w-index c.args.wanted.now) (drop (c.loop-w.w-index + 1) c.args.wanted.now) c.w-item.result (into_iter_items c.loop-w.sums) e c.in_default.ensures.none c.loop-w.invariant.1

pub ending_below-requires-clause-node : goal.ending_below-requires-clause-node
ending_below-requires-clause-node c =
    let e : drop c.loop-w.w-index c.args.wanted.now ≡ c.w-item.result ∷ drop (c.loop-w.w-index + 1) c.args.wanted.now = item_drop c.args.wanted.now c.loop-w.w-index c.w-item.result c.loop-w-test.true c.w-item.is in
    (next_way c.args.graph.now (drop c.loop-w.w-index c.args.wanted.now) c.w-item.result (drop (c.loop-w.w-index + 1) c.args.wanted.now) e c.loop-w.invariant.0).0

pub ending_below-requires-clause-way : goal.ending_below-requires-clause-way
ending_below-requires-clause-way c =
    let e : drop c.loop-w.w-index c.args.wanted.now ≡ c.w-item.result ∷ drop (c.loop-w.w-index + 1) c.args.wanted.now = item_drop c.args.wanted.now c.loop-w.w-index c.w-item.result c.loop-w-test.true c.w-item.is in
    (next_way c.args.graph.now (drop c.loop-w.w-index c.args.wanted.now) c.w-item.result (drop (c.loop-w.w-index + 1) c.args.wanted.now) e c.loop-w.invariant.0).1

pub ending_below-requires-clause-fits : goal.ending_below-requires-clause-fits
ending_below-requires-clause-fits c =
    let e : drop c.loop-w.w-index c.args.wanted.now ≡ c.w-item.result ∷ drop (c.loop-w.w-index + 1) c.args.wanted.now = item_drop c.args.wanted.now c.loop-w.w-index c.w-item.result c.loop-w-test.true c.w-item.is in
    sum_here c.args.graph.now (drop c.loop-w.w-index c.args.wanted.now) (drop (c.loop-w.w-index + 1) c.args.wanted.now) c.w-item.result (into_iter_items c.loop-w.sums) (into_iter_items c.next_sum.new.sums) c.in-Some.sum e c.in-Some.ensures.some c.loop-w.invariant.1

pub loop-w-preserved : goal.loop-w-preserved
loop-w-preserved c =
    let e : drop c.loop-w.w-index c.args.wanted.now ≡ c.w-item.result ∷ drop (c.loop-w.w-index + 1) c.args.wanted.now = item_drop c.args.wanted.now c.loop-w.w-index c.w-item.result c.loop-w-test.true c.w-item.is in (
      rest_ways c.args.graph.now (drop c.loop-w.w-index c.args.wanted.now) (drop (c.loop-w.w-index + 1) c.args.wanted.now) c.w-item.result e c.loop-w.invariant.0,
      sums_behind c.args.graph.now (drop c.loop-w.w-index c.args.wanted.now) (drop (c.loop-w.w-index + 1) c.args.wanted.now) c.w-item.result (into_iter_items c.loop-w.sums) (into_iter_items c.next_sum.new.sums) c.in-Some.sum e c.in-Some.ensures.some c.loop-w.invariant.1,
      one_ending c.args.graph.now (option_map fault_seen c.args.bound) (drop c.loop-w.w-index c.args.wanted.now) (drop (c.loop-w.w-index + 1) c.args.wanted.now) c.args.wanted.now c.w-item.result (into_iter_items c.loop-w.sums)
          (into_iter_items c.next_sum.new.sums) c.args.sums.items c.in-Some.sum c.loop-w.endings.items c.push.new.self.items (record { node = c.w-item.result.node; ending = c.in_ok-ending.ending }) e c.in-Some.ensures.some
          (search rules) c.in_ok-ending.ensures.fits c.in_ok-ending.ensures.tells (search rules) c.loop-w.invariant.2,
    )

pub returns : goal.returns
returns c =
    let e : drop c.loop-w.w-index c.args.wanted.now ≡ [] = nothing_left c.args.wanted.now c.loop-w.w-index (search rules) in
    every_ending c.args.graph.now (option_map fault_seen c.args.bound) (drop c.loop-w.w-index c.args.wanted.now) c.args.wanted.now (into_iter_items c.loop-w.sums) c.args.sums.items c.loop-w.endings.items e c.loop-w.invariant.2
