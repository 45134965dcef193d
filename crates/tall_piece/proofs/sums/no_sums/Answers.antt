use Rattle.std.specs.Prelude.{◌≡◌, ◌+◌, [], ◌∷◌, drop}
use Rattle.std.proofs.Common.{rules}
use Rattle.tall_piece.proofs.SumsLaws.{all_first, item_drop, next_way, nothing_left, one_first, rest_ways}
use Rattle.tall_piece.proofs.sums.no_sums.Goals as goal

pub new-requires-clause-way : goal.new-requires-clause-way
new-requires-clause-way c =
    let e : drop c.loop-w.w-index c.args.wanted.now ≡ c.w-item.result ∷ drop (c.loop-w.w-index + 1) c.args.wanted.now = item_drop c.args.wanted.now c.loop-w.w-index c.w-item.result c.loop-w-test.true c.w-item.is in
    (next_way c.args.graph.now (drop c.loop-w.w-index c.args.wanted.now) c.w-item.result (drop (c.loop-w.w-index + 1) c.args.wanted.now) e c.loop-w.invariant.0).1

pub loop-w-preserved : goal.loop-w-preserved
loop-w-preserved c =
    let e : drop c.loop-w.w-index c.args.wanted.now ≡ c.w-item.result ∷ drop (c.loop-w.w-index + 1) c.args.wanted.now = item_drop c.args.wanted.now c.loop-w.w-index c.w-item.result c.loop-w-test.true c.w-item.is in (
      rest_ways c.args.graph.now (drop c.loop-w.w-index c.args.wanted.now) (drop (c.loop-w.w-index + 1) c.args.wanted.now) c.w-item.result e c.loop-w.invariant.0,
      one_first c.args.graph.now (drop c.loop-w.w-index c.args.wanted.now) (drop (c.loop-w.w-index + 1) c.args.wanted.now) c.args.wanted.now c.w-item.result c.new.result c.loop-w.sums.items c.push.new.self.items e (c.new.ensures.fits, c.new.ensures.none)
          (search rules) c.loop-w.invariant.1,
    )

pub returns : goal.returns
returns c =
    let e : drop c.loop-w.w-index c.args.wanted.now ≡ [] = nothing_left c.args.wanted.now c.loop-w.w-index (search rules) in
    all_first c.args.graph.now (drop c.loop-w.w-index c.args.wanted.now) c.args.wanted.now c.loop-w.sums.items e c.loop-w.invariant.1
