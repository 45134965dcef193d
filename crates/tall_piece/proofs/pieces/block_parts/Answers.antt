use Rattle.std.specs.Prelude.{◌≡◌, ◌+◌, [], ◌∷◌, drop}
use Rattle.std.proofs.Common.{rules}
use Rattle.tall_piece.proofs.GivenLaws.{all_parts, one_part}
use Rattle.tall_piece.proofs.SumsLaws.{item_drop, next_way, nothing_left, rest_ways}
use Rattle.tall_piece.proofs.pieces.block_parts.Goals as goal

pub block_part-requires-clause-node : goal.block_part-requires-clause-node
block_part-requires-clause-node c =
    let e : drop c.loop-w.w-index c.args.wanted.now ≡ c.w-item.result ∷ drop (c.loop-w.w-index + 1) c.args.wanted.now = item_drop c.args.wanted.now c.loop-w.w-index c.w-item.result c.loop-w-test.true c.w-item.is in
    (next_way c.args.graph.now (drop c.loop-w.w-index c.args.wanted.now) c.w-item.result (drop (c.loop-w.w-index + 1) c.args.wanted.now) e c.loop-w.invariant.0).0

pub block_part-requires-clause-way : goal.block_part-requires-clause-way
block_part-requires-clause-way c =
    let e : drop c.loop-w.w-index c.args.wanted.now ≡ c.w-item.result ∷ drop (c.loop-w.w-index + 1) c.args.wanted.now = item_drop c.args.wanted.now c.loop-w.w-index c.w-item.result c.loop-w-test.true c.w-item.is in
    (next_way c.args.graph.now (drop c.loop-w.w-index c.args.wanted.now) c.w-item.result (drop (c.loop-w.w-index + 1) c.args.wanted.now) e c.loop-w.invariant.0).1

pub loop-w-preserved : goal.loop-w-preserved
loop-w-preserved c =
    let e : drop c.loop-w.w-index c.args.wanted.now ≡ c.w-item.result ∷ drop (c.loop-w.w-index + 1) c.args.wanted.now = item_drop c.args.wanted.now c.loop-w.w-index c.w-item.result c.loop-w-test.true c.w-item.is in (
      rest_ways c.args.graph.now (drop c.loop-w.w-index c.args.wanted.now) (drop (c.loop-w.w-index + 1) c.args.wanted.now) c.w-item.result e c.loop-w.invariant.0,
      one_part c.args.graph.now c.args.block.now.table.now c.args.block.now.made.now c.args.block.now.first_row c.args.block.now.rows (drop c.loop-w.w-index c.args.wanted.now) (drop (c.loop-w.w-index + 1) c.args.wanted.now) c.args.wanted.now
          c.w-item.result c.in_ok-block_part.field-0 c.loop-w.parts.items c.push.new.self.items e c.in_ok-block_part.ensures.fits c.in_ok-block_part.ensures.made (search rules) c.loop-w.invariant.1,
    )

pub returns : goal.returns
returns c =
    let e : drop c.loop-w.w-index c.args.wanted.now ≡ [] = nothing_left c.args.wanted.now c.loop-w.w-index (search rules) in
    all_parts c.args.graph.now c.args.block.now.table.now c.args.block.now.made.now c.args.block.now.first_row c.args.block.now.rows (drop c.loop-w.w-index c.args.wanted.now) c.args.wanted.now c.loop-w.parts.items e c.loop-w.invariant.1
