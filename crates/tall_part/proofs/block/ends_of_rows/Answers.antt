use Rattle.std.specs.Prelude.{min}
use Rattle.std.proofs.Common.{◌<◌, ◌≤◌, ◌-◌, ℕ, ap, ◌∙◌, arith, length, refl}
use Rattle.tall_part.proofs.BlockLaws.{all_added, one_more}
use Rattle.tall_part.proofs.block.ends_of_rows.Goals as goal

pub loop-at-preserved : goal.loop-at-preserved
loop-at-preserved c =
    let count = c.min-count.ensures in
    let here : c.loop-at.at < length c.args.numbers.now = omega (arith, count, c.loop-at-test.true) in
    one_more c.args.last c.args.most c.args.column.now.class c.loop-at.at c.args.from _ c.args.numbers.now c.args.column.now.cells _ c.loop-at.ends c.add.new.self c.loop-at.invariant here refl c.get.ensures.cell c.in_ok-add.ensures

pub returns : goal.returns
returns c =
    let len = c.len.ensures in
    let count = c.min-count.ensures in
    let all : c.min-count.result ≤ c.loop-at.at = omega (arith, c.loop-at-test.false) in
    all_added c.args.last c.args.most c.args.column.now.class c.loop-at.at c.args.from c.min-count.result c.args.numbers.now c.args.column.now.cells c.loop-at.ends c.loop-at.invariant all (count ∙ ap (λ (n : ℕ). min (length c.args.numbers.now) (n - c.args.from)) len)
