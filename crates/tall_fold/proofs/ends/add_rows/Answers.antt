use Rattle.std.proofs.Common.{◌≡◌, ◌∙◌, ◌<◌, ◌≤◌, arith, length}
use Rattle.tall_fold.proofs.PairLemmas.{all_rows, rows_more}
use Rattle.tall_fold.proofs.ends.add_rows.Goals as goal

pub loop-at-preserved : goal.loop-at-preserved
loop-at-preserved c =
    let len = c.len-at-end.ensures in
    let here : c.loop-at.at < length c.args.later.now.numbers.items = omega (arith, len, c.loop-at-test.true) in (
      rows_more c.args.last c.args.most c.loop-at.at c.args.pairs.now c.loop-at.pairs c.add_row.new.pairs c.args.later.now c.index.result.now _
          c.loop-at.invariant.0 here c.requires.even c.index.ensures c.get-cell.ensures.cell c.in_ok-add_row.ensures.rows,
      c.add_row.ensures.kept,
      c.add_row.ensures.class ∙ c.loop-at.invariant.2,
    )

pub returns-clause-rows : goal.returns-clause-rows
returns-clause-rows c =
    let len = c.len-at-end.ensures in
    let all : length c.args.later.now.numbers.items ≤ c.loop-at.at = omega (arith, len, c.loop-at-test.false) in
    all_rows c.args.last c.args.most c.loop-at.at c.args.pairs.now c.loop-at.pairs c.args.later.now all c.requires.even c.loop-at.invariant.0
