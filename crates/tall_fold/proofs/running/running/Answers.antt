use Rattle.std.proofs.Common.{ap, ◌∙◌, ◌+◌, arith}
use Rattle.tall_fold.proofs.RunningLemmas.{running_more, within_more, within_all}
use Rattle.tall_fold.proofs.running.running.Goals as goal

pub loop-row-preserved : goal.loop-row-preserved
loop-row-preserved g c = (
  c.push_reserved.ensures.capacity ∙ c.loop-row.invariant.0,
  c.push_reserved.ensures.len ∙ ap (λ n. n + 1) c.loop-row.invariant.1,
  running_more g.T.Operand.shown g.S.Step.next c.args.rows.now c.loop-row.row c.index-rows-row.result c.loop-row.so_far c.next-so_far.result c.loop-row.out.items _ _
      c.loop-row-test.true c.index-rows-row.is c.loop-row.invariant.2 c.next-so_far.ensures.next c.push_reserved.ensures.items,
  within_more g.T.Operand.shown c.args.rows.now c.loop-row.row c.index-rows-row.result c.loop-row-test.true c.index-rows-row.is c.loop-row.invariant.3 c.next-so_far.ensures.within,
)

pub returns-clause-within : goal.returns-clause-within
returns-clause-within g c = within_all g.T.Operand.shown c.args.rows.now c.loop-row.row (omega (arith, c.loop-row-test.false)) c.loop-row.invariant.3
