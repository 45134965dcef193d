use Rattle.std.proofs.Common.{ap, sym, ◌∙◌, ◌+◌, ◌≡◌, arith, length, length-append}
use Rattle.tall_fold.proofs.RunningLemmas.{totals_go_on, totals_refuse}
use Rattle.tall_fold.proofs.running.running_totals.Goals as goal

pub loop-row-preserved : goal.loop-row-preserved
loop-row-preserved g c =
    let len : length c.push_reserved.new.self.items ≡ length c.loop-row.out.items + 1 = ap length c.push_reserved.ensures.items ∙ length-append c.loop-row.out.items _ in
    let was = c.loop-row.invariant.2 in
    let count = c.loop-row.invariant.3 in
    let rows = c.with_value-total.ensures.rows in (
      c.push_reserved.ensures.capacity ∙ c.loop-row.invariant.0,
      c.push_reserved.ensures.len ∙ ap (λ n. n + 1) c.loop-row.invariant.1,
      omega (arith, len, was),
      omega (arith, count, rows),
      λ cs is. totals_go_on g.T.Operand.shown g.met.T.Summed.alone c.args.start.0 c.loop-row.total.0 c.with_value-total.result.0 c.args.rows.now c.loop-row.row c.index-rows-row.result c.loop-row.out.items _ c.in-Ok.double cs
          c.loop-row-test.true c.index-rows-row.is was (c.loop-row.invariant.4 cs is) c.with_value-total.ensures.total (sym c.in-Ok.ensures) c.push_reserved.ensures.items,
    )

pub returns-in-Err : goal.returns-in-Err
returns-in-Err g c cs is =
    totals_refuse g.T.Operand.shown g.met.T.Summed.alone c.args.start.0 c.loop-row.total.0 c.with_value-total.result.0 c.args.rows.now c.loop-row.row c.index-rows-row.result c.loop-row.out.items c.in-Err.fault cs
    c.loop-row-test.true c.index-rows-row.is (c.loop-row.invariant.4 cs is) c.with_value-total.ensures.total (sym c.in-Err.ensures)
