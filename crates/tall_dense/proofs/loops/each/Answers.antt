use Rattle.std.specs.Prelude.{Some}
use Rattle.std.proofs.Common.{◌∙◌, ◌+◌, ap, sym, map, arith}
use Rattle.std.proofs.lemmas.List.{length-map}
use Rattle.tall_dense.proofs.Lists.{get-map, get_here}
use Rattle.tall_dense.proofs.RowLemmas.{value_goes_on, value_stops, all_done, each-results}
use Rattle.tall_dense.proofs.loops.each.Goals as goal

pub loop-row-preserved : goal.loop-row-preserved
loop-row-preserved g c =
    let f = g.F.RowOperator.gives c.args.operator.now in
    let cells = map g.T.Operand.shown c.args.items.now in
    let here = get-map g.T.Operand.shown c.args.items.now c.loop-row.row c.index-items-row.result (get_here c.args.items.now c.loop-row.row c.index-items-row.result c.loop-row-test.true c.index-items-row.is) in (
      c.push_reserved.ensures.capacity ∙ c.loop-row.invariant.0,
      c.push_reserved.ensures.len ∙ ap (λ n. n + 1) c.loop-row.invariant.1,
      value_goes_on g.F.Out.Operand.shown (map f cells) c.loop-row.out.items c.push_reserved.new.self.items c.loop-row.row c.in-Ok.value c.of.result c.loop-row.invariant.2
          (get-map f cells c.loop-row.row _ here ∙ ap Some (sym c.of.ensures)) c.in-Ok.is c.push_reserved.ensures.items,
    )

pub returns-in-Err : goal.returns-in-Err
returns-in-Err g c =
    let f = g.F.RowOperator.gives c.args.operator.now in
    let cells = map g.T.Operand.shown c.args.items.now in
    let here = get-map g.T.Operand.shown c.args.items.now c.loop-row.row c.index-items-row.result (get_here c.args.items.now c.loop-row.row c.index-items-row.result c.loop-row-test.true c.index-items-row.is) in
    each-results f 0 cells
    ∙ value_stops g.F.Out.Operand.shown (map f cells) c.loop-row.out.items c.loop-row.row c.in-Err.fault c.of.result c.loop-row.invariant.2
    (get-map f cells c.loop-row.row _ here ∙ ap Some (sym c.of.ensures)) c.in-Err.is

pub returns : goal.returns
returns g c =
    let f = g.F.RowOperator.gives c.args.operator.now in
    let cells = map g.T.Operand.shown c.args.items.now in
    each-results f 0 cells
    ∙ all_done (map f cells) (map g.F.Out.Operand.shown c.loop-row.out.items) c.loop-row.row c.loop-row.invariant.2
    (omega (arith, length-map cells f, length-map c.args.items.now g.T.Operand.shown, c.loop-row-test.false))
