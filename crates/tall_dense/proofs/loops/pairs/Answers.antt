use Rattle.std.specs.Prelude.{Some}
use Rattle.std.proofs.Common.{◌∙◌, ◌<◌, ◌+◌, ap, sym, map, arith, length}
use Rattle.std.proofs.lemmas.List.{length-map}
use Rattle.tall_dense.proofs.Lists.{get-map, get_here}
use Rattle.tall_dense.proofs.RowLemmas.{value_goes_on, value_stops, all_done, pair_results, pair-results, get-pairs, length-pairs}
use Rattle.tall_dense.proofs.loops.pairs.Goals as goal

pub loop-row-preserved : goal.loop-row-preserved
loop-row-preserved g c =
    let f = g.F.PairOperator.gives c.args.operator.now in
    let cells = map g.A.Operand.shown c.args.a.now in
    let others = map g.B.Operand.shown c.args.b.now in
    let within : c.loop-row.row < length c.args.b.now =
    omega (arith, c.loop-row-test.true, c.requires, length-map c.args.a.now g.A.Operand.shown, length-map c.args.b.now g.B.Operand.shown) in
    let here = get-map g.A.Operand.shown c.args.a.now c.loop-row.row c.index-a-row.result (get_here c.args.a.now c.loop-row.row c.index-a-row.result c.loop-row-test.true c.index-a-row.is) in
    let there = get-map g.B.Operand.shown c.args.b.now c.loop-row.row c.index-b-row.result (get_here c.args.b.now c.loop-row.row c.index-b-row.result within c.index-b-row.is) in (
      c.push_reserved.ensures.capacity ∙ c.loop-row.invariant.0,
      c.push_reserved.ensures.len ∙ ap (λ n. n + 1) c.loop-row.invariant.1,
      value_goes_on g.F.Out.Operand.shown (pair_results f cells others) c.loop-row.out.items c.push_reserved.new.self.items c.loop-row.row c.in-Ok.value c.of.result c.loop-row.invariant.2
          (get-pairs f cells others c.loop-row.row _ _ here there ∙ ap Some (sym c.of.ensures)) c.in-Ok.is c.push_reserved.ensures.items,
    )

pub returns-in-Err : goal.returns-in-Err
returns-in-Err g c =
    let f = g.F.PairOperator.gives c.args.operator.now in
    let cells = map g.A.Operand.shown c.args.a.now in
    let others = map g.B.Operand.shown c.args.b.now in
    let within : c.loop-row.row < length c.args.b.now =
    omega (arith, c.loop-row-test.true, c.requires, length-map c.args.a.now g.A.Operand.shown, length-map c.args.b.now g.B.Operand.shown) in
    let here = get-map g.A.Operand.shown c.args.a.now c.loop-row.row c.index-a-row.result (get_here c.args.a.now c.loop-row.row c.index-a-row.result c.loop-row-test.true c.index-a-row.is) in
    let there = get-map g.B.Operand.shown c.args.b.now c.loop-row.row c.index-b-row.result (get_here c.args.b.now c.loop-row.row c.index-b-row.result within c.index-b-row.is) in
    pair-results f 0 cells others
    ∙ value_stops g.F.Out.Operand.shown (pair_results f cells others) c.loop-row.out.items c.loop-row.row c.in-Err.reason c.of.result c.loop-row.invariant.2
    (get-pairs f cells others c.loop-row.row _ _ here there ∙ ap Some (sym c.of.ensures)) c.in-Err.is

pub returns : goal.returns
returns g c =
    let f = g.F.PairOperator.gives c.args.operator.now in
    let cells = map g.A.Operand.shown c.args.a.now in
    let others = map g.B.Operand.shown c.args.b.now in
    pair-results f 0 cells others
    ∙ all_done (pair_results f cells others) (map g.F.Out.Operand.shown c.loop-row.out.items) c.loop-row.row c.loop-row.invariant.2
    (omega (arith, length-pairs f cells others c.requires, length-map c.args.a.now g.A.Operand.shown, c.loop-row-test.false))
