use Rattle.std.specs.Prelude.{Ok, Some}
use Rattle.std.proofs.Common.{◌∙◌, ap, sym, false, arith}
use Rattle.tall_value.specs.Cells.{seen}
use Rattle.tall_value.specs.CellOperators.{binary_cell}
use Rattle.tall_value.specs.Results.{result_seen}
use Rattle.tall_dense.proofs.RowLemmas.{goes_on, stops, all_done, pair_results, pair-results, get-pairs, length-pairs}
use Rattle.tall_column.proofs.ClassLemmas.{class_of_two}
use Rattle.tall_column.proofs.rows.add_binary.Goals as goal

pub push-requires : goal.push-requires
push-requires c =
    class_of_two c.args.op c.args.a.now.class c.args.b.now.class _ false false (seen c.get.result) (seen c.get-in-loop-row.result) (seen c.in-Ok.cell)
    (c.requires.class ∙ ap Ok (sym c.loop-row.invariant.0)) c.get.ensures.class c.get-in-loop-row.ensures.class
    (sym c.binary.ensures ∙ ap result_seen c.in-Ok.is)

pub loop-row-preserved : goal.loop-row-preserved
loop-row-preserved c = (
  ap (λ v. v.class) c.in_ok-push-in-Ok.ensures ∙ c.loop-row.invariant.0,
  goes_on (pair_results (binary_cell c.args.op) c.args.a.now.cells c.args.b.now.cells) c.loop-row.out.cells _ c.loop-row.row (seen c.in-Ok.cell) c.loop-row.invariant.1
      (get-pairs (binary_cell c.args.op) c.args.a.now.cells c.args.b.now.cells c.loop-row.row (seen c.get.result) (seen c.get-in-loop-row.result) c.get.ensures.cell c.get-in-loop-row.ensures.cell
      ∙ ap Some (sym c.binary.ensures ∙ ap result_seen c.in-Ok.is))
      (ap (λ v. v.cells) c.in_ok-push-in-Ok.ensures),
)

pub returns-in-Err-clause-rows : goal.returns-in-Err-clause-rows
returns-in-Err-clause-rows c =
    pair-results (binary_cell c.args.op) 0 c.args.a.now.cells c.args.b.now.cells
    ∙ stops (pair_results (binary_cell c.args.op) c.args.a.now.cells c.args.b.now.cells) c.loop-row.out.cells c.loop-row.row c.in-Err.fault c.loop-row.invariant.1
    (get-pairs (binary_cell c.args.op) c.args.a.now.cells c.args.b.now.cells c.loop-row.row (seen c.get.result) (seen c.get-in-loop-row.result) c.get.ensures.cell c.get-in-loop-row.ensures.cell
    ∙ ap Some (sym c.binary.ensures ∙ ap result_seen c.in-Err.is))

pub returns-clause-rows : goal.returns-clause-rows
returns-clause-rows c =
    pair-results (binary_cell c.args.op) 0 c.args.a.now.cells c.args.b.now.cells
    ∙ all_done (pair_results (binary_cell c.args.op) c.args.a.now.cells c.args.b.now.cells) c.loop-row.out.cells c.loop-row.row c.loop-row.invariant.1
    (omega (arith, length-pairs (binary_cell c.args.op) c.args.a.now.cells c.args.b.now.cells c.requires.same_length, c.loop-row-test.false, c.len-row-end.ensures))
