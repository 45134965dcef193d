use Rattle.std.specs.Prelude.{Ok, Some}
use Rattle.std.proofs.Common.{◌∙◌, ap, sym, refl, map, arith}
use Rattle.std.proofs.lemmas.List.{length-map}
use Rattle.tall_value.specs.Cells.{seen}
use Rattle.tall_value.specs.Elementwise.{beside}
use Rattle.tall_value.specs.Results.{result_seen}
use Rattle.tall_dense.specs.Columns.{class_of_cell}
use Rattle.tall_dense.proofs.Lists.{get-map}
use Rattle.tall_dense.proofs.RowLemmas.{goes_on, stops, all_done, each-results}
use Rattle.tall_column.proofs.ClassLemmas.{class_beside}
use Rattle.tall_column.proofs.rows.add_scalar.Goals as goal

pub push-requires : goal.push-requires
push-requires c =
    class_beside c.args.op c.args.scalar_left c.args.a.now.class (class_of_cell (seen c.args.b.now)) _ (seen c.args.b.now) (seen c.get.result) (seen c.in-Ok.cell) (c.requires.class ∙ ap Ok (sym c.loop-row.invariant.0)) c.get.ensures.class refl
    (sym c.beside.ensures ∙ ap result_seen c.in-Ok.is)

pub loop-row-preserved : goal.loop-row-preserved
loop-row-preserved c = (
  ap (λ v. v.class) c.in_ok-push-in-Ok.ensures ∙ c.loop-row.invariant.0,
  goes_on (map (beside c.args.op c.args.scalar_left (seen c.args.b.now)) c.args.a.now.cells) c.loop-row.out.cells _ c.loop-row.row (seen c.in-Ok.cell) c.loop-row.invariant.1
      (get-map (beside c.args.op c.args.scalar_left (seen c.args.b.now)) c.args.a.now.cells c.loop-row.row (seen c.get.result) c.get.ensures.cell ∙ ap Some (sym c.beside.ensures ∙ ap result_seen c.in-Ok.is))
      (ap (λ v. v.cells) c.in_ok-push-in-Ok.ensures),
)

pub returns-in-Err-clause-rows : goal.returns-in-Err-clause-rows
returns-in-Err-clause-rows c =
    each-results (beside c.args.op c.args.scalar_left (seen c.args.b.now)) 0 c.args.a.now.cells
    ∙ stops (map (beside c.args.op c.args.scalar_left (seen c.args.b.now)) c.args.a.now.cells) c.loop-row.out.cells c.loop-row.row c.in-Err.fault c.loop-row.invariant.1
    (get-map (beside c.args.op c.args.scalar_left (seen c.args.b.now)) c.args.a.now.cells c.loop-row.row (seen c.get.result) c.get.ensures.cell ∙ ap Some (sym c.beside.ensures ∙ ap result_seen c.in-Err.is))

pub returns-clause-rows : goal.returns-clause-rows
returns-clause-rows c =
    each-results (beside c.args.op c.args.scalar_left (seen c.args.b.now)) 0 c.args.a.now.cells
    ∙ all_done (map (beside c.args.op c.args.scalar_left (seen c.args.b.now)) c.args.a.now.cells) c.loop-row.out.cells c.loop-row.row c.loop-row.invariant.1
    (omega (arith, length-map c.args.a.now.cells (beside c.args.op c.args.scalar_left (seen c.args.b.now)), c.loop-row-test.false, c.len-row-end.ensures))
