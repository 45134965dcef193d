use Rattle.std.proofs.Common.{ap, map, Vec, Global}
use Rattle.tall_int.specs.declared.wholes.Whole.{Whole}
use Rattle.tall_value.specs.Cells.{double}
use Rattle.tall_dense.specs.Columns.{SeenColumn}
use Rattle.tall_fold.proofs.ScanLemmas.{totals_answer, totals_refused}
use Rattle.tall_fold.proofs.scans.totals_from.Goals as goal

pub returns-in-Ok-clause-rows : goal.returns-in-Ok-clause-rows
returns-in-Ok-clause-rows g c =
    totals_answer c.args.kept c.total_of.result _ _ c.of.result c.total_of.ensures c.in-Ok.ensures (ap (λ (x : SeenColumn). x.cells) c.of.ensures)

pub returns-in-Err-clause-rows : goal.returns-in-Err-clause-rows
returns-in-Err-clause-rows g c = totals_refused {A = Vec Whole Global} c.args.kept c.total_of.result _ (λ v. map (λ d. double d) v.items) c.in-Err.fault c.total_of.ensures c.in-Err.ensures
