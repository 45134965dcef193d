use Rattle.tall_fold.proofs.ScanLemmas.{least_answers, greatest_answers}
use Rattle.tall_fold.proofs.scans.of_doubles.Goals as goal

pub returns-in-CumSum-clause-rows : goal.returns-in-CumSum-clause-rows
returns-in-CumSum-clause-rows c = rw c.in-CumSum.is c.totals_from.ensures.rows

pub returns-in-CumMin-clause-rows : goal.returns-in-CumMin-clause-rows
returns-in-CumMin-clause-rows c =
    rw c.in-CumMin.is (least_answers c.args.kept c.double_so_far.result c.args.rows.now c.doubles_from.result c.double_so_far.ensures c.doubles_from.ensures.running c.doubles_from.ensures.memory)

pub returns-in-CumMax-clause-rows : goal.returns-in-CumMax-clause-rows
returns-in-CumMax-clause-rows c =
    rw c.in-CumMax.is (greatest_answers c.args.kept c.double_so_far-in-CumMax.result c.args.rows.now c.doubles_from-in-CumMax.result c.double_so_far-in-CumMax.ensures c.doubles_from-in-CumMax.ensures.running c.doubles_from-in-CumMax.ensures.memory)
