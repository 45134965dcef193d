use Rattle.tall_fold.proofs.ScanLemmas.{sums_if, least_if, greatest_if}
use Rattle.tall_fold.proofs.scans.integers_from.Goals as goal

pub returns-in-CumSum : goal.returns-in-CumSum
returns-in-CumSum g c =
    rw c.in-CumSum.is (sums_if g.I.Integer.KIND g.I.IntClass.number c.running.result (λ t. t.items) c.args.start c.args.rows.now c.running.ensures.within c.running.ensures.running)

pub returns-in-CumMin : goal.returns-in-CumMin
returns-in-CumMin g c =
    rw c.in-CumMin.is (least_if g.I.Integer.KIND g.I.IntClass.number c.running-in-CumMin.result (λ t. t.items) c.args.start c.args.rows.now c.running-in-CumMin.ensures.within c.running-in-CumMin.ensures.running)

pub returns-in-CumMax : goal.returns-in-CumMax
returns-in-CumMax g c =
    rw c.in-CumMax.is (greatest_if g.I.Integer.KIND g.I.IntClass.number c.running-in-CumMax.result (λ t. t.items) c.args.start c.args.rows.now c.running-in-CumMax.ensures.within c.running-in-CumMax.ensures.running)
