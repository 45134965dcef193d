use Rattle.std.proofs.Common.{ap}
use Rattle.std.proofs.lemmas.Int.{to_z-of_z}
use mir.Val.{SFits}
use mir.Syntax.{w128}
use Rattle.tall_dense.specs.Columns.{SeenColumn}
use Rattle.tall_fold.proofs.ScanLemmas.{integers_answer}
use Rattle.tall_fold.proofs.scans.of_integers.Goals as goal

pub returns-clause-rows : goal.returns-clause-rows
returns-clause-rows g c =
    let fits : SFits w128 c.integer_fold.result = record { sfits = c.integer_fold.type_inv } in
    let start = simp to_z-of_z at c.clamp-start.ensures in
    integers_answer c.args.operation g.I.Integer.KIND c.args.kept g.I.IntClass.MIN g.I.IntClass.MAX c.integer_fold.result (g.I.IntClass.number c.clamp-start.result) _ _ c.of.result g.met.I.Integer.least_is g.met.I.Integer.greatest_is c.integer_fold.ensures start
    c.in_ok-rows.ensures (ap (λ (x : SeenColumn). x.cells) c.of.ensures)
