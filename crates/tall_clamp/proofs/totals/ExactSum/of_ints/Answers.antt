use Rattle.std.proofs.lemmas.Int.{to_z-of_z}
use mir.Val.{SFits}
use mir.Syntax.{w128}
use Rattle.tall_clamp.proofs.RunLemmas.{terms_are_fold}
use Rattle.tall_clamp.proofs.totals.ExactSum.of_ints.Goals as goal

pub returns-clause-fold : goal.returns-clause-fold
returns-clause-fold g c =
    let ft : SFits w128 c.total_of.result = record { sfits = c.total_of.type_inv } in
    simp to_z-of_z (terms_are_fold g.I.IntClass.number c.args.rows.now c.total_of.result c.total_of.ensures.value)
