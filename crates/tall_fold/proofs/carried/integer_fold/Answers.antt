use Rattle.std.proofs.Common.{subst}
use Rattle.std.proofs.lemmas.Int.{to_z-of_z}
use mir.Val.{SFits}
use mir.Syntax.{w128}
use Rattle.tall_value.specs.declared.class.Kind.TheVariants.{Integer}
use Rattle.tall_fold.specs.Carries.{IsFoldOf}
use Rattle.tall_fold.proofs.ScanLemmas.{integer_sum_is}
use Rattle.tall_fold.proofs.carried.integer_fold.Goals as goal

pub returns-in-Clamp : goal.returns-in-Clamp
returns-in-Clamp c op k cs is =
    let fits : SFits w128 c.sum_from.result = record { sfits = c.sum_from.type_inv } in
    let fold = subst (IsFoldOf op (Integer k) cs) c.in-Clamp.is is in
    simp to_z-of_z (integer_sum_is op k cs c.in-Clamp.sum.0 c.sum_from.result fold.form fold.comes c.sum_from.ensures)
