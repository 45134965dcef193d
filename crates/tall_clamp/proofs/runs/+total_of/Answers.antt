use Rattle.std.proofs.lemmas.Int.{to_z-of_z}
use mir.Val.{SFits}
use mir.Syntax.{w64, w128}
use Rattle.tall_clamp.proofs.RunLemmas.{split_total}
use Rattle.tall_clamp.proofs.runs.+total_of.Goals as goal

pub returns-else-rows-le-MOST-clause-value : goal.returns-else-rows-le-MOST-clause-value
returns-else-rows-le-MOST-clause-value g t c =
    let fp : SFits w128 c.plus.result = record { sfits = c.plus.type_inv } in
    let ft : SFits w128 c.total_of.result = record { sfits = c.total_of.type_inv } in
    let fs : SFits w64 c.small_total-else-rows-le-MOST.result = record { sfits = c.small_total-else-rows-le-MOST.type_inv } in
    let sum = simp to_z-of_z at c.plus.ensures in
    simp to_z-of_z
    (split_total g.I.IntClass.number c.args.rows.now c.split_at.result.0.now c.split_at.result.1.now _ _ _ c.split_at.ensures.by_index.0 c.total_of.ensures.value c.small_total-else-rows-le-MOST.ensures.value sum)
