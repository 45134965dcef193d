use Rattle.std.proofs.Common.{arith}
use Rattle.std.proofs.lemmas.Int.{ints, to_z-of_z}
use mir.Val.{SFits}
use mir.Syntax.{w64, w128}
use Rattle.tall_clamp.proofs.RunLemmas.{least_within, word_fits}
use Rattle.tall_clamp.proofs.runs.word.Goals as goal

pub overflow_cast-result : goal.overflow_cast-result
overflow_cast-result g c =
    let fw : SFits w128 c.wide.result = record { sfits = c.wide.type_inv } in
    let low = least_within 4294967295 _ _ g.met.I.IntClass.width c.requires in
    simp to_z-of_z (word_fits c.wide.result (omega (arith, ints, low)) (omega (arith, ints)))

pub returns : goal.returns
returns g c =
    let fw : SFits w128 c.wide.result = record { sfits = c.wide.type_inv } in
    let low = least_within 4294967295 _ _ g.met.I.IntClass.width c.requires in
    let fs : SFits w64 c.wide.result = word_fits c.wide.result (omega (arith, ints, low)) (omega (arith, ints)) in
    simp to_z-of_z (record { value = c.wide.ensures.number; low = omega (arith, ints, low); high = omega (arith, ints) })
