use Rattle.std.proofs.Common.{rules, ◌*ℤ◌}
use Rattle.std.proofs.lemmas.Int.{to_z-of_z}
use mir.Val.{SFits}
use mir.Syntax.{w64, w128}
use Rattle.tall_int.proofs.QuotientLemmas.{word_fits}
use Rattle.tall_int.proofs.wholes.times.Goals as goal

pub returns : goal.returns
returns c =
    let fa : SFits w64 c.args.a = c.ranges.a in
    let fb : SFits w64 c.args.b = c.ranges.b in
    let wa : SFits w128 c.args.a = word_fits c.args.a fa in
    let wb : SFits w128 c.args.b = word_fits c.args.b fb in
    let fp : SFits w128 (c.args.a *ℤ c.args.b) = search rules in
    simp to_z-of_z at c.of_number.ensures
