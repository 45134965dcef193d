use Rattle.std.proofs.Common.{◌≤ℤ◌, arith}
use Rattle.std.proofs.lemmas.Int.{ints}
use Rattle.tall_clamp.proofs.RunLemmas.{run_sums}
use Rattle.tall_clamp.proofs.clamps.Clamp.of_run.Goals as goal

pub returns : goal.returns
returns g c =
    let ends = g.met.I.IntClass.narrow in
    let order : g.I.IntClass.MIN ≤ℤ g.I.IntClass.MAX = omega (arith, ints, ends.2, ends.3) in
    run_sums g.I.IntClass.MIN g.I.IntClass.MAX g.I.IntClass.number c.args.first c.args.rest.now c.of_run.result order c.of_run.ensures.value
