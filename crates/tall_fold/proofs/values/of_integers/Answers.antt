use Rattle.std.proofs.Common.{◌∙◌, refl}
use Rattle.tall_fold.proofs.KeptLemmas.{clamp_of_integers, total_of_integers, least_of_integers, greatest_of_integers, nonzeros_of_integers, numel_of_integers, height_of_integers}
use Rattle.tall_fold.proofs.values.of_integers.Goals as goal

pub returns-in-Sum-true-default : goal.returns-in-Sum-true-default
returns-in-Sum-true-default g c =
    let ends = g.met.I.IntClass.narrow in
    rw (c.in-Sum-true-default.is, c.in-Sum-true-default.native-test)
    (clamp_of_integers c.in-Sum-true-default.omitnan g.I.Integer.KIND g.I.IntClass.MIN g.I.IntClass.MAX g.I.IntClass.number c.args.rows.now c.untyped.result
    g.met.I.Integer.least_is g.met.I.Integer.greatest_is ends.0 ends.1 ends.2 ends.3 (c.untyped.ensures ∙ c.of_slice.ensures))

pub returns-in-Sum-false-default : goal.returns-in-Sum-false-default
returns-in-Sum-false-default g c =
    rw (c.in-Sum-false-default.is, c.in-Sum-false-default.native-test)
    (total_of_integers c.in-Sum-false-default.omitnan g.I.Integer.KIND g.I.IntClass.number c.args.rows.now c.of_ints.result c.of_ints.ensures.total)

pub returns-in-Min : goal.returns-in-Min
returns-in-Min g c =
    rw c.in-Min.is
    (least_of_integers g.I.Integer.KIND g.I.IntClass.MIN g.I.IntClass.MAX g.I.IntClass.number c.args.rows.now c.extreme.result
    g.met.I.Integer.least_is g.met.I.Integer.greatest_is c.extreme.ensures.number c.extreme.ensures.rows c.extreme.ensures.within)

pub returns-in-Max : goal.returns-in-Max
returns-in-Max g c =
    rw c.in-Max.is
    (greatest_of_integers g.I.Integer.KIND g.I.IntClass.MIN g.I.IntClass.MAX g.I.IntClass.number c.args.rows.now c.extreme-in-Max.result
    g.met.I.Integer.least_is g.met.I.Integer.greatest_is c.extreme-in-Max.ensures.number c.extreme-in-Max.ensures.rows c.extreme-in-Max.ensures.within)

pub returns-in-Nnz : goal.returns-in-Nnz
returns-in-Nnz g c =
    rw c.in-Nnz.is (nonzeros_of_integers g.I.Integer.KIND g.I.IntClass.number c.args.rows.now c.nonzeros.result c.nonzeros.ensures.value c.nonzeros.ensures.few)

pub returns-in-Numel : goal.returns-in-Numel
returns-in-Numel g c = rw c.in-Numel.is (numel_of_integers g.I.Integer.KIND g.I.IntClass.number c.args.rows.now _ refl)

pub returns-in-Height : goal.returns-in-Height
returns-in-Height g c = rw c.in-Height.is (height_of_integers g.I.Integer.KIND g.I.IntClass.number c.args.rows.now _ refl)
