use Rattle.std.proofs.Common.{◌≤◌, ◌^◌, subst, sym}
use Rattle.std.specs.Prelude.{unsigned_abs}
use Rattle.std.proofs.lemmas.Int.{to_z-of_z}
use mir.Val.{SFits}
use mir.Syntax.{w64, w128}
use Rattle.tall_int.specs.Arithmetic.{remainder}
use Rattle.tall_int.proofs.QuotientLemmas.{small_remainder, small_fits, small_fits_wide}
use Rattle.tall_int.proofs.wholes.rest.Goals as goal

pub overflow_cast-result : goal.overflow_cast-result
overflow_cast-result c =
    let fa : SFits w64 c.args.a = c.ranges.a in
    let fb : SFits w64 c.args.b = c.ranges.b in
    let wa : SFits w128 c.args.a = small_fits_wide c.args.a c.requires.first in
    let wb : SFits w128 c.args.b = small_fits_wide c.args.b c.requires.second in
    let fr : SFits w128 c.floor_remainder-rest.result = record { sfits = c.floor_remainder-rest.type_inv } in
    let value = simp to_z-of_z at c.floor_remainder-rest.ensures in
    simp to_z-of_z (subst (SFits w64) (sym value) (small_fits (remainder c.args.a c.args.b) (small_remainder c.args.a c.args.b c.requires.first c.requires.second)))

pub returns : goal.returns
returns c =
    let fa : SFits w64 c.args.a = c.ranges.a in
    let fb : SFits w64 c.args.b = c.ranges.b in
    let wa : SFits w128 c.args.a = small_fits_wide c.args.a c.requires.first in
    let wb : SFits w128 c.args.b = small_fits_wide c.args.b c.requires.second in
    let fr : SFits w128 c.floor_remainder-rest.result = record { sfits = c.floor_remainder-rest.type_inv } in
    let value = simp to_z-of_z at c.floor_remainder-rest.ensures in
    let small : unsigned_abs c.floor_remainder-rest.result ≤ 2 ^ 53 =
    subst (λ (z : _). unsigned_abs z ≤ 2 ^ 53) (sym value) (small_remainder c.args.a c.args.b c.requires.first c.requires.second) in
    let fs : SFits w64 c.floor_remainder-rest.result = small_fits c.floor_remainder-rest.result small in
    simp to_z-of_z (record { value = value; small = small })
