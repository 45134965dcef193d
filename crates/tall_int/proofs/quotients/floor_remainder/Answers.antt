use Rattle.std.proofs.Common.{arith, ap, ◌∙◌, sym, ◌≡◌, ◌≢◌, ◌+ℤ◌, pos}
use Rattle.std.specs.Prelude.{int_rem}
use Rattle.std.specs.Int.Signed.{mag_rem}
use Rattle.std.proofs.lemmas.Int.{to_z-of_z}
use mir.Val.{SFits, of_z}
use mir.Syntax.{w128}
use Rattle.tall_int.proofs.QuotientLemmas.{turned_rest, kept_rest, zero_rest, zero_from_bits, sum_fits}
use Rattle.tall_int.proofs.quotients.floor_remainder.Goals as goal
use Rattle.tall_int.proofs.quotients.floor_remainder.Goals.{else-rest-ne0-via-then-rest-ne0+else-only_one, else-rest-ne0-via-else-rest-ne0}

pub returns-then-only_one : goal.returns-then-only_one
returns-then-only_one c =
    let fp : SFits w128 c.args.p = c.ranges.p in
    let fq : SFits w128 c.args.q = c.ranges.q in
    let fc : SFits w128 c.cut_rest-rest.result = record { sfits = c.cut_rest-rest.type_inv } in
    let cut : c.cut_rest-rest.result ≡ int_rem c.args.p c.args.q = simp to_z-of_z at c.cut_rest-rest.ensures in
    let fr : SFits w128 (int_rem c.args.p c.args.q) = record { sfits = omega (arith, mag_rem c.args.p c.args.q, fp.sfits) } in
    let fs : SFits w128 (int_rem c.args.p c.args.q +ℤ c.args.q) =
    sum_fits c.args.p c.args.q _ c.requires.dividend c.requires.divisor (mag_rem c.args.p c.args.q) in
    let nonzero : c.args.q ≢ pos 0 = λ e. c.if-q-eq0.false (ap (of_z w128) e) in
    let some : int_rem c.args.p c.args.q ≢ pos 0 = λ e. c.if-rest-ne0.true (ap (of_z w128) (cut ∙ e)) in
    let signs = simp (cut, to_z-of_z) at c.only_one.ensures in
    simp (cut, to_z-of_z) (turned_rest c.args.p c.args.q nonzero some (sym signs ∙ c.if-only_one.true))

pub returns-else-rest-ne0 : goal.returns-else-rest-ne0
returns-else-rest-ne0 c =
    let fp : SFits w128 c.args.p = c.ranges.p in
    let fq : SFits w128 c.args.q = c.ranges.q in
    let fc : SFits w128 c.cut_rest-rest.result = record { sfits = c.cut_rest-rest.type_inv } in
    let cut : c.cut_rest-rest.result ≡ int_rem c.args.p c.args.q = simp to_z-of_z at c.cut_rest-rest.ensures in
    let fr : SFits w128 (int_rem c.args.p c.args.q) = record { sfits = omega (arith, mag_rem c.args.p c.args.q, fp.sfits) } in
    let nonzero : c.args.q ≢ pos 0 = λ e. c.if-q-eq0.false (ap (of_z w128) e) in
    simp (cut, to_z-of_z)
    (elim c.else-rest-ne0.branch [
      | else-rest-ne0-via-then-rest-ne0+else-only_one w ↦ let signs = simp (cut, to_z-of_z) at w.only_one.ensures in kept_rest c.args.p c.args.q nonzero (sym signs ∙ w.if-only_one.false)
      | else-rest-ne0-via-else-rest-ne0 w ↦ let bits = simp (cut, to_z-of_z) at w.if-rest-ne0.false in zero_rest c.args.p c.args.q nonzero (zero_from_bits _ fr bits)
    ])
