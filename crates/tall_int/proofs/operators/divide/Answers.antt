use Rattle.std.proofs.Common.{ap, ◌∙◌, ◌≢◌, sym, pos}
use Rattle.std.proofs.lemmas.Int.{to_z-of_z}
use mir.Val.{SFits, of_z}
use mir.Syntax.{w128}
use Rattle.tall_int.specs.Numbers.{nearest}
use Rattle.tall_int.proofs.QuotientLemmas.{divided_nonzero}
use Rattle.tall_int.proofs.operators.divide.Goals as goal

pub returns-else-q-eq0 : goal.returns-else-q-eq0
returns-else-q-eq0 g c =
    let fp : SFits w128 c.args.p = c.ranges.p in
    let fq : SFits w128 c.args.q = c.ranges.q in
    let fr : SFits w128 c.rounded.result = record { sfits = c.rounded.type_inv } in
    let nonzero : c.args.q ≢ pos 0 = λ e. c.if-q-eq0.false (ap (of_z w128) e) in
    let rounded = simp to_z-of_z at c.rounded.ensures in
    let known = simp to_z-of_z at c.clamp.ensures in
    known ∙ ap (nearest g.I.IntClass.MIN g.I.IntClass.MAX) rounded ∙ sym (divided_nonzero c.args.how _ _ c.args.p c.args.q nonzero)
