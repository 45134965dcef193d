use Rattle.std.specs.Prelude.{Some}
use Rattle.std.proofs.Common.{◌≡◌, ap, sym, rules, ◌∙◌}
use mir.Val.{to_z, of_z}
use mir.Syntax.{w64, w128}
use Rattle.tall_int.specs.Arithmetic.{operation}
use Rattle.tall_operators.proofs.ClassLemmas.{in_class-is}
use Rattle.tall_operators.proofs.integers.of_double.Goals as goal

pub returns-in-Some : goal.returns-in-Some
returns-in-Some g c =
    let value : to_z w128 (of_z w128 c.wide.result) ≡ c.wide.result = search rules in
    let short : to_z w64 (of_z w64 c.in-Some.n) ≡ c.in-Some.n = search rules in
    let long : to_z w128 (of_z w128 c.in-Some.n) ≡ c.in-Some.n = search rules in
    let number = ap (λ z. to_z w128 (of_z w128 z)) short ∙ long in
    in_class-is g.I.Integer.KIND c.args.op g.I.IntClass.MIN g.I.IntClass.MAX c.args.a (Some (g.I.IntClass.number c.args.b)) c.in-Some.n c.wide.result
    (g.I.IntClass.number c.mixed.result) g.met.I.Integer.least_is g.met.I.Integer.greatest_is (sym c.get.ensures.number ∙ c.in-Some.is) (ap Some (sym c.wide.ensures.number)) (c.mixed.ensures
    ∙ ap (λ x. operation c.args.op g.I.IntClass.MIN g.I.IntClass.MAX x (to_z w128 (of_z w128 c.wide.result))) number
    ∙ ap (λ y. operation c.args.op g.I.IntClass.MIN g.I.IntClass.MAX c.in-Some.n y) value)
