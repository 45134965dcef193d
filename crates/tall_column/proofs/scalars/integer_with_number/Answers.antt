use Rattle.std.specs.Prelude.{option_map}
use Rattle.std.proofs.Common.{◌≡◌, subst, sym, ◌∙◌, ap, map, rules}
use mir.Val.{to_z, of_z}
use mir.Syntax.{w128}
use Rattle.tall_dense.specs.Ranges.{in_range}
use Rattle.tall_value.specs.Cells.{whole}
use Rattle.tall_value.specs.Columns.{numbered}
use Rattle.tall_value.specs.Elementwise.{scalar_rows}
use Rattle.tall_column.specs.Mapped.{AnswersIfMade}
use Rattle.tall_column.proofs.ScalarLemmas.{in_range-is}
use Rattle.tall_column.proofs.scalars.integer_with_number.Goals as goal

pub returns-in-Some : goal.returns-in-Some
returns-in-Some g c =
    let kind = g.I.Integer.KIND in
    let rows = numbered 0 (map (λ x. whole kind (g.I.IntClass.number x)) c.args.items.now) in
    let kept : to_z w128 (of_z w128 c.args.n) ≡ c.args.n = search rules in
    let is = in_range-is g.I.IntClass.number g.I.IntClass.MIN g.I.IntClass.MAX c.args.n c.in-Some.value (ap (option_map g.I.IntClass.number) (sym c.in-Some.is) ∙ c.value_of.ensures ∙ ap (in_range g.I.IntClass.MIN g.I.IntClass.MAX) kept) in
    subst (λ n. AnswersIfMade (scalar_rows c.args.op c.args.scalar_left (whole kind n) rows) c.integer_beside.result) is c.integer_beside.ensures

pub returns-in-None : goal.returns-in-None
returns-in-None g c =
    let kind = g.I.Integer.KIND in
    let rows = numbered 0 (map (λ x. whole kind (g.I.IntClass.number x)) c.args.items.now) in
    let kept : to_z w128 (of_z w128 c.args.n) ≡ c.args.n = search rules in
    subst (λ n. AnswersIfMade (scalar_rows c.args.op c.args.scalar_left (whole kind n) rows) c.integer_with_outside.result) kept c.integer_with_outside.ensures
