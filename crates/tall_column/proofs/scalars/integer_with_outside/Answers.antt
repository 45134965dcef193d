use Rattle.std.specs.Prelude.{option_map}
use Rattle.std.proofs.Common.{◌≡◌, subst, sym, ◌∙◌, ap, map, rules}
use mir.Val.{to_z, of_z}
use mir.Syntax.{w128}
use Rattle.tall_dense.specs.Ranges.{in_range}
use Rattle.tall_value.specs.Cells.{whole}
use Rattle.tall_value.specs.Columns.{numbered}
use Rattle.tall_value.specs.Elementwise.{scalar_rows}
use Rattle.tall_column.specs.Mapped.{AnswersIfMade}
use Rattle.tall_column.proofs.ScalarLemmas.{in_range-is}
use Rattle.tall_column.proofs.scalars.integer_with_outside.Goals as goal

pub returns-in-Some : goal.returns-in-Some
returns-in-Some g c =
    let kind = g.I.Integer.KIND in
    let rows = numbered 0 (map (λ x. whole kind (g.I.IntClass.number x)) c.args.items.now) in
    let kept : to_z w128 (of_z w128 c.args.n) ≡ c.args.n = search rules in
    let is = in_range-is g.I.Wide.Wide.value g.I.Wide.Wide.low g.I.Wide.Wide.high c.args.n c.in-Some.number (ap (option_map g.I.Wide.Wide.value) (sym c.in-Some.is) ∙ c.of.ensures ∙ ap (in_range g.I.Wide.Wide.low g.I.Wide.Wide.high) kept) in
    subst (λ n. AnswersIfMade (scalar_rows c.args.op c.args.scalar_left (whole kind n) rows) c.wide_beside.result) is c.wide_beside.ensures

pub returns-in-None : goal.returns-in-None
returns-in-None g c = tt
