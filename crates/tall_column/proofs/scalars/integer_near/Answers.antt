use Rattle.std.proofs.Common.{◌≡◌, subst, sym, ◌∙◌, ap, map, refl, rules}
use mir.Val.{to_z, of_z}
use mir.Syntax.{w128}
use Rattle.tall_value.specs.Columns.{numbered}
use Rattle.tall_value.specs.Elementwise.{scalar_rows}
use Rattle.tall_value.specs.Cells.{seen, whole}
use Rattle.tall_column.specs.Mapped.{AnswersIfMade}
use Rattle.tall_column.specs.Scalars.{number_beside}
use Rattle.tall_column.proofs.ScalarLemmas.{rows_beside, stands}
use Rattle.tall_column.proofs.scalars.integer_near.Goals as goal

pub returns-in-Some : goal.returns-in-Some
returns-in-Some g c =
    let kind = g.I.Integer.KIND in
    let number = g.I.IntClass.number in
    let rows = numbered 0 (map (λ x. whole kind (number x)) c.args.items.now) in
    let kept : to_z w128 (of_z w128 c.in-Some.n) ≡ c.in-Some.n = search rules in
    let is = stands kind c.in-Some.n (seen c.args.scalar.now) (ap (λ k. number_beside k (seen c.args.scalar.now)) (sym c.KIND.ensures) ∙ sym c.number_beside.ensures ∙ c.in-Some.is) in
    subst (λ rows. AnswersIfMade rows c.integer_with_number.result)
    (sym (rows_beside (λ x. whole kind (number x)) number c.args.op c.args.scalar_left kind c.in-Some.n (seen c.args.scalar.now) c.args.items.now (λ a. refl) is))
    (subst (λ n. AnswersIfMade (scalar_rows c.args.op c.args.scalar_left (whole kind n) rows) c.integer_with_number.result) kept c.integer_with_number.ensures)
