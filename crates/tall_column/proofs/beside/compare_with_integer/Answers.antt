use Rattle.std.proofs.Common.{◌≡◌, ◌∙◌, ap, map, rules, subst, sym}
use mir.Val.{to_z, of_z}
use mir.Syntax.{w128}
use Rattle.tall_value.specs.Cells.{content_seen, seen, whole}
use Rattle.tall_value.specs.Columns.{numbered}
use Rattle.tall_value.specs.Elementwise.{scalar_rows}
use Rattle.tall_column.specs.Mapped.{AnswersIfMade}
use Rattle.tall_column.proofs.beside.compare_with_integer.Goals as goal

pub returns-in-Whole : goal.returns-in-Whole
returns-in-Whole g c =
    let kept : to_z w128 (of_z w128 c.in-Whole.n) ≡ c.in-Whole.n = search rules in
    let is : whole c.in-Whole.kind c.in-Whole.n ≡ seen c.args.scalar.now = search rules in
    subst (λ s. AnswersIfMade (scalar_rows c.args.op c.args.scalar_left s (numbered 0 (map g.T.Operand.shown c.args.items.now))) c.compare_with_number.result)
    (ap (λ n. whole c.in-Whole.kind n) kept ∙ is) c.compare_with_number.ensures
