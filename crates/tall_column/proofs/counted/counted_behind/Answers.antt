use Rattle.std.proofs.Common.{◌∙◌, ap, map, subst}
use Rattle.tall_value.specs.Cells.{logical, whole}
use Rattle.tall_value.specs.Columns.{numbered}
use Rattle.tall_value.specs.Elementwise.{binary_rows}
use Rattle.tall_column.specs.Mapped.{AnswersIfMade}
use Rattle.tall_column.proofs.CountedLemmas.{counted-behind}
use Rattle.tall_column.proofs.counted.counted_behind.Goals as goal

pub returns : goal.returns
returns g c =
    let kind = g.I.Integer.KIND in
    let number = g.I.IntClass.number in
    let others = numbered 0 (map (λ x. whole kind (number x)) c.args.a.now) in
    subst (λ rows. AnswersIfMade rows c.integer_pairs.result)
    (ap (λ v. binary_rows c.args.op others (numbered 0 (map (λ x. whole kind (number x)) v))) c.as_slice.ensures.value
    ∙ ap (λ cells. binary_rows c.args.op others (numbered 0 cells)) c.in_ok-second.ensures
    ∙ counted-behind number c.args.op kind c.args.a.now c.args.b.now)
    c.integer_pairs.ensures
