use Rattle.std.proofs.Common.{◌∙◌, ap, map, subst}
use Rattle.tall_value.specs.Cells.{logical, whole}
use Rattle.tall_value.specs.Columns.{numbered}
use Rattle.tall_value.specs.Elementwise.{binary_rows}
use Rattle.tall_column.specs.Mapped.{AnswersIfMade}
use Rattle.tall_column.proofs.CountedLemmas.{counted-before}
use Rattle.tall_column.proofs.counted.counted_before.Goals as goal

pub returns : goal.returns
returns g c =
    let kind = g.I.Integer.KIND in
    let number = g.I.IntClass.number in
    let others = numbered 0 (map (λ x. whole kind (number x)) c.args.b.now) in
    subst (λ rows. AnswersIfMade rows c.integer_pairs.result)
    (ap (λ v. binary_rows c.args.op (numbered 0 (map (λ x. whole kind (number x)) v)) others) c.as_slice.ensures.value
    ∙ ap (λ cells. binary_rows c.args.op (numbered 0 cells) others) c.in_ok-first.ensures
    ∙ counted-before number c.args.op kind c.args.a.now c.args.b.now)
    c.integer_pairs.ensures
