use Rattle.std.proofs.Common.{◌∙◌, ap, map, subst}
use Rattle.tall_value.specs.Cells.{logical, whole}
use Rattle.tall_value.specs.Columns.{numbered}
use Rattle.tall_value.specs.Elementwise.{scalar_rows}
use Rattle.tall_column.specs.Mapped.{AnswersIfMade}
use Rattle.tall_column.proofs.CountedLemmas.{counted-beside}
use Rattle.tall_column.proofs.counted.counted_beside.Goals as goal

pub returns : goal.returns
returns g c =
    let kind = g.I.Integer.KIND in
    let number = g.I.IntClass.number in
    let scalar = whole kind (number c.args.scalar) in
    subst (λ rows. AnswersIfMade rows c.integer_beside.result)
    (ap (λ v. scalar_rows c.args.op c.args.scalar_left scalar (numbered 0 (map (λ x. whole kind (number x)) v))) c.as_slice.ensures.value
    ∙ ap (λ cells. scalar_rows c.args.op c.args.scalar_left scalar (numbered 0 cells)) c.in_ok-column.ensures
    ∙ counted-beside c.args.op c.args.scalar_left kind (number c.args.scalar) c.args.items.now)
    c.integer_beside.ensures
