use Rattle.std.proofs.Common.{◌≡◌, arith, refl, ap, string_bytes}
use Rattle.tall_value.specs.declared.class.Class.TheVariants as class
use Rattle.tall_value.specs.Cells.{text}
use Rattle.tall_group.proofs.RowLemmas.{column_more, list_more}
use Rattle.tall_group.proofs.keys.text_column.Goals as goal

pub loop-i-preserved : goal.loop-i-preserved
loop-i-preserved c =
    let i = c.loop-i.invariant in
    let e = c.in-Some.ensures.entry in (
      column_more (λ e. text (string_bytes e.0)) class.Text _ _ _ _ _ _ e i.0 c.in_ok-push.ensures (ap text c.as_str.ensures.value),
      list_more (λ e. e.1) _ _ _ _ _ _ e i.1 c.in_ok-push-2.ensures.items refl,
      i.2,
      omega (arith, c.loop-i-test.true),
    )
