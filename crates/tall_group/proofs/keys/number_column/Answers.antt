use Rattle.std.proofs.Common.{◌≡◌, arith, refl, ap, ◌∙◌}
use Rattle.tall_value.specs.Classes.{kind_of}
use Rattle.tall_group.specs.Numbers.{key_cell}
use Rattle.tall_group.proofs.RowLemmas.{column_more, list_more}
use Rattle.tall_group.proofs.keys.number_column.Goals as goal

pub loop-i-preserved : goal.loop-i-preserved
loop-i-preserved c =
    let i = c.loop-i.invariant in
    let e = c.in-Some.ensures.entry in (
      column_more (λ e. key_cell (kind_of c.args.class) e.0) c.args.class _ _ _ _ _ _ e i.0 c.in_ok-push.ensures (c.key_cell.ensures ∙ ap (λ k. key_cell k c.in-Some.number.now) c.kind-kind.ensures),
      list_more (λ e. e.1) _ _ _ _ _ _ e i.1 c.in_ok-push-2.ensures.items refl,
      i.2,
      i.3,
      omega (arith, c.loop-i-test.true),
    )
