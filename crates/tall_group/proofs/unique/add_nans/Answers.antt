use Rattle.std.proofs.Common.{◌≡◌, ◌∙◌, ap, arith, refl}
use Rattle.tall_value.specs.Classes.{kind_of}
use Rattle.tall_dense.specs.Columns.{SeenColumn}
use Rattle.tall_group.specs.Numbers.{key_cell}
use Rattle.tall_group.specs.declared.numbers.Number.TheVariants.{Nan}
use Rattle.tall_group.proofs.UniqueLemmas.{nans_more}
use Rattle.tall_group.proofs.unique.add_nans.Goals as goal

pub loop-turn-preserved : goal.loop-turn-preserved
loop-turn-preserved c =
    let i = c.loop-turn.invariant in
    let k = c.kind-kind.ensures ∙ ap kind_of c.class.ensures in (
      ap (λ (x : SeenColumn). x.class) c.in_ok-push.ensures ∙ i.0,
      nans_more _ _ _ _ _ _ i.1 c.in_ok-push.ensures (c.key_cell.ensures ∙ ap (λ k. key_cell k Nan) k),
      k,
      refl,
      omega (arith, c.loop-turn-test.true),
    )
