use Rattle.std.proofs.Common.{rules, ◌≡◌, ◌∙◌, ap, sym, ◌+ℤ◌, to_z, of_z}
use mir.Syntax.{w128}
use Rattle.tall_group.specs.StateLaws.{total_step, rows_step}
use Rattle.tall_group.proofs.totals.TotalGroupState.step.Goals as goal

pub returns-clause-data : goal.returns-clause-data
returns-clause-data c ds p =
    let a = c.self.inside.total in
    let b = c.or_zero.result in
    let e : to_z w128 (of_z w128 (to_z w128 (of_z w128 a) +ℤ to_z w128 (of_z w128 b))) ≡ a +ℤ b = search rules in (
      e ∙ total_step ds c.args.datum a b (ap (λ s. s.0) c.self.view_is ∙ p.0) c.or_zero.ensures.number,
      rows_step ds c.args.datum _ (ap (λ s. s.1) c.self.view_is ∙ p.1),
    )
