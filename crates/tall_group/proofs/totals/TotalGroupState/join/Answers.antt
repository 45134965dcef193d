use Rattle.std.proofs.Common.{rules, ◌≡◌, ◌∙◌, ap, sym, ◌+ℤ◌, to_z, of_z}
use mir.Syntax.{w128}
use Rattle.tall_group.specs.StateLaws.{total_join, rows_join}
use Rattle.tall_group.proofs.totals.TotalGroupState.join.Goals as goal

pub returns-clause-data : goal.returns-clause-data
returns-clause-data c low high ds es r p q =
    let a = c.self.inside.total in
    let b = c.later.inside.total in
    let e : to_z w128 (of_z w128 (to_z w128 (of_z w128 a) +ℤ to_z w128 (of_z w128 b))) ≡ a +ℤ b = search rules in (
      e ∙ total_join ds es a b (ap (λ s. s.0) c.self.view_is ∙ p.0) (ap (λ s. s.0) c.later.view_is ∙ q.0),
      rows_join ds es _ _ (ap (λ s. s.1) c.self.view_is ∙ p.1) (ap (λ s. s.1) c.later.view_is ∙ q.1),
    )
