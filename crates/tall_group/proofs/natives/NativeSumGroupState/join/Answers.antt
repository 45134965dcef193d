use Rattle.std.proofs.Common.{◌≡◌, ℕ, ◌+◌, ◌<◌, ◌^◌, ◌∙◌, ap, sym, subst, arith}
use Rattle.tall_clamp.specs.Clamps.{Sums}
use Rattle.tall_clamp.specs.Folds.{IsSum}
use Rattle.tall_clamp.specs.Outcomes.{numbers}
use Rattle.tall_clamp.specs.SumLaws.{after_is_sum}
use Rattle.tall_clamp.specs.declared.bounds.Bounds.{Bounds}
use Rattle.tall_group.specs.Limits.{bounds_of}
use Rattle.tall_group.specs.StateLaws.{rows_join}
use Rattle.tall_group.proofs.NativeLemmas.{joined_sums}
use Rattle.tall_group.proofs.natives.NativeSumGroupState.join.Goals as goal

pub invariant_of-result : goal.invariant_of-result
invariant_of-result c =
    let first : c.self.inside.rows ≡ c.args.self.1 = ap (λ (p : Bounds × ℕ). p.1) c.self.view_is in
    let second : c.later.inside.rows ≡ c.args.later.1 = ap (λ (p : Bounds × ℕ). p.1) c.later.view_is in
    let few : c.self.inside.rows + c.later.inside.rows < 2 ^ 40 = omega (arith, first, second, c.requires.few) in
    subst (λ (b : Bounds). IsSum b (c.self.inside.rows + c.later.inside.rows)) (sym c.one_after.ensures)
    (after_is_sum (bounds_of c.self.inside.limits) (bounds_of c.later.inside.limits) c.self.inside.rows c.later.inside.rows c.self.invariant c.later.invariant few)

pub returns-clause-data : goal.returns-clause-data
returns-clause-data c low high ds es r p q = (
  joined_sums low high ds es _ _ _ r c.self.invariant.ordered c.later.invariant.ordered c.one_after.ensures
      (subst (λ (b : Bounds × ℕ). Sums low high (numbers ds) b.0) (sym c.self.view_is) p.0)
      (subst (λ (b : Bounds × ℕ). Sums low high (numbers es) b.0) (sym c.later.view_is) q.0),
  rows_join ds es _ _ (ap (λ s. s.1) c.self.view_is ∙ p.1) (ap (λ s. s.1) c.later.view_is ∙ q.1),
)
