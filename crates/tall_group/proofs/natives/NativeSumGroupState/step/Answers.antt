use Rattle.std.proofs.Common.{rules, ◌≡◌, ℕ, ◌+◌, ◌<◌, ◌≤◌, ◌^◌, ◌∙◌, [], ◌∷◌, ap, sym, subst, arith}
use Rattle.tall_clamp.specs.Clamps.{Sums, IsRoomy}
use Rattle.tall_clamp.specs.Folds.{IsSum}
use Rattle.tall_clamp.specs.Outcomes.{numbers}
use Rattle.tall_clamp.specs.SumLaws.{after_is_sum}
use Rattle.tall_clamp.specs.declared.bounds.Bounds.{Bounds}
use Rattle.tall_group.specs.Limits.{bounds_of}
use Rattle.tall_group.specs.StateLaws.{rows_step, one_native, row_or_none}
use Rattle.tall_group.proofs.NativeLemmas.{joined_sums, sum_is_roomy, datum_is_sum}
use Rattle.tall_group.proofs.natives.NativeSumGroupState.step.Goals as goal

pub one_after-requires-clause-first : goal.one_after-requires-clause-first
one_after-requires-clause-first c =
    let first : c.self.inside.rows ≡ c.args.self.1 = ap (λ (p : Bounds × ℕ). p.1) c.self.view_is in
    sum_is_roomy _ c.self.inside.rows c.self.invariant (omega (arith, first, c.requires.few))

pub one_after-requires-clause-second : goal.one_after-requires-clause-second
one_after-requires-clause-second c =
    let is : bounds_of c.row_limits.result ≡ row_or_none c.args.low c.args.high c.args.datum = search rules in
    sum_is_roomy _ 1 (subst (λ (b : Bounds). IsSum b 1) (sym is) (datum_is_sum c.args.low c.args.high c.args.datum c.requires.range c.requires.datum)) (omega arith)

pub invariant_of-result : goal.invariant_of-result
invariant_of-result c =
    let is : bounds_of c.row_limits.result ≡ row_or_none c.args.low c.args.high c.args.datum = search rules in
    let first : c.self.inside.rows ≡ c.args.self.1 = ap (λ (p : Bounds × ℕ). p.1) c.self.view_is in
    let few : c.self.inside.rows + 1 < 2 ^ 40 = omega (arith, first, c.requires.few) in
    subst (λ (b : Bounds). IsSum b (c.self.inside.rows + 1)) (sym c.one_after.ensures)
    (after_is_sum (bounds_of c.self.inside.limits) (bounds_of c.row_limits.result) c.self.inside.rows 1 c.self.invariant
    (subst (λ (b : Bounds). IsSum b 1) (sym is) (datum_is_sum c.args.low c.args.high c.args.datum c.requires.range c.requires.datum)) few)

pub returns-clause-data : goal.returns-clause-data
returns-clause-data c ds p =
    let is : bounds_of c.row_limits.result ≡ row_or_none c.args.low c.args.high c.args.datum = search rules in
    let row : IsSum (bounds_of c.row_limits.result) 1 = subst (λ (b : Bounds). IsSum b 1) (sym is) (datum_is_sum c.args.low c.args.high c.args.datum c.requires.range c.requires.datum) in (
      joined_sums c.args.low c.args.high ds (c.args.datum ∷ []) _ _ _ c.requires.range c.self.invariant.ordered row.ordered c.one_after.ensures
          (subst (λ (b : Bounds × ℕ). Sums c.args.low c.args.high (numbers ds) b.0) (sym c.self.view_is) p.0)
          (subst (λ (b : Bounds). Sums c.args.low c.args.high (numbers (c.args.datum ∷ [])) b) (sym is) (one_native c.args.low c.args.high c.args.datum c.requires.range)),
      rows_step ds c.args.datum _ (ap (λ s. s.1) c.self.view_is ∙ p.1),
    )
