use Rattle.std.proofs.Common.{◌≡◌, ℕ, ◌+◌, ◌<◌, ◌^◌, ap, sym, subst, arith}
use Rattle.tall_clamp.specs.Folds.{IsSum}
use Rattle.tall_clamp.specs.SumLaws.{after_is_sum}
use Rattle.tall_clamp.specs.declared.bounds.Bounds.{Bounds}
use Rattle.tall_clamp.proofs.untyped.UntypedSum.join.Goals as goal

pub invariant_of-result : goal.invariant_of-result
invariant_of-result c =
    let first : c.self.inside.rows ≡ c.args.self.1 = ap (λ (p : Bounds × ℕ). p.1) c.self.view_is in
    let second : c.later.inside.rows ≡ c.args.later.1 = ap (λ (p : Bounds × ℕ). p.1) c.later.view_is in
    let few : c.self.inside.rows + c.later.inside.rows < 2 ^ 40 = omega (arith, first, second) in
    subst (λ (b : Bounds). IsSum b (c.self.inside.rows + c.later.inside.rows)) (sym c.one_after.ensures)
    (after_is_sum c.self.inside.bounds c.later.inside.bounds c.self.inside.rows c.later.inside.rows c.self.invariant c.later.invariant few)
