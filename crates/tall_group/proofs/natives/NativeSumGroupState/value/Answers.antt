use Rattle.std.proofs.Common.{rules, ◌≡◌, ℕ, sym, subst}
use Rattle.tall_int.specs.Numbers.{nearest}
use Rattle.tall_clamp.specs.Clamps.{Sums}
use Rattle.tall_clamp.specs.Outcomes.{numbers}
use Rattle.tall_clamp.specs.declared.bounds.Bounds.{Bounds}
use Rattle.tall_group.specs.Limits.{bounds_of}
use Rattle.tall_group.specs.States.{low_of, high_of}
use Rattle.tall_group.specs.States.{native_cell}
use Rattle.tall_value.specs.Cells.{seen}
use Rattle.tall_group.proofs.NativeLemmas.{native_value}
use Rattle.tall_group.proofs.natives.NativeSumGroupState.value.Goals as goal

pub returns-clause-value : goal.returns-clause-value
returns-clause-value c ds p =
    let l = c.self.inside.limits in
    let n : c.between.result ≡ nearest l.low l.high l.shift = search rules in
    let e : seen c.native_cell.result ≡ native_cell c.args.kind c.between.result = search rules in
    native_value c.args.kind (bounds_of l) c.between.result ds _ e n (subst (λ (b : Bounds × ℕ). Sums (low_of c.args.kind) (high_of c.args.kind) (numbers ds) b.0) (sym c.self.view_is) p.0)
