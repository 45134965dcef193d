use Rattle.std.proofs.Common.{◌≡◌, ◌*◌, ◌^◌, ◌∙◌, min, ap, arith}
use Rattle.tall_num.specs.Sizes.{capped}
use Rattle.tall_num.proofs.Sizes.{zero_step_capped, zeros_end}
use Rattle.tall_num.proofs.size.with_zeros.Goals as goal

pub loop-turn-preserved : goal.loop-turn-preserved
loop-turn-preserved c =
    zero_step_capped c.args.start c.loop-turn.number c.min-number.result c.loop-turn._turn c.loop-turn.invariant c.min-number.ensures

pub returns : goal.returns
returns c =
    let turns : c.loop-turn._turn ≡ min c.args.zeros 20 = omega arith in
    c.loop-turn.invariant ∙ ap (λ t. capped (c.args.start * 10 ^ t)) turns ∙ zeros_end c.args.start c.args.zeros
