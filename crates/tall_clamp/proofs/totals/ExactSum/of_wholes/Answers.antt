use Rattle.std.proofs.Common.{sym, ◌∙◌}
use Rattle.tall_clamp.proofs.RunLemmas.{term_end, term_nan}
use Rattle.tall_clamp.proofs.totals.ExactSum.of_wholes.Goals as goal

pub returns-in-None : goal.returns-in-None
returns-in-None c =
    term_nan _ c.args.rows.now c.loop-v.v-index c.v-item.result c.loop-v-test.true c.v-item.is (sym c.get.ensures.number ∙ c.in-None.is) c.loop-v.invariant.0

pub returns : goal.returns
returns c = term_end _ c.args.rows.now c.loop-v.v-index c.loop-v-test.false c.loop-v.invariant.0
