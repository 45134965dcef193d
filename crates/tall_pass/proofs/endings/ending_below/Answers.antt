use Rattle.std.specs.Prelude.{option_map}
use Rattle.std.proofs.Common.{sym, ◌∙◌}
use Rattle.tall_semantics.specs.Faults.{fault_seen}
use Rattle.tall_pass.specs.Endings.{FitsBelow, FitsEnding}
use Rattle.tall_pass.proofs.EndingLaws.{fits_below, if_ok}
use Rattle.tall_pass.proofs.PuttingLaws.{is_below_at, not_below_at}
use Rattle.tall_pass.proofs.endings.ending_below.Goals as goal

pub returns-then-is_below-clause-fits : goal.returns-then-is_below-clause-fits
returns-then-is_below-clause-fits c =
    if_ok (FitsEnding c.args.graph.now c.args.wanted.now) (FitsBelow c.args.graph.now (option_map fault_seen c.args.bound) c.args.wanted.now) c.sum_ending.result
    (λ g fits.
    fits_below c.args.graph.now (option_map fault_seen c.args.bound) c.args.wanted.now g
    (is_below_at c.args.graph.now (option_map fault_seen c.args.bound) c.args.wanted.now.node c.number_of.result c.requires.node c.number_of.ensures (sym c.is_below.ensures ∙ c.if-is_below.true)) fits)
    c.sum_ending.ensures.fits

pub returns-else-is_below-clause-fits : goal.returns-else-is_below-clause-fits
returns-else-is_below-clause-fits c =
    not_below_at c.args.graph.now (option_map fault_seen c.args.bound) c.args.wanted.now.node c.number_of.result c.requires.node c.number_of.ensures (sym c.is_below.ensures ∙ c.if-is_below.false)

pub returns-else-is_below-clause-tells : goal.returns-else-is_below-clause-tells
returns-else-is_below-clause-tells c = λ x given blocks told of. tt
