use Rattle.std.proofs.Common.{refl}
use Rattle.tall_piece.proofs.StepLaws.{first_fit, sums_start}
use Rattle.tall_piece.proofs.sums.Sums.new.Goals as goal

pub returns-clause-fit : goal.returns-clause-fit
returns-clause-fit c = (refl, first_fit c.args.graph.now c.args.wanted.now c.in_ok-sums.sums.items c.in_ok-sums.ensures)

pub returns-clause-start : goal.returns-clause-start
returns-clause-start c store all p = sums_start p c.in_ok-sums.sums.items c.in_ok-sums.ensures
