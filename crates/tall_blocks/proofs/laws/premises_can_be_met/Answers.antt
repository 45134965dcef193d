use Rattle.std.specs.Prelude.{refl}
use Rattle.tall_blocks.proofs.SampleLaws.{sample_candidate, sample_cut, sample_gather, sample_pass, sample_scalars, sample_scans}
use Rattle.tall_blocks.proofs.laws.premises_can_be_met.Goals as goal

pub returns-clause-blockwise : goal.returns-clause-blockwise
returns-clause-blockwise c = sample_pass

pub returns-clause-gather : goal.returns-clause-gather
returns-clause-gather c = sample_gather

pub returns-clause-candidate : goal.returns-clause-candidate
returns-clause-candidate c = sample_candidate

pub returns-clause-pass : goal.returns-clause-pass
returns-clause-pass c = sample_cut

pub returns-clause-scalars : goal.returns-clause-scalars
returns-clause-scalars c = sample_scalars

pub returns-clause-scans : goal.returns-clause-scans
returns-clause-scans c = sample_scans

pub returns-clause-parts : goal.returns-clause-parts
returns-clause-parts c =
    ((λ i v s a e d q. refl), ((λ i j v w s a o e g d p q r. refl), ((λ i j v w s a o e g d p q r. refl), tt)), sample_pass.ascending)
