use Rattle.tall_blocks.proofs.CarryPlaceLaws.{carry_there, carry_missing, scan_failed}
use Rattle.tall_blocks.proofs.laws.a_carry_is_the_fold_before_the_block.Goals as goal

pub returns-clause-there : goal.returns-clause-there
returns-clause-there c = carry_there

pub returns-clause-missing : goal.returns-clause-missing
returns-clause-missing c = carry_missing

pub returns-clause-failed : goal.returns-clause-failed
returns-clause-failed c = scan_failed
