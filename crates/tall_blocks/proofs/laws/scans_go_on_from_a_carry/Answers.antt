use Rattle.tall_blocks.proofs.CarryLaws.{scan_begins}
use Rattle.tall_blocks.proofs.CarryPlaceLaws.{carry_class, carry_stands, from_carry, fold_failed}
use Rattle.tall_blocks.proofs.RowLaws.{scan_then}
use Rattle.tall_blocks.proofs.laws.scans_go_on_from_a_carry.Goals as goal

pub returns-clause-start : goal.returns-clause-start
returns-clause-start c = scan_begins

pub returns-clause-goes_on : goal.returns-clause-goes_on
returns-clause-goes_on c = scan_then

pub returns-clause-stands : goal.returns-clause-stands
returns-clause-stands c = carry_stands

pub returns-clause-from_its_carry : goal.returns-clause-from_its_carry
returns-clause-from_its_carry c = from_carry

pub returns-clause-failed : goal.returns-clause-failed
returns-clause-failed c = fold_failed

pub returns-clause-class : goal.returns-clause-class
returns-clause-class c = carry_class
