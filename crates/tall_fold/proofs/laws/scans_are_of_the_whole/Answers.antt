use Rattle.tall_fold.proofs.WholeLemmas.{parts_are, whole_is}
use Rattle.tall_fold.proofs.laws.scans_are_of_the_whole.Goals as goal

pub returns-clause-whole : goal.returns-clause-whole
returns-clause-whole c = whole_is

pub returns-clause-parts : goal.returns-clause-parts
returns-clause-parts c = parts_are
