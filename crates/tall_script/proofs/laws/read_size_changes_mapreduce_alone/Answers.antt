use Rattle.tall_script.proofs.Sizes.{same_table}
use Rattle.tall_script.proofs.SizedOpenings.{same_opening}
use Rattle.tall_script.proofs.SizesApart.{same_run, uncalled}
use Rattle.tall_script.proofs.laws.read_size_changes_mapreduce_alone.Goals as goal

pub returns-clause-openings : goal.returns-clause-openings
returns-clause-openings c size o files h k = same_opening size o files h k

pub returns-clause-tables : goal.returns-clause-tables
returns-clause-tables c = same_table

pub returns-clause-runs : goal.returns-clause-runs
returns-clause-runs c = same_run

pub returns-clause-uncalled : goal.returns-clause-uncalled
returns-clause-uncalled c = uncalled
