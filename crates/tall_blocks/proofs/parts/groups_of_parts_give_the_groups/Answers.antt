use Rattle.tall_blocks.proofs.GroupLaws.{keys_kept, counts_kept, values_kept, more_groups, joined_groups}
use Rattle.tall_blocks.proofs.parts.groups_of_parts_give_the_groups.Goals as goal

pub returns-clause-keys : goal.returns-clause-keys
returns-clause-keys c = keys_kept

pub returns-clause-counts : goal.returns-clause-counts
returns-clause-counts c = counts_kept

pub returns-clause-values : goal.returns-clause-values
returns-clause-values c = values_kept

pub returns-clause-goes_on : goal.returns-clause-goes_on
returns-clause-goes_on c = more_groups

pub returns-clause-joins : goal.returns-clause-joins
returns-clause-joins c = joined_groups
