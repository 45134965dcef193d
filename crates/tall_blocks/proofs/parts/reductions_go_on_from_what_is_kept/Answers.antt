use Rattle.tall_blocks.proofs.FoldLaws.{reduced_kept, group_kept, more_append, used_append, reduced_append, value_joined, joined_assoc, joined_start, joined_nothing}
use Rattle.tall_blocks.proofs.parts.reductions_go_on_from_what_is_kept.Goals as goal

pub returns-clause-reductions : goal.returns-clause-reductions
returns-clause-reductions c = reduced_kept

pub returns-clause-methods : goal.returns-clause-methods
returns-clause-methods c = group_kept

pub returns-clause-goes_on : goal.returns-clause-goes_on
returns-clause-goes_on c = more_append

pub returns-clause-used : goal.returns-clause-used
returns-clause-used c = used_append

pub returns-clause-whole : goal.returns-clause-whole
returns-clause-whole c = reduced_append

pub returns-clause-joins : goal.returns-clause-joins
returns-clause-joins c = value_joined

pub returns-clause-associative : goal.returns-clause-associative
returns-clause-associative c = joined_assoc

pub returns-clause-none_before : goal.returns-clause-none_before
returns-clause-none_before c = joined_start

pub returns-clause-none_behind : goal.returns-clause-none_behind
returns-clause-none_behind c = joined_nothing
