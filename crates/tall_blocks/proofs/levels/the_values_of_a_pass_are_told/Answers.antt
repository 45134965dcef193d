use Rattle.tall_blocks.proofs.PassWorkLaws.{cut_decided, largest_serves, least_serves, lower_levels, lower_ranks, rows_of_store}
use Rattle.tall_blocks.proofs.levels.the_values_of_a_pass_are_told.Goals as goal

pub returns-clause-tested : goal.returns-clause-tested
returns-clause-tested c = cut_decided

pub returns-clause-levels : goal.returns-clause-levels
returns-clause-levels c = lower_levels

pub returns-clause-ranks : goal.returns-clause-ranks
returns-clause-ranks c = lower_ranks

pub returns-clause-largest : goal.returns-clause-largest
returns-clause-largest c = largest_serves

pub returns-clause-rows : goal.returns-clause-rows
returns-clause-rows c = rows_of_store

pub returns-clause-least : goal.returns-clause-least
returns-clause-least c = least_serves
