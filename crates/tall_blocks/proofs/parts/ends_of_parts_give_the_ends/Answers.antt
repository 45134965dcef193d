use Rattle.tall_blocks.proofs.EndLaws.{first_of_both, first_then, first_enough, last_of_both, last_then}
use Rattle.tall_blocks.proofs.parts.ends_of_parts_give_the_ends.Goals as goal

pub returns-clause-first : goal.returns-clause-first
returns-clause-first c = first_of_both

pub returns-clause-first_missing : goal.returns-clause-first_missing
returns-clause-first_missing c = first_then

pub returns-clause-first_enough : goal.returns-clause-first_enough
returns-clause-first_enough c = first_enough

pub returns-clause-last : goal.returns-clause-last
returns-clause-last c = last_of_both

pub returns-clause-last_missing : goal.returns-clause-last_missing
returns-clause-last_missing c = last_then
