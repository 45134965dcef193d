-- Each arm is the word's case.
use Rattle.tall_deferred.proofs.members.member_value.Goals as goal

pub returns-in-Memory-clause-given : goal.returns-in-Memory-clause-given
returns-in-Memory-clause-given c f = rw c.in-Memory.is (c.variable_in_memory.ensures.given f)

pub returns-in-Table-clause-given : goal.returns-in-Table-clause-given
returns-in-Table-clause-given c f = rw c.in-Table.is (c.variable_of_tall.ensures.given f)

pub returns-in-Memory-clause-within : goal.returns-in-Memory-clause-within
returns-in-Memory-clause-within c n h = c.variable_in_memory.ensures.within n
