use Rattle.tall_semantics.proofs.AdditionLaws.{push_both, numbers_pop, empty_numbered, may_add_decided, all_follow}
use Rattle.tall_semantics.proofs.graphs.an_added_vertex_keeps_the_numbers.Goals as goal

pub returns-clause-kept : goal.returns-clause-kept
returns-clause-kept c = push_both

pub returns-clause-needed : goal.returns-clause-needed
returns-clause-needed c = numbers_pop

pub returns-clause-empty : goal.returns-clause-empty
returns-clause-empty c = empty_numbered

pub returns-clause-tested : goal.returns-clause-tested
returns-clause-tested c = may_add_decided

pub returns-clause-followed : goal.returns-clause-followed
returns-clause-followed c = all_follow
