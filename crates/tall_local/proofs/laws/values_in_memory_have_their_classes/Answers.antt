use Rattle.tall_local.proofs.MemoryClasses.{unary_held, binary_held, index_held, member_held, application_held, summary_table}
use Rattle.tall_local.proofs.LocalsHeld.{expression_held}
use Rattle.tall_local.proofs.StepsHeld.{steps_run}
use Rattle.tall_local.proofs.laws.values_in_memory_have_their_classes.Goals as goal

pub returns-clause-unary : goal.returns-clause-unary
returns-clause-unary c = unary_held

pub returns-clause-binary : goal.returns-clause-binary
returns-clause-binary c = binary_held

pub returns-clause-index : goal.returns-clause-index
returns-clause-index c = index_held

pub returns-clause-member : goal.returns-clause-member
returns-clause-member c = member_held

pub returns-clause-functions : goal.returns-clause-functions
returns-clause-functions c = application_held

pub returns-clause-expressions : goal.returns-clause-expressions
returns-clause-expressions c = expression_held

pub returns-clause-statements : goal.returns-clause-statements
returns-clause-statements c = steps_run

pub returns-clause-groups : goal.returns-clause-groups
returns-clause-groups c = summary_table
