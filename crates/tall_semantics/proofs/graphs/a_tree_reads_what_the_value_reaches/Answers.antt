use Rattle.tall_semantics.proofs.ReachLaws.{reads_decided, rows_read, operand_read, not_before_the_call}
use Rattle.tall_semantics.proofs.graphs.a_tree_reads_what_the_value_reaches.Goals as goal

pub returns-clause-exact : goal.returns-clause-exact
returns-clause-exact c = reads_decided

pub returns-clause-rows : goal.returns-clause-rows
returns-clause-rows c = rows_read

pub returns-clause-operands : goal.returns-clause-operands
returns-clause-operands c = operand_read

pub returns-clause-numbers : goal.returns-clause-numbers
returns-clause-numbers c = not_before_the_call
