use Rattle.tall_piece.proofs.AnswerLaws.{all_carries, end_value, pass_fault, value_rows}
use Rattle.tall_piece.proofs.laws.all_blocks_give_the_answer_of_a_pass.Goals as goal

pub returns-clause-rows : goal.returns-clause-rows
returns-clause-rows c vs store all wanted p = value_rows p

pub returns-clause-ends : goal.returns-clause-ends
returns-clause-ends c vs store all wanted p = end_value p

pub returns-clause-carries : goal.returns-clause-carries
returns-clause-carries c vs store all wanted p = all_carries p

pub returns-clause-fault : goal.returns-clause-fault
returns-clause-fault c vs store all wanted p = pass_fault p
