use Rattle.tall_script.proofs.VerticesAdded.{expression_follows, variables_follow}
use Rattle.tall_script.proofs.laws.added_vertices_keep_the_numbers.Goals as goal

pub returns-clause-expressions : goal.returns-clause-expressions
returns-clause-expressions c = expression_follows

pub returns-clause-variables : goal.returns-clause-variables
returns-clause-variables c = variables_follow
