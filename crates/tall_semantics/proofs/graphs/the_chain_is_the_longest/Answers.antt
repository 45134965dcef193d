use Rattle.tall_semantics.proofs.ChainLaws.{longest, not_longer}
use Rattle.tall_semantics.proofs.graphs.the_chain_is_the_longest.Goals as goal

pub returns-clause-there : goal.returns-clause-there
returns-clause-there c = longest

pub returns-clause-greatest : goal.returns-clause-greatest
returns-clause-greatest c = not_longer
