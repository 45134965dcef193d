use Rattle.tall_semantics.proofs.CandidateLaws.{graph_levels, graph_ranks, start}
use Rattle.tall_semantics.proofs.laws.a_graph_keeps_what_levels_need.Goals as goal

pub returns-clause-levels : goal.returns-clause-levels
returns-clause-levels c = graph_levels

pub returns-clause-ranks : goal.returns-clause-ranks
returns-clause-ranks c = graph_ranks

pub returns-clause-start : goal.returns-clause-start
returns-clause-start c = start
