use Rattle.std.specs.Prelude.{map, string_bytes}
use Rattle.tall_graph.proofs.GraphLaws.{kept_empty}
use Rattle.tall_graph.proofs.graph.Graph.new.Goals as goal

pub invariant_of-result : goal.invariant_of-result
invariant_of-result c = kept_empty c.new.result.items (map string_bytes c.new-2.result.keys) c.new-3.result.entries c.new-4.result.entries c.new.ensures.items c.new-3.ensures.empty c.new-4.ensures.empty
