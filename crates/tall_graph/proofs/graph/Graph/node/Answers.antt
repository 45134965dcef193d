use Rattle.std.specs.Prelude.{map, string_bytes}
use Rattle.tall_graph.proofs.GraphLaws.{facts_read, chain_read}
use Rattle.tall_graph.proofs.graph.Graph.node.Goals as goal

pub returns-clause-facts : goal.returns-clause-facts
returns-clause-facts c =
    let g = c.self.inside in
    facts_read g.nodes.items (map string_bytes g.texts.keys) g.forms.entries g.spaces.entries c.self.invariant c.place-place.result c.args.n c.index.result.now c.args.self.now c.self.view_is c.place-place.ensures c.requires c.index.ensures

pub returns-clause-chain : goal.returns-clause-chain
returns-clause-chain c =
    let g = c.self.inside in
    chain_read g.nodes.items (map string_bytes g.texts.keys) g.forms.entries g.spaces.entries c.self.invariant c.place-place.result c.args.n c.index.result.now c.args.self.now c.self.view_is c.place-place.ensures c.requires c.index.ensures
