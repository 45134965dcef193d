-- The shape of what is made, from its class and its space.
use Rattle.std.specs.Prelude.{ℕ, List, map}
use Rattle.tall_semantics.specs.Operations.{Made, stored, operation, Tree, column}
use Rattle.tall_semantics.specs.Shapes.{Shape, tree_over}
use Rattle.tall_semantics.specs.Deferred.{Vertex}
use Rattle.tall_semantics.specs.ShapesInOrder.{shape_at}
use Rattle.tall_graph.specs.declared.operands.Placed.{Placed}
use Rattle.tall_graph.specs.Places.{chain_over, space_told}

abbrev pub tree_made : Made → List Shape → Tree
tree_made (stored s v c) xs = column s v c
tree_made (operation f) xs = tree_over f xs

abbrev pub shape_placed : List Vertex → Made → List ℕ → Placed → Shape
shape_placed vs made args p = record {
  class = p.class;
  space = space_told vs p.space;
  tree = tree_made made (map (shape_at vs) args);
  chain = chain_over made (map (shape_at vs) args);
}
