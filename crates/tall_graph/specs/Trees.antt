-- The trees and the spaces of a list of vertices, in which forms and spaces have their numbers.
use Rattle.std.specs.Prelude.{List, map}
use Rattle.tall_semantics.specs.Operations.{Tree}
use Rattle.tall_semantics.specs.Spaces.{Space}
use Rattle.tall_semantics.specs.Shapes.{Shape}
use Rattle.tall_semantics.specs.Deferred.{Vertex}
use Rattle.tall_semantics.specs.ShapesInOrder.{shapes_of}

abbrev pub trees_of : List Vertex → List Tree
trees_of vs = map (λ (s : Shape). s.tree) (shapes_of vs)

abbrev pub spaces_of : List Vertex → List Space
spaces_of vs = map (λ (s : Shape). s.space) (shapes_of vs)
