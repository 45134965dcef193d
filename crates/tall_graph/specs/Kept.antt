-- What a graph keeps of its nodes, and of its tables.
use Rattle.std.specs.Prelude.{◌≡◌, ℕ, Some, List, map, slice_get}
use Rattle.tall_semantics.specs.Spaces.{is_single, store_of}
use Rattle.tall_semantics.specs.Equality.{same_tree, same_space}
use Rattle.tall_semantics.specs.Forms.{form, space_number}
use Rattle.tall_semantics.specs.Deferred.{Vertex}
use Rattle.tall_semantics.specs.Numbered.{AreNumbered}
use Rattle.tall_semantics.specs.Plans.{store_at}
use Rattle.tall_semantics.specs.ShapesInOrder.{shape_at, IsMade}
use Rattle.tall_graph.specs.declared.keys.FormKey.{FormKey}
use Rattle.tall_graph.specs.declared.keys.SpaceKey.{SpaceKey}
use Rattle.tall_graph.specs.declared.nodes.Node.{Node}
use Rattle.tall_graph.specs.declared.nodes.Facts.{Facts}
use Rattle.tall_graph.specs.Vertices.{vertex}
use Rattle.tall_graph.specs.Trees.{trees_of, spaces_of}
use Rattle.tall_graph.specs.Numbers.{IsTable}
use Rattle.tall_graph.specs.Keys.{IsFormKey, IsSpaceKey}

abbrev pub vertex_of : Node → Vertex
vertex_of n = vertex n.number n.line n.op n.args.items

abbrev pub vertices : List Node → List Vertex
vertices ns = map vertex_of ns

-- what is kept beside a vertex is that of its shape
pub record AreFacts (vs : List Vertex) (i : ℕ) (n : Facts) : Type 0 where
  pub class_is : n.class ≡ (shape_at vs i).class
  pub chain_is : n.chain ≡ (shape_at vs i).chain
  pub scalar_is : n.is_single ≡ is_single (shape_at vs i).space
  pub rows_are : n.rows ≡ store_of (shape_at vs i).space
  pub store_is : n.store ≡ store_at vs i
  pub form_is : n.form ≡ form (shape_at vs i).tree (trees_of vs)
  pub space_is : n.space ≡ space_number (shape_at vs i).space (spaces_of vs)

pub record IsKept (ns : List Node) (texts : List (List ℕ)) (forms : List (FormKey × ℕ)) (spaces : List (SpaceKey × ℕ)) : Type 0 where
  pub made : IsMade (vertices ns)
  pub numbered : AreNumbered (vertices ns)
  pub facts : (i : ℕ) (n : Node) → slice_get ns i ≡ Some n → AreFacts (vertices ns) i n.facts
  pub form_table : IsTable same_tree (IsFormKey texts (trees_of (vertices ns))) forms (trees_of (vertices ns))
  pub space_table : IsTable same_space (IsSpaceKey (spaces_of (vertices ns)) (trees_of (vertices ns))) spaces (spaces_of (vertices ns))
