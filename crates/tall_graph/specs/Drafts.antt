-- A node that is accepted, before it has a form and a place.
use Rattle.std.specs.Prelude.{◌≡◌, ℕ, Ok, List, ◌∷◌, map}
use Rattle.tall_semantics.specs.Spaces.{is_single, store_of}
use Rattle.tall_semantics.specs.Shapes.{Shape}
use Rattle.tall_semantics.specs.Deferred.{Vertex}
use Rattle.tall_semantics.specs.Additions.{MayAdd}
use Rattle.tall_semantics.specs.Plans.{first_store}
use Rattle.tall_semantics.specs.ShapesInOrder.{made_shape, shape_at}
use Rattle.tall_graph.specs.declared.keys.SpaceKey.{SpaceKey}
use Rattle.tall_graph.specs.declared.nodes.Draft.{Draft}
use Rattle.tall_graph.specs.declared.operands.SpaceNumber.{SpaceNumber}
use Rattle.tall_graph.specs.declared.operands.SpaceNumber.TheVariants as number
use Rattle.tall_graph.specs.Vertices.{vertex}
use Rattle.tall_graph.specs.Numbers.{IsLookedUp}
use Rattle.tall_graph.specs.Keys.{AreForms}
use Rattle.tall_graph.specs.Trees.{trees_of}
use Rattle.tall_graph.specs.Places.{tree_at, IsSpaceNumber}

abbrev pub draft_vertex : Draft → Vertex
draft_vertex d = vertex d.number d.line d.op d.args.items

-- s is the shape of what is made
pub record IsDraft (vs : List Vertex) (d : Draft) (s : Shape) : Type 0 where
  pub may : MayAdd vs (draft_vertex d)
  pub can : made_shape (draft_vertex d).made (map (shape_at vs) (draft_vertex d).args) ≡ Ok s
  pub class_is : d.class ≡ s.class
  pub chain_is : d.chain ≡ s.chain
  pub scalar_is : d.is_single ≡ is_single s.space
  pub rows_are : d.rows ≡ store_of s.space
  pub store_is : d.store ≡ first_store (s ∷ map (shape_at vs) (draft_vertex d).args)
  pub forms_are : AreForms (trees_of vs) d.operands (map (tree_at vs) (draft_vertex d).args)
  pub space_is : IsSpaceNumber vs d.space s.space

abbrev pub IsSpaceLookedUp : List (SpaceKey × ℕ) → SpaceNumber → (place n : ℕ) → List (SpaceKey × ℕ) → Type 0
IsSpaceLookedUp old (number.Known m) place n new = (n ≡ m) × (new ≡ old)
IsSpaceLookedUp old (number.New k) place n new = IsLookedUp old k place n new
