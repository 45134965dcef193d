-- What a clause sees of a plan.
use Rattle.std.specs.Prelude.{◌≡◌, ℕ, Bool, ◌&&◌, ◌==◌, List, [], ◌∷◌, map}
use Rattle.tall_semantics.specs.Deferred.{Vertex}
use Rattle.tall_semantics.specs.Passes as semantics
use Rattle.tall_semantics.specs.Plans.{collected, is_among, is_store}
use Rattle.tall_semantics.specs.Shapes.{level}
use Rattle.tall_semantics.specs.ShapesInOrder.{shape_at}
use Rattle.tall_semantics.specs.Spaces.{store_of}
use Rattle.tall_plan.specs.declared.passes.Pass.{Pass}

abbrev pub pass_seen : Pass → semantics.Pass
pass_seen p = record { store = p.store; level = p.level; work = p.work.items }

abbrev pub passes_seen : List Pass → List semantics.Pass
passes_seen ps = map pass_seen ps

-- a root with the datastore's rows, at its level
abbrev pub is_collected : List Vertex → (roots : List ℕ) → (store level : ℕ) → ℕ → Bool
is_collected vs roots s k r = is_among r roots && (is_store s (store_of (shape_at vs r).space) && level (shape_at vs r) == k)

-- each pass keeps the columns of the roots with its datastore's rows, at their level
abbrev pub AreCollected : List Vertex → (roots : List ℕ) → List Pass → Type 0
AreCollected vs roots [] = Unit {0}
AreCollected vs roots (p ∷ ps) = (p.collect.items ≡ collected vs roots p.store p.level) × AreCollected vs roots ps
