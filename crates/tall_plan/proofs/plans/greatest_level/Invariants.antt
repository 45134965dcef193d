use Rattle.std.proofs.Common.{◌≡◌, map, take}
use Rattle.tall_semantics.specs.Shapes.{greatest_level}
use Rattle.tall_semantics.specs.ShapesInOrder.{shape_at}
use Rattle.tall_plan.proofs.plans.greatest_level.Given as goal

abbrev pub invariant-loop-n : goal.invariant-loop-n
invariant-loop-n l = l.greatest ≡ greatest_level (map (shape_at l.graph) (take l.n-index l.roots))
