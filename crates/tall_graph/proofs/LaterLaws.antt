-- An operation whose number is above all others.
use Rattle.std.specs.Prelude.{◌<◌, List, length}
use Rattle.std.proofs.Common.{arith}
use Rattle.tall_semantics.specs.Operations.{Made, stored, operation}
use Rattle.tall_semantics.specs.Deferred.{Vertex, AllBelow}
use Rattle.tall_semantics.specs.Numbered.{OfOneStore}
use Rattle.tall_semantics.specs.Additions.{MayAdd}
use Rattle.tall_graph.specs.Later.{IsAbove, IsOperation}

no_store : (m n : Made) → IsOperation m → OfOneStore m n → ⊥
no_store (stored s v c) n is h = is
no_store (operation f) n is h = h

pub later_may : (vs : List Vertex) (v : Vertex) → AllBelow (length vs) v.args → IsAbove vs v.at.number → IsOperation v.made → MayAdd vs v
later_may vs v below above is = record {
  below = below;
  lower = λ a w h at. (let l : w.at.number < v.at.number = above a w at in omega (arith, l));
  calls = λ j w at same. absurd (no_store v.made w.made is same);
  shared = λ j w at e. absurd (let l : w.at.number < v.at.number = above j w at in omega (arith, l, e));
}
