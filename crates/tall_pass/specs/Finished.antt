-- What a pass comes to behind its last block: whether what is wanted covers it, and what the answer tells.
use Rattle.std.specs.Prelude.{◌≡◌, ◌↔◌, ◌⊎◌, ◌+◌, ℕ, Option, None, Some, List, [], ◌∷◌}
use Rattle.tall_value.specs.Cells.{Seen}
use Rattle.tall_semantics.specs.Faults.{Fault}
use Rattle.tall_semantics.specs.Spaces.{store_of}
use Rattle.tall_semantics.specs.ShapesInOrder.{shape_at}
use Rattle.tall_semantics.specs.Deferred.{Vertex, own_in}
use Rattle.tall_semantics.specs.Least.{IsLeast}
use Rattle.tall_blocks.specs.PassWork.{IsEndOf, IsWorkOf}
use Rattle.tall_fuse.specs.Results.{Found}
use Rattle.tall_fuse.specs.Kept.{carry, found}
use Rattle.tall_fuse.specs.declared.known.Known.{Known}
use Rattle.tall_plan.specs.declared.passes.Pass.{Pass}
use Rattle.tall_piece.specs.declared.wanted.Wanted.{Wanted}
use Rattle.tall_piece.specs.declared.wanted.Way.{Way}
use Rattle.tall_piece.specs.declared.wanted.Way.TheVariants as way
use Rattle.tall_piece.specs.Passes.{PassOver, carry_of}
use Rattle.tall_pass.specs.PassPlans.{IsBelowAt, IsCarried, IsResult}
use Rattle.tall_pass.specs.Told.{Shows}

-- ---- what is wanted

-- the ways that give a result
abbrev pub IsResultWay : Way → Type 0
IsResultWay (way.End e a b) = Unit {0}
IsResultWay (way.Carries s a) = ⊥
IsResultWay way.Rows = Unit {0}

-- the way that gives carries
abbrev pub IsCarriesWay : Way → Type 0
IsCarriesWay (way.End e a b) = ⊥
IsCarriesWay (way.Carries s a) = Unit {0}
IsCarriesWay way.Rows = ⊥

-- the node's result is wanted
abbrev pub IsResultWanted : List Wanted → ℕ → Type 0
IsResultWanted [] i = ⊥
IsResultWanted (w ∷ ws) i = ((w.node ≡ i) × IsResultWay w.way) ⊎ IsResultWanted ws i

-- the carries of the node are wanted
abbrev pub AreCarriesWanted : List Wanted → ℕ → Type 0
AreCarriesWanted [] i = ⊥
AreCarriesWanted (w ∷ ws) i = ((w.node ≡ i) × IsCarriesWay w.way) ⊎ AreCarriesWanted ws i

-- a node whose own rows are wanted has those of a datastore
abbrev pub IsOfStore : List Vertex → ℕ → Way → Type 0
IsOfStore vs i (way.End e a b) = Unit {0}
IsOfStore vs i (way.Carries s a) = Unit {0}
IsOfStore vs i way.Rows = (s : ℕ) × (store_of (shape_at vs i).space ≡ Some s)

abbrev pub AreOfStores : List Vertex → List Wanted → Type 0
AreOfStores vs [] = Unit {0}
AreOfStores vs (w ∷ ws) = IsOfStore vs w.node w.way × AreOfStores vs ws

-- the results and the carries that come with the pass are those that are wanted
pub record Covers (vs : List Vertex) (pass : Pass) (wanted : List Wanted) : Type 0 where
  pub results : (i : ℕ) → IsResult vs pass None i ↔ IsResultWanted wanted i
  pub carries : (i : ℕ) → IsCarried vs pass None i ↔ AreCarriesWanted wanted i
  pub rows : AreOfStores vs wanted

-- ---- what the answer tells

-- q is the least fault of the pass's work; of what is wanted and numbered below it the results show the values, and the carries
-- are all that the scans have, where no other carry was known before
pub record IsFinished {vs : List Vertex} {store : ℕ} {all : List ℕ} {wanted : List Wanted} (p : PassOver vs store all wanted) (q : Option Fault) (old new : Known) : Type 0 where
  pub fault : IsLeast (own_in vs p.f) (λ i. IsWorkOf store vs p.f p.levels p.needed (p.before + 1) p.candidate i ⊎ IsEndOf store vs p.f p.levels p.needed (p.before + 1) p.candidate i) q
  pub results : (i : ℕ) (r : Found) → IsResultWanted wanted i → IsBelowAt vs q i → found new i ≡ Some r → Shows (p.f i) r
  pub carries : (i b : ℕ) → AreCarriesWanted wanted i → IsBelowAt vs q i → ((c : Seen) → carry old i b ≡ Some c → carry_of p b i ≡ Some c) → carry new i b ≡ carry_of p b i
