-- Numbers of expressions in turn: what may come next, and what may have been the last.
use Rattle.std.proofs.Common.{◌≡◌, ◌<◌, ◌≤◌, ◌++◌, ℕ, zero, suc, List, [], ◌∷◌, sym, subst, arith}
use Rattle.std.specs.Prelude.{Some}
use Rattle.std.specs.List.{All}
use Rattle.std.proofs.lemmas.List.Elements.{All-nil, All-cons, All-head, All-tail}
use Rattle.tall_semantics.specs.Deferred.{Vertex}
use Rattle.tall_stored.specs.StoredColumns.{Store}
use Rattle.tall_script.specs.VertexLaws.{IsLower}
use Rattle.tall_deferred.specs.Turns.{IsAtMost}
use Rattle.tall_deferred.proofs.TurnLaws.{next_lower}
use Rattle.tall_environment.specs.Environments.{CallsAreAtMost, IsLast, IsNext, SeenEnvironment, numbered}

at_most_lower : (n : ℕ) (vs : List Vertex) → All (IsLower (numbered n)) vs → All (IsAtMost (numbered n)) vs
at_most_lower n [] h = All-nil (IsAtMost (numbered n))
at_most_lower n (v ∷ vs) h =
    All-cons (IsAtMost (numbered n)) v vs (below v.at.number n (All-head (IsLower (numbered n)) v vs h)) (at_most_lower n vs (All-tail (IsLower (numbered n)) v vs h))
  where
    below : (a b : ℕ) → a < b → a ≤ b
    below a b h = omega (arith, h)

pub next_is_last : (n : ℕ) (e : SeenEnvironment) → IsNext n e → IsLast n e
next_is_last n e h = record { graph = at_most_lower n e.graph h.graph; calls = λ place d there. below d.at.number n (h.calls place d there) } where
  below : (a b : ℕ) → a < b → a ≤ b
  below a b h = omega (arith, h)

pub last_is_next : (n k : ℕ) (e : SeenEnvironment) → IsLast n e → n < k → IsNext k e
last_is_next n k e h less = record {
  graph = next_lower (numbered n) (numbered k) e.graph less h.graph;
  calls = λ place d there. below d.at.number n k (h.calls place d there) less;
} where
  below : (a b c : ℕ) → a ≤ b → b < c → a < c
  below a b c h k = omega (arith, h, k)

-- names and openings have no numbers
pub last_stays : (n : ℕ) (old new : SeenEnvironment) → new.graph ≡ old.graph → new.stores ≡ old.stores → IsLast n old → IsLast n new
last_stays n old new graph stores h = record { graph = subst (All (IsAtMost (numbered n))) (sym graph) h.graph; calls = subst (CallsAreAtMost (numbered n)) (sym stores) h.calls }

-- a datastore more, by a call whose number is none that is to come
pub more_is_last : (n : ℕ) (old new : SeenEnvironment) (d : Store) → new ≡ record old { stores = old.stores ++ d ∷ [] } → d.at.number ≤ n → IsLast n old → IsLast n new
more_is_last n old new d same below h =
    subst (IsLast n) (sym same) (record { graph = h.graph; calls = calls old.stores h.calls })
  where
    some_same : (a b : Store) → Some a ≡ Some b → a ≡ b
    some_same a b e = cc

    calls : (stores : List Store) → CallsAreAtMost (numbered n) stores → CallsAreAtMost (numbered n) (stores ++ d ∷ [])
    calls [] h zero x there = subst (λ (y : Store). y.at.number ≤ n) (some_same d x there) below
    calls [] h (suc place) x there = absurd (cc)
    calls (c ∷ cs) h zero x there = h zero x there
    calls (c ∷ cs) h (suc place) x there = calls cs (λ p y e. h (suc p) y e) place x there
