-- The first variable of a datastore in a graph.
use Rattle.std.specs.Prelude.{◌≡◌, ℕ, zero, suc, ◌<◌, ◌≤◌, ◌+◌, ◌==◌, true, false, Some, List, [], ◌∷◌, length, slice_get}
use Rattle.std.proofs.Common.{sym, subst, ◌∙◌, arith, inl, inr}
use Rattle.std.proofs.lemmas.Bool.Decides.{Decides-eqb}
use Rattle.tall_semantics.specs.Operations.{Made, stored, operation}
use Rattle.tall_semantics.specs.Deferred.{Vertex}
use Rattle.tall_semantics.specs.Reach.{IsOfStore}
use Rattle.tall_semantics.proofs.LevelLaws.{compare}
use Rattle.tall_gather.specs.Candidates.{HasVariable, is_of_store}

-- no vertex before n is a variable of the datastore
pub record NoneBefore (vs : List Vertex) (store n : ℕ) : Type 0 where
  pub none : (i : ℕ) (v : Vertex) → i < n → slice_get vs i ≡ Some v → IsOfStore store v.made → ⊥

pub none_first : (vs : List Vertex) (store : ℕ) → NoneBefore vs store 0
none_first vs store = record { none = λ i v l at is. omega (arith, l) }

not_of : (made : Made) (store : ℕ) → is_of_store made store ≡ false → IsOfStore store made → ⊥
not_of (stored s v c) store e is = let t : (s == store) ≡ true = (Decides-eqb s store).1 (sym is) in let u : true ≡ false = sym t ∙ e in absurd (cc)
not_of (operation op) store e is = is

pub of_store : (made : Made) (store : ℕ) → is_of_store made store ≡ true → IsOfStore store made
of_store (stored s v c) store e = sym ((Decides-eqb s store).0 e)
of_store (operation op) store e = absurd (cc)

pub none_next : (vs : List Vertex) (store n : ℕ) (v : Vertex) → NoneBefore vs store n → slice_get vs n ≡ Some v → is_of_store v.made store ≡ false → NoneBefore vs store (n + 1)
none_next vs store n v before here e = record {
  none = λ i w l at is. elim (compare i n) [
    | inl less ↦ before.none i w less at is
    | inr (inl more) ↦ omega (arith, l, more)
    | inr (inr same) ↦
        let there : slice_get vs n ≡ Some w = subst (λ k. slice_get vs k ≡ Some w) same at in
        let one : Some v ≡ Some w = sym here ∙ there in
        let vw : v ≡ w = cc in
        not_of v.made store e (subst (λ (x : Vertex). IsOfStore store x.made) (sym vw) is)
  ];
}

there_below : (vs : List Vertex) (i : ℕ) (v : Vertex) → slice_get vs i ≡ Some v → i < length vs
there_below [] i v e = absurd (cc)
there_below (w ∷ vs) zero v e = omega arith
there_below (w ∷ vs) (suc i) v e = omega (arith, there_below vs i v e)

pub none_left : (vs : List Vertex) (store n : ℕ) → HasVariable vs store → NoneBefore vs store n → length vs ≤ n → ⊥
none_left vs store n (i, v, at, is) before l = before.none i v (omega (arith, there_below vs i v at, l)) at is
