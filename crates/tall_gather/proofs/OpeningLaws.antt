-- The openings of all levels are within the shares of the datastores.
use Rattle.std.specs.Prelude.{◌≡◌, refl, ℕ, zero, suc, ◌<◌, ◌≤◌, ◌+◌, ◌==◌, if◌then◌else◌, Bool, true, false, List, [], ◌∷◌, slice_get}
use Rattle.std.proofs.Common.{ap, sym, subst, ◌∙◌, arith, inl, inr}
use Rattle.std.proofs.lemmas.Bool.Decides.{Decides-eqb}
use Rattle.tall_outside.specs.Shelf.{openings_of}
use Rattle.tall_semantics.specs.Openings.{share}
use Rattle.tall_semantics.specs.Passes.{of_store}
use Rattle.tall_semantics.specs.Shapes.{Shape}
use Rattle.tall_semantics.proofs.LevelLaws.{compare}
use Rattle.tall_store.specs.Stores.{SeenStore}
use Rattle.tall_plan.specs.Seen.{passes_seen}
use Rattle.tall_plan.specs.declared.passes.Pass.{Pass}
use Rattle.tall_gather.specs.Gathered.{gather_openings, repeated}
use Rattle.tall_gather.specs.Going.{files_of, level_openings, levels_openings, pass_openings}

-- ---- all passes once

total : List SeenStore → List Pass → List ℕ → ℕ
total list [] name = 0
total list (p ∷ ps) name = pass_openings list p.store name + total list ps name

test_true : (m n : ℕ) → m ≡ n → (m == n) ≡ true
test_true m n e = (Decides-eqb m n).1 e

test_false : (m n : ℕ) → (m ≡ n → ⊥) → (m == n) ≡ false
test_false m n f = by (m == n) refl
  where
    by : (b : Bool) → (m == n) ≡ b → (m == n) ≡ false
    by false e = e
    by true e = absurd (f ((Decides-eqb m n).0 e))

one_here : (list : List SeenStore) (k : ℕ) (p : Pass) (ps : List Pass) (name : List ℕ) → p.level ≡ k → level_openings list k (p ∷ ps) name ≡ pass_openings list p.store name + level_openings list k ps name
one_here list k p ps name e = ap (λ b. (if b then pass_openings list p.store name else 0) + level_openings list k ps name) (test_true p.level k e)

none_here : (list : List SeenStore) (k : ℕ) (p : Pass) (ps : List Pass) (name : List ℕ) → (p.level ≡ k → ⊥) → level_openings list k (p ∷ ps) name ≡ 0 + level_openings list k ps name
none_here list k p ps name f = ap (λ b. (if b then pass_openings list p.store name else 0) + level_openings list k ps name) (test_false p.level k f)

-- levels above a pass do without it
before_level : (list : List SeenStore) (n : ℕ) (p : Pass) (ps : List Pass) (name : List ℕ) → n < p.level → levels_openings list n (p ∷ ps) name ≡ levels_openings list n ps name
before_level list zero p ps name l = refl
before_level list (suc n) p ps name l =
    let h = before_level list n p ps name (omega (arith, l)) in
    let e = none_here list (n + 1) p ps name (λ q. omega (arith, l, q)) in
    let a : levels_openings list (suc n) (p ∷ ps) name ≡ levels_openings list n (p ∷ ps) name + level_openings list (n + 1) (p ∷ ps) name = refl in
    let b : levels_openings list (suc n) ps name ≡ levels_openings list n ps name + level_openings list (n + 1) ps name = refl in
    omega (arith, h, e, a, b)

one_pass : (list : List SeenStore) (n : ℕ) (p : Pass) (ps : List Pass) (name : List ℕ) → levels_openings list n (p ∷ ps) name ≤ pass_openings list p.store name + levels_openings list n ps name
one_pass list zero p ps name = omega arith
one_pass list (suc n) p ps name =
    let a : levels_openings list (suc n) (p ∷ ps) name ≡ levels_openings list n (p ∷ ps) name + level_openings list (n + 1) (p ∷ ps) name = refl in
    let b : levels_openings list (suc n) ps name ≡ levels_openings list n ps name + level_openings list (n + 1) ps name = refl in
    elim (compare p.level (n + 1)) [
      | inl less ↦ (let e = none_here list (n + 1) p ps name (λ q. omega (arith, less, q)) in let h = one_pass list n p ps name in omega (arith, a, b, e, h))
      | inr (inl more) ↦ (let e = none_here list (n + 1) p ps name (λ q. omega (arith, more, q)) in let h = one_pass list n p ps name in omega (arith, a, b, e, h))
      | inr (inr same) ↦ (let e = one_here list (n + 1) p ps name same in let h = before_level list n p ps name (omega (arith, same)) in omega (arith, a, b, e, h))
    ]

no_pass : (list : List SeenStore) (n : ℕ) (name : List ℕ) → levels_openings list n [] name ≡ 0
no_pass list zero name = refl
no_pass list (suc n) name = (let h = no_pass list n name in omega (arith, h))

levels_total : (list : List SeenStore) (n : ℕ) (ps : List Pass) (name : List ℕ) → levels_openings list n ps name ≤ total list ps name
unfolding total
levels_total list n [] name = (let h = no_pass list n name in omega (arith, h))
levels_total list n (p ∷ ps) name = (let h = one_pass list n p ps name in let i = levels_total list n ps name in omega (arith, h, i))

-- ---- datastore by datastore

by_store : (place : ℕ) → List SeenStore → List Pass → List ℕ → ℕ
by_store k [] ps name = 0
by_store k (d ∷ ds) ps name = repeated (of_store k (passes_seen ps)) (openings_of name d.files) + by_store (k + 1) ds ps name

at_store : (place : ℕ) → List SeenStore → (store : ℕ) → List ℕ → ℕ
at_store k [] s name = 0
at_store k (d ∷ ds) s name = (if s == k then openings_of name d.files else 0) + at_store (k + 1) ds s name

repeated_one : (n x : ℕ) (b : Bool) → repeated ((if b then 1 else 0) + n) x ≡ (if b then x else 0) + repeated n x
repeated_one n x true = (let e : 1 + n ≡ suc n = omega arith in ap (λ m. repeated m x) e)
repeated_one n x false = (let e : 0 + n ≡ n = omega arith in let z : 0 + repeated n x ≡ repeated n x = omega arith in ap (λ m. repeated m x) e ∙ sym z)

by_more : (k : ℕ) (ds : List SeenStore) (p : Pass) (ps : List Pass) (name : List ℕ) → by_store k ds (p ∷ ps) name ≡ at_store k ds p.store name + by_store k ds ps name
unfolding by_store at_store
by_more k [] p ps name = refl
by_more k (d ∷ ds) p ps name =
    let h = by_more (k + 1) ds p ps name in
    let e = repeated_one (of_store k (passes_seen ps)) (openings_of name d.files) (p.store == k) in
    omega (arith, h, e)

at_least : (k j : ℕ) (ds : List SeenStore) (name : List ℕ) → openings_of name (files_of (slice_get ds j)) ≤ at_store k ds (k + j) name
unfolding at_store
at_least k j [] name = omega arith
at_least k zero (d ∷ ds) name =
    let t : (if (k + 0) == k then openings_of name d.files else 0) ≡ openings_of name d.files = ap (λ b. if b then openings_of name d.files else 0) (test_true (k + 0) k (omega arith)) in
    omega (arith, t)
at_least k (suc j) (d ∷ ds) name =
    let h = at_least (k + 1) j ds name in
    let e : (k + 1) + j ≡ k + suc j = omega arith in
    let g : openings_of name (files_of (slice_get ds j)) ≤ at_store (k + 1) ds (k + suc j) name = subst (λ m. openings_of name (files_of (slice_get ds j)) ≤ at_store (k + 1) ds m name) e h in
    omega (arith, g)

total_by : (list : List SeenStore) (ps : List Pass) (name : List ℕ) → total list ps name ≤ by_store 0 list ps name
unfolding total
total_by list [] name = omega arith
total_by list (p ∷ ps) name =
    let h = total_by list ps name in
    let e = by_more 0 list p ps name in
    let z : 0 + p.store ≡ p.store = omega arith in
    let a : pass_openings list p.store name ≤ at_store 0 list p.store name = subst (λ m. pass_openings list p.store name ≤ at_store 0 list m name) z (at_least 0 p.store list name) in
    omega (arith, h, e, a)

repeated_most : (m n x : ℕ) → m ≤ n → repeated m x ≤ repeated n x
repeated_most zero n x l = omega arith
repeated_most (suc m) zero x l = absurd (omega (arith, l))
repeated_most (suc m) (suc n) x l = (let h = repeated_most m n x (omega (arith, l)) in omega (arith, h))

by_share : (k : ℕ) (ds : List SeenStore) (ps : List Pass) (xs : List Shape) (name : List ℕ) → ((store : ℕ) → of_store store (passes_seen ps) ≤ share store xs) → by_store k ds ps name ≤ gather_openings k ds xs name
unfolding by_store
by_share k [] ps xs name bound = omega arith
by_share k (d ∷ ds) ps xs name bound =
    let h = by_share (k + 1) ds ps xs name bound in
    let r = repeated_most (of_store k (passes_seen ps)) (share k xs) (openings_of name d.files) (bound k) in
    omega (arith, h, r)

pub openings_within : (list : List SeenStore) (n : ℕ) (ps : List Pass) (xs : List Shape) (name : List ℕ) → ((store : ℕ) → of_store store (passes_seen ps) ≤ share store xs) → levels_openings list n ps name ≤ gather_openings 0 list xs name
openings_within list n ps xs name bound =
    let a = levels_total list n ps name in
    let b = total_by list ps name in
    let c = by_share 0 list ps xs name bound in
    omega (arith, a, b, c)
