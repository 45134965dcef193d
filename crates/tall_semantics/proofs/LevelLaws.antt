-- One level more keeps what holds after the passes of the levels below it.
use Rattle.std.specs.Prelude.{◌≡◌, refl, ℕ, ◌<◌, ◌≤◌, ◌⊎◌, ◌↔◌, Option, None, Some, ◌+◌, List, [], ◌∷◌, ◌++◌}
use Rattle.std.proofs.Common.{sym, subst, ◌∙◌, arith, inl, inr}
use Rattle.tall_semantics.specs.Faults.{Fault, earlier}
use Rattle.tall_semantics.specs.Least.{AtMost, IsLeast, IsBelow}
use Rattle.tall_semantics.specs.Deferred.{IsAmong}
use Rattle.tall_semantics.specs.Levels.{Nodes, IsNumbered, UpTo, IsWork, After, Passed}
use Rattle.tall_semantics.proofs.OrderLaws.{at_most_left, at_most_right, one_of_two, below_left, below_right, lesser_number}

-- the least of two kinds of expressions is the earlier of their least ones
pub joined : (own : ℕ → Option Fault) (P Q : ℕ → Type 0) (c d : Option Fault) → IsLeast own P c → IsLeast own Q d → IsLeast own (λ i. P i ⊎ Q i) (earlier c d)
joined own P Q c d p q = record {
  one = λ x e. elim (one_of_two c d x e) [
    | inl h ↦ (let w = p.one x h in (w.0, inl w.1, w.2))
    | inr h ↦ (let w = q.one x h in (w.0, inr w.1, w.2))
  ];
  least = λ i y h e. elim h [
    | inl a ↦ at_most_left c d y (p.least i y a e)
    | inr b ↦ at_most_right c d y (q.least i y b e)
  ];
}

pub among_both : (xs ys : List ℕ) (a : ℕ) → IsAmong (xs ++ ys) a ↔ (IsAmong xs a ⊎ IsAmong ys a)
among_both [] ys a = (λ h. inr h, λ h. elim h [ inl n ↦ absurd n | inr y ↦ y ])
among_both (x ∷ xs) ys a = (
  λ h. elim h [
    | inl e ↦ inl (inl e)
    | inr r ↦ elim ((among_both xs ys a).0 r) [ inl u ↦ inl (inr u) | inr v ↦ inr v ]
  ],
  λ h. elim h [
    | inl u ↦ elim u [ inl e ↦ inl e | inr r ↦ inr ((among_both xs ys a).1 (inl r)) ]
    | inr v ↦ inr ((among_both xs ys a).1 (inr v))
  ],
)

pub joined_lists : (own : ℕ → Option Fault) (work others : List ℕ) (c d : Option Fault) → IsLeast own (IsAmong work) c → IsLeast own (IsAmong others) d → IsLeast own (IsAmong (work ++ others)) (earlier c d)
joined_lists own work others c d p q =
    let j = joined own (IsAmong work) (IsAmong others) c d p q in
    record {
      one = λ x e. (let w = j.one x e in (w.0, (among_both work others w.0).1 w.1, w.2));
      least = λ i y h e. j.least i y ((among_both work others i).0 h) e;
    }

pub split : (n k : ℕ) → n ≤ k + 1 → (n ≤ k) ⊎ (n ≡ k + 1)
split n k h = grind (arith)

pub compare : (m n : ℕ) → (m < n) ⊎ ((n < m) ⊎ (m ≡ n))
compare m n = grind (arith)

below_or_not : (c : Option Fault) (n : ℕ) → IsBelow c n ⊎ ((x : Fault) × (c ≡ Some x) × (x.number ≤ n))
below_or_not None n = inl tt
below_or_not (Some x) n =
    elim (compare n x.number) [
      | inl h ↦ inl h
      | inr h ↦ inr (x, refl, omega (arith, h))
    ]

pub covered : (ns : Nodes) (Needed : ℕ → Type 0) (k : ℕ) (c p : Option Fault) (i : ℕ) → UpTo ns Needed (k + 1) i → IsBelow (earlier p c) (ns.number i) → (UpTo ns Needed k i × IsBelow c (ns.number i)) ⊎ (IsWork ns Needed (k + 1) c i × IsBelow p (ns.number i))
covered ns Needed k c p i u b = elim (split (ns.level i) k u.1) [
  | inl low ↦ inl ((u.0, low), below_right p c (ns.number i) b)
  | inr high ↦ inr ((u.0, high, below_right p c (ns.number i) b), below_left p c (ns.number i) b)
]

module _ (ns : Nodes) (Needed Known Known' : ℕ → Type 0) (k : ℕ) (c p : Option Fault) (numbered : IsNumbered ns) (after : After ns Needed Known k c) (passed : Passed ns Needed Known Known' (k + 1) c p) where
  one : (x : Fault) → earlier p c ≡ Some x → (i : ℕ) × UpTo ns Needed (k + 1) i × (ns.own i ≡ Some x)
  one x e = elim (one_of_two p c x e) [
    | inl h ↦ (let w = passed.found.one x h in (w.0, (w.1.0, omega (arith, w.1.1)), w.2))
    | inr h ↦ (let w = after.candidate.one x h in (w.0, (w.1.0, omega (arith, w.1.1)), w.2))
  ]

  -- a fault of the new level whose number isn't below the candidate's is no lesser one
  beyond : (i : ℕ) (x y : Fault) → ns.level i ≡ k + 1 → ns.own i ≡ Some y → c ≡ Some x → x.number ≤ ns.number i → AtMost c y
  beyond i x y l e h n =
      let w = after.candidate.one x h in
      let q : x.number ≡ ns.number w.0 = numbered.by_number w.0 x w.2 in
      let r : y.number ≡ ns.number i = numbered.by_number i y e in
      elim (compare x.number y.number) [
        | inl less ↦ subst (λ d. AtMost d y) (sym h) (lesser_number x y less)
        | inr more ↦ elim more [
          | inl greater ↦ absurd (omega (arith, greater, r, n))
          | inr same ↦
              let t : ns.level w.0 ≡ ns.level i = numbered.one_level w.0 i x y w.2 e (sym q ∙ (same ∙ r)) in
              absurd (omega (arith, t, l, w.1.1))
        ]
      ]

  least : (i : ℕ) (y : Fault) → UpTo ns Needed (k + 1) i → ns.own i ≡ Some y → AtMost (earlier p c) y
  least i y u e = elim (split (ns.level i) k u.1) [
    | inl low ↦ at_most_right p c y (after.candidate.least i y (u.0, low) e)
    | inr high ↦ elim (below_or_not c (ns.number i)) [
      | inl b ↦ at_most_left p c y (passed.found.least i y (u.0, high, b) e)
      | inr w ↦ at_most_right p c y (beyond i w.0 y high e w.1 w.2)
    ]
  ]

  known : (i : ℕ) → UpTo ns Needed (k + 1) i → IsBelow (earlier p c) (ns.number i) → Known' i
  known i u b = elim (covered ns Needed k c p i u b) [
    | inl low ↦ passed.kept i (after.known i low.0 low.1)
    | inr high ↦ passed.more i high.0 high.1
  ]

  pub step : After ns Needed Known' (k + 1) (earlier p c)
  step = record { known = known; candidate = record { one = one; least = least } }
