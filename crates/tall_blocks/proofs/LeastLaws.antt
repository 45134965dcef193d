-- The least own fault over a block and the rows behind it is the earlier of the two that are seen in the block and behind
-- it. A fault that is seen need not be an own fault over all rows; but what it is hidden by is a fault of what the value
-- depends on, which has a lesser number, so under the earliest seen there is none.
use Rattle.std.specs.Prelude.{if◌then◌else◌, ◌≡◌, refl, ◌≢◌, ℕ, suc, ◌<◌, ◌≤◌, ◌⊎◌, Bool, true, false, Option, None, Some, List, slice_get}
use Rattle.std.proofs.Common.{ap, sym, subst, ◌∙◌, arith, inl, inr}
use Rattle.tall_value.specs.Cells.{Seen}
use Rattle.tall_semantics.specs.Operations.{group, Made, stored, operation}
use Rattle.tall_semantics.specs.Faults.{Fault, earlier, precedes}
use Rattle.tall_semantics.specs.Outcomes.{Outcome, fault_of}
use Rattle.tall_semantics.specs.Talls.{Tall, Columns}
use Rattle.tall_semantics.specs.Least.{AtMost, IsLeast}
use Rattle.tall_semantics.specs.Numbered.{never_fails, AreBothStored, OfOneMethod, AreNumbered}
use Rattle.tall_semantics.specs.Deferred.{Vertex, IsOrdered, IsAmong, DependsOn, itself, through, fault_in, least_in, own_in}
use Rattle.tall_blocks.specs.Blocks.{IsVariable}
use Rattle.tall_blocks.specs.Cut.{CanBeCut, AreCut, AreAligned, IsCutWork}
use Rattle.tall_blocks.specs.ValuesOver.{value_over, IsOver}
use Rattle.tall_blocks.proofs.Choices.{true_or_false}
use Rattle.tall_blocks.proofs.SeenLaws.{IsSplit, all_none, fault_joined, front_fault, back_fault, own_split, own_made, known_none, origin, can_fail, own_fault_number, operands_none, joined_at, stored_parts, operand_parts}
use Rattle.tall_semantics.proofs.Basics.{inside}
use Rattle.tall_semantics.proofs.LevelLaws.{compare}
use Rattle.tall_semantics.proofs.OrderLaws.{by_number, not_before, at_most_left, at_most_right}
use Rattle.tall_semantics.proofs.OriginLaws.{none_or_some, get_before, below_among, least_one}

-- ---- what a value depends on stands before it, and has no greater number

path_place : (vs : List Vertex) → IsOrdered vs → (a j : ℕ) → DependsOn vs a j → j ≤ a
path_place vs ordered a j (itself i) = omega (arith)
path_place vs ordered a j (through i b l v e among d) =
    let less : b < i = below_among i v.args b (ordered i v e) among in
    let more : l ≤ b = path_place vs ordered b l d in
    omega (arith, less, more)

pub path_number : (vs : List Vertex) → IsOrdered vs → AreNumbered vs → (a j : ℕ) (u w : Vertex) → slice_get vs a ≡ Some u → slice_get vs j ≡ Some w → DependsOn vs a j → w.at.number ≤ u.at.number
path_number vs ordered numbered a j u w e g (itself i) = (let q : u ≡ w = inside u w (sym e ∙ g) in let n : u.at.number ≡ w.at.number = ap (λ (x : Vertex). x.at.number) q in omega (arith, n))
path_number vs ordered numbered a j u w e g (through i b l v d among rest) =
    let q : u ≡ v = inside u v (sym e ∙ d) in
    let x = get_before vs i b v d (below_among i v.args b (ordered i v d) among) in
    let one : x.0.at.number ≤ v.at.number = numbered.lower i b v x.0 d among x.1 in
    let more : w.at.number ≤ x.0.at.number = path_number vs ordered numbered b l x.0 w x.1 g rest in
    let n : u.at.number ≡ v.at.number = ap (λ (x : Vertex). x.at.number) q in
    omega (arith, one, more, n)

pub no_args : (f : ℕ → Tall) (cut : ℕ → Bool) (m n : Made) (args : List ℕ) (a : ℕ) → CanBeCut f cut m args → AreBothStored m n → IsAmong args a → ⊥
no_args f cut (stored s b c) n args a can h i = subst (λ xs. IsAmong xs a) can i
no_args f cut (operation op) n args a can h i = h

pub no_group : (f : ℕ → Tall) (cut : ℕ → Bool) (m n : Made) (args : List ℕ) → CanBeCut f cut m args → OfOneMethod m n → ⊥
no_group f cut (operation (group m p)) n args can h = can
no_group f cut m n args can h = h

-- of two values that fail, one of which depends on the other, the numbers are unequal
less_number : (f : ℕ → Tall) (cut : ℕ → Bool) (vs : List Vertex) → IsOrdered vs → AreNumbered vs → (i a j : ℕ) (v w : Vertex) → slice_get vs i ≡ Some v → slice_get vs j ≡ Some w → IsAmong v.args a → DependsOn vs a j
    → CanBeCut f cut v.made v.args → (never_fails v.made ≡ true → ⊥) → (never_fails w.made ≡ true → ⊥) → w.at.number < v.at.number
less_number f cut vs ordered numbered i a j v w e g among path can fails fails2 =
    let less : a < i = below_among i v.args a (ordered i v e) among in
    let before : j ≤ a = path_place vs ordered a j path in
    let u = get_before vs i a v e less in
    let one : u.0.at.number ≤ v.at.number = numbered.lower i a v u.0 e among u.1 in
    let more : w.at.number ≤ u.0.at.number = path_number vs ordered numbered a j u.0 w u.1 g path in
    elim (compare w.at.number v.at.number) [
      | inl lower ↦ lower
      | inr rest ↦ elim rest [
        | inl greater ↦ absurd (omega (arith, greater, one, more))
        | inr same ↦
            let differ : i ≢ j = λ q. omega (arith, q, less, before) in
            elim (numbered.shared i j v w differ e g (sym same)) [
              | inl both ↦ absurd (no_args f cut v.made w.made v.args a can both among)
              | inr more2 ↦ elim more2 [
                | inl parts ↦ absurd (no_group f cut v.made w.made v.args can parts.0)
                | inr never ↦ elim never [ inl x ↦ absurd (fails x) | inr y ↦ absurd (fails2 y) ]
              ]
            ]
      ]
    ]

-- ---- the earlier of two

abbrev Goes : Option Fault → Fault → Type 0
Goes None x = Unit {0}
Goes (Some y) x = precedes x y ≡ true

by_test : (b : Bool) (x y z : Fault) → Some (if b then x else y) ≡ Some z → (Some y ≡ Some z) ⊎ ((Some x ≡ Some z) × (b ≡ true))
by_test true x y z h = inr (h, refl)
by_test false x y z h = inl h

earlier_is : (c d : Option Fault) (x : Fault) → earlier c d ≡ Some x → (c ≡ Some x) ⊎ ((d ≡ Some x) × Goes c x)
earlier_is None d x h = inr (h, tt)
earlier_is (Some f) None x h = inl h
earlier_is (Some f) (Some g) x h = elim (by_test (precedes g f) g f x h) [
  | inl e ↦ inl e
  | inr e ↦ inr (e.0, ap (λ y. precedes y f) (sym (inside g x e.0)) ∙ e.1)
]

beaten : (c : Option Fault) (x z : Fault) → AtMost c z → Goes c x → precedes x z ≡ false → ⊥
beaten None x z m g p = m
beaten (Some y) x z m g p = (let q : precedes x y ≡ false = not_before y z x m p in cc)

-- ---- a block and the rows behind it

module _ {columns block rest : Columns} {so_far so_far_block so_far_rest : ℕ → List Seen} {vs : List Vertex} {f : ℕ → Tall} {cut : ℕ → Bool} {h g k : ℕ → Outcome}
    (over : IsOver columns so_far vs f cut h) (over_block : IsOver block so_far_block vs f cut g) (over_rest : IsOver rest so_far_rest vs f cut k)
    (ordered : IsOrdered vs) (can : AreCut f cut vs) (aligned : AreAligned vs cut g) (split : IsSplit columns block rest so_far so_far_block so_far_rest vs f cut g)
    (numbered : AreNumbered vs) where
  abbrev H : ℕ → Tall
  H = value_over f h

  abbrev G : ℕ → Tall
  G = value_over f g

  abbrev K : ℕ → Tall
  K = value_over f k

  free_rows : (i : ℕ) (v : Vertex) (s a : ℕ) → slice_get vs i ≡ Some v → cut i ≡ true → IsVariable v.made s a → fault_of (columns s a) ≡ None
  free_rows i v s a e c q = ap fault_of (split.columns_split i v s a e c q).2

  free_block : (i : ℕ) (v : Vertex) (s a : ℕ) → slice_get vs i ≡ Some v → cut i ≡ true → IsVariable v.made s a → fault_of (block s a) ≡ None
  free_block i v s a e c q = ap fault_of (split.columns_split i v s a e c q).3

  free_rest : (i : ℕ) (v : Vertex) (s a : ℕ) → slice_get vs i ≡ Some v → cut i ≡ true → IsVariable v.made s a → fault_of (rest s a) ≡ None
  free_rest i v s a e c q = ap fault_of (split.columns_split i v s a e c q).4

  -- an own fault over all rows is seen in the block or behind it
  seen_made : (i : ℕ) (v : Vertex) (m : Made) (x : Fault) → slice_get vs i ≡ Some v → cut i ≡ true → v.made ≡ m → least_in H v.args ≡ None → fault_of (h i) ≡ Some x → (own_in vs G i ≡ Some x) ⊎ (own_in vs K i ≡ Some x)
  seen_made i v (stored s a class) x e c q n y =
      let p = stored_parts over over_block over_rest ordered can aligned split i v s a class e c q in
      let z : fault_of (h i) ≡ None = ap fault_of p.2 in
      absurd (cc)
  seen_made i v (operation op) x e c q n y =
      let parts = operand_parts over over_block over_rest ordered can aligned split i v e c (inl n) in
      let none = operands_none over over_block over_rest ordered can aligned split i v e c parts in
      let j = joined_at over over_block over_rest ordered can aligned split i v op e c q parts in
      elim (fault_joined (h i) (g i) (k i) x j y) [
        | inl front ↦ inl (own_made G (slice_get vs i) v i x e (all_none (fault_in G) v.args (λ a m. (none a m).1)) front)
        | inr back ↦ inr (own_made K (slice_get vs i) v i x e (all_none (fault_in K) v.args (λ a m. (none a m).2)) back.1)
      ]

  pub own_seen : (i : ℕ) (x : Fault) → cut i ≡ true → own_in vs H i ≡ Some x → (own_in vs G i ≡ Some x) ⊎ (own_in vs K i ≡ Some x)
  own_seen i x c own = (let w = own_split H (slice_get vs i) i x own in seen_made i w.0 w.0.made x w.1 c refl w.2 w.3)

  -- conversely, where no operand has a fault over all rows, one seen in the block is the value's own
  block_own : (i : ℕ) (v : Vertex) (m : Made) (x : Fault) → slice_get vs i ≡ Some v → cut i ≡ true → v.made ≡ m → least_in H v.args ≡ None → fault_of (g i) ≡ Some x → own_in vs H i ≡ Some x
  block_own i v (stored s a class) x e c q n y =
      let p = stored_parts over over_block over_rest ordered can aligned split i v s a class e c q in
      let z : fault_of (g i) ≡ None = ap fault_of p.3 in
      absurd (cc)
  block_own i v (operation op) x e c q n y =
      let parts = operand_parts over over_block over_rest ordered can aligned split i v e c (inl n) in
      let j = joined_at over over_block over_rest ordered can aligned split i v op e c q parts in
      own_made H (slice_get vs i) v i x e n (front_fault (h i) (g i) (k i) x j y)

  -- and so is one seen behind it, or else one is seen in the block
  rest_own : (i : ℕ) (v : Vertex) (m : Made) (x : Fault) → slice_get vs i ≡ Some v → cut i ≡ true → v.made ≡ m → least_in H v.args ≡ None → fault_of (k i) ≡ Some x → (own_in vs H i ≡ Some x) ⊎ ((z : Fault) × (own_in vs G i ≡ Some z))
  rest_own i v (stored s a class) x e c q n y =
      let p = stored_parts over over_block over_rest ordered can aligned split i v s a class e c q in
      let z : fault_of (k i) ≡ None = ap fault_of p.4 in
      absurd (cc)
  rest_own i v (operation op) x e c q n y =
      let parts = operand_parts over over_block over_rest ordered can aligned split i v e c (inl n) in
      let none = operands_none over over_block over_rest ordered can aligned split i v e c parts in
      let j = joined_at over over_block over_rest ordered can aligned split i v op e c q parts in
      elim (none_or_some (fault_of (g i))) [
        | inl free ↦ inl (own_made H (slice_get vs i) v i x e n (back_fault (h i) (g i) (k i) x j free y))
        | inr some ↦ inr (some.0, own_made G (slice_get vs i) v i some.0 e (all_none (fault_in G) v.args (λ a m. (none a m).1)) some.1)
      ]

  module _ (P : ℕ → Type 0) (work : IsCutWork vs cut P) (c d : Option Fault) (least_block : IsLeast (own_in vs G) P c) (least_rest : IsLeast (own_in vs K) P d)
      (ascending : (i : ℕ) (x y : Fault) → P i → own_in vs G i ≡ Some x → own_in vs K i ≡ Some y → precedes y x ≡ false) where
    all_later : (i : ℕ) (y : Fault) → P i → own_in vs H i ≡ Some y → AtMost (earlier c d) y
    all_later i y p own = elim (own_seen i y (work.there i p).0 own) [
      | inl front ↦ at_most_left c d y (least_block.least i y p front)
      | inr back ↦ at_most_right c d y (least_rest.least i y p back)
    ]

    -- where the earliest fault is seen no operand has a fault over all rows
    operands_free : (i : ℕ) (v : Vertex) (x : Fault) → P i → slice_get vs i ≡ Some v → earlier c d ≡ Some x → x.number ≡ v.at.number → (never_fails v.made ≡ true → ⊥) → least_in H v.args ≡ None
    operands_free i v x p e q n fails = elim (none_or_some (least_in H v.args)) [
      | inl none ↦ none
      | inr some ↦
          let w = least_one (fault_in H) v.args some.0 some.1 in
          let cut_i : cut i ≡ true = (work.there i p).0 in
          elim (true_or_false (cut w.0)) [
            | inr not_cut ↦ (let z : fault_of (h w.0) ≡ None = known_none over can i w.0 v e cut_i w.1 not_cut in let y : fault_of (h w.0) ≡ Some some.0 = w.2 in absurd (cc))
            | inl is_cut ↦
                let b = get_before vs i w.0 v e (below_among i v.args w.0 (ordered i v e) w.1) in
                let r = origin over can ordered P work (suc w.0) w.0 b.0 some.0 (omega (arith)) b.1 (work.closed i w.0 v p e w.1 is_cut) w.2 in
                let s = own_split H (slice_get vs r.0) r.0 some.0 r.3 in
                let cut_j : cut r.0 ≡ true = (work.there r.0 r.2).0 in
                let less : s.0.at.number < v.at.number = less_number f cut vs ordered numbered i w.0 r.0 v s.0 e s.1 w.1 r.1 (can i v e cut_i) fails (can_fail over can r.0 s.0 s.0.made some.0 s.1 cut_j refl s.2 s.3) in
                let number : some.0.number ≡ s.0.at.number = own_fault_number over can free_rows r.0 s.0 s.0.made some.0 s.1 cut_j refl s.2 s.3 in
                let later : AtMost (Some x) some.0 = subst (λ o. AtMost o some.0) q (all_later r.0 some.0 r.2 r.3) in
                let most : x.number ≤ some.0.number = by_number x some.0 later in
                absurd (omega (arith, less, number, most, n))
          ]
    ]

    from_block : (x : Fault) → earlier c d ≡ Some x → c ≡ Some x → (i : ℕ) × P i × (own_in vs H i ≡ Some x)
    from_block x q e =
        let w = least_block.one x e in
        let s = own_split G (slice_get vs w.0) w.0 x w.2 in
        let cut_i : cut w.0 ≡ true = (work.there w.0 w.1).0 in
        let fails = can_fail over_block can w.0 s.0 s.0.made x s.1 cut_i refl s.2 s.3 in
        let number = own_fault_number over_block can free_block w.0 s.0 s.0.made x s.1 cut_i refl s.2 s.3 in
        let free = operands_free w.0 s.0 x w.1 s.1 q number fails in
        (w.0, w.1, block_own w.0 s.0 s.0.made x s.1 cut_i refl free s.3)

    from_rest : (x : Fault) → earlier c d ≡ Some x → d ≡ Some x → Goes c x → (i : ℕ) × P i × (own_in vs H i ≡ Some x)
    from_rest x q e goes =
        let w = least_rest.one x e in
        let s = own_split K (slice_get vs w.0) w.0 x w.2 in
        let cut_i : cut w.0 ≡ true = (work.there w.0 w.1).0 in
        let fails = can_fail over_rest can w.0 s.0 s.0.made x s.1 cut_i refl s.2 s.3 in
        let number = own_fault_number over_rest can free_rest w.0 s.0 s.0.made x s.1 cut_i refl s.2 s.3 in
        let free = operands_free w.0 s.0 x w.1 s.1 q number fails in
        elim (rest_own w.0 s.0 s.0.made x s.1 cut_i refl free s.3) [
          | inl own ↦ (w.0, w.1, own)
          | inr seen ↦ absurd (beaten c x seen.0 (least_block.least w.0 seen.0 w.1 seen.1) goes (ascending w.0 seen.0 x w.1 seen.1 w.2))
        ]

    pub least_joined : IsLeast (own_in vs H) P (earlier c d)
    least_joined = record {
      one = λ x q. elim (earlier_is c d x q) [ inl e ↦ from_block x q e | inr e ↦ from_rest x q e.0 e.1 ];
      least = all_later;
    }
