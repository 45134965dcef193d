-- A value over some rows has numbers of these rows alone, and so has its fault: whatever holds of the numbers of the
-- variables' rows holds of its own.
use Rattle.std.specs.Prelude.{◌≡◌, refl, ℕ, zero, suc, ◌<◌, ◌+◌, if◌then◌else◌, Bool, true, false, Option, None, Some, Result, Ok, Err, List, [], ◌∷◌, ◌++◌, map, slice_get}
use Rattle.std.proofs.Common.{ap, sym, subst, ◌∙◌, arith, inl, inr}
use Rattle.std.specs.declared.cmp.Ordering.{Ordering}
use Rattle.std.specs.Ordering.{nat_cmp, is_lt, ordering_then}
use Rattle.std.proofs.lemmas.Bool.Decides.{nat_tests}
use Rattle.tall_value.specs.declared.class.Kind.{Kind}
use Rattle.tall_value.specs.declared.faults.CellFault.{CellFault}
use Rattle.tall_value.specs.declared.functions.Scan.{Scan}
use Rattle.tall_value.specs.declared.operators.Binary.{Binary}
use Rattle.tall_value.specs.declared.operators.Unary.{Unary}
use Rattle.tall_value.specs.Cells.{Seen}
use Rattle.tall_value.specs.CellOperators.{unary_cell, binary_cell}
use Rattle.tall_value.specs.Classes.{kind_of}
use Rattle.tall_value.specs.Elementwise.{in_front, at_row, each_row, each_pair, beside}
use Rattle.tall_value.specs.FaultOrder.{row_place}
use Rattle.tall_value.specs.Filters.{is_true, kept}
use Rattle.tall_semantics.specs.Operations.{Op, constant, unary, binary, filter, reduce, scan, head, tail, distinct, group, Made, stored, operation}
use Rattle.tall_semantics.specs.Faults.{At, Fault, least_fault, precedes}
use Rattle.tall_semantics.specs.Outcomes.{Outcome, rows, scalar, fault, fault_of, rows_in, cells_in, row_by_row, elementwise_one, elementwise_two}
use Rattle.tall_semantics.specs.Talls.{Tall, Columns, outcomes, unless}
use Rattle.tall_semantics.specs.Deferred.{Vertex, IsOrdered, IsAmong, fault_in, least_in}
use Rattle.tall_semantics.specs.ScanCarries.{fold_of}
use Rattle.tall_blocks.specs.Carries.{Rows, RowsOrFault, or_inexact, scanned_behind}
use Rattle.tall_blocks.specs.Blocks.{IsVariable, AllNumbers}
use Rattle.tall_blocks.specs.Cut.{CanBeCut, AreCut}
use Rattle.tall_blocks.specs.ValuesOver.{own_over, outcome_over, value_over, IsOver}
use Rattle.tall_semantics.proofs.OriginLaws.{none_or_some, get_before, below_among, least_one, faults_of_values}
use Rattle.tall_blocks.proofs.Choices.{true_or_false}
use Rattle.tall_blocks.proofs.SeenLaws.{known_none, own_of, made_is}

module _ (Q : ℕ → Type 0) where
  abbrev HoldIn : RowsOrFault → Type 0
  HoldIn (Ok rs) = AllNumbers Q rs
  HoldIn (Err e) = Q e.0

  -- Q holds of the numbers of the rows, or of that of the fault's row
  abbrev pub Holds : Outcome → Type 0
  Holds (rows rs) = AllNumbers Q rs
  Holds (scalar c) = ⊥
  Holds (fault x) = (r : ℕ) × (x.row ≡ Some r) × Q r

  row_holds : (at : At) (r : RowsOrFault) → HoldIn r → Holds (row_by_row at r)
  row_holds at (Ok rs) h = h
  row_holds at (Err e) h = (e.0, refl, h)

  front_holds : (p : ℕ × Seen) (rest : RowsOrFault) → Q p.0 → HoldIn rest → HoldIn (in_front p rest)
  front_holds p (Ok rs) q h = (q, h)
  front_holds p (Err e) q h = h

  at_holds : (n : ℕ) (c : Result Seen CellFault) (rest : RowsOrFault) → Q n → HoldIn rest → HoldIn (at_row n c rest)
  at_holds n (Ok c) rest q h = front_holds (n, c) rest q h
  at_holds n (Err e) rest q h = q

  each_holds : (g : Seen → Result Seen CellFault) (rs : Rows) → AllNumbers Q rs → HoldIn (each_row g rs)
  each_holds g [] h = tt
  each_holds g (r ∷ rs) h = at_holds r.0 (g r.1) (each_row g rs) h.0 (each_holds g rs h.1)

  pair_holds : (g : Seen → Seen → Result Seen CellFault) (rs ss : Rows) → AllNumbers Q rs → HoldIn (each_pair g rs ss)
  pair_holds g [] ss h = tt
  pair_holds g (r ∷ rs) [] h = tt
  pair_holds g (r ∷ rs) (s ∷ ss) h = at_holds r.0 (g r.1 s.1) (each_pair g rs ss) h.0 (pair_holds g rs ss h.1)

  if_holds : (b : Bool) (r : ℕ × Seen) (rs : Rows) → Q r.0 → AllNumbers Q rs → AllNumbers Q (if b then r ∷ rs else rs)
  if_holds true r rs q h = (q, h)
  if_holds false r rs q h = h

  kept_holds : (rs : Rows) (ms : List Seen) → AllNumbers Q rs → AllNumbers Q (kept rs ms)
  kept_holds [] ms h = tt
  kept_holds (r ∷ rs) [] h = tt
  kept_holds (r ∷ rs) (m ∷ ms) h = if_holds (is_true m) r (kept rs ms) h.0 (kept_holds rs ms h.1)

  scans_hold : (s : Scan) (a : Kind) (before : List Seen) (rs : Rows) → AllNumbers Q rs → HoldIn (scanned_behind s a before rs)
  scans_hold s a before [] h = tt
  scans_hold s a before (r ∷ rs) h =
      let next : List Seen = before ++ r.1 ∷ [] in
      at_holds r.0 (or_inexact (fold_of s a next)) (scanned_behind s a next rs) h.0 (scans_hold s a next rs h.1)

  rows_of_holds : (x : Outcome) → Holds x → AllNumbers Q (rows_in x)
  rows_of_holds (rows rs) h = h
  rows_of_holds (scalar c) h = absurd h
  rows_of_holds (fault f) h = tt

  one_holds : (at : At) (op : Unary) (x : Outcome) → Holds x → Holds (elementwise_one at op x)
  one_holds at op (rows rs) h = row_holds at (each_row (unary_cell op) rs) (each_holds (unary_cell op) rs h)
  one_holds at op (scalar c) h = absurd h
  one_holds at op (fault f) h = h

  two_hold : (at : At) (op : Binary) (x y : Outcome) → Holds x → Holds y → Holds (elementwise_two at op x y)
  two_hold at op (rows rs) (rows ss) h g = row_holds at (each_pair (binary_cell op) rs ss) (pair_holds (binary_cell op) rs ss h)
  two_hold at op (rows rs) (scalar d) h g = absurd g
  two_hold at op (rows rs) (fault f) h g = g
  two_hold at op (scalar c) y h g = absurd h
  two_hold at op (fault f) y h g = h

  left_holds : (at : At) (op : Binary) (x : Outcome) (d : Seen) → Holds x → Holds (elementwise_two at op x (scalar d))
  left_holds at op (rows rs) d h = row_holds at (each_row (beside op false d) rs) (each_holds (beside op false d) rs h)
  left_holds at op (scalar c) d h = absurd h
  left_holds at op (fault f) d h = h

  right_holds : (at : At) (op : Binary) (x : Outcome) (d : Seen) → Holds x → Holds (elementwise_two at op (scalar d) x)
  right_holds at op (rows rs) d h = row_holds at (each_row (beside op true d) rs) (each_holds (beside op true d) rs h)
  right_holds at op (scalar c) d h = absurd h
  right_holds at op (fault f) d h = h

  module _ {columns : Columns} {so_far : ℕ → List Seen} {vs : List Vertex} {f : ℕ → Tall} {cut : ℕ → Bool} {h : ℕ → Outcome} (over : IsOver columns so_far vs f cut h) (can : AreCut f cut vs) (ordered : IsOrdered vs)
      (stored_hold : (i : ℕ) (v : Vertex) (s a : ℕ) → slice_get vs i ≡ Some v → cut i ≡ true → IsVariable v.made s a → Holds (columns s a)) where
    own_holds : (c : List Seen) (at : At) (op : Op) (args : List ℕ) → CanBeCut f cut (operation op) args → ((a : ℕ) → IsAmong args a → cut a ≡ true → Holds (h a)) → Holds (own_over c at op (map (value_over f h) args))
    own_holds c at (constant x) args k g = absurd k
    own_holds c at (unary op) [] k g = absurd k
    own_holds c at (unary op) (a ∷ []) k g = one_holds at op (h a) (g a (inl refl) k)
    own_holds c at (unary op) (a ∷ b ∷ args) k g = absurd k
    own_holds c at (binary op) [] k g = absurd k
    own_holds c at (binary op) (a ∷ []) k g = absurd k
    own_holds c at (binary op) (a ∷ b ∷ []) k g = elim k [
      | inl both ↦ two_hold at op (h a) (h b) (g a (inl refl) both.0) (g b (inr (inl refl)) both.1)
      | inr one ↦ elim one [
        | inl left ↦ subst (λ o. Holds (elementwise_two at op (h a) o)) (sym (over.known b left.1.0 ∙ left.1.1.1)) (left_holds at op (h a) left.1.1.0 (g a (inl refl) left.0))
        | inr right ↦ subst (λ o. Holds (elementwise_two at op o (h b))) (sym (over.known a right.0.0 ∙ right.0.1.1)) (right_holds at op (h b) right.0.1.0 (g b (inr (inl refl)) right.1))
      ]
    ]
    own_holds c at (binary op) (a ∷ b ∷ d ∷ args) k g = absurd k
    own_holds c at filter [] k g = absurd k
    own_holds c at filter (a ∷ []) k g = absurd k
    own_holds c at filter (a ∷ m ∷ []) k g = kept_holds (rows_in (h a)) (cells_in (h m)) (rows_of_holds (h a) (g a (inl refl) k.0))
    own_holds c at filter (a ∷ m ∷ d ∷ args) k g = absurd k
    own_holds c at (scan s) [] k g = absurd k
    own_holds c at (scan s) (a ∷ []) k g =
        row_holds at (scanned_behind s (kind_of (f a).shape.class) c (rows_in (h a))) (scans_hold s (kind_of (f a).shape.class) c (rows_in (h a)) (rows_of_holds (h a) (g a (inl refl) k)))
    own_holds c at (scan s) (a ∷ b ∷ args) k g = absurd k
    own_holds c at (reduce r) args k g = absurd k
    own_holds c at (head n) args k g = absurd k
    own_holds c at (tail n) args k g = absurd k
    own_holds c at distinct args k g = absurd k
    own_holds c at (group m part) args k g = absurd k

    unless_fault : (c : Option Fault) (y : Fault) (x : Outcome) → c ≡ Some y → unless c x ≡ fault y
    unless_fault None y x e = absurd (cc)
    unless_fault (Some z) y x e = ap (λ (o : Option Fault). unless o x) e

    fault_is : (x : Outcome) (y : Fault) → fault_of x ≡ Some y → x ≡ fault y
    fault_is (rows rs) y e = absurd (cc)
    fault_is (scalar c) y e = absurd (cc)
    fault_is (fault z) y e = ap (λ (o : Option Fault). unless o (fault z)) e

    made_holds : (i : ℕ) (v : Vertex) (m : Made) → slice_get vs i ≡ Some v → cut i ≡ true → v.made ≡ m → ((a : ℕ) → IsAmong v.args a → cut a ≡ true → Holds (h a)) → Holds (h i)
    made_holds i v (stored s a k) e c q g =
        let w : h i ≡ columns s a = subst (λ m. h i ≡ outcome_over columns (so_far i) v.at m (map (value_over f h) v.args)) q (over.made i v e c) in
        subst Holds (sym w) (stored_hold i v s a e c (subst (λ m. IsVariable m s a) (sym q) (refl, refl)))
    made_holds i v (operation op) e c q g = elim (none_or_some (least_in (value_over f h) v.args)) [
      | inl none ↦ subst Holds (sym (own_of over can i v op e c q none)) (own_holds (so_far i) v.at op v.args (subst (λ m. CanBeCut f cut m v.args) q (can i v e c)) g)
      | inr some ↦
          let w = least_one (fault_in (value_over f h)) v.args some.0 some.1 in
          let y : h i ≡ fault some.0 = made_is over can i v op e c q ∙ unless_fault (least_fault (map fault_of (outcomes (map (value_over f h) v.args)))) some.0 (own_over (so_far i) v.at op (map (value_over f h) v.args)) (ap least_fault (faults_of_values (value_over f h) v.args) ∙ some.1) in
          elim (true_or_false (cut w.0)) [
            | inl is_cut ↦ (let z : h w.0 ≡ fault some.0 = fault_is (h w.0) some.0 w.2 in subst Holds (z ∙ sym y) (g w.0 w.1 is_cut))
            | inr not_cut ↦ (let z : fault_of (h w.0) ≡ None = known_none over can i w.0 v e c w.1 not_cut in let u : fault_of (h w.0) ≡ Some some.0 = w.2 in absurd (cc))
          ]
    ]

    holds_below : (n i : ℕ) (v : Vertex) → i < n → slice_get vs i ≡ Some v → cut i ≡ true → Holds (h i)
    holds_below zero i v l e c = absurd (omega (arith, l))
    holds_below (suc n) i v l e c = made_holds i v v.made e c refl
        (λ a among is_cut.
        let less : a < i = below_among i v.args a (ordered i v e) among in
        let b = get_before vs i a v e less in
        holds_below n a b.0 (omega (arith, l, less)) b.1 is_cut)

    pub value_holds : (i : ℕ) (v : Vertex) → slice_get vs i ≡ Some v → cut i ≡ true → Holds (h i)
    value_holds i v e c = holds_below (suc i) i v (omega (arith)) e c

    pub fault_holds : (i : ℕ) (v : Vertex) (x : Fault) → slice_get vs i ≡ Some v → cut i ≡ true → fault_of (h i) ≡ Some x → (r : ℕ) × (x.row ≡ Some r) × Q r
    fault_holds i v x e c y = subst Holds (fault_is (h i) x y) (value_holds i v e c)

-- ---- faults of one expression go by rows

second_first : (a b c d : ℕ) (r : Ordering) → a ≡ b → d < c → is_lt (ordering_then (nat_cmp a b) (ordering_then (nat_cmp c d) r)) ≡ false
second_first a b c d r e h = grind (arith, nat_tests)

pub later_row : (x y : Fault) (r s : ℕ) → x.number ≡ y.number → x.row ≡ Some r → y.row ≡ Some s → r < s → precedes y x ≡ false
later_row x y r s n p q l =
    let a : row_place x.row ≡ r + 1 = ap row_place p in
    let b : row_place y.row ≡ s + 1 = ap row_place q in
    second_first y.number x.number (row_place y.row) (row_place x.row) _ (sym n) (omega (arith, a, b, l))
