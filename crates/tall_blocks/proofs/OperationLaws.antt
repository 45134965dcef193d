-- An operation over operands that have the rows of two parts: its outcome is that over the first part, and then that over
-- the second.
use Rattle.std.specs.Prelude.{◌≡◌, refl, ℕ, Bool, true, false, Ok, Err, List, [], ◌∷◌, ◌++◌, length, map}
use Rattle.std.proofs.Common.{ap, sym, subst, ◌∙◌, inl, inr}
use Rattle.std.proofs.lemmas.List.{map-append, length-map}
use Rattle.tall_value.specs.declared.functions.Scan.{Scan}
use Rattle.tall_value.specs.declared.operators.Binary.{Binary}
use Rattle.tall_value.specs.Cells.{Seen}
use Rattle.tall_value.specs.CellOperators.{unary_cell, binary_cell}
use Rattle.tall_value.specs.Classes.{kind_of}
use Rattle.tall_value.specs.Columns.{cells}
use Rattle.tall_value.specs.Elementwise.{unary_rows, binary_rows, scalar_rows, beside}
use Rattle.tall_value.specs.Filters.{kept}
use Rattle.tall_semantics.specs.Operations.{Op, constant, unary, binary, filter, reduce, scan, head, tail, distinct, group, operation}
use Rattle.tall_semantics.specs.Faults.{At}
use Rattle.tall_semantics.specs.Outcomes.{Outcome, rows, scalar, fault, rows_in, cells_in, row_by_row, elementwise_one, elementwise_two}
use Rattle.tall_semantics.specs.Talls.{Tall}
use Rattle.tall_semantics.specs.Deferred.{IsAmong}
use Rattle.tall_blocks.specs.Carries.{Rows, RowsOrFault, rows_joined, scanned_behind}
use Rattle.tall_blocks.specs.Cut.{CanBeCut}
use Rattle.tall_blocks.specs.ValuesOver.{own_over, value_over, AreParts}
use Rattle.tall_blocks.proofs.RowLaws.{outcomes_joined, by_row, each_row_then, each_pair_then, kept_then, scan_then}

-- ---- outcomes of columns

-- it has rows or a fault, and is no scalar
abbrev pub IsColumn : Outcome → Type 0
IsColumn (rows rs) = Unit {0}
IsColumn (scalar c) = ⊥
IsColumn (fault f) = Unit {0}

rows_column : (at : At) (r : RowsOrFault) → IsColumn (row_by_row at r)
rows_column at (Ok rs) = tt
rows_column at (Err e) = tt

-- x is what y and then z give
pub record Joined (x y z : Outcome) : Type 0 where
  pub joined : x ≡ outcomes_joined y z
  pub front : IsColumn y
  pub back : IsColumn z

join_rows : (at : At) (x y z : RowsOrFault) → x ≡ rows_joined y z → Joined (row_by_row at x) (row_by_row at y) (row_by_row at z)
join_rows at x y z e = record { joined = ap (row_by_row at) e ∙ by_row at y z; front = rows_column at y; back = rows_column at z }

-- a function of one operand with two parts, of two such operands, and of one beside a scalar
join_one : (F G H : Outcome → Outcome) (x y z : Outcome) → ((rs ss : Rows) → y ≡ rows rs → Joined (F (rows (rs ++ ss))) (G (rows rs)) (H (rows ss))) → AreParts x y z → Joined (F x) (G y) (H z)
join_one F G H x y z law p =
    let a : Joined (F (rows (p.0 ++ p.1))) (G (rows p.0)) (H (rows p.1)) = law p.0 p.1 p.3 in
    let b : Joined (F x) (G (rows p.0)) (H (rows p.1)) = subst (λ o. Joined (F o) (G (rows p.0)) (H (rows p.1))) (sym p.2) a in
    let c : Joined (F x) (G y) (H (rows p.1)) = subst (λ o. Joined (F x) (G o) (H (rows p.1))) (sym p.3) b in
    subst (λ o. Joined (F x) (G y) (H o)) (sym p.4) c

join_two : (F : Outcome → Outcome → Outcome) → ((rs ss ms ns : Rows) → length rs ≡ length ms → Joined (F (rows (rs ++ ss)) (rows (ms ++ ns))) (F (rows rs) (rows ms)) (F (rows ss) (rows ns)))
    → (x y z u v w : Outcome) → AreParts x y z → AreParts u v w → ((rs ms : Rows) → y ≡ rows rs → v ≡ rows ms → length rs ≡ length ms) → Joined (F x u) (F y v) (F z w)
join_two F law x y z u v w p q aligned =
    join_one (λ o. F o u) (λ o. F o v) (λ o. F o w) x y z
    (λ rs ss e. join_one (F (rows (rs ++ ss))) (F (rows rs)) (F (rows ss)) u v w (λ ms ns d. law rs ss ms ns (aligned rs ms e d)) q)
    p

join_beside : (F : Outcome → Outcome → Outcome) (s : Seen) → ((rs ss : Rows) → Joined (F (rows (rs ++ ss)) (scalar s)) (F (rows rs) (scalar s)) (F (rows ss) (scalar s)))
    → (x y z u v w : Outcome) → AreParts x y z → u ≡ scalar s → v ≡ scalar s → w ≡ scalar s → Joined (F x u) (F y v) (F z w)
join_beside F s law x y z u v w p d e g =
    let a : Joined (F x (scalar s)) (F y (scalar s)) (F z (scalar s)) = join_one (λ o. F o (scalar s)) (λ o. F o (scalar s)) (λ o. F o (scalar s)) x y z (λ rs ss h. law rs ss) p in
    let b : Joined (F x u) (F y (scalar s)) (F z (scalar s)) = subst (λ o. Joined (F x o) (F y (scalar s)) (F z (scalar s))) (sym d) a in
    let c : Joined (F x u) (F y v) (F z (scalar s)) = subst (λ o. Joined (F x u) (F y o) (F z (scalar s))) (sym e) b in
    subst (λ o. Joined (F x u) (F y v) (F z o)) (sym g) c

kept_cells : (rs ss ms ns : Rows) → length rs ≡ length ms → kept (rs ++ ss) (cells (ms ++ ns)) ≡ kept rs (cells ms) ++ kept ss (cells ns)
kept_cells rs ss ms ns e =
    ap (kept (rs ++ ss)) (map-append (λ (r : ℕ × Seen). r.1) ms ns) ∙ kept_then rs ss (cells ms) (cells ns) (e ∙ sym (length-map ms (λ (r : ℕ × Seen). r.1)))

abbrev masked_rows : Outcome → Outcome → Outcome
masked_rows x m = rows (kept (rows_in x) (cells_in m))

-- ---- by the operation; over both parts the outcomes are h, over the first g, over the second k
module _ (f : ℕ → Tall) (cut : ℕ → Bool) (h g k : ℕ → Outcome) where
  abbrev PartsAt : ℕ → Type 0
  PartsAt a = AreParts (h a) (g a) (k a)

  abbrev SameAt : ℕ → Type 0
  SameAt a = (h a ≡ (f a).outcome) × (g a ≡ (f a).outcome) × (k a ≡ (f a).outcome)

  abbrev EvenAt : List ℕ → Type 0
  EvenAt args = (a b : ℕ) (rs ms : Rows) → args ≡ a ∷ b ∷ [] → cut a ≡ true → cut b ≡ true → g a ≡ rows rs → g b ≡ rows ms → length rs ≡ length ms

  abbrev CarryAt : List Seen → List Seen → Op → List ℕ → Type 0
  CarryAt c d op args = (s : Scan) (a : ℕ) → op ≡ scan s → args ≡ a ∷ [] → d ≡ c ++ cells_in (g a)

  scan_joined : (c d : List Seen) (at : At) (s : Scan) (a : ℕ) → PartsAt a → d ≡ c ++ cells_in (g a)
      → Joined (row_by_row at (scanned_behind s (kind_of (f a).shape.class) c (rows_in (h a)))) (row_by_row at (scanned_behind s (kind_of (f a).shape.class) c (rows_in (g a)))) (row_by_row at (scanned_behind s (kind_of (f a).shape.class) d (rows_in (k a))))
  scan_joined c d at s a p e =
      let kind = kind_of (f a).shape.class in
      join_one (λ o. row_by_row at (scanned_behind s kind c (rows_in o))) (λ o. row_by_row at (scanned_behind s kind c (rows_in o))) (λ o. row_by_row at (scanned_behind s kind d (rows_in o))) (h a) (g a) (k a)
      (λ rs ss q.
      let n : d ≡ c ++ cells rs = e ∙ ap (λ o. c ++ cells_in o) q in
      join_rows at (scanned_behind s kind c (rs ++ ss)) (scanned_behind s kind c rs) (scanned_behind s kind d ss)
      (scan_then s kind c rs ss ∙ ap (λ o. rows_joined (scanned_behind s kind c rs) (scanned_behind s kind o ss)) (sym n)))
      p

  binary_joined : (at : At) (op : Binary) (a b : ℕ) → CanBeCut f cut (operation (binary op)) (a ∷ b ∷ [])
      → ((i : ℕ) → IsAmong (a ∷ b ∷ []) i → cut i ≡ true → PartsAt i) → ((i : ℕ) → cut i ≡ false → SameAt i) → EvenAt (a ∷ b ∷ [])
      → Joined (elementwise_two at op (h a) (h b)) (elementwise_two at op (g a) (g b)) (elementwise_two at op (k a) (k b))
  binary_joined at op a b can parts same aligned = elim can [
    | inl both ↦
        join_two (elementwise_two at op) (λ rs ss ms ns e. join_rows at (binary_rows op (rs ++ ss) (ms ++ ns)) (binary_rows op rs ms) (binary_rows op ss ns) (each_pair_then (binary_cell op) rs ss ms ns e))
        (h a) (g a) (k a) (h b) (g b) (k b) (parts a (inl refl) both.0) (parts b (inr (inl refl)) both.1) (λ rs ms d e. aligned a b rs ms refl both.0 both.1 d e)
    | inr one ↦ elim one [
      | inl left ↦
          let s : Seen = left.1.1.0 in
          let e = same b left.1.0 in
          join_beside (elementwise_two at op) s (λ rs ss. join_rows at (scalar_rows op false s (rs ++ ss)) (scalar_rows op false s rs) (scalar_rows op false s ss) (each_row_then (beside op false s) rs ss))
          (h a) (g a) (k a) (h b) (g b) (k b) (parts a (inl refl) left.0) (e.0 ∙ left.1.1.1) (e.1 ∙ left.1.1.1) (e.2 ∙ left.1.1.1)
      | inr right ↦
          let s : Seen = right.0.1.0 in
          let e = same a right.0.0 in
          join_beside (λ x y. elementwise_two at op y x) s (λ rs ss. join_rows at (scalar_rows op true s (rs ++ ss)) (scalar_rows op true s rs) (scalar_rows op true s ss) (each_row_then (beside op true s) rs ss))
          (h b) (g b) (k b) (h a) (g a) (k a) (parts b (inr (inl refl)) right.1) (e.0 ∙ right.0.1.1) (e.1 ∙ right.0.1.1) (e.2 ∙ right.0.1.1)
    ]
  ]

  pub own_joined : (c d : List Seen) (at : At) (op : Op) (args : List ℕ) → CanBeCut f cut (operation op) args
      → ((i : ℕ) → IsAmong args i → cut i ≡ true → PartsAt i) → ((i : ℕ) → cut i ≡ false → SameAt i) → EvenAt args → CarryAt c d op args
      → Joined (own_over c at op (map (value_over f h) args)) (own_over c at op (map (value_over f g) args)) (own_over d at op (map (value_over f k) args))
  own_joined c d at (constant x) args can parts same aligned carry = absurd can
  own_joined c d at (unary op) [] can parts same aligned carry = absurd can
  own_joined c d at (unary op) (a ∷ []) can parts same aligned carry =
      join_one (elementwise_one at op) (elementwise_one at op) (elementwise_one at op) (h a) (g a) (k a)
      (λ rs ss e. join_rows at (unary_rows op (rs ++ ss)) (unary_rows op rs) (unary_rows op ss) (each_row_then (unary_cell op) rs ss)) (parts a (inl refl) can)
  own_joined c d at (unary op) (a ∷ b ∷ args) can parts same aligned carry = absurd can
  own_joined c d at (binary op) [] can parts same aligned carry = absurd can
  own_joined c d at (binary op) (a ∷ []) can parts same aligned carry = absurd can
  own_joined c d at (binary op) (a ∷ b ∷ []) can parts same aligned carry = binary_joined at op a b can parts same aligned
  own_joined c d at (binary op) (a ∷ b ∷ e ∷ args) can parts same aligned carry = absurd can
  own_joined c d at filter [] can parts same aligned carry = absurd can
  own_joined c d at filter (a ∷ []) can parts same aligned carry = absurd can
  own_joined c d at filter (a ∷ m ∷ []) can parts same aligned carry =
      join_two masked_rows (λ rs ss ms ns e. record { joined = ap rows (kept_cells rs ss ms ns e); front = tt; back = tt })
      (h a) (g a) (k a) (h m) (g m) (k m) (parts a (inl refl) can.0) (parts m (inr (inl refl)) can.1) (λ rs ms p q. aligned a m rs ms refl can.0 can.1 p q)
  own_joined c d at filter (a ∷ m ∷ e ∷ args) can parts same aligned carry = absurd can
  own_joined c d at (scan s) [] can parts same aligned carry = absurd can
  own_joined c d at (scan s) (a ∷ []) can parts same aligned carry = scan_joined c d at s a (parts a (inl refl) can) (carry s a refl refl)
  own_joined c d at (scan s) (a ∷ b ∷ args) can parts same aligned carry = absurd can
  own_joined c d at (reduce r) args can parts same aligned carry = absurd can
  own_joined c d at (head n) args can parts same aligned carry = absurd can
  own_joined c d at (tail n) args can parts same aligned carry = absurd can
  own_joined c d at distinct args can parts same aligned carry = absurd can
  own_joined c d at (group m part) args can parts same aligned carry = absurd can
