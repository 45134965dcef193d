-- A value without a fault is the one that its tree tells, and has the rows of its space.
use Rattle.std.specs.Prelude.{◌≡◌, refl, ℕ, zero, suc, ◌<◌, ◌-◌, true, false, Option, None, Some, Result, Ok, Err, List, [], ◌∷◌, length, map, take, drop, get_or, slice_get}
use Rattle.std.proofs.Common.{ap, sym, subst, ◌∙◌, arith, inl, inr}
use Rattle.std.proofs.lemmas.List.{take-map, drop-map, length-map}
use Rattle.tall_value.specs.declared.class.Class.{Class}
use Rattle.tall_value.specs.declared.class.Kind.{Kind}
use Rattle.tall_value.specs.declared.faults.CellFault.{CellFault}
use Rattle.tall_value.specs.declared.faults.FaultKind.{FaultKind}
use Rattle.tall_value.specs.declared.functions.Method.{Method}
use Rattle.tall_value.specs.declared.functions.Method.TheVariants.{Count, Sum, SumNative, Min, Max, Nnz, Nummissing}
use Rattle.tall_value.specs.declared.operators.Binary.{Binary}
use Rattle.tall_value.specs.declared.operators.Unary.{Unary}
use Rattle.tall_value.specs.Cells.{Seen}
use Rattle.tall_value.specs.CellOperators.{unary_cell, binary_cell}
use Rattle.tall_value.specs.Columns.{cells, numbered}
use Rattle.tall_value.specs.Distinct.{distinct_rows}
use Rattle.tall_value.specs.Elementwise.{in_front, unary_rows, binary_rows, scalar_rows, beside}
use Rattle.tall_value.specs.Filters as filters
use Rattle.tall_value.specs.Groups.{group_keys, group_counts, group_values, group_value, group_data}
use Rattle.tall_value.specs.GroupSummary.{of_groups, value_columns}
use Rattle.tall_value.specs.Reductions.{reduced, or_fault}
use Rattle.tall_value.specs.Scans.{scanned}
use Rattle.tall_value.specs.Classes.{kind_of}
use Rattle.tall_semantics.specs.Operations.{Op, constant, unary, binary, filter, reduce, scan, head, tail, distinct, group, Part, keys, counts, values, Made, stored, operation}
use Rattle.tall_semantics.specs.Spaces.{Space, single, rows_of, filtered, first, last, groups, is_single}
use Rattle.tall_semantics.specs.Spaces as spaces
use Rattle.tall_semantics.specs.Equality.{part_place, same_space}
use Rattle.tall_semantics.specs.Faults.{At, Fault, least_fault}
use Rattle.tall_semantics.specs.Outcomes.{Outcome, rows, scalar, fault, fault_of, rows_in, cells_in, row_by_row, alone, elementwise_one, elementwise_two, part_of_group, grouped}
use Rattle.tall_semantics.specs.Shapes.{Shape, ShapeRefusal, bad_argument, common, masked, on_column, place_of, tree_over, shape}
use Rattle.tall_semantics.specs.Shapes as placing
use Rattle.tall_semantics.specs.Talls.{Tall, Columns, shapes, outcomes, unless, own_outcome, outcome, with_shape, tall, stored_tall}
use Rattle.tall_semantics.specs.Deferred.{Vertex, IsMeaning, IsOrdered, IsAmong, fault_in}
use Rattle.tall_semantics.specs.InOrder.{or_blank}
use Rattle.tall_semantics.specs.RowsOfSpaces.{nowhere, tree_tall, numbers_in, row_numbers, AreColumns, Fits}
use Rattle.tall_semantics.proofs.EqualityLaws.{spaces_decided}
use Rattle.tall_semantics.proofs.FaultLaws.{same_own}
use Rattle.tall_semantics.proofs.FitLaws.{FitsTo, AllFit, space_of, fits_own, to_space, from_space}
use Rattle.tall_semantics.proofs.MeaningLaws.{tall_ok, tall_shape, stored_value, made_value, none_at, none_under, own_value, tree_value, no_fault}
use Rattle.tall_semantics.proofs.OriginLaws.{get_before, below_among}
use Rattle.tall_semantics.proofs.RowNumberLaws.{numbers, Rows, ok_rows, ok_cells, each_row_numbers, each_pair_numbers, scan_numbers, kept_numbers, numbered_map, all_values_numbers}
use Rattle.tall_semantics.proofs.ShapeLaws.{space_ok, place_ok, shape_ok, refused, inside, tested, column_is, placed_is, shaped_is, groups_of}
use Rattle.tall_semantics.proofs.TreeLaws.{same_tall, two_at_most}

unless_is : (c : Option Fault) (x : Outcome) → c ≡ None → unless c x ≡ x
unless_is None x h = refl
unless_is (Some f) x h = absurd (cc)

with_is : (x : Outcome) (r : Result Shape ShapeRefusal) (s : Shape) → r ≡ shape_ok s → with_shape x r ≡ tall_ok (record { shape = s; outcome = x })
with_is x r s h = ap (with_shape x) h

-- an accepted operation over operands without a fault is the same at any other expression, where it has no fault itself
elsewhere : (at other : At) (op : Op) (xs : List Tall) (t : Tall) → shape op (shapes xs) ≡ shape_ok t.shape → least_fault (map fault_of (outcomes xs)) ≡ None → t.outcome ≡ own_outcome at op xs → fault_of t.outcome ≡ None → tall other op xs ≡ tall_ok t
unfolding tall
elsewhere at other op xs t s n o h =
    let own : own_outcome at op xs ≡ own_outcome other op xs = same_own at other op xs (ap fault_of (sym o) ∙ h) in
    let same : outcome other op xs ≡ t.outcome = unless_is (least_fault (map fault_of (outcomes xs))) (own_outcome other op xs) n ∙ (sym own ∙ sym o) in
    with_is (outcome other op xs) (shape op (shapes xs)) t.shape s ∙ ap tall_ok (same_tall (record { shape = t.shape; outcome = outcome other op xs }) t refl same)

-- ---- what the tree tells

AllTold : Columns → List Tall → Type 0
AllTold columns [] = Unit {0}
AllTold columns (x ∷ xs) = (tree_tall columns x.shape.tree ≡ x) × AllTold columns xs

told : (columns : Columns) (op : Op) (xs : List Tall) (t : Tall) → AllTold columns xs → ((x y z : Tall) (ws : List Tall) → xs ≡ x ∷ y ∷ z ∷ ws → ⊥) → tall nowhere op xs ≡ tall_ok t → tree_tall columns (tree_over op (shapes xs)) ≡ t
unfolding AllTold
told columns op [] t a n h = ap or_blank h
told columns op (x ∷ []) t a n h = ap (λ y. or_blank (tall nowhere op (y ∷ []))) a.0 ∙ ap or_blank h
told columns op (x ∷ y ∷ []) t a n h =
    ap (λ z. or_blank (tall nowhere op (z ∷ tree_tall columns y.shape.tree ∷ []))) a.0
    ∙ (ap (λ z. or_blank (tall nowhere op (x ∷ z ∷ []))) a.1.0 ∙ ap or_blank h)
told columns op (x ∷ y ∷ z ∷ ws) t a n h = absurd (n x y z ws refl)

-- ---- numbers of outcomes

pub num_rows : (at : At) (r : Result Rows (ℕ × CellFault)) (ns : List ℕ) → ((outs : Rows) → r ≡ ok_rows outs → numbers outs ≡ ns) → fault_of (row_by_row at r) ≡ None → numbers_in (row_by_row at r) ≡ ns
num_rows at (Ok rs) ns h n = h rs refl
num_rows at (Err e) ns h n = absurd (cc)

pub num_alone : (at : At) (r : Result Seen FaultKind) → fault_of (alone at r) ≡ None → numbers_in (alone at r) ≡ 1 ∷ []
num_alone at (Ok c) n = refl
num_alone at (Err k) n = absurd (cc)

pub num_one : (at : At) (op : Unary) (x : Outcome) → fault_of x ≡ None → fault_of (elementwise_one at op x) ≡ None → numbers_in (elementwise_one at op x) ≡ numbers_in x
num_one at op (rows rs) e n = num_rows at (unary_rows op rs) (numbers rs) (λ outs h. each_row_numbers (unary_cell op) rs outs h) n
num_one at op (scalar c) e n = num_alone at (or_fault (unary_cell op c)) n
num_one at op (fault f) e n = absurd (cc)

single_is : (s : Space) → is_single s ≡ true → s ≡ single
single_is single h = refl
single_is s h = absurd (cc)

pub common_is : (s t u : Space) → common s t ≡ space_ok u → (is_single s ≡ false → s ≡ u) × (is_single t ≡ false → t ≡ u) × (is_single s ≡ true → is_single t ≡ true → single ≡ u)
common_is single t u h = (λ e. absurd (cc), λ e. inside t u h, λ e g. sym (single_is t g) ∙ inside t u h)
common_is s single u h = (λ e. inside s u h, λ e. absurd (cc), λ e g. absurd (cc))
common_is s t u h =
    let p = tested (same_space s t) s u h in
    (λ e. p.1, λ e. sym ((spaces_decided s t).0 p.0) ∙ p.1, λ e g. absurd (cc))

module _ (columns : Columns) (of_stores : ℕ → List ℕ) where
  abbrev N : Space → List ℕ
  N s = row_numbers columns of_stores s

  two_numbers : (at : At) (op : Binary) (x y : Outcome) (s t u : Space) → common s t ≡ space_ok u → FitsTo (is_single s) x → FitsTo (is_single t) y
      → numbers_in x ≡ N s → numbers_in y ≡ N t → fault_of x ≡ None → fault_of y ≡ None → fault_of (elementwise_two at op x y) ≡ None → numbers_in (elementwise_two at op x y) ≡ N u
  two_numbers at op (rows rs) (rows ss) s t u c f g m n e h z =
      let k = common_is s t u c in
      num_rows at (binary_rows op rs ss) (N u) (λ outs q. each_pair_numbers (binary_cell op) rs ss outs (m ∙ (ap N (k.0 f ∙ sym (k.1 g)) ∙ sym n)) q ∙ (m ∙ ap N (k.0 f))) z
  two_numbers at op (rows rs) (scalar d) s t u c f g m n e h z =
      let k = common_is s t u c in
      num_rows at (scalar_rows op false d rs) (N u) (λ outs q. each_row_numbers (beside op false d) rs outs q ∙ (m ∙ ap N (k.0 f))) z
  two_numbers at op (scalar d) (rows ss) s t u c f g m n e h z =
      let k = common_is s t u c in
      num_rows at (scalar_rows op true d ss) (N u) (λ outs q. each_row_numbers (beside op true d) ss outs q ∙ (n ∙ ap N (k.1 g))) z
  two_numbers at op (scalar c1) (scalar d) s t u c f g m n e h z =
      let k = common_is s t u c in
      num_alone at (or_fault (binary_cell op c1 d)) z ∙ ap N (k.2 f g)
  two_numbers at op (fault x) y s t u c f g m n e h z = absurd (cc)
  two_numbers at op (rows rs) (fault y) s t u c f g m n e h z = absurd (cc)
  two_numbers at op (scalar d) (fault y) s t u c f g m n e h z = absurd (cc)

-- ---- groups

abbrev ok_columns : List (List Seen) → Result (List (List Seen)) FaultKind
ok_columns cs = Ok cs

part_numbers : (at : At) (part : Part) (ks cs : List Seen) (r : Result (List (List Seen)) FaultKind) → numbers (numbered 1 cs) ≡ numbers (numbered 1 ks)
    → ((vs : List (List Seen)) → r ≡ ok_columns vs → part_place part ≡ 2 → numbers (get_or (map (numbered 1) vs) 0 []) ≡ numbers (numbered 1 ks))
    → fault_of (part_of_group at part (of_groups (in_front ks (in_front cs r)))) ≡ None
    → numbers_in (part_of_group at part (of_groups (in_front ks (in_front cs r)))) ≡ numbers (numbered 1 ks)
part_numbers at part ks cs (Err k) c h n = absurd (cc)
part_numbers at keys ks cs (Ok vs) c h n = refl
part_numbers at counts ks cs (Ok vs) c h n = c
part_numbers at values ks cs (Ok vs) c h n = h vs refl refl

columns_inside : (us vs : List (List Seen)) → ok_columns us ≡ ok_columns vs → us ≡ vs
columns_inside us vs h = ap (λ r. elim r [ Ok z ↦ z | Err e ↦ us ]) h

abbrev one_column : Result (List Seen) FaultKind → Result (List (List Seen)) FaultKind
one_column r = elim r [ Ok vs ↦ Ok (vs ∷ []) | Err e ↦ Err e ]

first_column : (r : Result (List Seen) FaultKind) (ns : List ℕ) → ((vs : List Seen) → r ≡ ok_cells vs → numbers (numbered 1 vs) ≡ ns) → (us : List (List Seen)) → one_column r ≡ ok_columns us → numbers (get_or (map (numbered 1) us) 0 []) ≡ ns
first_column (Ok vs) ns h us e = ap (λ (xs : List (List Seen)). numbers (get_or (map (numbered 1) xs) 0 [])) (sym (columns_inside (vs ∷ []) us e)) ∙ h vs refl
first_column (Err k) ns h us e = absurd (cc)

abbrev HasData : Method → Type 0
HasData Count = ⊥
HasData m = Unit {0}

method_numbers : (m : Method) (a : Kind) (ks ds : List Seen) → HasData m → (us : List (List Seen)) → value_columns m a ks ds ≡ ok_columns us → numbers (get_or (map (numbered 1) us) 0 []) ≡ numbers (numbered 1 (group_keys ks))
method_numbers Count a ks ds h us e = absurd h
method_numbers Sum a ks ds h us e = first_column (group_values Sum a ks ds) _ (λ vs q. all_values_numbers 1 (λ key. group_value Sum a (group_data key ks ds)) (group_keys ks) vs q) us e
method_numbers SumNative a ks ds h us e = first_column (group_values SumNative a ks ds) _ (λ vs q. all_values_numbers 1 (λ key. group_value SumNative a (group_data key ks ds)) (group_keys ks) vs q) us e
method_numbers Min a ks ds h us e = first_column (group_values Min a ks ds) _ (λ vs q. all_values_numbers 1 (λ key. group_value Min a (group_data key ks ds)) (group_keys ks) vs q) us e
method_numbers Max a ks ds h us e = first_column (group_values Max a ks ds) _ (λ vs q. all_values_numbers 1 (λ key. group_value Max a (group_data key ks ds)) (group_keys ks) vs q) us e
method_numbers Nnz a ks ds h us e = first_column (group_values Nnz a ks ds) _ (λ vs q. all_values_numbers 1 (λ key. group_value Nnz a (group_data key ks ds)) (group_keys ks) vs q) us e
method_numbers Nummissing a ks ds h us e = first_column (group_values Nummissing a ks ds) _ (λ vs q. all_values_numbers 1 (λ key. group_value Nummissing a (group_data key ks ds)) (group_keys ks) vs q) us e

-- the part is no column of data, or there are data
abbrev Served : Method → Part → Type 0
Served m part = part_place part ≡ 2 → HasData m

group_numbers : (at : At) (m : Method) (part : Part) (a : Kind) (ks ds : Rows) → Served m part → fault_of (grouped at m part a ks ds) ≡ None → numbers_in (grouped at m part a ks ds) ≡ numbers (numbered 1 (group_keys (cells ks)))
group_numbers at m part a ks ds served n =
    part_numbers at part (group_keys (cells ks)) (group_counts (cells ks)) (value_columns m a (cells ks) (cells ds)) (numbered_map 1 _ (group_keys (cells ks)))
    (λ us e q. method_numbers m a (cells ks) (cells ds) (served q) us e) n

served_one : (m : Method) (part : Part) (g : Shape) (p : Class × Space) → placing.counted m part g ≡ place_ok p → Served m part
served_one Count keys g p h e = absurd (cc)
served_one Count counts g p h e = absurd (cc)
served_one m part g p h e = absurd (refused p h)

served_two : (m : Method) (part : Part) (g v : Shape) (p : Class × Space) → placing.summary m part g v ≡ place_ok p → Served m part
served_two Count part g v p h e = absurd (refused p h)
served_two Sum part g v p h e = tt
served_two SumNative part g v p h e = tt
served_two Min part g v p h e = tt
served_two Max part g v p h e = tt
served_two Nnz part g v p h e = tt
served_two Nummissing part g v p h e = tt

-- ---- operation by operation

module _ (columns : Columns) (of_stores : ℕ → List ℕ) where
  -- a value without a fault that has the rows of its space, and is what its tree tells
  record Good (x : Tall) : Type 0 where
    fits : Fits x.shape x.outcome
    none : fault_of x.outcome ≡ None
    num : numbers_in x.outcome ≡ row_numbers columns of_stores x.shape.space
    told : tree_tall columns x.shape.tree ≡ x

  AllGood : List Tall → Type 0
  AllGood [] = Unit {0}
  AllGood (x ∷ xs) = Good x × AllGood xs

  own_numbers : (at : At) (op : Op) (xs : List Tall) (p : Class × Space) → place_of op (shapes xs) ≡ place_ok p → AllGood xs → fault_of (own_outcome at op xs) ≡ None → numbers_in (own_outcome at op xs) ≡ row_numbers columns of_stores p.1
  unfolding AllGood
  own_numbers at (constant c) [] p h a n = ap (row_numbers columns of_stores) (space_of _ single p h)
  own_numbers at (constant c) (x ∷ xs) p h a n = absurd (refused p h)
  own_numbers at (binary op) [] p h a n = absurd (refused p h)
  own_numbers at (binary op) (x ∷ []) p h a n = absurd (refused p h)
  own_numbers at (binary op) (x ∷ y ∷ []) p h a n =
      two_numbers columns of_stores at op x.outcome y.outcome x.shape.space y.shape.space p.1 (placed_is _ (common x.shape.space y.shape.space) p h)
      (from_space x.shape x.outcome a.0.fits) (from_space y.shape y.outcome a.1.0.fits) a.0.num a.1.0.num a.0.none a.1.0.none n
  own_numbers at (binary op) (x ∷ y ∷ z ∷ xs) p h a n = absurd (refused p h)
  own_numbers at (unary op) [] p h a n = absurd (refused p h)
  own_numbers at (unary op) (x ∷ []) p h a n =
      num_one at op x.outcome a.0.none n ∙ (a.0.num ∙ ap (row_numbers columns of_stores) (inside x.shape.space p.1 (placed_is _ (space_ok x.shape.space) p h)))
  own_numbers at (unary op) (x ∷ y ∷ xs) p h a n = absurd (refused p h)
  own_numbers at filter [] p h a n = absurd (refused p h)
  own_numbers at filter (x ∷ []) p h a n = absurd (refused p h)
  own_numbers at filter (x ∷ m ∷ []) p h a n =
      let q = placed_is _ (masked x.shape.space m.shape.space m.shape.tree) p (column_is m.shape _ p (column_is x.shape _ p h)) in
      kept_numbers (rows_in x.outcome) (cells_in m.outcome)
      ∙ (ap (λ ns. filters.kept ns (cells_in m.outcome)) a.0.num
      ∙ (ap (λ (t : Tall). filters.kept (row_numbers columns of_stores x.shape.space) (cells_in t.outcome)) (sym a.1.0.told)
      ∙ ap (row_numbers columns of_stores) (tested (same_space x.shape.space m.shape.space) (filtered x.shape.space m.shape.tree) p.1 q).1))
  own_numbers at filter (x ∷ m ∷ z ∷ xs) p h a n = absurd (refused p h)
  own_numbers at (reduce r) [] p h a n = absurd (refused p h)
  own_numbers at (reduce r) (x ∷ []) p h a n =
      num_alone at (reduced r (kind_of x.shape.class) (cells_in x.outcome)) n ∙ ap (row_numbers columns of_stores) (inside single p.1 (placed_is _ (space_ok single) p h))
  own_numbers at (reduce r) (x ∷ y ∷ xs) p h a n = absurd (refused p h)
  own_numbers at (scan s) [] p h a n = absurd (refused p h)
  own_numbers at (scan s) (x ∷ []) p h a n =
      num_rows at (scanned s (kind_of x.shape.class) (rows_in x.outcome)) (numbers (rows_in x.outcome)) (λ outs q. scan_numbers s (kind_of x.shape.class) (rows_in x.outcome) outs q) n
      ∙ (a.0.num ∙ ap (row_numbers columns of_stores) (inside x.shape.space p.1 (placed_is _ (space_ok x.shape.space) p (column_is x.shape _ p h))))
  own_numbers at (scan s) (x ∷ y ∷ xs) p h a n = absurd (refused p h)
  own_numbers at (head k) [] p h a n = absurd (refused p h)
  own_numbers at (head k) (x ∷ []) p h a n =
      sym (take-map (λ (r : ℕ × Seen). r.0) k (rows_in x.outcome)) ∙ (ap (take k) a.0.num ∙ ap (row_numbers columns of_stores) (space_of _ (first k x.shape.space) p (column_is x.shape _ p h)))
  own_numbers at (head k) (x ∷ y ∷ xs) p h a n = absurd (refused p h)
  own_numbers at (tail k) [] p h a n = absurd (refused p h)
  own_numbers at (tail k) (x ∷ []) p h a n =
      sym (drop-map (λ (r : ℕ × Seen). r.0) (length (rows_in x.outcome) - k) (rows_in x.outcome))
      ∙ (ap (λ l. drop (l - k) (numbers_in x.outcome)) (sym (length-map (rows_in x.outcome) (λ (r : ℕ × Seen). r.0)))
      ∙ (ap (λ (ns : List ℕ). drop (length ns - k) ns) a.0.num ∙ ap (row_numbers columns of_stores) (space_of _ (last k x.shape.space) p (column_is x.shape _ p h))))
  own_numbers at (tail k) (x ∷ y ∷ xs) p h a n = absurd (refused p h)
  own_numbers at distinct [] p h a n = absurd (refused p h)
  own_numbers at distinct (x ∷ []) p h a n =
      ap (λ (t : Tall). numbers_in (rows (distinct_rows (cells_in t.outcome)))) (sym a.0.told) ∙ ap (row_numbers columns of_stores) (space_of _ (spaces.distinct x.shape.tree) p (column_is x.shape _ p h))
  own_numbers at distinct (x ∷ y ∷ xs) p h a n = absurd (refused p h)
  own_numbers at (group m part) [] p h a n = absurd (refused p h)
  own_numbers at (group m part) (g ∷ []) p h a n =
      let w = groups_of m part g.shape [] p h in
      group_numbers at m part (kind_of g.shape.class) (rows_in g.outcome) (rows_in g.outcome) (served_one m part g.shape p (column_is g.shape (placing.counted m part g.shape) p h)) n
      ∙ (ap (λ (t : Tall). numbers_in (rows (numbered 1 (group_keys (cells_in t.outcome))))) (sym a.0.told) ∙ ap (row_numbers columns of_stores) w.2)
  own_numbers at (group m part) (g ∷ v ∷ []) p h a n =
      let w = groups_of m part g.shape (v.shape ∷ []) p h in
      group_numbers at m part (kind_of v.shape.class) (rows_in g.outcome) (rows_in v.outcome)
      (served_two m part g.shape v.shape p (column_is v.shape (placing.summary m part g.shape v.shape) p (column_is g.shape (on_column v.shape (placing.summary m part g.shape v.shape)) p h))) n
      ∙ (ap (λ (t : Tall). numbers_in (rows (numbered 1 (group_keys (cells_in t.outcome))))) (sym a.0.told) ∙ ap (row_numbers columns of_stores) w.2)
  own_numbers at (group m part) (g ∷ v ∷ z ∷ xs) p h a n = absurd (refused p h)

  all_fit : (xs : List Tall) → AllGood xs → AllFit xs
  unfolding AllGood
  all_fit [] a = tt
  all_fit (x ∷ xs) a = (a.0.fits, all_fit xs a.1)

  all_told : (xs : List Tall) → AllGood xs → AllTold columns xs
  unfolding AllGood AllTold
  all_told [] a = tt
  all_told (x ∷ xs) a = (a.0.told, all_told xs a.1)

  -- ---- vertices

  no_third : (op : Op) (xs : List Tall) (p : Class × Space) → place_of op (shapes xs) ≡ place_ok p → (x y z : Tall) (ws : List Tall) → xs ≡ x ∷ y ∷ z ∷ ws → ⊥
  no_third op xs p h x y z ws e = two_at_most op x.shape y.shape z.shape (shapes ws) p (ap (λ us. place_of op (shapes us)) (sym e) ∙ h)

  stored_fits : (x : Outcome) (s : Shape) → is_single s.space ≡ false → ((c : Seen) → x ≡ scalar c → ⊥) → Fits s x
  stored_fits (rows rs) s e h = e
  stored_fits (scalar c) s e h = absurd (h c refl)
  stored_fits (fault f) s e h = tt

  module _ (vs : List Vertex) (f : ℕ → Tall) (meaning : IsMeaning columns vs f) (ordered : IsOrdered vs) (stores : AreColumns columns of_stores vs) where
    good_made : (i : ℕ) (v : Vertex) (m : Made) → slice_get vs i ≡ Some v → v.made ≡ m → fault_in f i ≡ None → AllGood (map f v.args) → Good (f i)
    good_made i v (stored s b c) e q n a =
        let x : stored_tall s b c (columns s b) ≡ f i = stored_value columns vs f meaning i v s b c e q in
        let none : fault_of (columns s b) ≡ None = ap (λ (t : Tall). fault_of t.outcome) x ∙ n in
        subst Good x (record {
          fits = stored_fits (columns s b) (stored_tall s b c (columns s b)).shape refl (λ d h. stores.no_scalar i v s b c d e q h);
          none = none;
          num = stores.same_rows i v s b c e q none;
          told = refl;
        })
    good_made i v (operation op) e q n a =
        let s : shape op (shapes (map f v.args)) ≡ shape_ok (f i).shape = tall_shape v.at op (map f v.args) (f i) (made_value columns vs f meaning i v op e q) in
        let w = shaped_is op (shapes (map f v.args)) (place_of op (shapes (map f v.args))) (f i).shape s in
        let o : (f i).outcome ≡ own_outcome v.at op (map f v.args) = own_value columns vs f meaning i v op e q n in
        let space : w.0.1 ≡ (f i).shape.space = ap (λ (t : Shape). t.space) w.2 in
        let none : fault_of (own_outcome v.at op (map f v.args)) ≡ None = ap fault_of (sym o) ∙ n in
        let under : least_fault (map fault_of (outcomes (map f v.args))) ≡ None = no_fault columns vs f meaning v.args (none_under columns vs f meaning i v e n) in
        let tree : tree_over op (shapes (map f v.args)) ≡ (f i).shape.tree = tree_value columns vs f meaning i v op e q in
        record {
          fits = to_space (f i).shape (is_single (f i).shape.space) (f i).outcome refl
              (subst (FitsTo (is_single (f i).shape.space)) (sym o) (subst (λ (u : Space). FitsTo (is_single u) (own_outcome v.at op (map f v.args))) space (fits_own v.at op (map f v.args) w.0 w.1 (all_fit (map f v.args) a))));
          none = n;
          num = ap numbers_in o ∙ (own_numbers v.at op (map f v.args) w.0 w.1 a none ∙ ap (row_numbers columns of_stores) space);
          told = ap (tree_tall columns) (sym tree) ∙ told columns op (map f v.args) (f i) (all_told (map f v.args) a) (no_third op (map f v.args) w.0 w.1)
              (elsewhere v.at nowhere op (map f v.args) (f i) s under o n);
        }

    all_good : (args : List ℕ) → ((a : ℕ) → IsAmong args a → Good (f a)) → AllGood (map f args)
    unfolding AllGood
    all_good [] h = tt
    all_good (a ∷ args) h = (h a (inl refl), all_good args (λ b r. h b (inr r)))

    good_below : (n i : ℕ) (v : Vertex) → i < n → slice_get vs i ≡ Some v → fault_in f i ≡ None → Good (f i)
    good_below zero i v l e h = absurd (omega (arith, l))
    good_below (suc n) i v l e h =
        good_made i v v.made e refl h (all_good v.args (λ a r.
        let m : a < i = below_among i v.args a (ordered i v e) r in
        let w = get_before vs i a v e m in
        good_below n a w.0 (omega (arith, l, m)) w.1 (none_at columns vs f meaning i a v e r h)))

    good : (i : ℕ) (v : Vertex) → slice_get vs i ≡ Some v → fault_in f i ≡ None → Good (f i)
    good i v e h = good_below (suc i) i v (omega (arith)) e h

pub value_fits : (columns : Columns) (of_stores : ℕ → List ℕ) (vs : List Vertex) (f : ℕ → Tall) → IsMeaning columns vs f → IsOrdered vs → AreColumns columns of_stores vs → (i : ℕ) (v : Vertex) → slice_get vs i ≡ Some v → fault_in f i ≡ None → Fits (f i).shape (f i).outcome
value_fits columns of_stores vs f meaning ordered stores i v e h = (good columns of_stores vs f meaning ordered stores i v e h).fits

pub value_numbers : (columns : Columns) (of_stores : ℕ → List ℕ) (vs : List Vertex) (f : ℕ → Tall) → IsMeaning columns vs f → IsOrdered vs → AreColumns columns of_stores vs → (i : ℕ) (v : Vertex) → slice_get vs i ≡ Some v → fault_in f i ≡ None → numbers_in (f i).outcome ≡ row_numbers columns of_stores (f i).shape.space
value_numbers columns of_stores vs f meaning ordered stores i v e h = (good columns of_stores vs f meaning ordered stores i v e h).num

pub value_told : (columns : Columns) (of_stores : ℕ → List ℕ) (vs : List Vertex) (f : ℕ → Tall) → IsMeaning columns vs f → IsOrdered vs → AreColumns columns of_stores vs → (i : ℕ) (v : Vertex) → slice_get vs i ≡ Some v → fault_in f i ≡ None → tree_tall columns (f i).shape.tree ≡ f i
value_told columns of_stores vs f meaning ordered stores i v e h = (good columns of_stores vs f meaning ordered stores i v e h).told
