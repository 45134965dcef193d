-- The cells of each value over a block of a pass are within its class, where those of the stored columns are.
use Rattle.std.specs.Prelude.{◌≡◌, refl, ℤ, ℕ, zero, suc, ◌≤ℤ◌, ◌<◌, ◌⊎◌, Bool, true, false, Option, None, Some, Result, Ok, Err, List, [], ◌∷◌, ◌++◌, map, take, slice_get}
use Rattle.std.specs.List.{All}
use Rattle.std.proofs.Common.{ap, sym, subst, ◌∙◌, arith, inl, inr}
use Rattle.std.proofs.lemmas.List.{map-append}
use Rattle.std.proofs.lemmas.List.Elements.{All-nil, All-cons, All-head, All-tail, All-append}
use Rattle.tall_value.specs.declared.class.Class.{Class}
use Rattle.tall_value.specs.declared.class.IntKind.{IntKind}
use Rattle.tall_value.specs.declared.class.Kind.{Kind}
use Rattle.tall_value.specs.declared.class.Kind.TheVariants.{Integer, Logical, Double, Text}
use Rattle.tall_value.specs.declared.functions.Scan.{Scan}
use Rattle.tall_value.specs.declared.functions.Scan.TheVariants.{CumSum, CumMin, CumMax}
use Rattle.tall_value.specs.Cells.{Seen, whole, logical, double, text}
use Rattle.tall_value.specs.Classes.{kind_of, least, greatest}
use Rattle.tall_value.specs.Columns.{HasKind, cells}
use Rattle.tall_value.specs.Filters.{kept}
use Rattle.tall_value.specs.FunctionClasses.{scan_kind, logical_kind}
use Rattle.tall_semantics.specs.ClassesOfCells.{HaveClass}
use Rattle.tall_semantics.specs.Deferred.{Vertex, IsAmong, fault_in}
use Rattle.tall_semantics.specs.Faults.{At, Fault}
use Rattle.tall_semantics.specs.Operations.{Op, constant, unary, binary, filter, reduce, scan, head, tail, distinct, group, Made, stored, operation}
use Rattle.tall_semantics.specs.Outcomes.{Outcome, rows, scalar, fault, fault_of, rows_in, cells_in, row_by_row}
use Rattle.tall_semantics.specs.Shapes.{Shape, common, masked, place_of}
use Rattle.tall_semantics.specs.Spaces.{Space, is_single}
use Rattle.tall_semantics.specs.Talls.{Tall, Columns, shapes, unless, stored_tall}
use Rattle.tall_semantics.proofs.ClassLaws.{class_ok, kind_ok, placed_class, allowed_kind, masked_kind, of_one, of_two, as_class, to_class, from_class, value_class}
use Rattle.tall_semantics.proofs.FitLaws.{FitsTo, from_space}
use Rattle.tall_semantics.proofs.MeaningLaws.{stored_value, made_value, tall_shape}
use Rattle.tall_semantics.proofs.OriginLaws.{get_before, below_among}
use Rattle.tall_semantics.proofs.ShapeLaws.{place_ok, shaped_is, column_is}
use Rattle.tall_semantics.proofs.SpaceLaws.{value_fits}
use Rattle.tall_blocks.specs.Blocks.{Block, block_columns, all_rows, IsVariable, AreInTheirClasses}
use Rattle.tall_blocks.specs.Carries.{Rows, flat, scanned_behind, AllCells, HasScanKind, IsInClass}
use Rattle.tall_blocks.specs.Cut.{IsKnownScalar, CanBeCut, AreCut}
use Rattle.tall_blocks.specs.Pieces.{pass_blocks, cells_by_block, carry_in}
use Rattle.tall_blocks.specs.SeenFaults.{IsBlockwise}
use Rattle.tall_blocks.specs.ValuesOver.{value_over, own_over, outcome_over, IsOver}
use Rattle.tall_blocks.proofs.Choices.{true_or_false}
use Rattle.tall_blocks.proofs.CutLaws.{are_cut, not_single}
use Rattle.tall_blocks.proofs.InClassLaws.{AreInRange, IsNoScalar, OneIsNoScalar, one_in, two_in, kept_all, scanned_of, scan_in, scan_of, all_class}
use Rattle.tall_blocks.proofs.PieceCarryLaws.{block_over, scan_by_carry}
use Rattle.tall_blocks.proofs.RangeLaws.{InRange}
use Rattle.tall_blocks.proofs.SeenLaws.{made_is}

-- ---- lists of blocks

all_front : {X : Type 0} (P : X → Type 0) (xs ys : List X) → All P (xs ++ ys) → All P xs
all_front P [] ys h = All-nil P
all_front P (x ∷ xs) ys h = All-cons P x xs (All-head P x (xs ++ ys) h) (all_front P xs ys (All-tail P x (xs ++ ys) h))

all_behind : {X : Type 0} (P : X → Type 0) (xs ys : List X) → All P (xs ++ ys) → All P ys
all_behind P [] ys h = h
all_behind P (x ∷ xs) ys h = all_behind P xs ys (All-tail P x (xs ++ ys) h)

cell_of : ℕ × Seen → Seen
cell_of r = r.1

joined_cells : (P : Seen → Type 0) (rs ss : Rows) → All P (cells (rs ++ ss)) → All P (cells rs ++ cells ss)
joined_cells P rs ss h = subst (All P) (map-append (λ (r : ℕ × Seen). r.1) rs ss) h

of_one_block : (P : Seen → Type 0) (bs : List Block) (n : ℕ) (b : Block) (s a : ℕ) → slice_get bs n ≡ Some b → All P (cells (all_rows bs s a)) → All P (cells (b s a))
of_one_block P [] n b s a e h = absurd (cc)
of_one_block P (c ∷ bs) zero b s a e h =
    subst (λ (d : Block). All P (cells (d s a))) (inside c b e) (all_front P (cells (c s a)) (cells (all_rows bs s a)) (joined_cells P (c s a) (all_rows bs s a) h)) where
      inside : (c d : Block) → ◌≡◌ {A = Option Block} (Some c) (Some d) → c ≡ d
      inside c d e = ap (λ (o : Option Block). elim o [ Some x ↦ x | None ↦ c ]) e
of_one_block P (c ∷ bs) (suc n) b s a e h = of_one_block P bs n b s a e (all_behind P (cells (c s a)) (cells (all_rows bs s a)) (joined_cells P (c s a) (all_rows bs s a) h))

of_flat : (P : Seen → Type 0) (gs : List (ℕ → Outcome)) (n a : ℕ) → ((m : ℕ) (g : ℕ → Outcome) → slice_get gs m ≡ Some g → All P (cells_in (g a))) → All P (flat (take n (cells_by_block gs a)))
of_flat P gs zero a h = All-nil P
of_flat P [] (suc n) a h = All-nil P
of_flat P (g ∷ gs) (suc n) a h = All-append P (cells_in (g a)) (flat (take n (cells_by_block gs a))) (h 0 g refl) (of_flat P gs n a (λ m k e. h (suc m) k e))

-- ---- cells

to_range : (a : Kind) (c : Seen) → HasKind a c → IsInClass a c → InRange c
to_range (Integer k) (whole j n) e h = (let z : k ≡ j = sym h.0 in (subst (λ i. least i ≤ℤ n) z h.1, subst (λ i. n ≤ℤ greatest i) z h.2))
to_range (Integer k) (logical b) e h = tt
to_range (Integer k) (double d) e h = tt
to_range (Integer k) (text t) e h = tt
to_range Logical (whole j n) e h = absurd cc
to_range Logical (logical b) e h = tt
to_range Logical (double d) e h = tt
to_range Logical (text t) e h = tt
to_range Double (whole j n) e h = absurd cc
to_range Double (logical b) e h = tt
to_range Double (double d) e h = tt
to_range Double (text t) e h = tt
to_range Text (whole j n) e h = absurd cc
to_range Text (logical b) e h = tt
to_range Text (double d) e h = tt
to_range Text (text t) e h = tt

to_ranges : (a : Kind) (cs : List Seen) → All (HasKind a) cs → AllCells (IsInClass a) cs → All InRange cs
to_ranges a [] h k = All-nil InRange
to_ranges a (c ∷ cs) h k = All-cons InRange c cs (to_range a c (All-head (HasKind a) c cs h) k.0) (to_ranges a cs (All-tail (HasKind a) c cs h) k.1)

no_texts : (s : Scan) (j : Kind) → scan_kind s Text ≡ kind_ok j → ⊥
no_texts CumSum j e = absurd cc
no_texts CumMin j e = absurd cc
no_texts CumMax j e = absurd cc

to_scan : (s : Scan) (a j : Kind) → scan_kind s a ≡ kind_ok j → (c : Seen) → HasKind a c → HasScanKind a c
to_scan s (Integer k) j e c h = h
to_scan s Logical j e c h = h
to_scan s Double j e c h = h
to_scan s Text j e c h = absurd (no_texts s j e)

each_of : (P Q : Seen → Type 0) → ((c : Seen) → P c → Q c) → (cs : List Seen) → All P cs → All Q cs
each_of P Q one [] h = All-nil Q
each_of P Q one (c ∷ cs) h = All-cons Q c cs (one c (All-head P c cs h)) (each_of P Q one cs (All-tail P c cs h))

-- ---- outcomes

-- rows of a kind, each within its class, or a fault
abbrev pub Good : Kind → Outcome → Type 0
Good k x = All (HasKind k) (cells_in x) × AreInRange x × IsNoScalar x

good_unless : (k : Kind) (d : Option Fault) (x : Outcome) → Good k x → Good k (unless d x)
good_unless k None x g = g
good_unless k (Some y) x g = (All-nil (HasKind k), All-nil InRange, tt)

left_none : (x y : Outcome) → IsNoScalar x → OneIsNoScalar x y
left_none (rows rs) y h = tt
left_none (scalar c) y h = absurd h
left_none (fault f) y h = tt

right_none : (x y : Outcome) → IsNoScalar y → OneIsNoScalar x y
right_none (rows rs) y h = tt
right_none (scalar c) (rows ss) h = tt
right_none (scalar c) (scalar d) h = absurd h
right_none (scalar c) (fault f) h = tt
right_none (fault f) y h = tt

rows_fit : (x : Outcome) → IsNoScalar x → FitsTo false x
rows_fit (rows rs) h = refl
rows_fit (scalar c) h = absurd h
rows_fit (fault f) h = tt

module _ (f : ℕ → Tall) (cut : ℕ → Bool) (h : ℕ → Outcome) where
  abbrev kind_at : ℕ → Kind
  kind_at a = kind_of (f a).shape.class

  -- an operand of a kind that is a scalar where its space says so
  abbrev IsOperand : ℕ → Type 0
  IsOperand a = All (HasKind (kind_at a)) (cells_in (h a)) × FitsTo (is_single (f a).shape.space) (h a)

  two_good : (at : At) (op : _) (a b : ℕ) (p : Class × Space) → place_of (binary op) ((f a).shape ∷ (f b).shape ∷ []) ≡ place_ok p → OneIsNoScalar (h a) (h b) → IsOperand a → IsOperand b
      → Good (kind_of p.0) (own_over [] at (binary op) (map (value_over f h) (a ∷ b ∷ [])))
  two_good at op a b p place one x y =
      let o = two_in at op (h a) (h b) one in
      let kinds = of_two at op (is_single (f a).shape.space) (is_single (f b).shape.space) (kind_at a) (kind_at b) (kind_of p.0) (h a) (h b) x.1 y.1 x.0 y.0
      (allowed_kind _ p.0 (placed_class _ (common (f a).shape.space (f b).shape.space) p place)) in
      (kinds, o.0, o.1)

  own_good : (at : At) (before : List Seen) (op : Op) (args : List ℕ) (p : Class × Space) → place_of op (shapes (map f args)) ≡ place_ok p → CanBeCut f cut (operation op) args
      → ((a : ℕ) → IsAmong args a → cut a ≡ true → Good (kind_at a) (h a)) → ((a : ℕ) → IsAmong args a → IsOperand a)
      → ((s : Scan) (a : ℕ) → op ≡ scan s → args ≡ a ∷ [] → All (HasKind (kind_at a)) before × All InRange before)
      → Good (kind_of p.0) (own_over before at op (map (value_over f h) args))
  own_good at before (unary u) [] p place can cuts ops first = absurd can
  own_good at before (unary u) (a ∷ []) p place can cuts ops first =
      let g = cuts a (inl refl) can in
      let o = one_in at u (h a) g.2 in
      (of_one at u (kind_at a) (kind_of p.0) (h a) g.0 (allowed_kind _ p.0 (placed_class _ (Ok (f a).shape.space) p place)), o.0, o.1)
  own_good at before (unary u) (a ∷ b ∷ args) p place can cuts ops first = absurd can
  own_good at before (binary o) [] p place can cuts ops first = absurd can
  own_good at before (binary o) (a ∷ []) p place can cuts ops first = absurd can
  own_good at before (binary o) (a ∷ b ∷ []) p place can cuts ops first =
      two_good at o a b p place
      (elim can [
        | inl both ↦ left_none (h a) (h b) (cuts a (inl refl) both.0).2
        | inr rest ↦ elim rest [
          | inl left ↦ left_none (h a) (h b) (cuts a (inl refl) left.0).2
          | inr right ↦ right_none (h a) (h b) (cuts b (inr (inl refl)) right.1).2
        ]
      ])
      (ops a (inl refl)) (ops b (inr (inl refl)))
  own_good at before (binary o) (a ∷ b ∷ c ∷ args) p place can cuts ops first = absurd can
  own_good at before filter [] p place can cuts ops first = absurd can
  own_good at before filter (a ∷ []) p place can cuts ops first = absurd can
  own_good at before filter (a ∷ m ∷ []) p place can cuts ops first =
      let g = cuts a (inl refl) can.0 in
      let q = placed_class _ (masked (f a).shape.space (f m).shape.space (f m).shape.tree) p (column_is (f m).shape _ p (column_is (f a).shape _ p place)) in (
        as_class (f a).shape.class p.0 (rows (kept (rows_in (h a)) (cells_in (h m)))) (masked_kind (f a).shape.class p.0 (logical_kind (kind_at m)) q) (kept_all (HasKind (kind_at a)) (rows_in (h a)) (cells_in (h m)) g.0),
        kept_all InRange (rows_in (h a)) (cells_in (h m)) g.1,
        tt,
      )
  own_good at before filter (a ∷ m ∷ c ∷ args) p place can cuts ops first = absurd can
  own_good at before (scan s) [] p place can cuts ops first = absurd can
  own_good at before (scan s) (a ∷ []) p place can cuts ops first =
      let g = cuts a (inl refl) can in
      let b = first s a refl refl in
      let j : scan_kind s (kind_at a) ≡ kind_ok (kind_of p.0) = allowed_kind _ p.0 (placed_class _ (Ok (f a).shape.space) p (column_is (f a).shape _ p place)) in
      let to = each_of (HasKind (kind_at a)) (HasScanKind (kind_at a)) (to_scan s (kind_at a) (kind_of p.0) j) in
      let o = scan_in at s (kind_at a) before (rows_in (h a)) b.1 g.1 in
      (scan_of at (kind_of p.0) (scanned_behind s (kind_at a) before (rows_in (h a))) (scanned_of s (kind_at a) (kind_of p.0) before (rows_in (h a)) j (to before b.0) (to (cells_in (h a)) g.0)), o.0, o.1)
  own_good at before (scan s) (a ∷ b ∷ args) p place can cuts ops first = absurd can
  own_good at before (constant c) args p place can cuts ops first = absurd can
  own_good at before (reduce r) args p place can cuts ops first = absurd can
  own_good at before (head k) args p place can cuts ops first = absurd can
  own_good at before (tail k) args p place can cuts ops first = absurd can
  own_good at before distinct args p place can cuts ops first = absurd can
  own_good at before (group m part) args p place can cuts ops first = absurd can

-- ---- values

module _ (columns : Columns) (of_stores : ℕ → List ℕ) (vs : List Vertex) (f : ℕ → Tall) (store : ℕ) (cut : ℕ → Bool) (bs : List Block) (pass : IsBlockwise columns of_stores vs f store cut bs) (classes : AreInTheirClasses columns vs) where
  abbrev hs : List (ℕ → Outcome)
  hs = pass_blocks vs f cut bs

  CanHere : AreCut f cut vs
  CanHere = are_cut columns vs f cut store pass.meaning pass.of_store

  -- the values below a place are good over each block
  abbrev Below : ℕ → Type 0
  Below i = (a : ℕ) (w : Vertex) → a < i → slice_get vs a ≡ Some w → cut a ≡ true → (n : ℕ) (h : ℕ → Outcome) → slice_get hs n ≡ Some h → Good (kind_of (f a).shape.class) (h a)

  operand_good : (h : ℕ → Outcome) (i a : ℕ) (v : Vertex) → slice_get vs i ≡ Some v → IsAmong v.args a → cut i ≡ true → ((b : ℕ) → cut b ≡ false → h b ≡ (f b).outcome)
      → ((b : ℕ) → IsAmong v.args b → cut b ≡ true → Good (kind_of (f b).shape.class) (h b)) → ((b : ℕ) → IsAmong v.args b → cut b ≡ false → (c : Seen) × ((f b).outcome ≡ scalar c)) → IsOperand f cut h a
  operand_good h i a v e among is_cut known cuts scalars =
      let w = get_before vs i a v e (below_among i v.args a (pass.ordered i v e) among) in
      elim (true_or_false (cut a)) [
        | inl is_in ↦
            let g = cuts a among is_in in
            let n : is_single (f a).shape.space ≡ false = not_single store (f a).shape.space (pass.of_store.rows_here a w.0 w.1 is_in) in
            (g.0, subst (λ b. FitsTo b (h a)) (sym n) (rows_fit (h a) g.2))
        | inr is_out ↦
            let same = known a is_out in
            let c = scalars a among is_out in
            let none : fault_in f a ≡ None = ap fault_of c.1 in
            let fit = from_space (f a).shape (f a).outcome (value_fits columns of_stores vs f pass.meaning pass.ordered pass.readings a w.0 w.1 none) in
            let kinds = from_class (f a).shape.class (cells_in (f a).outcome) (value_class columns of_stores vs f pass.meaning pass.ordered pass.readings a w.0 w.1) in
            (subst (λ (x : Outcome). All (HasKind (kind_of (f a).shape.class)) (cells_in x)) (sym same) kinds, subst (FitsTo (is_single (f a).shape.space)) (sym same) fit)
      ]

  -- an operand that isn't cut is a scalar
  uncut : (i : ℕ) (v : Vertex) (op : Op) → slice_get vs i ≡ Some v → v.made ≡ operation op → cut i ≡ true → (b : ℕ) → IsAmong v.args b → cut b ≡ false → (c : Seen) × ((f b).outcome ≡ scalar c)
  uncut i v op e q is_cut b among is_out = by_op op v.args (subst (λ m. CanBeCut f cut m v.args) q (CanHere i v e is_cut)) among where
    never : {A : Type 0} (x : ℕ) → x ≡ b → cut x ≡ true → A
    never x same is_in = absurd (let z : cut b ≡ true = ap cut (sym same) ∙ is_in in cc)

    known : (x : ℕ) → x ≡ b → IsKnownScalar f cut x → (c : Seen) × ((f b).outcome ≡ scalar c)
    known x same k = subst (λ y. (c : Seen) × ((f y).outcome ≡ scalar c)) same k.1

    by_op : (op : Op) (args : List ℕ) → CanBeCut f cut (operation op) args → IsAmong args b → (c : Seen) × ((f b).outcome ≡ scalar c)
    by_op (unary u) [] can m = absurd can
    by_op (unary u) (x ∷ []) can (inl same) = never x same can
    by_op (unary u) (x ∷ []) can (inr m) = absurd m
    by_op (unary u) (x ∷ y ∷ args) can m = absurd can
    by_op (binary o) [] can m = absurd can
    by_op (binary o) (x ∷ []) can m = absurd can
    by_op (binary o) (x ∷ y ∷ []) (inl both) (inl same) = never x same both.0
    by_op (binary o) (x ∷ y ∷ []) (inl both) (inr (inl same)) = never y same both.1
    by_op (binary o) (x ∷ y ∷ []) (inl both) (inr (inr m)) = absurd m
    by_op (binary o) (x ∷ y ∷ []) (inr (inl left)) (inl same) = never x same left.0
    by_op (binary o) (x ∷ y ∷ []) (inr (inl left)) (inr (inl same)) = known y same left.1
    by_op (binary o) (x ∷ y ∷ []) (inr (inl left)) (inr (inr m)) = absurd m
    by_op (binary o) (x ∷ y ∷ []) (inr (inr right)) (inl same) = known x same right.0
    by_op (binary o) (x ∷ y ∷ []) (inr (inr right)) (inr (inl same)) = never y same right.1
    by_op (binary o) (x ∷ y ∷ []) (inr (inr right)) (inr (inr m)) = absurd m
    by_op (binary o) (x ∷ y ∷ z ∷ args) can m = absurd can
    by_op filter [] can m = absurd can
    by_op filter (x ∷ []) can m = absurd can
    by_op filter (x ∷ y ∷ []) can (inl same) = never x same can.0
    by_op filter (x ∷ y ∷ []) can (inr (inl same)) = never y same can.1
    by_op filter (x ∷ y ∷ []) can (inr (inr m)) = absurd m
    by_op filter (x ∷ y ∷ z ∷ args) can m = absurd can
    by_op (scan s) [] can m = absurd can
    by_op (scan s) (x ∷ []) can (inl same) = never x same can
    by_op (scan s) (x ∷ []) can (inr m) = absurd m
    by_op (scan s) (x ∷ y ∷ args) can m = absurd can
    by_op (constant c) args can m = absurd can
    by_op (reduce r) args can m = absurd can
    by_op (head k) args can m = absurd can
    by_op (tail k) args can m = absurd can
    by_op distinct args can m = absurd can
    by_op (group g part) args can m = absurd can

  made_good : (i : ℕ) (v : Vertex) (m : Made) → slice_get vs i ≡ Some v → v.made ≡ m → cut i ≡ true → Below i → (n : ℕ) (h : ℕ → Outcome) → slice_get hs n ≡ Some h → Good (kind_of (f i).shape.class) (h i)
  made_good i v (stored s a c) e q is_cut below n h at_n =
      let w = block_over columns of_stores vs f store cut bs pass n h at_n in
      let b : Block = w.0 in
      let is : h i ≡ rows (b s a) = w.3.made i v e is_cut ∙ ap (λ m. outcome_over (block_columns b) (w.1 i) v.at m (map (value_over f h) v.args)) q in
      let class : (f i).shape.class ≡ c = sym (ap (λ (x : Tall). x.shape.class) (stored_value columns vs f pass.meaning i v s a c e q)) in
      let all : columns s a ≡ rows (all_rows bs s a) = pass.blocks i v s a e is_cut (subst (λ m. IsVariable m s a) (sym q) (refl, refl)) in
      let kinds = subst (λ (x : Outcome). All (HasKind (kind_of c)) (cells_in x)) all (from_class c (cells_in (columns s a)) (pass.readings.classes i v s a c e q)) in
      let ranges = to_ranges (kind_of c) (cells (all_rows bs s a)) kinds (subst (λ (x : Outcome). AllCells (IsInClass (kind_of c)) (cells_in x)) all (classes i v s a c e q)) in
      let good : Good (kind_of c) (rows (b s a)) = (of_one_block (HasKind (kind_of c)) bs n b s a w.2 kinds, of_one_block InRange bs n b s a w.2 ranges, tt) in
      subst (λ k. Good (kind_of k) (h i)) (sym class) (subst (Good (kind_of c)) (sym is) good)
  made_good i v (operation op) e q is_cut below n h at_n =
      let w = block_over columns of_stores vs f store cut bs pass n h at_n in
      let shaped = shaped_is op (shapes (map f v.args)) (place_of op (shapes (map f v.args))) (f i).shape (tall_shape v.at op (map f v.args) (f i) (made_value columns vs f pass.meaning i v op e q)) in
      let class : shaped.0.0 ≡ (f i).shape.class = ap (λ (t : Shape). t.class) shaped.2 in
      let of_args = λ (a : ℕ) (among : IsAmong v.args a). get_before vs i a v e (below_among i v.args a (pass.ordered i v e) among) in
      let cuts : (a : ℕ) → IsAmong v.args a → cut a ≡ true → Good (kind_of (f a).shape.class) (h a) =
      λ a among is_in. below a (of_args a among).0 (below_among i v.args a (pass.ordered i v e) among) (of_args a among).1 is_in n h at_n in
      let can = subst (λ m. CanBeCut f cut m v.args) q (CanHere i v e is_cut) in
      let first : (s : Scan) (a : ℕ) → op ≡ scan s → v.args ≡ a ∷ [] → All (HasKind (kind_of (f a).shape.class)) (w.1 i) × All InRange (w.1 i) =
      λ s a r t.
      let is_scan : v.made ≡ operation (scan s) = q ∙ ap operation r in
      let among : IsAmong v.args a = subst (λ xs. IsAmong xs a) (sym t) (inl refl) in
      let is_in : cut a ≡ true = subst (λ xs. CanBeCut f cut (operation (scan s)) xs) t (subst (λ o. CanBeCut f cut (operation o) v.args) r can) in
      let all = λ (m : ℕ) (g : ℕ → Outcome) (k : slice_get hs m ≡ Some g). below a (of_args a among).0 (below_among i v.args a (pass.ordered i v e) among) (of_args a among).1 is_in m g k in
      let kind = kind_of (f a).shape.class in (
        subst (All (HasKind kind)) (sym (w.4 i a v s e is_scan t)) (of_flat (HasKind kind) hs n a (λ m g k. (all m g k).0)),
        subst (All InRange) (sym (w.4 i a v s e is_scan t)) (of_flat InRange hs n a (λ m g k. (all m g k).1)),
      ) in
      subst (λ k. Good (kind_of k) (h i)) class
      (subst (Good (kind_of shaped.0.0)) (sym (made_is w.3 CanHere i v op e is_cut q))
      (good_unless (kind_of shaped.0.0) _ (own_over (w.1 i) v.at op (map (value_over f h) v.args))
      (own_good f cut h v.at (w.1 i) op v.args shaped.0 shaped.1 can cuts (λ a among. operand_good h i a v e among is_cut w.3.known cuts (uncut i v op e q is_cut)) first)))

  good_below : (m i : ℕ) (v : Vertex) → i < m → slice_get vs i ≡ Some v → cut i ≡ true → (n : ℕ) (h : ℕ → Outcome) → slice_get hs n ≡ Some h → Good (kind_of (f i).shape.class) (h i)
  good_below zero i v l e is_cut n h at_n = absurd (omega (arith, l))
  good_below (suc m) i v l e is_cut n h at_n = made_good i v v.made e refl is_cut (λ a w k g is_in j o at_j. good_below m a w (omega (arith, l, k)) g is_in j o at_j) n h at_n

  pub value_in_class : (n : ℕ) (h : ℕ → Outcome) → slice_get hs n ≡ Some h → (i : ℕ) (v : Vertex) → slice_get vs i ≡ Some v → cut i ≡ true → AllCells (IsInClass (kind_of (f i).shape.class)) (cells_in (h i))
  value_in_class n h at_n i v e is_cut = (let g = good_below (suc i) i v (omega (arith)) e is_cut n h at_n in all_class (kind_of (f i).shape.class) (cells_in (h i)) g.0 g.1)

  pub value_of_class : (n : ℕ) (h : ℕ → Outcome) → slice_get hs n ≡ Some h → (i : ℕ) (v : Vertex) → slice_get vs i ≡ Some v → cut i ≡ true → HaveClass (f i).shape.class (h i)
  value_of_class n h at_n i v e is_cut = (let g = good_below (suc i) i v (omega (arith)) e is_cut n h at_n in to_class (f i).shape.class (cells_in (h i)) g.0)

  pub scan_goes_on : (n : ℕ) (h : ℕ → Outcome) → slice_get hs n ≡ Some h → (i a : ℕ) (v : Vertex) (s : Scan) (c : Seen) → slice_get vs i ≡ Some v → v.made ≡ operation (scan s) → v.args ≡ a ∷ [] → cut i ≡ true
      → carry_in vs f hs i n ≡ Some c → fault_of (h a) ≡ None → h i ≡ row_by_row v.at (scanned_behind s (kind_of (f a).shape.class) (c ∷ []) (rows_in (h a)))
  scan_goes_on n h at_n i a v s c e q r is_cut carry none =
      let among : IsAmong v.args a = subst (λ xs. IsAmong xs a) (sym r) (inl refl) in
      let w = get_before vs i a v e (below_among i v.args a (pass.ordered i v e) among) in
      let is_in : cut a ≡ true = subst (λ xs. CanBeCut f cut (operation (scan s)) xs) r (subst (λ m. CanBeCut f cut m v.args) q (CanHere i v e is_cut)) in
      scan_by_carry columns of_stores vs f store cut bs pass n h at_n i a v s c e q r is_cut carry none (value_in_class n h at_n a w.0 w.1 is_in)
