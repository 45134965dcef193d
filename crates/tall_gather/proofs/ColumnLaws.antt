-- The columns of the roots as the answer of a gather.
use Rattle.std.specs.Prelude.{◌≡◌, refl, ℕ, zero, suc, ◌<◌, ◌≤◌, ◌-◌, None, Some, List, [], ◌∷◌, length, take}
use Rattle.std.proofs.Common.{ap, sym, subst, ◌∙◌, arith}
use Rattle.std.proofs.lemmas.List.{length-map}
use Rattle.std.specs.List.{slice_range}
use Rattle.tall_value.specs.Cells.{Seen}
use Rattle.tall_dense.specs.Columns.{SeenColumn}
use Rattle.tall_semantics.specs.Outcomes.{Outcome, rows, scalar, fault, cells_in, fault_of, rows_in}
use Rattle.tall_semantics.specs.RowsOfSpaces.{AreColumns, row_numbers}
use Rattle.tall_semantics.specs.Talls.{Columns, Tall}
use Rattle.tall_semantics.specs.Spaces.{is_single}
use Rattle.tall_semantics.specs.Shapes.{Shape}
use Rattle.tall_semantics.specs.ShapesInOrder.{IsMade, shape_at}
use Rattle.tall_semantics.specs.Deferred.{Vertex, AllBelow, IsAmong, IsMeaning, IsOrdered}
use Rattle.tall_semantics.proofs.OriginLaws.{below_among}
use Rattle.tall_semantics.proofs.ShapesInOrderLaws.{value_shape}
use Rattle.tall_semantics.proofs.SpaceLaws.{value_numbers}
use Rattle.tall_fuse.specs.Results.{Found}
use Rattle.tall_fuse.specs.Kept.{found}
use Rattle.tall_fuse.specs.declared.known.Known.{Known}
use Rattle.tall_pass.specs.Fitting.{AreFit, IsHeight}
use Rattle.tall_pass.specs.Told.{IsOutcome}
use Rattle.tall_gather.specs.Gathered.{AreRootColumns, HaveOneSpace, IsLeastHeight, IsRootColumn, column_of}
use Rattle.tall_gather.specs.RootLists.{RootColumns}
use Rattle.tall_gather.specs.Rests.{AreShown}
use Rattle.tall_gather.proofs.GatherLaws.{are_there}
use Rattle.tall_gather.proofs.RestLaws.{place_among}

take_whole : (xs : List Seen) → take (length xs) xs ≡ xs
take_whole [] = refl
take_whole (x ∷ xs) = ap (λ ys. x ∷ ys) (take_whole xs)

take_length : (n : ℕ) (xs : List Seen) → n ≤ length xs → length (take n xs) ≡ n
take_length zero xs l = refl
take_length (suc n) [] l = absurd (omega (arith, l))
take_length (suc n) (x ∷ xs) l = (let h = take_length n xs (omega (arith, l)) in omega (arith, h))

between_is : (xs : List Seen) (h : ℕ) → slice_range xs 0 h ≡ take h xs
between_is xs h = (let e : h - 0 ≡ h = omega arith in ap (λ n. take n xs) e)

module _ (vs : List Vertex) (roots : List ℕ) (below : AllBelow (length vs) roots) (known : Known) (fit : AreFit vs known) (same : (i j : ℕ) → i < length vs → j < length vs → HaveOneSpace vs i j → (shape_at vs i).space ≡ (shape_at vs j).space) (back : (i j : ℕ) → i < length vs → j < length vs → (shape_at vs i).space ≡ (shape_at vs j).space → HaveOneSpace vs i j) where
  within : (i : ℕ) → IsAmong roots i → i < length vs
  within i m = below_among (length vs) roots i below m

  height_is : (i : ℕ) (x : SeenColumn) → IsAmong roots i → (w : IsRootColumn vs roots known i x) → length x.cells ≡ w.1
  height_is i x m w =
      let h = w.3.bound i w.0 m refl w.2 in
      ap (λ (y : SeenColumn). length y.cells) w.4 ∙ (ap (λ (ys : List Seen). length ys) (between_is w.0.column.cells w.1) ∙ take_length w.1 w.0.column.cells h)

  pub root_columns_fit : (columns : List SeenColumn) → RootColumns vs roots known (length roots) columns → AreRootColumns vs roots columns
  root_columns_fit columns so = record {
    many = so.many;
    fit = λ j i x ei ex. (let w = so.each j i x ei ex in let m = place_among roots j i ei in (ap (λ (y : SeenColumn). y.class) w.4 ∙ (fit.results i w.0 w.2).class, tall_enough i x m w));
    heights = λ j k i l x y ei el ex ey space.
        let w = so.each j i x ei ex in
        let u = so.each k l y el ey in
        let mi = place_among roots j i ei in
        let ml = place_among roots k l el in
        height_is i x mi w ∙ (heights_equal i l w.1 u.1 mi ml space w.3 u.3 ∙ sym (height_is l y ml u));
  }
    where
      tall_enough : (i : ℕ) (x : SeenColumn) → IsAmong roots i → IsRootColumn vs roots known i x → IsHeight (is_single (shape_at vs i).space) (length x.cells)
      tall_enough i x m w =
          let o = w.3.one in
          let sp = same o.0 i (within o.0 o.2) (within i m) o.3 in
          let f = (fit.results o.0 o.1 o.4).height in
          subst (IsHeight (is_single (shape_at vs i).space)) (sym (height_is i x m w ∙ o.5)) (subst (λ s. IsHeight (is_single s) (length o.1.column.cells)) sp f)

      heights_equal : (i l h g : ℕ) → IsAmong roots i → IsAmong roots l → (shape_at vs i).space ≡ (shape_at vs l).space → IsLeastHeight vs roots known i h → IsLeastHeight vs roots known l g → h ≡ g
      heights_equal i l h g mi ml space a b =
          let one : HaveOneSpace vs i l = back i l (within i mi) (within l ml) space in
          let x = a.one in
          let y = b.one in
          let p = b.bound x.0 x.1 x.2 (x.3 ∙ one) x.4 in
          let q = a.bound y.0 y.1 y.2 (y.3 ∙ sym one) y.4 in
          let ex = x.5 in
          let ey = y.5 in
          omega (arith, p, q, ex, ey)

  module _ (columns : Columns) (of_stores : ℕ → List ℕ) (f : ℕ → Tall) (made : IsMade vs) (ordered : IsOrdered vs) (meaning : IsMeaning columns vs f) (are : AreColumns columns of_stores vs) (shown : AreShown f known) where
    shows_cells : (x : Outcome) (cs : List Seen) → IsOutcome x cs → (cs ≡ cells_in x) × (fault_of x ≡ None)
    shows_cells (rows rs) cs h = (h, refl)
    shows_cells (scalar c) cs h = (h, refl)
    shows_cells (fault y) cs h = absurd h

    cells_many : (i : ℕ) (r : Found) → IsAmong roots i → found known i ≡ Some r → length r.column.cells ≡ length (row_numbers columns of_stores (shape_at vs i).space)
    cells_many i r m e =
        let s = shows_cells (f i).outcome r.column.cells (shown i r e).cells in
        let v = are_there vs roots below i m in
        let n = value_numbers columns of_stores vs f meaning ordered are i v.0 v.1 s.1 in
        ap (λ (xs : List Seen). length xs) s.0 ∙ (length-map (rows_in (f i).outcome) _ ∙ (sym (length-map (rows_in (f i).outcome) (λ (r : ℕ × Seen). r.0)) ∙ (ap (λ (xs : List ℕ). length xs) n ∙ ap (λ (x : Shape). length (row_numbers columns of_stores x.space)) (value_shape columns vs f made meaning i v.0 v.1))))

    pub root_told : (i : ℕ) (x : SeenColumn) → IsAmong roots i → IsRootColumn vs roots known i x → x ≡ column_of (f i)
    root_told i x m w =
        let o = w.3.one in
        let v = are_there vs roots below i m in
        let sp = same o.0 i (within o.0 o.2) (within i m) o.3 in
        let h : w.1 ≡ length w.0.column.cells = o.5 ∙ (cells_many o.0 o.1 o.2 o.4 ∙ (ap (λ s. length (row_numbers columns of_stores s)) sp ∙ sym (cells_many i w.0 m w.2))) in
        let s = shows_cells (f i).outcome w.0.column.cells (shown i w.0 w.2).cells in
        let cells : slice_range w.0.column.cells 0 w.1 ≡ cells_in (f i).outcome = between_is w.0.column.cells w.1 ∙ (ap (λ n. take n w.0.column.cells) h ∙ (take_whole w.0.column.cells ∙ s.0)) in
        let class : w.0.column.class ≡ (f i).shape.class = (fit.results i w.0 w.2).class ∙ ap (λ (y : Shape). y.class) (sym (value_shape columns vs f made meaning i v.0 v.1)) in
        w.4 ∙ equal_parts _ _ _ _ class cells
      where
        equal_parts : (a b : Rattle.tall_value.specs.declared.class.Class.Class) (xs ys : List Seen) → a ≡ b → xs ≡ ys → (let p : SeenColumn = record { class = a; cells = xs } in let q : SeenColumn = record { class = b; cells = ys } in p ≡ q)
        equal_parts a b xs ys e g = cc
