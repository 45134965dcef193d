-- What the columns of a block's values give for a node that is wanted.
use Rattle.std.specs.Prelude.{◌≡◌, ℕ, ◌<◌, ◌≤◌, Bool, Option, None, Some, List, length}
use Rattle.std.specs.HashMap.{HashMap}
use Rattle.std.proofs.Common.{ap, sym, subst, ◌∙◌, arith}
use Rattle.std.proofs.lemmas.List.{length-map}
use Rattle.tall_value.specs.declared.functions.Scan.{Scan}
use Rattle.tall_value.specs.Cells.{Seen}
use Rattle.tall_value.specs.Columns.{cells}
use Rattle.tall_dense.specs.Columns.{SeenColumn}
use Rattle.tall_fold.specs.Carries.{SeenCarry}
use Rattle.tall_semantics.specs.Outcomes.{Outcome, rows_in}
use Rattle.tall_semantics.specs.Talls.{Columns, Tall}
use Rattle.tall_semantics.specs.Deferred.{IsAmong, Vertex}
use Rattle.tall_blocks.specs.Carries.{Rows}
use Rattle.tall_block.specs.BlockWork.{AreClosed, IsBlock, numbers_between}
use Rattle.tall_block.specs.OfBlocks.{AreColumns, AreShown, IsThere, column_at}
use Rattle.tall_block.specs.Shown.{Shows}
use Rattle.tall_part.specs.NextCarries.{IsBlockCarry}
use Rattle.tall_part.specs.Operations.{IsTaken}
use Rattle.tall_part.specs.Parts.{HasNumbers, IsPart, IsPartOf, kept_from, kept_to}
use Rattle.tall_part.specs.declared.operation.EndOperation.{EndOperation}
use Rattle.tall_part.specs.declared.part.EndPart.{EndPart}
use Rattle.tall_piece.specs.declared.parts.Part.TheVariants as part
use Rattle.tall_piece.specs.declared.wanted.Wanted.{Wanted}
use Rattle.tall_piece.specs.declared.wanted.Way.TheVariants as way
use Rattle.tall_piece.specs.Wants.{IsEndPart, SomeCarry, class_at}
use Rattle.tall_piece.specs.Worked.{AreReadable, IsMadeCarry, IsMadeColumn, IsMadeEnd, IsMadePart, IsReadable, IsSomeColumn, IsSomeEnd, IsThereAnd, IsWorked}

module _ {S : Type 0} (vs : List Vertex) (table : List (List ℕ × SeenColumn)) (made : HashMap ℕ SeenColumn S) (first n : ℕ) where
  abbrev Is : ℕ → SeenColumn → Type 0
  Is i c = (column_at vs table made i ≡ Some c) × (length c.cells ≤ n)

  abbrev Missing : ℕ → Type 0
  Missing i = (c : SeenColumn) → column_at vs table made i ≡ Some c → n < length c.cells

  read_cells : (i : ℕ) (c : SeenColumn) → column_at vs table made i ≡ Some c → (cut : ℕ → Bool) (h : ℕ → Outcome) → IsWorked vs table made first cut h → IsReadable vs table made cut h n i → cells (rows_in (h i)) ≡ c.cells
  read_cells i c e cut h w r = subst (λ x. Shows x c.cells) r.2 (w.shown i c r.0 e)

  read_length : (i : ℕ) (c : SeenColumn) → column_at vs table made i ≡ Some c → (cut : ℕ → Bool) (h : ℕ → Outcome) → IsWorked vs table made first cut h → IsReadable vs table made cut h n i → length (rows_in (h i)) ≡ length c.cells
  read_length i c e cut h w r = sym (length-map (rows_in (h i)) (λ (x : ℕ × Seen). x.1)) ∙ ap length (read_cells i c e cut h w r)

  not_missing : (i : ℕ) → Missing i → (cut : ℕ → Bool) (h : ℕ → Outcome) → IsWorked vs table made first cut h → IsReadable vs table made cut h n i → ⊥
  not_missing i none cut h w r =
      let l : length (rows_in (h i)) ≡ length r.1.0.cells = read_length i r.1.0 r.1.1 cut h w r in
      let m = r.3 in
      let k = none r.1.0 r.1.1 in
      omega (arith, l, m, k)

  -- ---- carries

  pub carry_fits : (s : Scan) (a : ℕ) (c : SeenColumn) (k : SeenCarry) → AreColumns vs table made → Is a c → IsBlockCarry s c.class c.cells k → SomeCarry vs n (way.Carries s a) k
  carry_fits s a c k columns is of = (c.cells, subst (λ x. IsBlockCarry s x c.cells k) (columns a c is.0).0 of, is.1)

  pub carry_made : (s : Scan) (a : ℕ) (c : SeenColumn) (k : SeenCarry) → AreColumns vs table made → Is a c → IsBlockCarry s c.class c.cells k → IsMadeCarry vs table made first n s a (Some k)
  carry_made s a c k columns is of cut h w r =
      subst (λ cs. IsBlockCarry s (class_at vs a) cs k) (sym (read_cells a c is.0 cut h w r)) (subst (λ x. IsBlockCarry s x c.cells k) (columns a c is.0).0 of)

  pub carry_missing : (s : Scan) (a : ℕ) → Missing a → IsMadeCarry vs table made first n s a None
  carry_missing s a none cut h w r = not_missing a none cut h w r

  -- ---- columns

  pub column_made : (i : ℕ) (c copied : SeenColumn) → AreColumns vs table made → Is i c → copied ≡ c → IsSomeColumn vs n i (Some copied) × IsMadeColumn vs table made first n i (Some copied)
  column_made i c copied columns is e =
      subst (λ x. IsSomeColumn vs n i (Some x) × IsMadeColumn vs table made first n i (Some x)) (sym e)
      (((columns i c is.0).0, is.1), λ cut h w r. sym (read_cells i c is.0 cut h w r))

  pub column_missing : (i : ℕ) → Missing i → IsSomeColumn vs n i None × IsMadeColumn vs table made first n i None
  column_missing i none = (tt, λ cut h w r. not_missing i none cut h w r)

  -- ---- values at the end

  module _ (op : EndOperation) (a b : ℕ) where
    abbrev IsEnd : Option EndPart → Type 0
    IsEnd o = IsSomeEnd vs n op a b o × IsMadeEnd vs table made first n op a b o

    pub first_missing : Missing a → IsEnd None
    first_missing none = (tt, λ cut h w r s l. not_missing a none cut h w r)

    pub last_missing : Missing b → IsEnd None
    last_missing none = (tt, λ cut h w r s l. not_missing b none cut h w s)

    pub uneven : (c d : SeenColumn) → Is a c → Is b d → (length c.cells ≡ length d.cells → ⊥) → IsEnd None
    uneven c d is_a is_b differ = (tt, λ cut h w r s l. differ (sym (read_length a c is_a.0 cut h w r) ∙ (l ∙ read_length b d is_b.0 cut h w s)))

    pub classes_taken : (c d : SeenColumn) → AreColumns vs table made → Is a c → Is b d → IsTaken op (class_at vs a) (class_at vs b) → IsTaken op c.class d.class
    classes_taken c d columns is_a is_b taken = subst (λ x. IsTaken op x d.class) (sym (columns a c is_a.0).0) (subst (λ y. IsTaken op (class_at vs a) y) (sym (columns b d is_b.0).0) taken)

    -- what `row_numbers` says of the numbers of the first operand's rows
    abbrev AreNumbers : (from to : ℕ) → List ℕ → Type 0
    AreNumbers from to ns = (scalars carries : ℕ → Option Seen) (work : List ℕ) (columns : Columns) (so_far : ℕ → List Seen) (f : ℕ → Tall) (cut : ℕ → Bool) (h : ℕ → Outcome) → IsBlock vs table scalars carries first work columns so_far f cut h
        → AreShown vs cut table made h → AreClosed vs cut table made → IsAmong work a → IsThere vs table made a → from ≤ to → to ≤ length (rows_in (h a)) → ns ≡ numbers_between (h a) from to

    pub same_numbers : (from to : ℕ) (ns ms : List ℕ) → ms ≡ ns → AreNumbers from to ns → AreNumbers from to ms
    same_numbers from to ns ms e g scalars carries work columns so_far f cut h block shown closed among there l k = e ∙ g scalars carries work columns so_far f cut h block shown closed among there l k

    pub end_made : (c d : SeenColumn) (from to : ℕ) (ns : List ℕ) (t : EndPart) → AreColumns vs table made → Is a c → Is b d → from ≡ kept_from op (length c.cells) → to ≡ kept_to op (length c.cells) → from ≤ to → to ≤ length c.cells → AreNumbers from to ns
        → IsPart op c.class d.class (length c.cells) t → ((rs ss : Rows) → cells rs ≡ c.cells → cells ss ≡ d.cells → HasNumbers op rs ns → IsPartOf op c.class d.class rs ss t) → IsEnd (Some t)
    end_made c d from to ns t columns is_a is_b is_from is_to ordered within numbers some told =
        let class_a : c.class ≡ class_at vs a = (columns a c is_a.0).0 in
        let class_b : d.class ≡ class_at vs b = (columns b d is_b.0).0 in
        let l = is_a.1 in (
          subst (λ x. IsPart op x (class_at vs b) n t) class_a (subst (λ y. IsPart op c.class y n t) class_b (some.0, some.1, some.2, (let k = some.3 in omega (arith, k, l)))),
          λ cut h w r s e.
              let many : length (rows_in (h a)) ≡ length c.cells = read_length a c is_a.0 cut h w r in
              let seen : ns ≡ numbers_between (h a) from to = numbers w.scalars w.carries w.work w.columns w.so_far w.f cut h w.block w.shown w.closed (w.listed a r.0) r.1 ordered (omega (arith, many, within)) in
              let has : HasNumbers op (rows_in (h a)) ns =
              seen ∙ (ap (λ i. numbers_between (h a) i to) (is_from ∙ ap (kept_from op) (sym many)) ∙ ap (numbers_between (h a) (kept_from op (length (rows_in (h a))))) (is_to ∙ ap (kept_to op) (sym many))) in
              subst (λ x. IsPartOf op x (class_at vs b) (rows_in (h a)) (rows_in (h b)) t) class_a
              (subst (λ y. IsPartOf op c.class y (rows_in (h a)) (rows_in (h b)) t) class_b (told (rows_in (h a)) (rows_in (h b)) (read_cells a c is_a.0 cut h w r) (read_cells b d is_b.0 cut h w s) has)),
        )

  pub end_part_made : (w : Wanted) (op : EndOperation) (a b : ℕ) (t : EndPart) (o : Option EndPart) → w.way ≡ way.End op a b → o ≡ Some t → IsMadeEnd vs table made first n op a b o → IsMadePart vs table made first n w (Some (part.End t))
  end_part_made w op a b t o e s is cut h g r =
      let q : AreReadable vs table made cut h n w.node (way.End op a b) = subst (AreReadable vs table made cut h n w.node) e r in
      let there : IsThereAnd (IsPartOf op (class_at vs a) (class_at vs b) (rows_in (h a)) (rows_in (h b))) (Some t) = subst (IsThereAnd (IsPartOf op (class_at vs a) (class_at vs b) (rows_in (h a)) (rows_in (h b)))) s (is cut h g q.0 q.1 q.2) in
      subst (λ y. IsEndPart vs (λ i. rows_in (h i)) y t) (sym e) there
