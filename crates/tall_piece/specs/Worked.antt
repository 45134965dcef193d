-- What is there of a block whose values were computed.
use Rattle.std.specs.Prelude.{◌≡◌, ◌≤◌, ℕ, Bool, true, Option, None, Some, List, [], ◌∷◌, length}
use Rattle.std.specs.HashMap.{HashMap}
use Rattle.tall_value.specs.declared.functions.Scan.{Scan}
use Rattle.tall_value.specs.Cells.{Seen}
use Rattle.tall_value.specs.Columns.{cells}
use Rattle.tall_dense.specs.Columns.{SeenColumn}
use Rattle.tall_semantics.specs.Outcomes.{Outcome, rows, rows_in}
use Rattle.tall_semantics.specs.Talls.{Columns, Tall}
use Rattle.tall_semantics.specs.Deferred.{IsAmong, Vertex}
use Rattle.tall_block.specs.BlockWork.{AreClosed, IsBlock}
use Rattle.tall_block.specs.OfBlocks.{AreShown, IsThere}
use Rattle.tall_fold.specs.Carries.{SeenCarry}
use Rattle.tall_part.specs.NextCarries.{IsBlockCarry}
use Rattle.tall_part.specs.Parts.{IsPart, IsPartOf}
use Rattle.tall_part.specs.declared.operation.EndOperation.{EndOperation}
use Rattle.tall_part.specs.declared.part.EndPart.{EndPart}
use Rattle.tall_piece.specs.Wants.{class_at}
use Rattle.tall_piece.specs.declared.parts.Part.{Part}
use Rattle.tall_piece.specs.declared.wanted.Wanted.{Wanted}
use Rattle.tall_piece.specs.declared.wanted.Way.{Way}
use Rattle.tall_piece.specs.declared.wanted.Way.TheVariants as way
use Rattle.tall_piece.specs.Joins.{FitsIfThere, IsThereOfRows, part_first, parts_rest}

-- it is there, and P holds of it
abbrev pub IsThereAnd : {X : Type 0} → (X → Type 0) → Option X → Type 0
IsThereAnd P None = ⊥
IsThereAnd P (Some x) = P x

module _ {S : Type 0} where
  -- the columns of a block whose rows have the numbers from `first` on, which show the outcomes h
  pub record IsWorked (vs : List Vertex) (table : List (List ℕ × SeenColumn)) (made : HashMap ℕ SeenColumn S) (first : ℕ) (cut : ℕ → Bool) (h : ℕ → Outcome) : Type 0 where
    pub scalars : ℕ → Option Seen
    pub carries : ℕ → Option Seen
    pub work : List ℕ
    pub columns : Columns
    pub so_far : ℕ → List Seen
    pub f : ℕ → Tall
    pub block : IsBlock vs table scalars carries first work columns so_far f cut h
    pub shown : AreShown vs cut table made h
    pub closed : AreClosed vs cut table made
    pub listed : (i : ℕ) → cut i ≡ true → IsAmong work i

  -- the value at a place is computed by blocks, its column is there, and it has at most so many rows
  abbrev pub IsReadable : List Vertex → List (List ℕ × SeenColumn) → HashMap ℕ SeenColumn S → (cut : ℕ → Bool) → (h : ℕ → Outcome) → (most : ℕ) → ℕ → Type 0
  IsReadable vs table made cut h n i = (cut i ≡ true) × IsThere vs table made i × (h i ≡ rows (rows_in (h i))) × (length (rows_in (h i)) ≤ n)

  -- so are all from which the node is told, and two have equally many rows
  abbrev pub AreReadable : List Vertex → List (List ℕ × SeenColumn) → HashMap ℕ SeenColumn S → (cut : ℕ → Bool) → (h : ℕ → Outcome) → (most : ℕ) → (i : ℕ) → Way → Type 0
  AreReadable vs table made cut h n i (way.End e a b) = IsReadable vs table made cut h n a × IsReadable vs table made cut h n b × (length (rows_in (h a)) ≡ length (rows_in (h b)))
  AreReadable vs table made cut h n i (way.Carries s a) = IsReadable vs table made cut h n a
  AreReadable vs table made cut h n i way.Rows = IsReadable vs table made cut h n i

  -- ---- parts by their ways: there, and of the block's rows, where the columns are there

  abbrev pub IsMadeEnd : List Vertex → List (List ℕ × SeenColumn) → HashMap ℕ SeenColumn S → (first most : ℕ) → EndOperation → (a b : ℕ) → Option EndPart → Type 0
  IsMadeEnd vs table made first n op a b o = (cut : ℕ → Bool) (h : ℕ → Outcome) → IsWorked vs table made first cut h → IsReadable vs table made cut h n a → IsReadable vs table made cut h n b → length (rows_in (h a)) ≡ length (rows_in (h b))
      → IsThereAnd (IsPartOf op (class_at vs a) (class_at vs b) (rows_in (h a)) (rows_in (h b))) o

  abbrev pub IsMadeCarry : List Vertex → List (List ℕ × SeenColumn) → HashMap ℕ SeenColumn S → (first most : ℕ) → Scan → (a : ℕ) → Option SeenCarry → Type 0
  IsMadeCarry vs table made first n s a o = (cut : ℕ → Bool) (h : ℕ → Outcome) → IsWorked vs table made first cut h → IsReadable vs table made cut h n a → IsThereAnd (IsBlockCarry s (class_at vs a) (cells (rows_in (h a)))) o

  abbrev pub IsMadeColumn : List Vertex → List (List ℕ × SeenColumn) → HashMap ℕ SeenColumn S → (first most : ℕ) → (i : ℕ) → Option SeenColumn → Type 0
  IsMadeColumn vs table made first n i o = (cut : ℕ → Bool) (h : ℕ → Outcome) → IsWorked vs table made first cut h → IsReadable vs table made cut h n i → IsThereAnd (λ (c : SeenColumn). c.cells ≡ cells (rows_in (h i))) o

  abbrev pub IsMadePart : List Vertex → List (List ℕ × SeenColumn) → HashMap ℕ SeenColumn S → (first most : ℕ) → Wanted → Option Part → Type 0
  IsMadePart vs table made first n w o = (cut : ℕ → Bool) (h : ℕ → Outcome) → IsWorked vs table made first cut h → AreReadable vs table made cut h n w.node w.way → IsThereOfRows vs (λ i. rows_in (h i)) w o

-- ---- whatever the shelf tells

abbrev pub IsSomeEnd : List Vertex → (most : ℕ) → EndOperation → (a b : ℕ) → Option EndPart → Type 0
IsSomeEnd vs n op a b None = Unit {0}
IsSomeEnd vs n op a b (Some t) = IsPart op (class_at vs a) (class_at vs b) n t

abbrev pub IsSomeColumn : List Vertex → (most : ℕ) → (i : ℕ) → Option SeenColumn → Type 0
IsSomeColumn vs n i None = Unit {0}
IsSomeColumn vs n i (Some c) = (c.class ≡ class_at vs i) × (length c.cells ≤ n)

-- ---- all parts

module _ {S : Type 0} where
  -- the parts of nodes, in their order
  abbrev pub AreMadeParts : List Vertex → List (List ℕ × SeenColumn) → HashMap ℕ SeenColumn S → (first most : ℕ) → List Wanted → List (Option Part) → Type 0
  AreMadeParts vs table made first n [] os = Unit {0}
  AreMadeParts vs table made first n (w ∷ ws) os = FitsIfThere vs n w (part_first os) × IsMadePart vs table made first n w (part_first os) × AreMadeParts vs table made first n ws (parts_rest os)
