-- Scans over some rows of a column, behind the cells before them. Each row has the fold of all cells up to it, by the one
-- notion of what a scan goes on from (crates/tall_semantics/specs: ScanCarries); what is kept of it for a block is the fold
-- of the cells before the block, its carry.
use Rattle.std.specs.Prelude.{◌≡◌, ◌≤ℤ◌, ℕ, Option, None, Some, Result, Ok, Err, List, [], ◌∷◌, ◌++◌, get_or}
use Rattle.tall_value.specs.declared.class.Kind.{Kind}
use Rattle.tall_value.specs.declared.class.Kind.TheVariants.{Integer, Logical, Double, Text}
use Rattle.tall_value.specs.declared.faults.CellFault.{CellFault}
use Rattle.tall_value.specs.declared.faults.CellFault.TheVariants.{Inexact}
use Rattle.tall_value.specs.declared.functions.Scan.{Scan}
use Rattle.tall_value.specs.Cells.{Seen, whole, seen_kind}
use Rattle.tall_value.specs.Classes.{greatest, least}
use Rattle.tall_value.specs.Elementwise.{at_row}
use Rattle.tall_semantics.specs.ScanCarries.{fold_of, carries_of}

-- cells with the numbers of their rows
abbrev pub Rows : Type 0
Rows = List (ℕ × Seen)

-- all rows, or the first fault with the number of its row
abbrev pub RowsOrFault : Type 0
RowsOrFault = Result Rows (ℕ × CellFault)

-- some rows and then others, of which the first fault is the fault
abbrev pub rows_joined : RowsOrFault → RowsOrFault → RowsOrFault
rows_joined (Ok rs) (Ok ss) = Ok (rs ++ ss)
rows_joined (Ok rs) (Err e) = Err e
rows_joined (Err e) s = Err e

-- ---- scans

-- there is no fold where a sum of doubles is out of range
abbrev pub or_inexact : Option Seen → Result Seen CellFault
or_inexact (Some c) = Ok c
or_inexact None = Err Inexact

-- the scan of rows of a column of a kind, behind the cells before them: the first row whose fold is out of range is the
-- fault, whatever is behind it
abbrev pub scanned_behind : Scan → Kind → (before : List Seen) → Rows → RowsOrFault
scanned_behind s a before [] = Ok []
scanned_behind s a before (r ∷ rs) = at_row r.0 (or_inexact (fold_of s a (before ++ r.1 ∷ []))) (scanned_behind s a (before ++ r.1 ∷ []) rs)

-- ---- carries

-- of all blocks, one after the other
abbrev pub flat : {A : Type 0} → List (List A) → List A
flat [] = []
flat (b ∷ bs) = b ++ flat bs

-- the carry of the block at a place, of which there is none behind a fold that is out of range
abbrev pub carry_for : Scan → Kind → (blocks : List (List Seen)) → (place : ℕ) → Option Seen
carry_for s a blocks place = get_or (carries_of s a blocks) place None

abbrev pub AllCells : (Seen → Type 0) → List Seen → Type 0
AllCells P [] = Unit {0}
AllCells P (c ∷ cs) = P c × AllCells P cs

-- a cell of a kind that a scan takes
abbrev pub HasScanKind : Kind → Seen → Type 0
HasScanKind Text c = ⊥
HasScanKind (Integer k) c = seen_kind c ≡ Integer k
HasScanKind Logical c = seen_kind c ≡ Logical
HasScanKind Double c = seen_kind c ≡ Double

-- a number of an integer class is within the class
abbrev pub IsInClass : Kind → Seen → Type 0
IsInClass (Integer k) (whole j n) = (j ≡ k) × (least k ≤ℤ n) × (n ≤ℤ greatest k)
IsInClass (Integer k) c = ⊥
IsInClass a c = Unit {0}
