-- What the next block of a scan goes on from, told by the blocks so far.
use Rattle.std.specs.Prelude.{◌≡◌, Bool, false, ◌||◌, is_none, Ok, List, [], ◌∷◌, ◌++◌}
use Rattle.std.specs.List.{All}
use Rattle.tall_value.specs.declared.class.Class.{Class}
use Rattle.tall_value.specs.declared.class.Kind.{Kind}
use Rattle.tall_value.specs.declared.functions.Scan.{Scan}
use Rattle.tall_value.specs.Cells.{Seen}
use Rattle.tall_value.specs.Classes.{kind_of}
use Rattle.tall_value.specs.Columns.{HasKind}
use Rattle.tall_value.specs.FunctionClasses.{scan_class}
use Rattle.tall_fold.specs.Carries.{IsCarry, SeenCarry}
use Rattle.tall_semantics.specs.ScanCarries.{fold_of}
use Rattle.tall_blocks.specs.Carries.{flat}
use Rattle.tall_part.specs.declared.next_carry.NextCarry.{NextCarry}

-- the carry is that of a block's cells, of a column of a class
pub record IsBlockCarry (s : Scan) (class : Class) (cs : List Seen) (c : SeenCarry) : Type 0 where
  pub result_class : scan_class s class ≡ Ok c.class
  pub carry : IsCarry s c.class cs c
  pub kinds : All (HasKind (kind_of class)) cs

-- the fold before one of the blocks is out of range
abbrev pub lost_behind : Scan → Kind → (before : List Seen) → (blocks : List (List Seen)) → Bool
lost_behind s a before [] = false
lost_behind s a before (b ∷ bs) = is_none (fold_of s a before) || lost_behind s a (before ++ b) bs

-- behind these blocks of a column of a class
pub record IsNextCarry (s : Scan) (class : Class) (blocks : List (List Seen)) (c : NextCarry) : Type 0 where
  pub so_far : IsBlockCarry s class (flat blocks) c.so_far
  pub lost : c.lost ≡ lost_behind s (kind_of class) [] blocks
