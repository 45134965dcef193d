-- Blocks of small files, by computation.
use Rattle.std.specs.Prelude.{◌≡◌, ℕ, pos, List, [], ◌∷◌, codes, refl, true, None, Some, Ok, Err}
use Rattle.csv.proofs.OnLiterals.{csv_on_literals}
use Rattle.tall_cut.specs.declared.cutter.ReadSize.TheVariants.{Rows, File}
use Rattle.tall_cut.specs.Rows.{Fields}
use Rattle.tall_outside.specs.Shelf.{Files}
use Rattle.tall_value.specs.declared.class.Class.TheVariants as class
use Rattle.tall_value.specs.Cells.{double}
use Rattle.tall_store.specs.declared.format.Format.TheVariants.{Double}
use Rattle.tall_value.specs.declared.faults.ReadingKind.TheVariants.{BadField}
use Rattle.tall_store.specs.Stores.{SeenStore}
use Rattle.tall_store.specs.Blocks.{all_blocks, block_table, blocks_up_to, first_met, in_blocks}

abbrev one : SeenStore
one = record {
  files = codes "a" ∷ codes "b" ∷ [];
  delimiter = 44;
  size = Rows 2;
  missing = [];
  header = true;
  names = codes "x" ∷ [];
  formats = Double ∷ [];
  selected = 0 ∷ [];
  first = codes "x" ∷ [];
}

abbrev row : List ℕ → Fields
row field = field ∷ []

abbrev files : Files
files = (codes "a", codes "x\n1\n2\n3\n") ∷ (codes "b", codes "x\n4\n") ∷ []

-- no block spans two files, and rows go on from file to file
blocks_of_two : all_blocks one files
    ≡ record { file = 0; row = 1; records = row (codes "1") ∷ row (codes "2") ∷ [] }
    ∷ record { file = 0; row = 3; records = row (codes "3") ∷ [] }
    ∷ record { file = 1; row = 4; records = row (codes "4") ∷ [] } ∷ []
unfolding csv_on_literals blocks_up_to
blocks_of_two = refl

whole_files : all_blocks (record one { size = File }) files
    ≡ record { file = 0; row = 1; records = row (codes "1") ∷ row (codes "2") ∷ row (codes "3") ∷ [] }
    ∷ record { file = 1; row = 4; records = row (codes "4") ∷ [] } ∷ []
unfolding csv_on_literals blocks_up_to
whole_files = refl

table_of_a_block : block_table one (record { file = 1; row = 4; records = row (codes "4") ∷ [] })
    ≡ Ok ((codes "x", record { class = class.Double; cells = double (Some (pos 4)) ∷ [] }) ∷ [])
table_of_a_block = refl

-- a block has the rows of all files
fault_of_a_block : block_table one (record { file = 1; row = 4; records = row (codes "4") ∷ row (codes "?") ∷ [] })
    ≡ Err (record { kind = BadField; file = 1; row = 5; column = 1 })
fault_of_a_block = refl

no_fault : first_met (in_blocks (Rows 2)) one files ≡ None
unfolding csv_on_literals blocks_up_to
no_fault = refl
