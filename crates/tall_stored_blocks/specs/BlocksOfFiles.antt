-- Worked blocks of small files.
use Rattle.std.specs.Prelude.{◌≡◌, refl, pos, false, true, None, Some, List, [], ◌∷◌, codes, map}
use Rattle.csv.proofs.OnLiterals.{csv_on_literals}
use Rattle.tall_cut.specs.declared.cutter.ReadSize.TheVariants.{Rows}
use Rattle.tall_outside.specs.Shelf.{Files}
use Rattle.tall_value.specs.Cells.{double}
use Rattle.tall_value.specs.declared.class.Class.TheVariants as class
use Rattle.tall_value.specs.declared.functions.Reduction.TheVariants.{Sum}
use Rattle.tall_semantics.specs.Operations.{reduce, stored, operation}
use Rattle.tall_semantics.specs.Deferred.{Vertex}
use Rattle.tall_semantics.specs.Outcomes.{rows}
use Rattle.tall_store.specs.Blocks.{all_blocks, blocks_up_to}
use Rattle.tall_store.specs.Stores.{SeenStore}
use Rattle.tall_store.specs.declared.format.Format.TheVariants.{Double}
use Rattle.tall_stored.specs.StoredColumns.{Store}
use Rattle.tall_stored_blocks.specs.StoredBlocks.{columns_of, blocks_of}

abbrev pub y_of_two_files : SeenStore
y_of_two_files = record {
  files = codes "a" ∷ codes "b" ∷ [];
  delimiter = 44;
  size = Rows 2;
  missing = [];
  header = true;
  names = codes "x" ∷ codes "y" ∷ [];
  formats = Double ∷ Double ∷ [];
  selected = 1 ∷ [];
  first = codes "x" ∷ codes "y" ∷ [];
}

abbrev pub held : Files
held = (codes "a", codes "x,y\n1,2\n3,\n5,7\n") ∷ (codes "b", codes "x,y\n5,6\n") ∷ []

abbrev pub stores : List Store
stores = record { at = record { number = 1; line = 1 }; store = y_of_two_files } ∷ []

-- y and its sum
abbrev pub vertices : List Vertex
vertices =
    record { at = record { number = 1; line = 1 }; made = stored 0 0 class.Double; args = [] }
    ∷ record { at = record { number = 3; line = 2 }; made = operation (reduce (Sum false true)); args = 0 ∷ [] }
    ∷ []

-- two rows, one left of the first file, and one of the second, numbered on
blocks_of_y : map (λ b. b 0 0) (blocks_of y_of_two_files (all_blocks y_of_two_files held))
    ≡ ((1, double (Some (pos 2))) ∷ (2, double None) ∷ []) ∷ ((3, double (Some (pos 7))) ∷ []) ∷ ((4, double (Some (pos 6))) ∷ []) ∷ []
unfolding csv_on_literals blocks_up_to
blocks_of_y = refl

column_y : columns_of held stores 0 0
    ≡ rows ((1, double (Some (pos 2))) ∷ (2, double None) ∷ (3, double (Some (pos 7))) ∷ (4, double (Some (pos 6))) ∷ [])
unfolding csv_on_literals
column_y = refl
