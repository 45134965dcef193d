-- Worked values of one file of a walk.
use Rattle.std.specs.Prelude.{◌≡◌, true, false, Bool, [], ◌∷◌, codes, refl}
use Rattle.csv.proofs.OnLiterals.{csv_on_literals}
use Rattle.tall_outside.specs.Shelf.{Files}
use Rattle.tall_cut.specs.declared.cutter.ReadSize.TheVariants.{Rows}
use Rattle.tall_value.specs.declared.faults.ReadingKind.TheVariants.{NoFile, HeaderDiffers}
use Rattle.tall_store.specs.declared.format.Format.TheVariants.{Double}
use Rattle.tall_store.specs.Stores.{SeenStore}
use Rattle.tall_store.specs.FileEnds.{fault_at, header_faults, walked_file}

abbrev store_with : Bool → SeenStore
store_with header = record {
  files = codes "a.csv" ∷ codes "b.csv" ∷ codes "c.csv" ∷ [];
  delimiter = 44;
  size = Rows 2;
  missing = [];
  header = header;
  names = codes "x" ∷ [];
  formats = Double ∷ [];
  selected = 0 ∷ [];
  first = codes "x" ∷ [];
}

abbrev files : Files
files = (codes "a.csv", codes "x\n1\n2\n") ∷ (codes "b.csv", codes "y\n3\n") ∷ []

the_header_is_no_row : (walked_file (store_with true) files 0 1).records ≡ (codes "1" ∷ []) ∷ (codes "2" ∷ []) ∷ []
unfolding csv_on_literals
the_header_is_no_row = refl

a_header_that_is_the_same : (walked_file (store_with true) files 0 1).faults ≡ []
unfolding csv_on_literals
a_header_that_is_the_same = refl

without_headers_each_record_is_a_row : (walked_file (store_with false) files 1 4).records ≡ (codes "y" ∷ []) ∷ (codes "3" ∷ []) ∷ []
unfolding csv_on_literals
without_headers_each_record_is_a_row = refl

a_header_that_differs : (walked_file (store_with true) files 1 3).faults ≡ fault_at HeaderDiffers 1 3 ∷ []
unfolding csv_on_literals
a_header_that_differs = refl

without_headers_none_differs : (walked_file (store_with false) files 1 3).faults ≡ []
unfolding csv_on_literals
without_headers_none_differs = refl

an_absent_file : (walked_file (store_with true) files 2 4).faults ≡ fault_at NoFile 2 4 ∷ []
unfolding csv_on_literals
an_absent_file = refl

no_record_is_no_header : header_faults (store_with true) [] 1 3 ≡ fault_at HeaderDiffers 1 3 ∷ []
unfolding csv_on_literals
no_record_is_no_header = refl
