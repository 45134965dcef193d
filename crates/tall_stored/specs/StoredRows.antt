-- Columns of small files, by computation.
use Rattle.std.specs.Prelude.{◌≡◌, ℕ, pos, List, [], ◌∷◌, codes, refl, true, None, Some}
use Rattle.csv.proofs.OnLiterals.{csv_on_literals}
use Rattle.tall_cut.specs.declared.cutter.ReadSize.TheVariants.{Rows}
use Rattle.tall_outside.specs.Shelf.{Files}
use Rattle.tall_value.specs.declared.faults.ReadingKind.TheVariants.{BadField}
use Rattle.tall_value.specs.Cells.{double}
use Rattle.tall_semantics.specs.Faults.{reading}
use Rattle.tall_semantics.specs.Outcomes.{rows, fault}
use Rattle.tall_store.specs.declared.format.Format.TheVariants.{Double}
use Rattle.tall_stored.specs.StoredColumns.{Store, column_outcome, rows_of_store}

-- the second datastore of a script: the variables y and x of two files, from expression 3 on line 2
abbrev two_files : Store
two_files = record {
  at = record { number = 3; line = 2 };
  store = record {
    files = codes "a" ∷ codes "b" ∷ [];
    delimiter = 44;
    size = Rows 2;
    missing = [];
    header = true;
    names = codes "x" ∷ codes "y" ∷ [];
    formats = Double ∷ Double ∷ [];
    selected = 1 ∷ 0 ∷ [];
    first = codes "x" ∷ codes "y" ∷ [];
  };
}

abbrev held : Files
held = (codes "a", codes "x,y\n1,2\n3,\n") ∷ (codes "b", codes "x,y\n5,6\n") ∷ []

column_y : column_outcome held 1 two_files 0 ≡ rows ((1, double (Some (pos 2))) ∷ (2, double None) ∷ (3, double (Some (pos 6))) ∷ [])
unfolding csv_on_literals
column_y = refl

numbers : rows_of_store held (Some two_files) ≡ 1 ∷ 2 ∷ 3 ∷ []
unfolding csv_on_literals
numbers = refl

-- the fault of x is that of each column
column_with_fault : column_outcome ((codes "a", codes "x,y\n1,2\n") ∷ (codes "b", codes "x,y\n?,6\n") ∷ []) 1 two_files 0
    ≡ fault (record { number = 3; row = Some 2; column = 1; store = 1; cause = reading BadField 1; line = 2 })
unfolding csv_on_literals
column_with_fault = refl
