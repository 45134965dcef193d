-- Stored columns and first reading faults of small files, by computation.
use Rattle.std.specs.Prelude.{◌≡◌, ℕ, pos, List, [], ◌∷◌, ◌^◌, ◌-◌, codes, refl, true, false, Option, None, Some, Ok}
use Rattle.csv.proofs.OnLiterals.{csv_on_literals}
use Rattle.tall_cut.specs.declared.cutter.ReadSize.TheVariants.{Rows}
use Rattle.tall_outside.specs.Shelf.{Files}
use Rattle.tall_value.specs.declared.class.Class.TheVariants as class
use Rattle.tall_value.specs.declared.class.IntKind.TheVariants as kind
use Rattle.tall_value.specs.Cells.{whole, double}
use Rattle.tall_store.specs.declared.format.Format.TheVariants.{Int8, Double}
use Rattle.tall_store.specs.declared.faults.ReadingFault.{ReadingFault}
use Rattle.tall_value.specs.declared.faults.ReadingKind.{ReadingKind}
use Rattle.tall_value.specs.declared.faults.ReadingKind.TheVariants.{NoFile, HeaderDiffers, TooManyRows, TooManyFields, BadField, NotWhole}
use Rattle.tall_store.specs.Stores.{SeenStore}
use Rattle.tall_store.specs.ReadingOrder.{first_reading_fault}
use Rattle.tall_store.specs.Stored.{first_fault, record_faults, stored_column, stored_table}

-- a datastore of the variables x, an int8, and y, a double, over two files
abbrev both : SeenStore
both = record {
  files = codes "a" ∷ codes "b" ∷ [];
  delimiter = 44;
  size = Rows 20000;
  missing = codes "NA" ∷ [];
  header = true;
  names = codes "x" ∷ codes "y" ∷ [];
  formats = Int8 ∷ Double ∷ [];
  selected = 0 ∷ 1 ∷ [];
  first = codes "x" ∷ codes "y" ∷ [];
}

abbrev y_alone : SeenStore
y_alone = record both { selected = 1 ∷ [] }

abbrev over : List ℕ → List ℕ → Files
over a b = (codes "a", a) ∷ (codes "b", b) ∷ []

abbrev fault : ReadingKind → ℕ → ℕ → ℕ → Option ReadingFault
fault kind file row column = Some (record { kind = kind; file = file; row = row; column = column })

-- rows go on from file to file; a record that is short ends in empty fields
two_files : stored_column both (over (codes "x,y\n1,2\n3\n") (codes "x,y\n200,NA\n")) 1 ≡ Ok ((1, double (Some (pos 2))) ∷ (2, double None) ∷ (3, double None) ∷ [])
unfolding csv_on_literals
two_files = refl

clamped : stored_column both (over (codes "x,y\n1,2\n3\n") (codes "x,y\n200,NA\n")) 0 ≡ Ok ((1, whole kind.Int8 (pos 1)) ∷ (2, whole kind.Int8 (pos 3)) ∷ (3, whole kind.Int8 (pos 127)) ∷ [])
unfolding csv_on_literals
clamped = refl

-- the order of the selection
selection : stored_table (record both { selected = 1 ∷ 0 ∷ [] }) (over (codes "x,y\n1,2\n") (codes "x,y\n"))
    ≡ Ok ((codes "y", record { class = class.Double; cells = double (Some (pos 2)) ∷ [] }) ∷ (codes "x", record { class = class.Int8; cells = whole kind.Int8 (pos 1) ∷ [] }) ∷ [])
unfolding csv_on_literals
selection = refl

-- a variable that isn't selected is not converted
unselected : stored_column y_alone (over (codes "x,y\n?,2\n") (codes "x,y\n")) 0 ≡ Ok ((1, double (Some (pos 2))) ∷ [])
unfolding csv_on_literals
unselected = refl

-- ---- faults

-- the row comes before the column
row_first : first_fault both (over (codes "x,y\n1,?\n?,2\n") (codes "x,y\n")) ≡ fault BadField 0 1 2
unfolding csv_on_literals
row_first = refl

-- in one row the column of the file, and not the place in the selection
column_of_the_file : first_fault (record both { selected = 1 ∷ 0 ∷ [] }) (over (codes "x,y\n?,2.5\n") (codes "x,y\n")) ≡ fault BadField 0 1 1
unfolding csv_on_literals
column_of_the_file = refl

not_whole : first_fault both (over (codes "x,y\n1,2.5\n?,?\n") (codes "x,y\n")) ≡ fault NotWhole 0 1 2
unfolding csv_on_literals
not_whole = refl

-- the number of fields comes before each field
too_many_fields : first_fault both (over (codes "x,y\n?,2.5,\n") (codes "x,y\n")) ≡ fault TooManyFields 0 1 0
unfolding csv_on_literals
too_many_fields = refl

-- it counts the variables of the file, selected or not
fields_of_the_file : first_fault y_alone (over (codes "x,y\n?,2\n") (codes "x,y\n,,,\n")) ≡ fault TooManyFields 1 2 0
unfolding csv_on_literals
fields_of_the_file = refl

absent_file : first_fault both ((codes "a", codes "x,y\n1,2\n") ∷ []) ≡ fault NoFile 1 2 0
unfolding csv_on_literals
absent_file = refl

-- the fault of an earlier row comes first
earlier_row : first_fault both ((codes "a", codes "x,y\n?,2\n") ∷ []) ≡ fault BadField 0 1 1
unfolding csv_on_literals
earlier_row = refl

other_header : first_fault both (over (codes "x,y\n1,2\n") (codes "x,y,\n?,?,?\n")) ≡ fault HeaderDiffers 1 2 0
unfolding csv_on_literals
other_header = refl

no_header : first_fault both (over (codes "x,y\n1,2\n") []) ≡ fault HeaderDiffers 1 2 0
unfolding csv_on_literals
no_header = refl

-- of two files that give no row, the earlier one
earlier_file : first_fault (record both { files = codes "a" ∷ codes "c" ∷ codes "b" ∷ [] }) (over (codes "x,y\n") (codes "y\n")) ≡ fault NoFile 1 1 0
unfolding csv_on_literals
earlier_file = refl

-- without names each record is a row, and a file may have none
without_names : first_fault (record both { header = false }) (over (codes "1,2\n") []) ≡ None
unfolding csv_on_literals
without_names = refl

-- the row numbered 2^40 is refused before its fields are looked at
last_row : record_faults both (record { file = 0; row = 2 ^ 40 - 1; fields = codes "1" ∷ [] }) ≡ []
last_row = refl

row_after_the_last : first_reading_fault (record_faults both (record { file = 0; row = 2 ^ 40; fields = codes "?" ∷ codes "1" ∷ codes "1" ∷ [] })) ≡ fault TooManyRows 0 (2 ^ 40) 0
row_after_the_last = refl
