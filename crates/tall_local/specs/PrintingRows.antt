-- Texts of values, by computation.
use Rattle.std.specs.Prelude.{◌≡◌, pos, negsuc, true, false, [], ◌∷◌, codes, refl, None, Some}
use Rattle.std.specs.Fmt.{digits}
use Rattle.tall_value.specs.declared.class.Class.TheVariants as class
use Rattle.tall_value.specs.declared.class.IntKind.TheVariants.{Int64}
use Rattle.tall_value.specs.Cells.{whole, logical, double, text}
use Rattle.tall_local.specs.Memory.{scalar, column, table, texts}
use Rattle.tall_local.specs.Printing.{memory_text, value_text}
use Rattle.tall_local.specs.Values.{datastore, tall_table, deferred}

-- a quote is doubled, and other bytes are as they are
scalar_of_a_text : memory_text (codes "s") (scalar (text (codes "a\"b\nc"))) ≡ codes "s = string \"a\"\"b\nc\"\n"
unfolding memory_text value_text digits
scalar_of_a_text = refl

scalar_of_an_integer : memory_text (codes "x") (scalar (whole Int64 (negsuc 9223372036854775807))) ≡ codes "x = int64 -9223372036854775808\n"
unfolding memory_text value_text digits
scalar_of_an_integer = refl

empty_column : memory_text (codes "x") (column (record { class = class.Uint16; cells = [] })) ≡ codes "x = uint16 0x1\n"
unfolding memory_text value_text digits
empty_column = refl

column_of_logicals : memory_text (codes "m") (column (record { class = class.Logical; cells = logical true ∷ logical false ∷ [] })) ≡ codes "m = logical 2x1\n    1\n    0\n"
unfolding memory_text value_text digits
column_of_logicals = refl

table_without_rows : memory_text (codes "t") (table ((codes "a", record { class = class.Double; cells = [] }) ∷ (codes "b", record { class = class.Text; cells = [] }) ∷ []))
    ≡ codes "t = table 0x2\n    a  b\n"
unfolding memory_text value_text digits
table_without_rows = refl

table_of_two_columns : memory_text (codes "t") (table ((codes "a", record { class = class.Double; cells = double None ∷ double (Some (pos 7)) ∷ [] }) ∷ (codes "b", record { class = class.Text; cells = text (codes "p") ∷ text [] ∷ [] }) ∷ []))
    ≡ codes "t = table 2x2\n    a  b\n    NaN  \"p\"\n    7  \"\"\n"
unfolding memory_text value_text digits
table_of_two_columns = refl

list_of_no_texts : memory_text (codes "l") (texts []) ≡ codes "l = list 0\n"
unfolding memory_text value_text digits
list_of_no_texts = refl

-- what is deferred shows its class alone; here the class stands for the value
deferred_value : value_text (λ c. c) (codes "y") (deferred class.Uint8) ≡ codes "y = tall uint8\n"
unfolding memory_text value_text digits
deferred_value = refl

deferred_table : value_text (λ c. c) (codes "T") (tall_table ((codes "x", class.Int8) ∷ [])) ≡ codes "T = tall table\n"
unfolding memory_text value_text digits
deferred_table = refl

datastore_value : value_text (λ c. c) (codes "ds") (datastore 3) ≡ codes "ds = datastore\n"
unfolding memory_text value_text digits
datastore_value = refl
