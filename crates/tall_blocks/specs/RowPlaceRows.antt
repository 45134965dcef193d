-- Worked places and numbers of rows: of the rows 3, 4, 7 a mask keeps 4 and 7.
use Rattle.std.specs.Prelude.{◌≡◌, refl, pos, true, false, Err, List, [], ◌∷◌}
use Rattle.tall_value.specs.declared.faults.CellFault.TheVariants.{NotWhole}
use Rattle.tall_value.specs.declared.operators.Binary.TheVariants.{Div}
use Rattle.tall_value.specs.Cells.{Seen, logical}
use Rattle.tall_value.specs.Columns.{cells, numbered}
use Rattle.tall_value.specs.Elementwise.{binary_rows}
use Rattle.tall_value.specs.Filters.{kept}
use Rattle.tall_semantics.specs.Samples.{number}
use Rattle.tall_blocks.specs.Carries.{Rows}
use Rattle.tall_blocks.specs.RowPlaces.{row_number_at, renumbered, with_numbers, kept_place}

abbrev some_rows : Rows
some_rows = (3, number (pos 6)) ∷ (4, number (pos 1)) ∷ (7, number (pos 5)) ∷ []

abbrev divisors : Rows
divisors = (3, number (pos 2)) ∷ (4, number (pos 1)) ∷ (7, number (pos 2)) ∷ []

abbrev mask : List Seen
mask = logical false ∷ logical true ∷ logical true ∷ []

numbers_of_places : row_number_at some_rows 2 ≡ 7
numbers_of_places = refl

other_cells : renumbered some_rows (numbered 0 (number (pos 1) ∷ number (pos 2) ∷ number (pos 3) ∷ [])) ≡ (3, number (pos 1)) ∷ (4, number (pos 2)) ∷ (7, number (pos 3)) ∷ []
other_cells = refl

-- 5 / 2 at place 2 is the fault of row 7
fault_at_a_place : binary_rows Div (numbered 0 (cells some_rows)) (numbered 0 (cells divisors)) ≡ Err (2, NotWhole)
fault_at_a_place = refl

fault_at_its_row : with_numbers some_rows (binary_rows Div (numbered 0 (cells some_rows)) (numbered 0 (cells divisors))) ≡ Err (7, NotWhole)
fault_at_its_row = refl

-- the second that is kept is the third
place_of_kept : kept_place mask 1 ≡ 2
place_of_kept = refl

number_of_kept : row_number_at (kept some_rows mask) 1 ≡ 7
number_of_kept = refl
