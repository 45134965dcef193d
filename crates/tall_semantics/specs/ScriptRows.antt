-- Worked values over several operations: what the gathers of small scripts come to, with their counts of openings. Each
-- expression has its number in the script; T.x is a stored column of datastore 0.
use Rattle.std.specs.Prelude.{◌≡◌, refl, ℕ, ◌-◌, ℤ, pos, negsuc, true, false, Option, None, Some, Ok, Err, List, [], ◌∷◌, map}
use Rattle.tall_value.specs.declared.class.Class.TheVariants as class
use Rattle.tall_value.specs.declared.class.IntKind.TheVariants.{Int8}
use Rattle.tall_value.specs.declared.faults.FaultKind.TheVariants.{Inexact, NotWhole, NoRows}
use Rattle.tall_value.specs.declared.functions.Reduction.TheVariants.{Sum, Min, Max, Any, All, Height}
use Rattle.tall_value.specs.declared.functions.Scan.TheVariants.{CumSum}
use Rattle.tall_value.specs.declared.operators.Binary.TheVariants.{Add, Sub, Div, Gt}
use Rattle.tall_value.specs.Cells.{whole, logical}
use Rattle.tall_value.specs.declared.faults.ReadingKind.TheVariants.{BadField}
use Rattle.tall_semantics.specs.Operations.{distinct, scan, constant, binary, filter, reduce, head}
use Rattle.tall_semantics.specs.Faults.{Fault, fault_at, least_fault, reading}
use Rattle.tall_semantics.specs.Outcomes.{rows, scalar, fault, fault_of}
use Rattle.tall_semantics.specs.Shapes.{incompatible, level}
use Rattle.tall_semantics.specs.Talls.{Tall, tall, stored_tall, shapes, outcomes}
use Rattle.tall_semantics.specs.Openings.{share}
use Rattle.tall_semantics.specs.Samples.{at, integer_column, double_column, number, outcome_of, class_in, accepted}

-- the fault that a gather of these names
abbrev gathered_fault : List Tall → Option Fault
gathered_fault xs = least_fault (map fault_of (outcomes xs))

-- a constant of the script
abbrev literal : ℕ → ℤ → Tall
literal n z = accepted (tall (at n 3) (constant (number z)) [])

-- ---- x is 3, 5: m = max(x), s = sum(x - m)
abbrev x : Tall
x = double_column 0 (Some (pos 3) ∷ Some (pos 5) ∷ [])

abbrev m : Tall
m = accepted (tall (at 8 3) (reduce Max) (x ∷ []))

abbrev s : Tall
s = accepted (tall (at 13 4) (reduce (Sum false false)) (accepted (tall (at 12 4) (binary Sub) (x ∷ m ∷ [])) ∷ []))

greatest : m.outcome ≡ scalar (number (pos 5))
unfolding tall
greatest = refl

sum_of_differences : s.outcome ≡ scalar (number (negsuc 1))
unfolding tall
sum_of_differences = refl

two_levels : map level (m.shape ∷ s.shape ∷ []) ≡ 1 ∷ 2 ∷ []
unfolding tall
two_levels = refl

-- both together open the file twice, and no file of another datastore
opened_twice : share 0 (shapes (m ∷ s ∷ [])) ≡ 2
unfolding tall
opened_twice = refl

not_opened : share 1 (shapes (m ∷ s ∷ [])) ≡ 0
unfolding tall
not_opened = refl

-- sum(x - max(x - min(x))): three passes, so four openings with that of the datastore's call
abbrev nested : Tall
nested =
    let least : Tall = accepted (tall (at 9 3) (reduce Min) (x ∷ [])) in
    let inner : Tall = accepted (tall (at 11 3) (reduce Max) (accepted (tall (at 10 3) (binary Sub) (x ∷ least ∷ [])) ∷ [])) in
    accepted (tall (at 13 3) (reduce (Sum false false)) (accepted (tall (at 12 3) (binary Sub) (x ∷ inner ∷ [])) ∷ []))

nested_sum : nested.outcome ≡ scalar (number (pos 4))
unfolding tall
nested_sum = refl

three_passes : share 0 (shapes (nested ∷ [])) ≡ 3
unfolding tall
three_passes = refl

-- a gathered column counts one for its own rows, a head of it too, and a sum of that head adds nothing
abbrev top : Tall
top = accepted (tall (at 9 3) (head 1) (x ∷ []))

levels_of_small_results : map level (x.shape ∷ top.shape ∷ (accepted (tall (at 10 3) (reduce (Sum false false)) (top ∷ []))).shape ∷ []) ≡ 1 ∷ 1 ∷ 1 ∷ []
unfolding tall
levels_of_small_results = refl

-- a running sum of a datastore's rows takes a pass for what goes before each block, and one for its rows
running : level (accepted (tall (at 9 3) (scan CumSum) (x ∷ []))).shape ≡ 2
unfolding tall
running = refl

-- distinct values and groups are small: what is computed row by row over them adds nothing
level_of_distinct : level (accepted (tall (at 10 3) (scan CumSum) (accepted (tall (at 9 3) distinct (x ∷ [])) ∷ []))).shape ≡ 1
unfolding tall
level_of_distinct = refl

-- ---- y = x ./ (x - m) on line 6, z = x ./ 0 on line 7: both fail at row 1, and the lesser number goes first
abbrev y : Tall
y = accepted (tall (at 13 6) (binary Div) (x ∷ accepted (tall (at 12 6) (binary Sub) (x ∷ m ∷ [])) ∷ []))

abbrev z : Tall
z = accepted (tall (at 16 7) (binary Div) (x ∷ literal 15 (pos 0) ∷ []))

fails_on_line_six : y.outcome ≡ fault (fault_at (at 13 6) (Some 1) NotWhole)
unfolding tall
fails_on_line_six = refl

fails_on_line_seven : z.outcome ≡ fault (fault_at (at 16 7) (Some 1) Inexact)
unfolding tall
fails_on_line_seven = refl

lesser_number_first : gathered_fault (z ∷ y ∷ []) ≡ Some (fault_at (at 13 6) (Some 1) NotWhole)
unfolding tall
lesser_number_first = refl

-- what is computed from both has the lesser one's fault
fault_of_an_operand : outcome_of (tall (at 17 8) (binary Add) (z ∷ y ∷ [])) ≡ Ok (fault (fault_at (at 13 6) (Some 1) NotWhole))
unfolding tall
fault_of_an_operand = refl

-- ---- height(T) of a table whose other column fails
unreached_fault : outcome_of (tall (at 10 4) (reduce Height) (x ∷ [])) ≡ Ok (scalar (number (pos 2)))
unfolding tall
unreached_fault = refl

-- ---- a is 1, -2, 3 and b is 10, 20, 30: sum(a(a > 0) + b(a > 0))
abbrev a : Tall
a = double_column 0 (Some (pos 1) ∷ Some (negsuc 1) ∷ Some (pos 3) ∷ [])

abbrev b : Tall
b = double_column 1 (Some (pos 10) ∷ Some (pos 20) ∷ Some (pos 30) ∷ [])

-- the mask is written twice, as two expressions
abbrev mask : ℕ → Tall
mask n = accepted (tall (at n 3) (binary Gt) (a ∷ literal (n - 1) (pos 0) ∷ []))

abbrev kept_a : Tall
kept_a = accepted (tall (at 12 3) filter (a ∷ mask 11 ∷ []))

abbrev kept_b : Tall
kept_b = accepted (tall (at 18 3) filter (b ∷ mask 17 ∷ []))

rows_keep_their_numbers : kept_b.outcome ≡ rows ((1, number (pos 10)) ∷ (3, number (pos 30)) ∷ [])
unfolding tall
rows_keep_their_numbers = refl

equal_masks : outcome_of (tall (at 20 3) (reduce (Sum false false)) (accepted (tall (at 19 3) (binary Add) (kept_a ∷ kept_b ∷ [])) ∷ [])) ≡ Ok (scalar (number (pos 44)))
unfolding tall
equal_masks = refl

column_of_another_space : class_in (tall (at 21 4) (binary Add) (kept_a ∷ b ∷ [])) ≡ Err incompatible
unfolding tall
column_of_another_space = refl

-- ---- no rows
abbrev empty : Tall
empty = integer_column 0 Int8 []

abbrev above : Tall
above = accepted (tall (at 10 3) (binary Gt) (empty ∷ literal 9 (pos 0) ∷ []))

native_sum_of_none : outcome_of (tall (at 11 3) (reduce (Sum true false)) (empty ∷ [])) ≡ Ok (scalar (whole Int8 (pos 0)))
unfolding tall
native_sum_of_none = refl

all_of_none : outcome_of (tall (at 11 3) (reduce All) (above ∷ [])) ≡ Ok (scalar (logical true))
unfolding tall
all_of_none = refl

any_of_none : outcome_of (tall (at 11 3) (reduce Any) (above ∷ [])) ≡ Ok (scalar (logical false))
unfolding tall
any_of_none = refl

head_of_none : outcome_of (tall (at 11 3) (head 8) (empty ∷ [])) ≡ Ok (rows [])
unfolding tall
head_of_none = refl

greatest_of_none : outcome_of (tall (at 11 4) (reduce Max) (empty ∷ [])) ≡ Ok (fault (fault_at (at 11 4) None NoRows))
unfolding tall
greatest_of_none = refl

-- ---- data of a failing datastore, whose call is expression 3 on line 1: each column has its first reading fault
abbrev broken : Fault
broken = record { number = 3; row = Some 7; column = 2; store = 0; cause = reading BadField 0; line = 1 }

abbrev unread : Tall
unread = stored_tall 0 0 class.Double (fault broken)

-- the datastore's number is below that of what is computed, though its row is later
reading_fault_first : gathered_fault (z ∷ unread ∷ []) ≡ Some broken
unfolding tall
reading_fault_first = refl

sum_over_a_reading_fault : outcome_of (tall (at 9 3) (reduce Height) (unread ∷ [])) ≡ Ok (fault broken)
unfolding tall
sum_over_a_reading_fault = refl
