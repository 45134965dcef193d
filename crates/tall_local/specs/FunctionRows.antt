-- What each function and each operator of a name does, by computation: one table for each kind, over operands that tell all of the
-- table apart. A name that stood for another's function would change a line.
use Prim.Native.String.{String}
use Rattle.std.specs.Prelude.{◌≡◌, refl, ℕ, ℤ, pos, negsuc, true, false, List, [], ◌∷◌, map, Option, None, Some, option_map, option_and_then, Result, Ok, Err, codes}
use Rattle.tall_value.specs.declared.class.Class.TheVariants as class
use Rattle.tall_value.specs.declared.class.IntKind.TheVariants.{Int8, Int16, Int32, Int64, Uint8, Uint16, Uint32, Uint64}
use Rattle.tall_value.specs.declared.faults.FaultKind.TheVariants.{Inexact}
use Rattle.tall_value.specs.Cells.{Seen, whole, logical, double, text}
use Rattle.tall_column.specs.Columns.{SeenColumn}
use Rattle.tall_grammar.specs.declared.expressions.Infix.{Infix}
use Rattle.tall_grammar.specs.declared.expressions.Infix.TheVariants.{Or, And, Eq, Ne, Lt, Le, Gt, Ge, Add, Sub, DotMul, DotDiv, Mul, Div}
use Rattle.tall_grammar.specs.declared.expressions.Prefix.TheVariants.{Minus, Plus, Not}
use Rattle.tall_local.specs.Applications.{application}
use Rattle.tall_local.specs.Functions.{value_functions}
use Rattle.tall_local.specs.Memory.{Memory, scalar, column, scalar_in}
use Rattle.tall_local.specs.MemoryFunctions.{memory_application}
use Rattle.tall_local.specs.MemoryOperators.{memory_unary, memory_binary, memory_prefix, memory_infix}
use Rattle.tall_local.specs.Names.{named}
use Rattle.tall_local.specs.Printing.{class_name}
use Rattle.tall_local.specs.Refusals.{Refusal, failed}

-- a call of a function by its name
abbrev called : List Memory → String → Option (Result Memory Refusal)
called vs name = option_map memory_application (option_and_then (λ f. application scalar_in f vs) (named value_functions (codes name)))

abbrev number : ℕ → Memory
number n = scalar (double (Some (pos n)))

abbrev gives_cell : Seen → Option (Result Memory Refusal)
gives_cell c = Some (Ok (scalar c))

abbrev ints : List ℤ → SeenColumn
ints ns = record { class = class.Int8; cells = map (λ n. whole Int8 n) ns }

abbrev gives_ints : List ℤ → Option (Result Memory Refusal)
gives_ints ns = Some (Ok (column (ints ns)))

-- ---- functions of one operand

-- of 300, which int8 and uint8 don't have
conversions : map (called (number 300 ∷ [])) ("int8" ∷ "int16" ∷ "int32" ∷ "int64" ∷ "uint8" ∷ "uint16" ∷ "uint32" ∷ "uint64" ∷ "double" ∷ "logical" ∷ "isnan" ∷ "abs" ∷ [])
    ≡ map gives_cell (whole Int8 (pos 127) ∷ whole Int16 (pos 300) ∷ whole Int32 (pos 300) ∷ whole Int64 (pos 300) ∷ whole Uint8 (pos 255) ∷ whole Uint16 (pos 300) ∷ whole Uint32 (pos 300)
    ∷ whole Uint64 (pos 300) ∷ double (Some (pos 300)) ∷ logical true ∷ logical false ∷ double (Some (pos 300)) ∷ [])
unfolding memory_application memory_unary
conversions = refl

-- of 1, 3, 2
scans : map (called (column (ints (pos 1 ∷ pos 3 ∷ pos 2 ∷ [])) ∷ [])) ("cumsum" ∷ "cummin" ∷ "cummax" ∷ [])
    ≡ map gives_ints ((pos 1 ∷ pos 4 ∷ pos 6 ∷ []) ∷ (pos 1 ∷ pos 1 ∷ pos 1 ∷ []) ∷ (pos 1 ∷ pos 3 ∷ pos 3 ∷ []) ∷ [])
unfolding memory_application
scans = refl

-- of 1, 3, 0
reductions : map (called (column (ints (pos 1 ∷ pos 3 ∷ pos 0 ∷ [])) ∷ [])) ("sum" ∷ "min" ∷ "max" ∷ "nnz" ∷ "numel" ∷ [])
    ≡ map gives_cell (double (Some (pos 4)) ∷ whole Int8 (pos 0) ∷ whole Int8 (pos 3) ∷ double (Some (pos 2)) ∷ double (Some (pos 3)) ∷ [])
unfolding memory_application
reductions = refl

-- of true, false
logical_reductions : map (called (column (record { class = class.Logical; cells = logical true ∷ logical false ∷ [] }) ∷ [])) ("any" ∷ "all" ∷ []) ≡ map gives_cell (logical true ∷ logical false ∷ [])
unfolding memory_application
logical_reductions = refl

-- ---- functions of two operands

-- of 13 and 6: 1101 and 0110
of_two : map (called (scalar (whole Int8 (pos 13)) ∷ scalar (whole Int8 (pos 6)) ∷ [])) ("mod" ∷ "bitand" ∷ "bitor" ∷ "bitxor" ∷ "idivide" ∷ [])
    ≡ map gives_cell (whole Int8 (pos 1) ∷ whole Int8 (pos 4) ∷ whole Int8 (pos 15) ∷ whole Int8 (pos 11) ∷ whole Int8 (pos 2) ∷ [])
unfolding memory_application memory_binary
of_two = refl

of_two_texts : map (λ b. called (scalar (text (codes "a")) ∷ scalar (text (codes b)) ∷ []) "strcmp") ("a" ∷ "b" ∷ []) ≡ map gives_cell (logical true ∷ logical false ∷ [])
unfolding memory_application memory_binary
of_two_texts = refl

-- 7 and -7 over 2
abbrev halved : ℤ → String → Option (Result Memory Refusal)
halved n how = called (scalar (whole Int8 n) ∷ scalar (whole Int8 (pos 2)) ∷ scalar (text (codes how)) ∷ []) "idivide"

roundings_of_a_positive : map (halved (pos 7)) ("fix" ∷ "floor" ∷ "ceil" ∷ "round" ∷ []) ≡ map gives_cell (whole Int8 (pos 3) ∷ whole Int8 (pos 3) ∷ whole Int8 (pos 4) ∷ whole Int8 (pos 4) ∷ [])
unfolding memory_application memory_binary
roundings_of_a_positive = refl

roundings_of_a_negative : map (halved (negsuc 6)) ("fix" ∷ "floor" ∷ "ceil" ∷ "round" ∷ [])
    ≡ map gives_cell (whole Int8 (negsuc 2) ∷ whole Int8 (negsuc 3) ∷ whole Int8 (negsuc 2) ∷ whole Int8 (negsuc 3) ∷ [])
unfolding memory_application memory_binary
roundings_of_a_negative = refl

-- ---- ends of classes

abbrev class_names : List String
class_names = "int8" ∷ "int16" ∷ "int32" ∷ "int64" ∷ "uint8" ∷ "uint16" ∷ "uint32" ∷ "uint64" ∷ []

greatest_of_classes : map (λ c. called (scalar (text (codes c)) ∷ []) "intmax") class_names
    ≡ map gives_cell (whole Int8 (pos 127) ∷ whole Int16 (pos 32767) ∷ whole Int32 (pos 2147483647) ∷ whole Int64 (pos 9223372036854775807) ∷ whole Uint8 (pos 255) ∷ whole Uint16 (pos 65535)
    ∷ whole Uint32 (pos 4294967295) ∷ whole Uint64 (pos 18446744073709551615) ∷ [])
unfolding memory_application
greatest_of_classes = refl

least_of_classes : map (λ c. called (scalar (text (codes c)) ∷ []) "intmin") class_names
    ≡ map gives_cell (whole Int8 (negsuc 127) ∷ whole Int16 (negsuc 32767) ∷ whole Int32 (negsuc 2147483647) ∷ whole Int64 (negsuc 9223372036854775807) ∷ whole Uint8 (pos 0) ∷ whole Uint16 (pos 0)
    ∷ whole Uint32 (pos 0) ∷ whole Uint64 (pos 0) ∷ [])
unfolding memory_application
least_of_classes = refl

-- ---- the first and the last rows by default: 8 of 9

abbrev nine : Memory
nine = column (ints (pos 1 ∷ pos 2 ∷ pos 3 ∷ pos 4 ∷ pos 5 ∷ pos 6 ∷ pos 7 ∷ pos 8 ∷ pos 9 ∷ []))

eight_rows : map (called (nine ∷ [])) ("head" ∷ "tail" ∷ [])
    ≡ map gives_ints ((pos 1 ∷ pos 2 ∷ pos 3 ∷ pos 4 ∷ pos 5 ∷ pos 6 ∷ pos 7 ∷ pos 8 ∷ []) ∷ (pos 2 ∷ pos 3 ∷ pos 4 ∷ pos 5 ∷ pos 6 ∷ pos 7 ∷ pos 8 ∷ pos 9 ∷ []) ∷ [])
unfolding memory_application
eight_rows = refl

-- ---- operators

-- of 2 and 2, 0 and 4, 4 and 2, 4 and 0
abbrev over_pairs : Infix → List (Result Memory Refusal)
over_pairs op = memory_infix op (number 2) (number 2) ∷ memory_infix op (number 0) (number 4) ∷ memory_infix op (number 4) (number 2) ∷ memory_infix op (number 4) (number 0) ∷ []

abbrev answers : List Seen → List (Result Memory Refusal)
answers cs = map (λ c. Ok (scalar c)) cs

abbrev yes : Seen
yes = logical true

abbrev not_so : Seen
not_so = logical false

comparisons : map over_pairs (Or ∷ And ∷ Eq ∷ Ne ∷ Lt ∷ Le ∷ Gt ∷ Ge ∷ []) ≡ map answers (
    (yes ∷ yes ∷ yes ∷ yes ∷ []) ∷ (yes ∷ not_so ∷ yes ∷ not_so ∷ []) ∷ (yes ∷ not_so ∷ not_so ∷ not_so ∷ []) ∷ (not_so ∷ yes ∷ yes ∷ yes ∷ [])
    ∷ (not_so ∷ yes ∷ not_so ∷ not_so ∷ []) ∷ (yes ∷ yes ∷ not_so ∷ not_so ∷ []) ∷ (not_so ∷ not_so ∷ yes ∷ yes ∷ []) ∷ (yes ∷ not_so ∷ yes ∷ yes ∷ []) ∷ [])
unfolding memory_infix memory_binary
comparisons = refl

abbrev num : ℤ → Seen
num n = double (Some n)

arithmetic : map over_pairs (Add ∷ Sub ∷ DotMul ∷ Mul ∷ []) ≡ map answers (
    (num (pos 4) ∷ num (pos 4) ∷ num (pos 6) ∷ num (pos 4) ∷ []) ∷ (num (pos 0) ∷ num (negsuc 3) ∷ num (pos 2) ∷ num (pos 4) ∷ [])
    ∷ (num (pos 4) ∷ num (pos 0) ∷ num (pos 8) ∷ num (pos 0) ∷ []) ∷ (num (pos 4) ∷ num (pos 0) ∷ num (pos 8) ∷ num (pos 0) ∷ []) ∷ [])
unfolding memory_infix memory_binary
arithmetic = refl

-- 4 over 0 is none
abbrev quotients : List (Result Memory Refusal)
quotients = Ok (scalar (num (pos 1))) ∷ Ok (scalar (num (pos 0))) ∷ Ok (scalar (num (pos 2))) ∷ Err (failed None Inexact) ∷ []

divisions : map over_pairs (DotDiv ∷ Div ∷ []) ≡ quotients ∷ quotients ∷ []
unfolding memory_infix memory_binary
divisions = refl

-- of 2
prefixes : map (λ op. memory_prefix op (number 2)) (Minus ∷ Plus ∷ Not ∷ []) ≡ answers (num (negsuc 1) ∷ num (pos 2) ∷ not_so ∷ [])
unfolding memory_prefix memory_unary
prefixes = refl

-- ---- names of classes

names_of_classes : map class_name (class.Int8 ∷ class.Int16 ∷ class.Int32 ∷ class.Int64 ∷ class.Uint8 ∷ class.Uint16 ∷ class.Uint32 ∷ class.Uint64 ∷ class.Logical ∷ class.Double ∷ class.Text ∷ [])
    ≡ map codes ("int8" ∷ "int16" ∷ "int32" ∷ "int64" ∷ "uint8" ∷ "uint16" ∷ "uint32" ∷ "uint64" ∷ "logical" ∷ "double" ∷ "string" ∷ [])
names_of_classes = refl
