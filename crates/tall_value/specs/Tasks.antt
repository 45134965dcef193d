-- What an integer class is asked to make of whole numbers, with the least and the greatest number of the class.
use Rattle.std.specs.Prelude.{ℤ, ◌≤◌, ◌^◌, unsigned_abs}
use Rattle.tall_int.specs.Numbers.{nearest}
use Rattle.tall_int.specs.Arithmetic.{operation}
use Rattle.tall_int.specs.Twos.{twos_and, twos_or, twos_xor}
use Rattle.tall_value.specs.declared.integers.BitOperator.{BitOperator}
use Rattle.tall_value.specs.declared.integers.BitOperator.TheVariants.{And, Or, Xor}
use Rattle.tall_value.specs.declared.integers.Task.{Task}
use Rattle.tall_value.specs.declared.integers.Task.TheVariants.{Arithmetic, Bits, Nearest}

abbrev pub bit_operation : BitOperator → ℤ → ℤ → ℤ
bit_operation And a b = twos_and a b
bit_operation Or a b = twos_or a b
bit_operation Xor a b = twos_xor a b

abbrev pub task_number : Task → ℤ → ℤ → ℤ
task_number (Arithmetic op a b) low high = operation op low high a b
task_number (Bits op a b) low high = bit_operation op (nearest low high a) (nearest low high b)
task_number (Nearest n) low high = nearest low high n

-- arithmetic takes numbers of at most 2^64 in magnitude
abbrev pub IsSmallTask : Task → Type 0
IsSmallTask (Arithmetic op a b) = (unsigned_abs a ≤ 2 ^ 64) × (unsigned_abs b ≤ 2 ^ 64)
IsSmallTask t = Unit {0}
