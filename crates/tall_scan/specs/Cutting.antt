-- `csv`'s machine over several bytes: the state after them, and how many records they end.
use Rattle.std.specs.Prelude.{◌+◌, ℕ, List, [], ◌∷◌, if◌then◌else◌}
use Rattle.csv.specs.Machine.{is_end, step}
use Rattle.csv.specs.declared.parser.Config.{Config}
use Rattle.csv.specs.declared.parser.State.{State}

unfoldable pub machine_after : Config → State → List ℕ → State
machine_after cfg s [] = s
machine_after cfg s (c ∷ rest) = machine_after cfg (step cfg s c).0 rest

unfoldable pub ended_by : Config → State → List ℕ → ℕ
ended_by cfg s [] = 0
ended_by cfg s (c ∷ rest) = (if is_end (step cfg s c).1 then 1 else 0) + ended_by cfg (step cfg s c).0 rest
