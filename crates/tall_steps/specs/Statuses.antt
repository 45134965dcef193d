-- The exit status of the process: docs/LANGUAGE.md, "Statuses".
use Rattle.std.specs.Prelude.{ℕ}
use Rattle.tall_steps.specs.declared.statuses.Status.{Status}
use Rattle.tall_steps.specs.declared.statuses.Status.TheVariants.{Done, Fault, Usage, Read, Write, Memory}

abbrev pub code_of : Status → ℕ
code_of Done = 0
code_of Fault = 1
code_of Usage = 2
code_of Read = 3
code_of Write = 4
code_of Memory = 5

-- a run with one of these statuses has shown all of its answer
abbrev pub IsSettled : Status → Type 0
IsSettled Done = Unit {0}
IsSettled Fault = Unit {0}
IsSettled Usage = Unit {0}
IsSettled Read = ⊥
IsSettled Write = ⊥
IsSettled Memory = ⊥
