-- The form of a call's arguments is told by the scalars in memory among them alone; the operands are the first of them.
use Rattle.std.specs.Prelude.{◌≡◌, List, [], ◌∷◌, get_or, Option}
use Rattle.tall_value.specs.Cells.{Seen}
use Rattle.tall_local.specs.Applications.{Application, constant, to_one, to_two, text_of, count_of}
use Rattle.tall_local.specs.Memory.{Memory, scalar_in}
use Rattle.tall_local.specs.Values.{datastore}
use Rattle.tall_script.specs.ScriptValues.{TallValue, scalar_given}

-- an application on values of a script in place of those in memory
abbrev pub with_operands : List TallValue → Application Memory → Application TallValue
with_operands vs (constant c) = constant c
with_operands vs (to_one op m) = to_one op (get_or vs 0 (datastore 0))
with_operands vs (to_two op m n) = to_two op (get_or vs 0 (datastore 0)) (get_or vs 1 (datastore 0))

-- two scalars that tell the same of a form: the text that is one, and the number
abbrev pub AreAlike : Option Seen → Option Seen → Type 0
AreAlike x y = (text_of x ≡ text_of y) × (count_of x ≡ count_of y)

-- values in memory whose scalars tell what those of others tell
abbrev pub HaveScalars : List Memory → List TallValue → Type 0
HaveScalars [] [] = Unit {0}
HaveScalars (m ∷ ms) (v ∷ vs) = AreAlike (scalar_in m) (scalar_given v) × HaveScalars ms vs
HaveScalars ms vs = ⊥
