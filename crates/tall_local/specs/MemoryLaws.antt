-- Values in memory that a column or a table can hold: the cells of a column have its class, and a table has distinct names and
-- columns of one height.
use Rattle.std.specs.Prelude.{◌≡◌, ℕ, List, [], ◌∷◌, map, Result, Ok, Err}
use Rattle.std.specs.List.{All}
use Rattle.tall_value.specs.declared.class.Class.{Class}
use Rattle.tall_value.specs.Classes.{kind_of}
use Rattle.tall_value.specs.Columns.{HasKind}
use Rattle.tall_column.specs.Columns.{SeenColumn}
use Rattle.tall_column.specs.Tables.{IsTable}
use Rattle.tall_local.specs.Applications.{Application, constant, to_one, to_two}
use Rattle.tall_local.specs.Locals.{Held, value, store, iterator, no_value, Locals}
use Rattle.tall_local.specs.Expressions.{Valued, gives, stops}
use Rattle.tall_local.specs.Memory.{Memory, scalar, column, table, texts}
use Rattle.tall_local.specs.Names.{names_of}

abbrev pub HasItsClass : SeenColumn → Type 0
HasItsClass x = All (HasKind (kind_of x.class)) x.cells

abbrev pub HaveTheirClasses : List (List ℕ × SeenColumn) → Type 0
HaveTheirClasses [] = Unit {0}
HaveTheirClasses (entry ∷ t) = HasItsClass entry.1 × HaveTheirClasses t

abbrev pub CanBeHeld : Memory → Type 0
CanBeHeld (scalar c) = Unit {0}
CanBeHeld (column x) = HasItsClass x
CanBeHeld (table t) = HaveTheirClasses t × IsTable t
CanBeHeld (texts ts) = Unit {0}

-- what an answer gives is so
abbrev pub OnGiven : {A R : Type 0} → (A → Type 0) → Result A R → Type 0
OnGiven Is (Ok a) = Is a
OnGiven Is (Err e) = Unit {0}

-- the operands of an application
abbrev pub OperandsCanBeHeld : Application Memory → Type 0
OperandsCanBeHeld (constant c) = Unit {0}
OperandsCanBeHeld (to_one o v) = CanBeHeld v
OperandsCanBeHeld (to_two op v w) = CanBeHeld v × CanBeHeld w

-- ---- in functions

abbrev pub HeldCanBe : Held → Type 0
HeldCanBe (value v) = CanBeHeld v
HeldCanBe store = Unit {0}
HeldCanBe iterator = Unit {0}
HeldCanBe no_value = Unit {0}

abbrev pub NamesCanBeHeld : List (List ℕ × Held) → Type 0
NamesCanBeHeld [] = Unit {0}
NamesCanBeHeld (entry ∷ names) = HeldCanBe entry.1 × NamesCanBeHeld names

-- an expression of a function gives such a value, and leaves such names
abbrev pub GivesHeld : Valued Held Locals → Type 0
GivesHeld (gives h s) = HeldCanBe h × NamesCanBeHeld s.names
GivesHeld (stops stop s) = NamesCanBeHeld s.names

-- ---- the table of `groupsummary`

abbrev pub classes_in : List (List ℕ × SeenColumn) → List Class
classes_in t = map (λ (entry : List ℕ × SeenColumn). entry.1.class) t

-- a table of columns of these names and these classes
abbrev pub IsTableOf : List (List ℕ) → List Class → Memory → Type 0
IsTableOf names classes (table t) = (names_of t ≡ names) × (classes_in t ≡ classes)
IsTableOf names classes v = ⊥
