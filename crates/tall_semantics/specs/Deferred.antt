-- Deferred values as a list: each vertex says what makes its value, and the places of its operands in the list. What the
-- values are is said by a function from places to tall values that solves the list's equations.
use Rattle.std.specs.Prelude.{◌≡◌, ℕ, ◌<◌, ◌⊎◌, ◌↔◌, Option, None, Some, Ok, List, [], ◌∷◌, map, slice_get}
use Rattle.tall_semantics.specs.Operations.{Made}
use Rattle.tall_semantics.specs.Faults.{At, Fault, least_fault}
use Rattle.tall_semantics.specs.Outcomes.{fault_of}
use Rattle.tall_semantics.specs.Talls.{Tall, Columns, made_tall}

pub record Vertex : Type 0 where
  pub at : At
  pub made : Made
  pub args : List ℕ

-- each value is that of its operation over its operands' values
abbrev pub IsMeaning : Columns → List Vertex → (ℕ → Tall) → Type 0
IsMeaning columns vs f = (i : ℕ) (v : Vertex) → slice_get vs i ≡ Some v → made_tall columns v.at v.made (map f v.args) ≡ Ok (f i)

abbrev pub AllBelow : ℕ → List ℕ → Type 0
AllBelow n [] = Unit {0}
AllBelow n (a ∷ args) = (a < n) × AllBelow n args

-- operands come before what is made of them
abbrev pub IsOrdered : List Vertex → Type 0
IsOrdered vs = (i : ℕ) (v : Vertex) → slice_get vs i ≡ Some v → AllBelow i v.args

-- ---- what a value depends on

abbrev pub IsAmong : List ℕ → ℕ → Type 0
IsAmong [] a = ⊥
IsAmong (x ∷ xs) a = (x ≡ a) ⊎ IsAmong xs a

-- the value at i is computed from that at j, in any number of steps
pub data DependsOn (vs : List Vertex) : ℕ → ℕ → Type 0 where
  itself : (i : ℕ) → DependsOn vs i i
  through : (i a j : ℕ) (v : Vertex) → slice_get vs i ≡ Some v → IsAmong v.args a → DependsOn vs a j → DependsOn vs i j

abbrev pub Under : List Vertex → List ℕ → ℕ → Type 0
Under vs roots j = (r : ℕ) × IsAmong roots r × DependsOn vs r j

-- ---- faults

abbrev pub fault_in : (ℕ → Tall) → ℕ → Option Fault
fault_in f i = fault_of (f i).outcome

abbrev pub least_in : (ℕ → Tall) → List ℕ → Option Fault
least_in f args = least_fault (map (fault_in f) args)

-- a value's fault is its own where no operand has one
abbrev pub own_fault : Option Fault → Option Fault → Option Fault
own_fault None x = x
own_fault (Some y) x = None

abbrev pub own_at : (ℕ → Tall) → Option Vertex → ℕ → Option Fault
own_at f None i = None
own_at f (Some v) i = own_fault (least_in f v.args) (fault_in f i)

abbrev pub own_in : List Vertex → (ℕ → Tall) → ℕ → Option Fault
own_in vs f i = own_at f (slice_get vs i) i

-- the places of all that the roots depend on, the roots too
abbrev pub AreUnder : List Vertex → List ℕ → List ℕ → Type 0
AreUnder vs roots needed = (j : ℕ) → IsAmong needed j ↔ Under vs roots j

abbrev pub AreThere : List Vertex → List ℕ → Type 0
AreThere vs roots = (r : ℕ) → IsAmong roots r → (v : Vertex) × (slice_get vs r ≡ Some v)
