-- What a call of a function of values applies to which operands, from the number and the form of its arguments:
-- docs/LANGUAGE.md, order of checks. What has another form is refused before any name or class is looked at. `V` is a value,
-- of which a test tells whether it is a scalar in memory.
use Rattle.std.specs.Prelude.{ℕ, zero, suc, pos, Bool, true, false, List, [], ◌∷◌, Option, None, Some, option_map, option_and_then}
use Rattle.tall_int.specs.declared.quotients.Rounding.TheVariants.{Fix}
use Rattle.tall_value.specs.declared.functions.Method.{Method}
use Rattle.tall_value.specs.declared.functions.Method.TheVariants.{Count}
use Rattle.tall_value.specs.declared.functions.Reduction.{Reduction}
use Rattle.tall_value.specs.declared.functions.Reduction.TheVariants.{Sum}
use Rattle.tall_value.specs.declared.functions.Scan.{Scan}
use Rattle.tall_value.specs.declared.operators.Binary.{Binary}
use Rattle.tall_value.specs.declared.operators.Binary.TheVariants.{Idivide}
use Rattle.tall_value.specs.declared.operators.Unary.{Unary}
use Rattle.tall_value.specs.Classes.{least, greatest}
use Rattle.tall_value.specs.Cells.{Seen, whole, double}
use Rattle.tall_local.specs.Arguments.{Argument, value_given}
use Rattle.tall_local.specs.Lists.{all_of}
use Rattle.tall_local.specs.Names.{named}
use Rattle.tall_local.specs.Memory.{text_in}
use Rattle.tall_local.specs.Functions.{sum_options, integer_classes, roundings, methods}
use Rattle.tall_local.specs.declared.functions.SumOption.{SumOption}
use Rattle.tall_local.specs.declared.functions.SumOption.TheVariants.{Native, OmitNan}
use Rattle.tall_local.specs.declared.functions.ValueFunction.{ValueFunction}
use Rattle.tall_local.specs.declared.functions.ValueFunction.TheVariants as function

-- what is made of one operand
pub data Operation : Type 0 where
  reduce : Reduction → Operation
  height : Operation
  scan : Scan → Operation
  head : (k : ℕ) → Operation
  tail : (k : ℕ) → Operation
  distinct : Operation
  -- by a key, with a method and its data; without a method they are not there
  groups : (key : List ℕ) → Method → (value : List ℕ) → Operation
  unary : Unary → Operation

-- a cell, or an operation on one operand or on two
pub data Application (V : Type 0) : Type 0 where
  constant : Seen → Application V
  to_one : Operation → V → Application V
  to_two : Binary → V → V → Application V

-- what is made of it, where each of the three is told
abbrev pub applied : {V W : Type 0} → (Seen → W) → (Operation → V → W) → (Binary → V → V → W) → Application V → W
applied cell one two (constant c) = cell c
applied cell one two (to_one op v) = one op v
applied cell one two (to_two op v w) = two op v w

-- ---- arguments of a form

abbrev pub text_of : Option Seen → Option (List ℕ)
text_of c = option_and_then text_in c

-- a whole number of at least 0, as a double
abbrev pub count_of : Option Seen → Option ℕ
count_of (Some (double (Some (pos n)))) = Some n
count_of c = None

-- one of some texts
abbrev pub choice_of : {A : Type 0} → List (List ℕ × A) → Option Seen → Option A
choice_of choices c = option_and_then (named choices) (text_of c)

-- in either order, each once
abbrev pub sum_with : List SumOption → Option Reduction
sum_with [] = Some (Sum false false)
sum_with (Native ∷ []) = Some (Sum true false)
sum_with (OmitNan ∷ []) = Some (Sum false true)
sum_with (Native ∷ OmitNan ∷ []) = Some (Sum true true)
sum_with (OmitNan ∷ Native ∷ []) = Some (Sum true true)
sum_with options = None

-- ---- the number of arguments

-- so many arguments are those of some form
abbrev pub takes : ValueFunction → (arguments : ℕ) → Bool
takes function.Sum (suc (suc (suc (suc n)))) = false
takes function.Sum (suc n) = true
takes (function.Reduction r) (suc zero) = true
takes function.Height (suc zero) = true
takes (function.Scan s) (suc zero) = true
takes function.Head (suc zero) = true
takes function.Head (suc (suc zero)) = true
takes function.Tail (suc zero) = true
takes function.Tail (suc (suc zero)) = true
takes function.Unique (suc zero) = true
takes function.GroupSummary (suc (suc zero)) = true
takes function.GroupSummary (suc (suc (suc (suc zero)))) = true
takes function.IntMax (suc zero) = true
takes function.IntMin (suc zero) = true
takes function.Idivide (suc (suc zero)) = true
takes function.Idivide (suc (suc (suc zero))) = true
takes (function.Binary op) (suc (suc zero)) = true
takes (function.Unary op) (suc zero) = true
takes f n = false

-- ---- the application of a call

-- how many rows `head` and `tail` give by default
abbrev pub default_rows : ℕ
default_rows = 8

module _ {V : Type 0} (scalar_in : V → Option Seen) where
  abbrev pub sum_of : V → List V → Option (Application V)
  sum_of x options =
      option_map (λ r. to_one (reduce r) x) (option_and_then sum_with (all_of (λ o. choice_of sum_options (scalar_in o)) options))

  -- without a method: what is grouped and the key's name
  abbrev pub groups_of : V → Option (List ℕ) → Option (Application V)
  groups_of t key = option_map (λ g. to_one (groups g Count []) t) key

  -- with a method and the name of its data
  abbrev pub groups_by : V → Option (List ℕ) → Option Method → Option (List ℕ) → Option (Application V)
  groups_by t (Some g) (Some m) (Some v) = Some (to_one (groups g m v) t)
  groups_by t g m v = None

  abbrev pub application : ValueFunction → List V → Option (Application V)
  application function.Sum (x ∷ options) = sum_of x options
  application (function.Reduction r) (x ∷ []) = Some (to_one (reduce r) x)
  application function.Height (x ∷ []) = Some (to_one height x)
  application (function.Scan s) (x ∷ []) = Some (to_one (scan s) x)
  application function.Head (x ∷ []) = Some (to_one (head default_rows) x)
  application function.Head (x ∷ k ∷ []) = option_map (λ n. to_one (head n) x) (count_of (scalar_in k))
  application function.Tail (x ∷ []) = Some (to_one (tail default_rows) x)
  application function.Tail (x ∷ k ∷ []) = option_map (λ n. to_one (tail n) x) (count_of (scalar_in k))
  application function.Unique (x ∷ []) = Some (to_one distinct x)
  application function.GroupSummary (t ∷ g ∷ []) = groups_of t (text_of (scalar_in g))
  application function.GroupSummary (t ∷ g ∷ m ∷ v ∷ []) =
      groups_by t (text_of (scalar_in g)) (choice_of methods (scalar_in m)) (text_of (scalar_in v))
  application function.IntMax (c ∷ []) = option_map (λ k. constant (whole k (greatest k))) (choice_of integer_classes (scalar_in c))
  application function.IntMin (c ∷ []) = option_map (λ k. constant (whole k (least k))) (choice_of integer_classes (scalar_in c))
  application function.Idivide (a ∷ b ∷ []) = Some (to_two (Idivide Fix) a b)
  application function.Idivide (a ∷ b ∷ how ∷ []) = option_map (λ r. to_two (Idivide r) a b) (choice_of roundings (scalar_in how))
  application (function.Binary op) (a ∷ b ∷ []) = Some (to_two op a b)
  application (function.Unary op) (a ∷ []) = Some (to_one (unary op) a)
  application f args = None

  -- no argument is `:` or `@` with a name
  unfoldable pub application_of : ValueFunction → List (Argument V) → Option (Application V)
  application_of f args = option_and_then (application f) (all_of value_given args)
