-- Values inside a map or a reduce function: values in memory, the store, the iterator, and parameters without a value.
-- docs/LANGUAGE.md, mapreduce.
use Rattle.std.specs.Prelude.{ℕ, ◌+◌, nat_lt, Bool, true, false, if◌then◌else◌, length, slice_get, List, [], ◌∷◌, Option, None, Some, option_map, Result, Ok, Err}
use Rattle.tall_value.specs.Cells.{Seen, logical}
use Rattle.tall_grammar.specs.declared.expressions.Infix.{Infix}
use Rattle.tall_local.specs.declared.functions.LocalFunction.{LocalFunction}
use Rattle.tall_local.specs.declared.functions.LocalFunction.TheVariants.{OfValues, HasNext, GetNext, Elsewhere}
use Rattle.tall_local.specs.declared.functions.ValueFunction.{ValueFunction}
use Rattle.tall_local.specs.Arguments.{Argument, colon, function, given, value_given, index_of}
use Rattle.tall_local.specs.Lists.{all_of}
use Rattle.tall_local.specs.Names.{named, put_name}
use Rattle.tall_local.specs.Refusals.{Refusal, undefined, bad_class, bad_argument, no_value_left, and_then, or_refuse}
use Rattle.tall_local.specs.Memory.{Memory, scalar, is_scalar, scalar_in}
use Rattle.tall_local.specs.MemoryOperators.{memory_prefix, memory_binary, binary_of, scalars_fit}
use Rattle.tall_local.specs.MemoryIndexing.{memory_index, memory_member}
use Rattle.tall_local.specs.MemoryFunctions.{memory_application}
use Rattle.tall_local.specs.Functions.{local_function_named}
use Rattle.tall_local.specs.Applications.{application, takes}
use Rattle.tall_local.specs.Expressions.{Language, Valued, gives, answered}
use Rattle.tall_local.specs.Constants.{constant_named}
use Rattle.tall_local.specs.Pairs.{Pair}

pub data Held : Type 0 where
  value : Memory → Held
  store : Held
  iterator : Held
  no_value : Held

-- the names, the number of values that the iterator has given, the turns of loops that began, and the store's pairs
pub record Locals : Type 0 where
  pub names : List (List ℕ × Held)
  pub given : ℕ
  pub turns : ℕ
  pub pairs : List Pair

abbrev pub set_local : List ℕ → Memory → Locals → Locals
set_local name v s = record s { names = put_name name (value v) s.names }

-- ---- names

-- a parameter without a value hides what its name stands for elsewhere
abbrev pub read_local : List ℕ → Option Held → Result Held Refusal
read_local name (Some no_value) = Err (undefined name)
read_local name (Some h) = Ok h
read_local name None = elim (constant_named name) [ Some c ↦ Ok (value (scalar c)) | None ↦ Err (undefined name) ]

abbrev pub is_held : Option Held → Bool
is_held (Some no_value) = false
is_held (Some h) = true
is_held None = false

-- ---- a store and an iterator have no other use than their own

abbrev pub memory_of : Held → Option Memory
memory_of (value v) = Some v
memory_of h = None

abbrev pub held : Result Memory Refusal → Result Held Refusal
held (Ok v) = Ok (value v)
held (Err e) = Err e

abbrev pub with_memory : Held → (Memory → Result Memory Refusal) → Result Held Refusal
with_memory (value v) f = held (f v)
with_memory h f = Err bad_class

abbrev pub is_held_scalar : Held → Bool
is_held_scalar (value v) = is_scalar v
is_held_scalar h = false

abbrev pub held_binary : Infix → Held → Held → Result Held Refusal
held_binary op (value v) (value w) = held (memory_binary (binary_of op) v w)
held_binary op v w = Err bad_class

unfoldable pub held_infix : Infix → Held → Held → Result Held Refusal
held_infix op v w = if scalars_fit op (is_held_scalar v) (is_held_scalar w) then held_binary op v w else Err bad_argument

-- the same value in memory for each; none where one is a store or an iterator
abbrev pub memories_of : List Held → Option (List Memory)
memories_of hs = all_of memory_of hs

abbrev pub argument_by : {V W : Type 0} → (V → Option W) → Argument V → Option (Argument W)
argument_by f (given v) = option_map given (f v)
argument_by f colon = Some colon
argument_by f (function name) = Some (function name)

-- a store or an iterator as what is indexed or as an argument is refused whatever the index's form
unfoldable pub held_index : Held → List (Argument Held) → Result Held Refusal
held_index h args = with_memory h (λ v. and_then (or_refuse bad_class (all_of (argument_by memory_of) args)) (λ given. memory_index v (index_of given)))

-- ---- calls

-- the number of arguments comes first, then a store or an iterator among them, then their form
abbrev pub held_values : ValueFunction → List Held → Result Memory Refusal
held_values f hs =
    if takes f (length hs)
    then and_then (or_refuse bad_class (memories_of hs)) (λ vs. and_then (or_refuse bad_argument (application scalar_in f vs)) memory_application)
    else Err bad_argument

-- no argument is `:`
unfoldable pub held_function : ValueFunction → List (Argument Held) → Result Held Refusal
held_function f args = held (and_then (or_refuse bad_argument (all_of value_given args)) (held_values f))

-- the next of the iterator's values
abbrev pub next_value : (line : ℕ) → Option Seen → Locals → Valued Held Locals
next_value line (Some c) s = gives (value (scalar c)) (record s { given = s.given + 1 })
next_value line None s = answered line s (Err no_value_left)

-- the iterator alone
abbrev pub is_only_iterator : List (Argument Held) → Bool
is_only_iterator (given iterator ∷ []) = true
is_only_iterator args = false

-- `hasnext` and `getnext` take the iterator alone; functions that stand in scripts alone are refused
unfoldable pub held_call : (key_values : List Seen) → (line : ℕ) → LocalFunction → List (Argument Held) → Locals → Valued Held Locals
held_call key_values line (OfValues f) args s = answered line s (held_function f args)
held_call key_values line HasNext args s =
    if is_only_iterator args then gives (value (scalar (logical (nat_lt s.given (length key_values))))) s else answered line s (Err bad_argument)
held_call key_values line GetNext args s =
    if is_only_iterator args then next_value line (slice_get key_values s.given) s else answered line s (Err bad_argument)
held_call key_values line Elsewhere args s = answered line s (Err bad_argument)

-- the language of a function, over the values of its key, which its iterator gives
abbrev pub function_language : List Seen → Language LocalFunction Held Locals
function_language key_values = record {
  literal = value;
  has_value = λ s name. is_held (named s.names name);
  name = λ s name. read_local name (named s.names name);
  handle = λ name. bad_argument;
  function_named = local_function_named;
  takes_handles = λ f. false;
  function_is_there = λ name. false;
  prefix_value = λ n l op h. with_memory h (memory_prefix op);
  infix_value = λ n l op v w. held_infix op v w;
  member = λ h name. with_memory h (λ v. memory_member v name);
  index = λ n l h args. held_index h args;
  call = λ n l f args s. held_call key_values l f args s;
}
