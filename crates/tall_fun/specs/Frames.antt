-- What the definitions see of a frame: what a call of a function has so far.
use Rattle.std.specs.Prelude.{ℕ, ℤ, ◌≡◌, List, map, Option, None, Some, Result, Ok, Err}
use Rattle.tall_value.specs.Cells.{double}
use Rattle.tall_grammar.specs.Trees.{Tree, tree, Args, no_args, value_arg, Step, Steps}
use Rattle.tall_grammar.specs.Trees as trees
use Rattle.tall_grammar.specs.Views.{steps_of, step_of, step_layer, arm_layer}
use Rattle.tall_grammar.specs.declared.steps.Arm.{Arm, fold-Arm}
use Rattle.tall_grammar.specs.declared.steps.FunctionStep.{FunctionStep}
use Rattle.tall_local.specs.Calls.{Ran, ends, breaks, or_break, pairs_with, set_pairs}
use Rattle.tall_local.specs.Locals.{Held, value, Locals}
use Rattle.tall_local.specs.Memory.{scalar}
use Rattle.tall_local.specs.Pairs.{Pair}
use Rattle.tall_local.specs.Refusals.{Stop}
use Rattle.tall_fun.specs.declared.failures.Failure.{Failure}
use Rattle.tall_fun.specs.Failures.{stop_of}
use Rattle.tall_fun.specs.declared.frame.Frame.{Frame}

abbrev pub frame_state : Frame → Locals
frame_state f = record { names = f.names; given = f.given; turns = f.turns; pairs = f.store }

-- statements that ran, to what the definitions give; want of memory may come at any time
abbrev pub Runs : {A : Type 0} → Ran → Result A Failure → Locals → Type 0
Runs want (Ok u) t = want ≡ ends t
Runs want (Err f) t = (stop : Stop) → stop_of f ≡ Some stop → want ≡ breaks stop t

-- the same of what answers something with which the definitions go on
abbrev pub Goes : {A : Type 0} → Ran → (A → Locals → Ran) → Result A Failure → Locals → Type 0
Goes want after (Ok a) t = want ≡ after a t
Goes want after (Err f) t = (stop : Stop) → stop_of f ≡ Some stop → want ≡ breaks stop t

-- ---- forms of expressions

abbrev pub name_in : Tree → Option (List ℕ)
name_in (tree n l (trees.name s)) = Some s
name_in e = None

abbrev pub only_name : Args → Option (List ℕ)
only_name (value_arg e no_args) = name_in e
only_name args = None

-- ---- bounds

-- a double scalar, if the value is one
abbrev pub double_in : Held → Option (Option ℤ)
double_in (value (scalar (double d))) = Some d
double_in h = None

-- ---- parts of statements

abbrev pub arm_of : Arm → Tree × Steps
arm_of = fold-Arm Step (Tree × Steps) step_layer arm_layer

abbrev pub body_of : List FunctionStep → Steps
body_of bs = steps_of (map step_of bs)

-- `add` with its three values
abbrev pub pair_added : (line : ℕ) (store key : Held) → Held → Locals → Ran
pair_added line x key v s = or_break line s (pairs_with line s.pairs x key v) (λ ps. ends (set_pairs ps s))

-- where a call begins
abbrev pub call_state : List (List ℕ × Held) → List Pair → Locals
call_state names pairs = record { names = names; given = 0; turns = 0; pairs = pairs }
