-- Scripts for worked rows, written without the numbers of their expressions, which are then given as the grammar gives
-- them.
use Prim.Native.String.{String}
use Rattle.std.specs.Prelude.{ℕ, pos, true, false, List, [], ◌∷◌, Option, Some, codes}
use Rattle.tall_grammar.specs.declared.expressions.Prefix.TheVariants.{Minus, Not}
use Rattle.tall_grammar.specs.declared.expressions.Infix.{Infix}
use Rattle.tall_grammar.specs.Trees.{Tree, tree, Shape, Trees, no_trees, and_tree, Args, no_args, value_arg, colon_arg, Step, assign_step, add_step, if_step, while_step, for_step, Steps, no_steps, and_step, Arms, no_arms, and_arm, Body, assigned, gathered, property, bare, SeenStatement, SeenFunction, SeenScript}
use Rattle.tall_grammar.specs.Trees as trees
use Rattle.tall_script.specs.Numbering.{numbered_script}

-- ---- expressions without number and line

abbrev pub draft : Shape → Tree
draft shape = tree 0 0 shape

abbrev pub number : ℕ → Tree
number n = draft (trees.number (Some (pos n)))

abbrev pub text : String → Tree
text s = draft (trees.text (codes s))

abbrev pub name : String → Tree
name s = draft (trees.name (codes s))

abbrev pub handle : String → Tree
handle s = draft (trees.handle (codes s))

abbrev pub minus : Tree → Tree
minus e = draft (trees.prefixed Minus e)

abbrev pub negated : Tree → Tree
negated e = draft (trees.prefixed Not e)

abbrev pub infix_of : Infix → Tree → Tree → Tree
infix_of op e f = draft (trees.joined op e f)

abbrev pub member : Tree → String → Tree
member e s = draft (trees.member e (codes s))

abbrev pub listed : List String → Trees
listed [] = no_trees
listed (s ∷ ss) = and_tree (text s) (listed ss)

abbrev pub texts : List String → Tree
texts ss = draft (trees.list (listed ss))

abbrev pub args_of : List Tree → Args
args_of [] = no_args
args_of (e ∷ es) = value_arg e (args_of es)

abbrev pub call : String → List Tree → Tree
call f es = draft (trees.call (name f) (args_of es))

-- T(e, :)
abbrev pub rows_of : String → Tree → Tree
rows_of t e = draft (trees.call (name t) (value_arg e (colon_arg no_args)))

abbrev pub index : Tree → List Tree → Tree
index e es = draft (trees.call e (args_of es))

-- on a line: the condition of an `if` or `elseif` keeps that of its draft
abbrev pub with_line : ℕ → Tree → Tree
with_line l (tree k j shape) = tree k l shape

-- ---- statements: on a line, shown or not

abbrev pub shown : ℕ → Body → SeenStatement
shown l b = record { line = l; shown = true; form = b }

abbrev pub silent : ℕ → Body → SeenStatement
silent l b = record { line = l; shown = false; form = b }

abbrev pub sets : String → Tree → Body
sets s e = assigned (codes s) e

abbrev pub names : List String → List (List ℕ)
names [] = []
names (s ∷ ss) = codes s ∷ names ss

abbrev pub gathers : List String → List Tree → Body
gathers ss es = gathered (names ss) (args_of es)

abbrev pub sets_property : String → String → Tree → Body
sets_property s t e = property (codes s) (codes t) e

abbrev pub steps : List Step → Steps
steps [] = no_steps
steps (b ∷ bs) = and_step b (steps bs)

-- a function, from a line on
abbrev pub function_from : String → ℕ → List (Option (List ℕ)) → List Step → SeenFunction
function_from s l params bs = record { name = codes s; line = l; params = params; body = steps bs }

abbrev pub parameter : String → Option (List ℕ)
parameter s = Some (codes s)

abbrev pub script_with : List SeenStatement → List SeenFunction → SeenScript
script_with bs fs = numbered_script (record { statements = bs; functions = fs })

abbrev pub script : List SeenStatement → SeenScript
script bs = script_with bs []
