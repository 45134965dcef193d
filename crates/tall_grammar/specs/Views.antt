-- What definitions see of the types of a script.
use Rattle.std.specs.Prelude.{List, [], ◌∷◌, map, Option, Some, None}
use Rattle.tall_grammar.specs.declared.expressions.Expr.{Expr, fold-Expr}
use Rattle.tall_grammar.specs.declared.expressions.Arg.{Arg, fold-Arg}
use Rattle.tall_grammar.specs.declared.expressions.Arg.TheOpen.{Arg-F, Node-F, Expr-F}
use Rattle.tall_grammar.specs.declared.steps.FunctionStep.{FunctionStep, fold-FunctionStep}
use Rattle.tall_grammar.specs.declared.steps.FunctionStep.TheOpen.{FunctionStep-F, Arm-F}
use Rattle.tall_grammar.specs.declared.scripts.Form.{Form}
use Rattle.tall_grammar.specs.declared.scripts.Form.TheVariants.{Assign, Gather, Property, Bare}
use Rattle.tall_grammar.specs.declared.scripts.Statement.{Statement}
use Rattle.tall_grammar.specs.declared.scripts.Function.{Function}
use Rattle.tall_grammar.specs.declared.scripts.Script.{Script}
use Rattle.tall_grammar.specs.Trees.{Tree, tree, Shape, number, text, name, list, handle, prefixed, joined, member, call, Trees, no_trees, and_tree, Args, no_args, value_arg, colon_arg}
use Rattle.tall_grammar.specs.Trees.{Step, assign_step, add_step, if_step, while_step, for_step, Steps, no_steps, and_step, Arms, no_arms, and_arm, Body, assigned, gathered, property, bare, SeenStatement, SeenFunction, SeenScript}

-- ---- expressions

abbrev pub trees_of : List Tree → Trees
trees_of [] = no_trees
trees_of (e ∷ es) = and_tree e (trees_of es)

-- an argument is an expression, or none where it is a colon
abbrev pub args_of : List (Option Tree) → Args
args_of [] = no_args
args_of (Some e ∷ args) = value_arg e (args_of args)
args_of (None ∷ args) = colon_arg (args_of args)

abbrev pub arg_layer : Arg-F (Option Tree) Shape Tree → Option Tree
arg_layer (Arg-F.Value e) = Some e
arg_layer Arg-F.Colon = None

abbrev pub node_layer : Node-F (Option Tree) Shape Tree → Shape
node_layer (Node-F.Number x) = number x
node_layer (Node-F.Text s) = text s
node_layer (Node-F.Name s) = name s
node_layer (Node-F.List es) = list (trees_of es)
node_layer (Node-F.Handle s) = handle s
node_layer (Node-F.Prefix o e) = prefixed o e
node_layer (Node-F.Infix o e f) = joined o e f
node_layer (Node-F.Member e s) = member e s
node_layer (Node-F.Call e args) = call e (args_of args)

abbrev pub expr_layer : Expr-F (Option Tree) Shape Tree → Tree
expr_layer e = tree e.number e.line e.node

abbrev pub tree_of : Expr → Tree
tree_of = fold-Expr (Option Tree) Shape Tree arg_layer node_layer expr_layer

abbrev pub arg_of : Arg → Option Tree
arg_of = fold-Arg (Option Tree) Shape Tree arg_layer node_layer expr_layer

-- ---- statements of functions

abbrev pub steps_of : List Step → Steps
steps_of [] = no_steps
steps_of (b ∷ bs) = and_step b (steps_of bs)

abbrev pub arms_of : List (Tree × Steps) → Arms
arms_of [] = no_arms
arms_of (a ∷ arms) = and_arm a.0 a.1 (arms_of arms)

abbrev pub arm_layer : Arm-F Step (Tree × Steps) → Tree × Steps
arm_layer a = (tree_of a.condition, steps_of a.body)

abbrev pub step_layer : FunctionStep-F Step (Tree × Steps) → Step
step_layer (FunctionStep-F.Assign line s e) = assign_step line s (tree_of e)
step_layer (FunctionStep-F.Add line e f g) = add_step line (tree_of e) (tree_of f) (tree_of g)
step_layer (FunctionStep-F.If line arms rest) = if_step line (arms_of arms) (steps_of rest)
step_layer (FunctionStep-F.While line e b) = while_step line (tree_of e) (steps_of b)
step_layer (FunctionStep-F.For line s e f b) = for_step line s (tree_of e) (tree_of f) (steps_of b)

abbrev pub step_of : FunctionStep → Step
step_of = fold-FunctionStep Step (Tree × Steps) step_layer arm_layer

-- ---- scripts

abbrev pub body_of : Form → Body
body_of (Assign s e) = assigned s (tree_of e)
body_of (Gather ss args) = gathered ss (args_of (map arg_of args))
body_of (Property s t e) = property s t (tree_of e)
body_of (Bare e) = bare (tree_of e)

abbrev pub entry_of : Statement → SeenStatement
entry_of s = record { line = s.line; shown = s.shown; form = body_of s.form }

abbrev pub routine_of : Function → SeenFunction
routine_of f = record { name = f.name; line = f.line; params = f.params; body = steps_of (map step_of f.body) }

abbrev pub program_of : Script → SeenScript
program_of s = record { statements = map entry_of s.statements; functions = map routine_of s.functions }
