-- Words on calls and their arguments, for the functions of the walk.
use Rattle.std.specs.Prelude.{ℕ, Bool, false, Option, None, Some}
use Rattle.tall_grammar.specs.Trees.{Tree, Args}
use Rattle.tall_local.specs.Arguments.{Argument, colon}
use Rattle.tall_local.specs.Expressions as definition
use Rattle.tall_local.specs.Expressions.{Language, Valued, gives, go_on, answered, handle_in, argument, arguments, value}
use Rattle.tall_evaluate.specs.declared.walk.Callee.{Callee}
use Rattle.tall_evaluate.specs.declared.walk.Callee.TheVariants.{Function, Unknown, Value}

abbrev pub callee_seen : {F G : Type 0} → (G → F) → Callee G → definition.Callee F
callee_seen named (Function f) = definition.a_function (named f)
callee_seen named (Unknown line name) = definition.no_function line name.now
callee_seen named Value = definition.a_value

-- what holds of a function that is called
abbrev pub IfFunction : {G : Type 0} → Callee G → (G → Type 0) → Type 0
IfFunction (Function f) P = P f
IfFunction (Unknown line name) P = Unit {0}
IfFunction Value P = Unit {0}

-- the arguments, and then the call of a function
abbrev pub function_call : {F V S : Type 0} → Language F V S → (number line : ℕ) → F → Args → S → Valued V S
function_call L n l f args s = go_on (arguments L args (L.takes_handles f) s) (λ vs t. L.call n l f vs t)

-- the arguments, and then the index of a value
abbrev pub value_index : {F V S : Type 0} → Language F V S → (number line : ℕ) → V → Args → S → Valued V S
value_index L n l v args s = go_on (arguments L args false s) (λ vs t. answered l t (L.index n l v vs))

-- an argument alone; none is `:`
abbrev pub argument_value : {F V S : Type 0} → Language F V S → Bool → Option Tree → S → Valued (Argument V) S
argument_value L takes (Some e) s = argument L (handle_in takes e) (λ t. value L e t) s
argument_value L takes None s = gives colon s
