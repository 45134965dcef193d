-- The value of an expression, in the script and in functions: the parts are evaluated in the order of their numbers,
-- and the first refusal ends it. What names, operators, indexes and calls mean is told by a language.
use Rattle.std.specs.Prelude.{ℕ, Bool, true, false, if◌then◌else◌, ◌∷◌, [], List, Option, None, Some, Result, Ok, Err}
use Rattle.tall_value.specs.Cells.{double, text}
use Rattle.tall_grammar.specs.declared.expressions.Prefix.{Prefix}
use Rattle.tall_grammar.specs.declared.expressions.Infix.{Infix}
use Rattle.tall_grammar.specs.Trees.{Tree, tree, Shape, Trees, no_trees, and_tree, Args, no_args, value_arg, colon_arg}
use Rattle.tall_grammar.specs.Trees as trees
use Rattle.tall_local.specs.Arguments.{Argument, colon, function, given}
use Rattle.tall_local.specs.Refusals.{Refusal, undefined, Stop, stop_at}
use Rattle.tall_local.specs.Memory.{Memory, scalar, texts}

-- an expression gives a value and leaves a state, or stops; a state tells what was done before
pub data Valued (V S : Type 0) : Type 0 where
  gives : V → S → Valued V S
  stops : Stop → S → Valued V S

-- the functions that may be called are of F, values are of V, and states of S. An expression has its number in the script
-- and the line of its statement
pub record Language (F V S : Type 0) : Type 0 where
  -- a number, a text, a list
  pub literal : Memory → V
  -- a variable of this name has a value
  pub has_value : S → List ℕ → Bool
  pub name : S → List ℕ → Result V Refusal
  -- `@` with a name, where no call takes it
  pub handle : List ℕ → Refusal
  pub function_named : List ℕ → Option F
  -- a call takes `@` with the name of a function that is there as an argument
  pub takes_handles : F → Bool
  pub function_is_there : List ℕ → Bool
  pub prefix_value : (number line : ℕ) → Prefix → V → Result V Refusal
  pub infix_value : (number line : ℕ) → Infix → V → V → Result V Refusal
  pub member : V → List ℕ → Result V Refusal
  pub index : (number line : ℕ) → V → List (Argument V) → Result V Refusal
  pub call : (number line : ℕ) → F → List (Argument V) → S → Valued V S

-- what is done with a value and the state after it
abbrev pub go_on : {V W S : Type 0} → Valued V S → (V → S → Valued W S) → Valued W S
go_on (gives v s) f = f v s
go_on (stops stop s) f = stops stop s

-- an answer of an expression on a line
abbrev pub answered : {V S : Type 0} → (line : ℕ) → S → Result V Refusal → Valued V S
answered line s (Ok v) = gives v s
answered line s (Err refusal) = stops (stop_at line refusal) s

-- the texts of a list
abbrev pub listed_texts : Trees → List (List ℕ)
listed_texts no_trees = []
listed_texts (and_tree (tree n l (trees.text t)) es) = t ∷ listed_texts es
listed_texts (and_tree e es) = listed_texts es

-- what stands before parentheses: a function, a name on a line that is neither a variable nor a function, or a value
pub data Callee (F : Type 0) : Type 0 where
  a_function : F → Callee F
  no_function : (line : ℕ) (name : List ℕ) → Callee F
  a_value : Callee F

abbrev pub callee_named : {F : Type 0} → (line : ℕ) → List ℕ → Option F → Callee F
callee_named line name (Some f) = a_function f
callee_named line name None = no_function line name

abbrev pub callee : {F V S : Type 0} → Language F V S → S → Tree → Callee F
callee L s (tree n l (trees.name x)) = if L.has_value s x then a_value else callee_named l x (L.function_named x)
callee L s e = a_value

-- `@` with a name as an argument, where the call takes it, and its line
abbrev pub handle_in : Bool → Tree → Option (ℕ × List ℕ)
handle_in true (tree n l (trees.handle x)) = Some (l, x)
handle_in takes e = None

module _ {F V S : Type 0} (L : Language F V S) where
  -- a function's own checks come after its arguments; a name that is none is refused before them
  abbrev pub call_value : (number line : ℕ) → Callee F → (S → Valued V S) → (Bool → S → Valued (List (Argument V)) S) → S → Valued V S
  call_value n l (a_function f) first rest s = go_on (rest (L.takes_handles f) s) (λ args t. L.call n l f args t)
  call_value n l (no_function line name) first rest s = stops (stop_at line (undefined name)) s
  call_value n l a_value first rest s = go_on (first s) (λ v t. go_on (rest false t) (λ args u. answered l u (L.index n l v args)))

  abbrev pub argument : Option (ℕ × List ℕ) → (S → Valued V S) → S → Valued (Argument V) S
  argument None first s = go_on (first s) (λ v t. gives (given v) t)
  argument (Some h) first s = if L.function_is_there h.1 then gives (function h.1) s else stops (stop_at h.0 (undefined h.1)) s

  abbrev mutual
    pub value : Tree → S → Valued V S
    value (tree n l (trees.number d)) s = gives (L.literal (scalar (double d))) s
    value (tree n l (trees.text t)) s = gives (L.literal (scalar (text t))) s
    value (tree n l (trees.name x)) s = answered l s (L.name s x)
    value (tree n l (trees.list es)) s = gives (L.literal (texts (listed_texts es))) s
    value (tree n l (trees.handle x)) s = stops (stop_at l (L.handle x)) s
    value (tree n l (trees.prefixed op e)) s = go_on (value e s) (λ v t. answered l t (L.prefix_value n l op v))
    value (tree n l (trees.joined op e f)) s = go_on (value e s) (λ v t. go_on (value f t) (λ w u. answered l u (L.infix_value n l op v w)))
    value (tree n l (trees.member e x)) s = go_on (value e s) (λ v t. answered l t (L.member v x))
    value (tree n l (trees.call e args)) s = call_value n l (callee L s e) (λ t. value e t) (λ takes t. arguments args takes t) s

    -- from left to right; `:` is refused by what is called or indexed
    pub arguments : Args → Bool → S → Valued (List (Argument V)) S
    arguments no_args takes s = gives [] s
    arguments (value_arg e args) takes s =
        go_on (argument (handle_in takes e) (λ t. value e t) s) (λ a t. go_on (arguments args takes t) (λ rest u. gives (a ∷ rest) u))
    arguments (colon_arg args) takes s = go_on (arguments args takes s) (λ rest t. gives (colon ∷ rest) t)
