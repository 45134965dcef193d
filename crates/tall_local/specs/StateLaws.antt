-- What becomes of a state: in words over whole expressions.
use Rattle.std.specs.Prelude.{◌≡◌, ◌≤◌, ℕ, Bool, true, false, ◌&&◌, not, List, Some}
use Rattle.tall_grammar.specs.Trees.{Tree, tree, Args, no_args, value_arg, colon_arg}
use Rattle.tall_grammar.specs.Trees as trees
use Rattle.tall_local.specs.Arguments.{Argument}
use Rattle.tall_local.specs.Expressions.{Language, Valued, gives, stops}
use Rattle.tall_local.specs.Locals.{Locals}

-- the state that an expression leaves, or in which it stops
abbrev pub state_after : {V S : Type 0} → Valued V S → S
state_after (gives v s) = s
state_after (stops stop s) = s

-- a relation between states that holds where nothing was done, and of what is done in two parts
pub record IsKept {S : Type 0} (R : S → S → Type 0) : Type 0 where
  pub nothing : (s : S) → R s s
  pub both : (s t u : S) → R s t → R t u → R s u

-- ---- calls

-- an expression stands before parentheses as a name of these
abbrev pub is_name_in : (List ℕ → Bool) → Tree → Bool
is_name_in test (tree n l (trees.name x)) = test x
is_name_in test e = false

-- no name that the test tells stands before parentheses
module _ (test : List ℕ → Bool) where
  abbrev mutual
    pub calls_none : Tree → Bool
    calls_none (tree n l (trees.number d)) = true
    calls_none (tree n l (trees.text t)) = true
    calls_none (tree n l (trees.name x)) = true
    calls_none (tree n l (trees.list es)) = true
    calls_none (tree n l (trees.handle x)) = true
    calls_none (tree n l (trees.prefixed op e)) = calls_none e
    calls_none (tree n l (trees.joined op e f)) = calls_none e && calls_none f
    calls_none (tree n l (trees.member e x)) = calls_none e
    calls_none (tree n l (trees.call e args)) = not (is_name_in test e) && (calls_none e && calls_none_in args)

    pub calls_none_in : Args → Bool
    calls_none_in no_args = true
    calls_none_in (value_arg e args) = calls_none e && calls_none_in args
    calls_none_in (colon_arg args) = calls_none_in args

-- each call keeps the relation, but for those of the names that the test tells
abbrev pub CallsKeepBut : {F V S : Type 0} → (List ℕ → Bool) → Language F V S → (S → S → Type 0) → Type 0
CallsKeepBut {F} {V} {S} test L R = (name : List ℕ) (number line : ℕ) (f : F) (args : List (Argument V)) (s : S)
    → L.function_named name ≡ Some f → test name ≡ false → R s (state_after (L.call number line f args s))

-- each call keeps the relation
abbrev pub CallsKeep : {F V S : Type 0} → Language F V S → (S → S → Type 0) → Type 0
CallsKeep {F} {V} {S} L R = (number line : ℕ) (f : F) (args : List (Argument V)) (s : S) → R s (state_after (L.call number line f args s))

-- an expression in a function takes values of the iterator, and changes nothing else
pub record TakesOn (s t : Locals) : Type 0 where
  pub names : t.names ≡ s.names
  pub turns : t.turns ≡ s.turns
  pub pairs : t.pairs ≡ s.pairs
  pub given : s.given ≤ t.given
