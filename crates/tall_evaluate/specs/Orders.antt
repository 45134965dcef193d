-- The numbers of an expression's parts, in the order of evaluation.
use Rattle.std.specs.Prelude.{ℕ}
use Rattle.tall_grammar.specs.Trees.{Tree, tree, Trees, no_trees, and_tree, Args, no_args, value_arg, colon_arg}
use Rattle.tall_grammar.specs.Trees as trees

abbrev pub own_number : Tree → ℕ
own_number (tree n l shape) = n

-- the number of the part that is evaluated first; a list is evaluated at once
abbrev pub first_number : Tree → ℕ
first_number (tree n l (trees.number d)) = n
first_number (tree n l (trees.text t)) = n
first_number (tree n l (trees.name s)) = n
first_number (tree n l (trees.handle s)) = n
first_number (tree n l (trees.list es)) = n
first_number (tree n l (trees.prefixed op e)) = first_number e
first_number (tree n l (trees.joined op e f)) = first_number e
first_number (tree n l (trees.member e s)) = first_number e
first_number (tree n l (trees.call e args)) = first_number e

-- the number of the last argument, or of what stands before the arguments
abbrev pub last_number : ℕ → Args → ℕ
last_number n no_args = n
last_number n (value_arg e args) = last_number (own_number e) args
last_number n (colon_arg args) = last_number n args

-- each number may come after the one before it
module _ (Follows : ℕ → ℕ → Type 0) where
  abbrev mutual
    pub AreInOrder : Tree → Type 0
    AreInOrder (tree n l (trees.number d)) = Unit {0}
    AreInOrder (tree n l (trees.text t)) = Unit {0}
    AreInOrder (tree n l (trees.name s)) = Unit {0}
    AreInOrder (tree n l (trees.handle s)) = Unit {0}
    AreInOrder (tree n l (trees.list es)) = Unit {0}
    AreInOrder (tree n l (trees.prefixed op e)) = AreInOrder e × Follows (own_number e) n
    AreInOrder (tree n l (trees.joined op e f)) =
        AreInOrder e × Follows (own_number e) (first_number f) × AreInOrder f × Follows (own_number f) n
    AreInOrder (tree n l (trees.member e s)) = AreInOrder e × Follows (own_number e) n
    AreInOrder (tree n l (trees.call e args)) = AreInOrder e × ArgsAreInOrder (own_number e) args × Follows (last_number (own_number e) args) n

    pub ArgsAreInOrder : ℕ → Args → Type 0
    ArgsAreInOrder n no_args = Unit {0}
    ArgsAreInOrder n (value_arg e args) = Follows n (first_number e) × AreInOrder e × ArgsAreInOrder (own_number e) args
    ArgsAreInOrder n (colon_arg args) = ArgsAreInOrder n args
