-- The numbers of expressions as a list, in the order of evaluation: those of the parts, and then that of the whole.
use Rattle.std.specs.Prelude.{◌≡◌, ◌<◌, ℕ, suc, List, [], ◌∷◌, ◌++◌}
use Rattle.std.specs.List.{All}
use Rattle.tall_grammar.specs.Trees.{Tree, tree, Trees, no_trees, and_tree, Args, no_args, value_arg, colon_arg, Step, assign_step, add_step, if_step, while_step, for_step, Steps, no_steps, and_step, Arms, no_arms, and_arm, Body, assigned, gathered, property, bare, SeenStatement, SeenFunction, SeenScript}
use Rattle.tall_grammar.specs.Trees as trees

abbrev mutual
  pub numbers_of : Tree → List ℕ
  numbers_of (tree n l (trees.number d)) = n ∷ []
  numbers_of (tree n l (trees.text t)) = n ∷ []
  numbers_of (tree n l (trees.name s)) = n ∷ []
  numbers_of (tree n l (trees.handle s)) = n ∷ []
  numbers_of (tree n l (trees.list es)) = numbers_of_trees es ++ n ∷ []
  numbers_of (tree n l (trees.prefixed op e)) = numbers_of e ++ n ∷ []
  numbers_of (tree n l (trees.joined op e f)) = numbers_of e ++ (numbers_of f ++ n ∷ [])
  numbers_of (tree n l (trees.member e s)) = numbers_of e ++ n ∷ []
  numbers_of (tree n l (trees.call e args)) = numbers_of e ++ (numbers_of_args args ++ n ∷ [])

  pub numbers_of_trees : Trees → List ℕ
  numbers_of_trees no_trees = []
  numbers_of_trees (and_tree e es) = numbers_of e ++ numbers_of_trees es

  pub numbers_of_args : Args → List ℕ
  numbers_of_args no_args = []
  numbers_of_args (value_arg e args) = numbers_of e ++ numbers_of_args args
  numbers_of_args (colon_arg args) = numbers_of_args args

abbrev pub numbers_of_body : Body → List ℕ
numbers_of_body (assigned s e) = numbers_of e
numbers_of_body (gathered ss args) = numbers_of_args args
numbers_of_body (property s t e) = numbers_of e
numbers_of_body (bare e) = numbers_of e

abbrev mutual
  pub numbers_of_step : Step → List ℕ
  numbers_of_step (assign_step l s e) = numbers_of e
  numbers_of_step (add_step l e f g) = numbers_of e ++ (numbers_of f ++ numbers_of g)
  numbers_of_step (if_step l arms rest) = numbers_of_arms arms ++ numbers_of_steps rest
  numbers_of_step (while_step l e b) = numbers_of e ++ numbers_of_steps b
  numbers_of_step (for_step l s e f b) = numbers_of e ++ (numbers_of f ++ numbers_of_steps b)

  pub numbers_of_steps : Steps → List ℕ
  numbers_of_steps no_steps = []
  numbers_of_steps (and_step b bs) = numbers_of_step b ++ numbers_of_steps bs

  pub numbers_of_arms : Arms → List ℕ
  numbers_of_arms no_arms = []
  numbers_of_arms (and_arm e b arms) = numbers_of e ++ (numbers_of_steps b ++ numbers_of_arms arms)

abbrev pub numbers_of_statements : List SeenStatement → List ℕ
numbers_of_statements [] = []
numbers_of_statements (b ∷ bs) = numbers_of_body b.form ++ numbers_of_statements bs

abbrev pub numbers_of_functions : List SeenFunction → List ℕ
numbers_of_functions [] = []
numbers_of_functions (f ∷ fs) = numbers_of_steps f.body ++ numbers_of_functions fs

abbrev pub numbers_of_script : SeenScript → List ℕ
numbers_of_script p = numbers_of_statements p.statements ++ numbers_of_functions p.functions

-- one after another, from the first on, and the number that comes next
abbrev pub AreInTurn : (first : ℕ) → List ℕ → (next : ℕ) → Type 0
AreInTurn first [] next = first ≡ next
AreInTurn first (n ∷ ns) next = (n ≡ first) × AreInTurn (suc first) ns next

-- each number of the first list is below each of the second
abbrev pub AreBelow : List ℕ → List ℕ → Type 0
AreBelow ms ns = All (λ m. All (λ n. m < n) ns) ms

-- ---- parts

abbrev pub own_number : Tree → ℕ
own_number (tree n l shape) = n

-- each expression's number is above those of its parts: operands, what a member is of, what is called or indexed, and
-- arguments; and it is so in each part
abbrev mutual
  pub Ascends : Tree → Type 0
  Ascends (tree n l (trees.number d)) = Unit {0}
  Ascends (tree n l (trees.text t)) = Unit {0}
  Ascends (tree n l (trees.name s)) = Unit {0}
  Ascends (tree n l (trees.handle s)) = Unit {0}
  Ascends (tree n l (trees.list es)) = AscendTo n es
  Ascends (tree n l (trees.prefixed op e)) = (own_number e < n) × Ascends e
  Ascends (tree n l (trees.joined op e f)) = (own_number e < n) × (own_number f < n) × Ascends e × Ascends f
  Ascends (tree n l (trees.member e s)) = (own_number e < n) × Ascends e
  Ascends (tree n l (trees.call e args)) = (own_number e < n) × Ascends e × ArgsAscendTo n args

  pub AscendTo : ℕ → Trees → Type 0
  AscendTo n no_trees = Unit {0}
  AscendTo n (and_tree e es) = (own_number e < n) × Ascends e × AscendTo n es

  pub ArgsAscendTo : ℕ → Args → Type 0
  ArgsAscendTo n no_args = Unit {0}
  ArgsAscendTo n (value_arg e args) = (own_number e < n) × Ascends e × ArgsAscendTo n args
  ArgsAscendTo n (colon_arg args) = ArgsAscendTo n args
