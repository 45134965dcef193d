-- The numbers of a script's expressions: the parts in their order, and then the whole. What is numbered stands on a line,
-- from a number on; the number that comes next is given too.
use Rattle.std.specs.Prelude.{ℕ, suc, List, [], ◌∷◌}
use Rattle.tall_grammar.specs.Trees.{Tree, tree, Shape, Trees, no_trees, and_tree, Args, no_args, value_arg, colon_arg, Step, assign_step, add_step, if_step, while_step, for_step, Steps, no_steps, and_step, Arms, no_arms, and_arm, Body, assigned, gathered, property, bare, SeenStatement, SeenFunction, SeenScript}
use Rattle.tall_grammar.specs.Trees as trees
use Rattle.tall_grammar.specs.Refusals.{line_of}

-- ---- expressions

-- a whole after its parts: it has the next number
abbrev pub after_parts : ℕ → Shape × ℕ → Tree × ℕ
after_parts l p = (tree p.1 l p.0, suc p.1)

abbrev mutual
  pub numbered : Tree → ℕ → ℕ → Tree × ℕ
  numbered (tree k j (trees.number d)) l n = after_parts l (trees.number d, n)
  numbered (tree k j (trees.text t)) l n = after_parts l (trees.text t, n)
  numbered (tree k j (trees.name s)) l n = after_parts l (trees.name s, n)
  numbered (tree k j (trees.handle s)) l n = after_parts l (trees.handle s, n)
  numbered (tree k j (trees.list es)) l n = let p = numbered_trees es l n in after_parts l (trees.list p.0, p.1)
  numbered (tree k j (trees.prefixed op e)) l n = let p = numbered e l n in after_parts l (trees.prefixed op p.0, p.1)
  numbered (tree k j (trees.joined op e f)) l n =
      let p = numbered e l n in let q = numbered f l p.1 in after_parts l (trees.joined op p.0 q.0, q.1)
  numbered (tree k j (trees.member e s)) l n = let p = numbered e l n in after_parts l (trees.member p.0 s, p.1)
  numbered (tree k j (trees.call e args)) l n =
      let p = numbered e l n in let q = numbered_args args l p.1 in after_parts l (trees.call p.0 q.0, q.1)

  pub numbered_trees : Trees → ℕ → ℕ → Trees × ℕ
  numbered_trees no_trees l n = (no_trees, n)
  numbered_trees (and_tree e es) l n = let p = numbered e l n in let q = numbered_trees es l p.1 in (and_tree p.0 q.0, q.1)

  pub numbered_args : Args → ℕ → ℕ → Args × ℕ
  numbered_args no_args l n = (no_args, n)
  numbered_args (value_arg e args) l n = let p = numbered e l n in let q = numbered_args args l p.1 in (value_arg p.0 q.0, q.1)
  numbered_args (colon_arg args) l n = let q = numbered_args args l n in (colon_arg q.0, q.1)

-- ---- statements and functions

abbrev pub numbered_body : Body → ℕ → ℕ → Body × ℕ
numbered_body (assigned s e) l n = let p = numbered e l n in (assigned s p.0, p.1)
numbered_body (gathered ss args) l n = let p = numbered_args args l n in (gathered ss p.0, p.1)
numbered_body (property s t e) l n = let p = numbered e l n in (property s t p.0, p.1)
numbered_body (bare e) l n = let p = numbered e l n in (bare p.0, p.1)

-- the condition of an `if` or `elseif` keeps its line
abbrev mutual
  pub numbered_step : Step → ℕ → Step × ℕ
  numbered_step (assign_step l s e) n = let p = numbered e l n in (assign_step l s p.0, p.1)
  numbered_step (add_step l e f g) n =
      let p = numbered e l n in let q = numbered f l p.1 in let r = numbered g l q.1 in (add_step l p.0 q.0 r.0, r.1)
  numbered_step (if_step l arms rest) n =
      let p = numbered_arms arms n in let q = numbered_steps rest p.1 in (if_step l p.0 q.0, q.1)
  numbered_step (while_step l e b) n = let p = numbered e l n in let q = numbered_steps b p.1 in (while_step l p.0 q.0, q.1)
  numbered_step (for_step l s e f b) n =
      let p = numbered e l n in let q = numbered f l p.1 in let r = numbered_steps b q.1 in (for_step l s p.0 q.0 r.0, r.1)

  pub numbered_steps : Steps → ℕ → Steps × ℕ
  numbered_steps no_steps n = (no_steps, n)
  numbered_steps (and_step b bs) n = let p = numbered_step b n in let q = numbered_steps bs p.1 in (and_step p.0 q.0, q.1)

  pub numbered_arms : Arms → ℕ → Arms × ℕ
  numbered_arms no_arms n = (no_arms, n)
  numbered_arms (and_arm e b arms) n =
      let p = numbered e (line_of e) n in let q = numbered_steps b p.1 in let r = numbered_arms arms q.1 in (and_arm p.0 q.0 r.0, r.1)

abbrev pub numbered_statements : List SeenStatement → ℕ → List SeenStatement × ℕ
numbered_statements [] n = ([], n)
numbered_statements (b ∷ bs) n =
    let p = numbered_body b.form b.line n in let q = numbered_statements bs p.1 in (record b { form = p.0 } ∷ q.0, q.1)

abbrev pub numbered_functions : List SeenFunction → ℕ → List SeenFunction × ℕ
numbered_functions [] n = ([], n)
numbered_functions (f ∷ fs) n =
    let p = numbered_steps f.body n in let q = numbered_functions fs p.1 in (record f { body = p.0 } ∷ q.0, q.1)

-- numbers begin at 1
abbrev pub numbered_script : SeenScript → SeenScript
numbered_script s =
    let p = numbered_statements s.statements 1 in let q = numbered_functions s.functions p.1 in record { statements = p.0; functions = q.0 }
