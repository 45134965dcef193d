-- The numbers of a numbered script are 1, 2, 3 and so on.
use Rattle.std.proofs.Common.{◌≡◌, ℕ, suc, ◌≤◌, ◌<◌, List, [], ◌∷◌, ◌++◌, refl, sym, subst, arith}
use Rattle.tall_grammar.specs.Grammar.{IsExpr, IsScript}
use Rattle.tall_grammar.specs.Lexemes.{Lexeme}
use Rattle.tall_grammar.specs.Refusals.{line_of}
use Rattle.tall_grammar.specs.Trees.{Tree, tree, Trees, no_trees, and_tree, Args, no_args, value_arg, colon_arg, Step, assign_step, add_step, if_step, while_step, for_step, Steps, no_steps, and_step, Arms, no_arms, and_arm, Body, assigned, gathered, property, bare, SeenStatement, SeenFunction, SeenScript}
use Rattle.tall_grammar.specs.Trees as trees
use Rattle.tall_script.specs.Numbering.{numbered, numbered_trees, numbered_args, numbered_body, numbered_step, numbered_steps, numbered_arms, numbered_statements, numbered_functions, numbered_script}
use Rattle.tall_script.specs.NumberLaws.{numbers_of, numbers_of_trees, numbers_of_args, numbers_of_body, numbers_of_step, numbers_of_steps, numbers_of_arms, numbers_of_statements, numbers_of_functions, numbers_of_script, AreInTurn, own_number, Ascends, AscendTo, ArgsAscendTo}
use Rattle.tall_script.proofs.Numbers.{expr_numbered, script_numbered}

both : (m k n : ℕ) (ns more : List ℕ) → AreInTurn m ns k → AreInTurn k more n → AreInTurn m (ns ++ more) n
both m k n [] more h i = subst (λ (a : ℕ). AreInTurn a more n) (sym h) i
both m k n (x ∷ ns) more h i = (h.0, both (suc m) k n ns more h.1 i)

-- the whole after its parts
whole : (m n : ℕ) (ns : List ℕ) → AreInTurn m ns n → AreInTurn m (ns ++ n ∷ []) (suc n)
whole m n ns h = both m n (suc n) ns (n ∷ []) h (refl, refl)

mutual
  in_turn : (e : Tree) (l m : ℕ) → AreInTurn m (numbers_of (numbered e l m).0) (numbered e l m).1
  in_turn (tree k j (trees.number d)) l m = (refl, refl)
  in_turn (tree k j (trees.text t)) l m = (refl, refl)
  in_turn (tree k j (trees.name s)) l m = (refl, refl)
  in_turn (tree k j (trees.handle s)) l m = (refl, refl)
  in_turn (tree k j (trees.list es)) l m = whole m (numbered_trees es l m).1 (numbers_of_trees (numbered_trees es l m).0) (trees_in_turn es l m)
  in_turn (tree k j (trees.prefixed op e)) l m = whole m (numbered e l m).1 (numbers_of (numbered e l m).0) (in_turn e l m)
  in_turn (tree k j (trees.joined op e f)) l m =
      let p = numbered e l m in let q = numbered f l p.1 in
      both m p.1 (suc q.1) (numbers_of p.0) (numbers_of q.0 ++ q.1 ∷ []) (in_turn e l m) (whole p.1 q.1 (numbers_of q.0) (in_turn f l p.1))
  in_turn (tree k j (trees.member e s)) l m = whole m (numbered e l m).1 (numbers_of (numbered e l m).0) (in_turn e l m)
  in_turn (tree k j (trees.call e args)) l m =
      let p = numbered e l m in let q = numbered_args args l p.1 in
      both m p.1 (suc q.1) (numbers_of p.0) (numbers_of_args q.0 ++ q.1 ∷ []) (in_turn e l m) (whole p.1 q.1 (numbers_of_args q.0) (args_in_turn args l p.1))

  trees_in_turn : (es : Trees) (l m : ℕ) → AreInTurn m (numbers_of_trees (numbered_trees es l m).0) (numbered_trees es l m).1
  trees_in_turn no_trees l m = refl
  trees_in_turn (and_tree e es) l m =
      let p = numbered e l m in let q = numbered_trees es l p.1 in
      both m p.1 q.1 (numbers_of p.0) (numbers_of_trees q.0) (in_turn e l m) (trees_in_turn es l p.1)

  args_in_turn : (args : Args) (l m : ℕ) → AreInTurn m (numbers_of_args (numbered_args args l m).0) (numbered_args args l m).1
  args_in_turn no_args l m = refl
  args_in_turn (value_arg e args) l m =
      let p = numbered e l m in let q = numbered_args args l p.1 in
      both m p.1 q.1 (numbers_of p.0) (numbers_of_args q.0) (in_turn e l m) (args_in_turn args l p.1)
  args_in_turn (colon_arg args) l m = args_in_turn args l m

body_in_turn : (b : Body) (l m : ℕ) → AreInTurn m (numbers_of_body (numbered_body b l m).0) (numbered_body b l m).1
body_in_turn (assigned s e) l m = in_turn e l m
body_in_turn (gathered ss args) l m = args_in_turn args l m
body_in_turn (property s t e) l m = in_turn e l m
body_in_turn (bare e) l m = in_turn e l m

mutual
  step_in_turn : (b : Step) (m : ℕ) → AreInTurn m (numbers_of_step (numbered_step b m).0) (numbered_step b m).1
  step_in_turn (assign_step l s e) m = in_turn e l m
  step_in_turn (add_step l e f g) m =
      let p = numbered e l m in let q = numbered f l p.1 in let r = numbered g l q.1 in
      both m p.1 r.1 (numbers_of p.0) (numbers_of q.0 ++ numbers_of r.0) (in_turn e l m) (both p.1 q.1 r.1 (numbers_of q.0) (numbers_of r.0) (in_turn f l p.1) (in_turn g l q.1))
  step_in_turn (if_step l arms rest) m =
      let p = numbered_arms arms m in let q = numbered_steps rest p.1 in
      both m p.1 q.1 (numbers_of_arms p.0) (numbers_of_steps q.0) (arms_in_turn arms m) (steps_in_turn rest p.1)
  step_in_turn (while_step l e b) m =
      let p = numbered e l m in let q = numbered_steps b p.1 in
      both m p.1 q.1 (numbers_of p.0) (numbers_of_steps q.0) (in_turn e l m) (steps_in_turn b p.1)
  step_in_turn (for_step l s e f b) m =
      let p = numbered e l m in let q = numbered f l p.1 in let r = numbered_steps b q.1 in
      both m p.1 r.1 (numbers_of p.0) (numbers_of q.0 ++ numbers_of_steps r.0) (in_turn e l m) (both p.1 q.1 r.1 (numbers_of q.0) (numbers_of_steps r.0) (in_turn f l p.1) (steps_in_turn b q.1))

  steps_in_turn : (bs : Steps) (m : ℕ) → AreInTurn m (numbers_of_steps (numbered_steps bs m).0) (numbered_steps bs m).1
  steps_in_turn no_steps m = refl
  steps_in_turn (and_step b bs) m =
      let p = numbered_step b m in let q = numbered_steps bs p.1 in
      both m p.1 q.1 (numbers_of_step p.0) (numbers_of_steps q.0) (step_in_turn b m) (steps_in_turn bs p.1)

  arms_in_turn : (arms : Arms) (m : ℕ) → AreInTurn m (numbers_of_arms (numbered_arms arms m).0) (numbered_arms arms m).1
  arms_in_turn no_arms m = refl
  arms_in_turn (and_arm e b arms) m =
      let p = numbered e (line_of e) m in let q = numbered_steps b p.1 in let r = numbered_arms arms q.1 in
      both m p.1 r.1 (numbers_of p.0) (numbers_of_steps q.0 ++ numbers_of_arms r.0) (in_turn e (line_of e) m)
      (both p.1 q.1 r.1 (numbers_of_steps q.0) (numbers_of_arms r.0) (steps_in_turn b p.1) (arms_in_turn arms q.1))

statements_in_turn : (bs : List SeenStatement) (m : ℕ) → AreInTurn m (numbers_of_statements (numbered_statements bs m).0) (numbered_statements bs m).1
statements_in_turn [] m = refl
statements_in_turn (b ∷ bs) m =
    let p = numbered_body b.form b.line m in let q = numbered_statements bs p.1 in
    both m p.1 q.1 (numbers_of_body p.0) (numbers_of_statements q.0) (body_in_turn b.form b.line m) (statements_in_turn bs p.1)

functions_in_turn : (fs : List SeenFunction) (m : ℕ) → AreInTurn m (numbers_of_functions (numbered_functions fs m).0) (numbered_functions fs m).1
functions_in_turn [] m = refl
functions_in_turn (f ∷ fs) m =
    let p = numbered_steps f.body m in let q = numbered_functions fs p.1 in
    both m p.1 q.1 (numbers_of_steps p.0) (numbers_of_functions q.0) (steps_in_turn f.body m) (functions_in_turn fs p.1)

program_in_turn : (p : SeenScript) → (next : ℕ) × AreInTurn 1 (numbers_of_script (numbered_script p)) next
program_in_turn p =
    let a = numbered_statements p.statements 1 in let b = numbered_functions p.functions a.1 in
    (b.1, both 1 a.1 b.1 (numbers_of_statements a.0) (numbers_of_functions b.0) (statements_in_turn p.statements 1) (functions_in_turn p.functions a.1))

pub script_in_turn : (ts : List Lexeme) (p : SeenScript) → IsScript ts p → (next : ℕ) × AreInTurn 1 (numbers_of_script p) next
script_in_turn ts p h = subst (λ (q : SeenScript). (next : ℕ) × AreInTurn 1 (numbers_of_script q) next) (script_numbered ts p h) (program_in_turn p)

pub expression_in_turn : (l m : ℕ) (ts : List Lexeme) (e : Tree) (n : ℕ) → IsExpr l m ts e n → AreInTurn m (numbers_of e) n
expression_in_turn l m ts e n h = subst (λ (p : Tree × ℕ). AreInTurn m (numbers_of p.0) p.1) (expr_numbered l m ts e n h) (in_turn e l m)

-- ---- parts

no_less : (m n : ℕ) (ns : List ℕ) → AreInTurn m ns n → m ≤ n
no_less m n [] h = as_much m n h where
  as_much : (a b : ℕ) → a ≡ b → a ≤ b
  as_much a b e = omega (arith, e)
no_less m n (x ∷ ns) h = one_more m n (no_less (suc m) n ns h.1) where
  one_more : (a b : ℕ) → suc a ≤ b → a ≤ b
  one_more a b e = omega (arith, e)

next_after : (e : Tree) (l m : ℕ) → suc (own_number (numbered e l m).0) ≡ (numbered e l m).1
next_after (tree k j (trees.number d)) l m = refl
next_after (tree k j (trees.text t)) l m = refl
next_after (tree k j (trees.name s)) l m = refl
next_after (tree k j (trees.handle s)) l m = refl
next_after (tree k j (trees.list es)) l m = refl
next_after (tree k j (trees.prefixed op e)) l m = refl
next_after (tree k j (trees.joined op e f)) l m = refl
next_after (tree k j (trees.member e s)) l m = refl
next_after (tree k j (trees.call e args)) l m = refl

below : (e : Tree) (l m n : ℕ) → (numbered e l m).1 ≤ n → own_number (numbered e l m).0 < n
below e l m n h = less (own_number (numbered e l m).0) (numbered e l m).1 n (next_after e l m) h where
  less : (a b c : ℕ) → suc a ≡ b → b ≤ c → a < c
  less a b c e h = omega (arith, e, h)

at_most : (a b c : ℕ) → a ≤ b → b ≤ c → a ≤ c
at_most a b c h i = omega (arith, h, i)

itself : (n : ℕ) → n ≤ n
itself n = omega arith

mutual
  parts_ascend : (e : Tree) (l m : ℕ) → Ascends (numbered e l m).0
  parts_ascend (tree k j (trees.number d)) l m = tt
  parts_ascend (tree k j (trees.text t)) l m = tt
  parts_ascend (tree k j (trees.name s)) l m = tt
  parts_ascend (tree k j (trees.handle s)) l m = tt
  parts_ascend (tree k j (trees.list es)) l m = trees_ascend es l m (numbered_trees es l m).1 (itself (numbered_trees es l m).1)
  parts_ascend (tree k j (trees.prefixed op e)) l m = (below e l m (numbered e l m).1 (itself (numbered e l m).1), parts_ascend e l m)
  parts_ascend (tree k j (trees.joined op e f)) l m =
      let p = numbered e l m in let q = numbered f l p.1 in
      (below e l m q.1 (no_less p.1 q.1 (numbers_of q.0) (in_turn f l p.1)), below f l p.1 q.1 (itself q.1), parts_ascend e l m, parts_ascend f l p.1)
  parts_ascend (tree k j (trees.member e s)) l m = (below e l m (numbered e l m).1 (itself (numbered e l m).1), parts_ascend e l m)
  parts_ascend (tree k j (trees.call e args)) l m =
      let p = numbered e l m in let q = numbered_args args l p.1 in
      (below e l m q.1 (no_less p.1 q.1 (numbers_of_args q.0) (args_in_turn args l p.1)), parts_ascend e l m, args_ascend args l p.1 q.1 (itself q.1))

  trees_ascend : (es : Trees) (l m n : ℕ) → (numbered_trees es l m).1 ≤ n → AscendTo n (numbered_trees es l m).0
  trees_ascend no_trees l m n h = tt
  trees_ascend (and_tree e es) l m n h =
      let p = numbered e l m in let q = numbered_trees es l p.1 in
      (below e l m n (at_most p.1 q.1 n (no_less p.1 q.1 (numbers_of_trees q.0) (trees_in_turn es l p.1)) h), parts_ascend e l m, trees_ascend es l p.1 n h)

  args_ascend : (args : Args) (l m n : ℕ) → (numbered_args args l m).1 ≤ n → ArgsAscendTo n (numbered_args args l m).0
  args_ascend no_args l m n h = tt
  args_ascend (value_arg e args) l m n h =
      let p = numbered e l m in let q = numbered_args args l p.1 in
      (below e l m n (at_most p.1 q.1 n (no_less p.1 q.1 (numbers_of_args q.0) (args_in_turn args l p.1)) h), parts_ascend e l m, args_ascend args l p.1 n h)
  args_ascend (colon_arg args) l m n h = args_ascend args l m n h

pub expression_ascends : (l m : ℕ) (ts : List Lexeme) (e : Tree) (n : ℕ) → IsExpr l m ts e n → Ascends e
expression_ascends l m ts e n h = subst (λ (p : Tree × ℕ). Ascends p.0) (expr_numbered l m ts e n h) (parts_ascend e l m)
