-- Statements after one another, and the turns of loops, as far as they have come.
use Rattle.std.proofs.Common.{rules, ◌≡◌, refl, ℕ, ◌+◌, ◌-◌, ◌<◌, ◌≤◌, suc, sym, ap, subst, ◌∙◌, List, ◌∷◌, drop, map, arith}
use Rattle.std.specs.Prelude.{Bool, true, false, if◌then◌else◌, ℤ, pos, ◌+ℤ◌, Option, Some, Result, Ok, Err}
use Rattle.std.proofs.lemmas.Int.{ints}
use Rattle.tall_value.specs.Cells.{Seen, double}
use Rattle.tall_grammar.specs.Trees.{Tree, Steps, and_arm}
use Rattle.tall_grammar.specs.Views.{arms_of, step_of, tree_of}
use Rattle.tall_grammar.specs.Refusals.{line_of}
use Rattle.tall_grammar.specs.declared.steps.Arm.{Arm}
use Rattle.tall_grammar.specs.declared.steps.Arm as a
use Rattle.tall_grammar.specs.declared.expressions.Expr.{Expr}
use Rattle.tall_grammar.specs.declared.expressions.Expr as q
use Rattle.tall_grammar.specs.declared.steps.FunctionStep.{FunctionStep}
use Rattle.tall_local.specs.Calls.{Ran, ends, breaks, and_run, or_break, truth_of, turn_limit, has_next_of, takes_from_iterator, begin_turn, end_turn, where_holds, while_turns, for_turns, local_value, with_local, run_step, run_steps, run_arms}
use Rattle.tall_local.specs.Locals.{Locals, set_local}
use Rattle.tall_local.specs.Memory.{scalar}
use Rattle.tall_local.specs.Refusals.{Stop}
use Rattle.tall_fun.specs.declared.failures.Failure.{Failure}
use Rattle.tall_fun.specs.Failures.{stop_of}
use Rattle.tall_fun.specs.Frames.{Goes, arm_of, body_of}
use Rattle.tall_fun.specs.Loops.{waits_in}
use Rattle.tall_fun.proofs.LoopLemmas.{step_run, step_broken, loop_at_end, no_turn_begun, body_broken, turn_ended, waits_is, no_number_begun, number_run, arm_answer, arm_run}

module _ (key_values : List Seen) (steps : List FunctionStep) (k : ℕ) (s0 s : Locals)
    (so_far : run_steps key_values (body_of (drop k steps)) s ≡ run_steps key_values (body_of steps) s0) where
  pub next_step : (x : FunctionStep) (t : Locals) → drop k steps ≡ x ∷ drop (k + 1) steps → run_step key_values (step_of x) s ≡ ends t
      → run_steps key_values (body_of (drop (k + 1) steps)) t ≡ run_steps key_values (body_of steps) s0
  next_step x t is h =
      sym (step_run key_values (step_of x) (body_of (drop (k + 1) steps)) s t h) ∙ sym (ap (λ bs. run_steps key_values (body_of bs) s) is) ∙ so_far

  pub step_stopped : (x : FunctionStep) (stop : Stop) (t : Locals) → drop k steps ≡ x ∷ drop (k + 1) steps → run_step key_values (step_of x) s ≡ breaks stop t
      → run_steps key_values (body_of steps) s0 ≡ breaks stop t
  step_stopped x stop t is h =
      sym so_far ∙ ap (λ bs. run_steps key_values (body_of bs) s) is ∙ step_broken key_values (step_of x) (body_of (drop (k + 1) steps)) s stop t h

-- ---- counts

pub none_of : (n : ℕ) → n - 0 ≡ n
none_of n = omega arith

pub one_less : (n k : ℕ) → k < n → n - k ≡ suc (n - (k + 1))
one_less n k h = omega (arith, h)

pub all_gone : (n k : ℕ) → n ≤ k → n - k ≡ 0
all_gone n k h = omega (arith, h)

-- ---- a `while`, of which so many turns were taken

module _ (key_values : List Seen) (line : ℕ) (e : Tree) (b : Steps) (k : ℕ) (s0 s : Locals) (within : k < turn_limit)
    (so_far : while_turns (turn_limit - k) line e (local_value key_values e) (λ t. run_steps key_values b t) s ≡ while_turns turn_limit line e (local_value key_values e) (λ t. run_steps key_values b t) s0) where
  pub while_at_end : (t : Locals) → ((f : Locals → Ran) → where_holds line (local_value key_values e s) (λ t. begin_turn line t f) ≡ ends t)
      → while_turns turn_limit line e (local_value key_values e) (λ t. run_steps key_values b t) s0 ≡ ends t
  while_at_end t h = sym so_far ∙ loop_at_end line e (local_value key_values e) (λ t. run_steps key_values b t) (turn_limit - k) (turn_limit - (k + 1)) (one_less turn_limit k within) s t h

  pub while_not_begun : (stop : Stop) (t : Locals) → ((f : Locals → Ran) → where_holds line (local_value key_values e s) (λ t. begin_turn line t f) ≡ breaks stop t)
      → while_turns turn_limit line e (local_value key_values e) (λ t. run_steps key_values b t) s0 ≡ breaks stop t
  while_not_begun stop t h =
      sym so_far ∙ no_turn_begun line e (local_value key_values e) (λ t. run_steps key_values b t) (turn_limit - k) (turn_limit - (k + 1)) (one_less turn_limit k within) s stop t h

  module _ (u : Locals) (began : (f : Locals → Ran) → where_holds line (local_value key_values e s) (λ t. begin_turn line t f) ≡ f u) where
    pub while_broken : (stop : Stop) (v : Locals) → run_steps key_values b u ≡ breaks stop v
        → while_turns turn_limit line e (local_value key_values e) (λ t. run_steps key_values b t) s0 ≡ breaks stop v
    while_broken stop v h =
        sym so_far
        ∙ body_broken line e (local_value key_values e) (λ t. run_steps key_values b t) (turn_limit - k) (turn_limit - (k + 1)) (one_less turn_limit k within) s u began stop v h

    turn_comes_to : (waits : Bool) (v : Locals) (r : Ran) → waits ≡ takes_from_iterator e u → run_steps key_values b u ≡ ends v
        → ((f : Locals → Ran) → f v ≡ while_turns (turn_limit - (k + 1)) line e (local_value key_values e) (λ t. run_steps key_values b t) v → end_turn line waits u.given v f ≡ r)
        → while_turns turn_limit line e (local_value key_values e) (λ t. run_steps key_values b t) s0 ≡ r
    turn_comes_to waits v r is h ended =
        sym so_far
        ∙ turn_ended line e (local_value key_values e) (λ t. run_steps key_values b t) (turn_limit - k) (turn_limit - (k + 1)) (one_less turn_limit k within) s u began v r h
        (ap (λ w. end_turn line w u.given v (λ w. while_turns (turn_limit - (k + 1)) line e (local_value key_values e) (λ t. run_steps key_values b t) w)) (sym is)
        ∙ ended (λ w. while_turns (turn_limit - (k + 1)) line e (local_value key_values e) (λ t. run_steps key_values b t) w) refl)

    pub while_next : (waits : Bool) (v : Locals) → waits ≡ takes_from_iterator e u → run_steps key_values b u ≡ ends v → ((f : Locals → Ran) → end_turn line waits u.given v f ≡ f v)
        → while_turns (turn_limit - (k + 1)) line e (local_value key_values e) (λ t. run_steps key_values b t) v
        ≡ while_turns turn_limit line e (local_value key_values e) (λ t. run_steps key_values b t) s0
    while_next waits v is h ended =
        sym (turn_comes_to waits v (while_turns (turn_limit - (k + 1)) line e (local_value key_values e) (λ t. run_steps key_values b t) v) is h (λ f same. ended f ∙ same))

    pub while_stuck : (waits : Bool) (stop : Stop) (v : Locals) → waits ≡ takes_from_iterator e u → run_steps key_values b u ≡ ends v
        → ((f : Locals → Ran) → end_turn line waits u.given v f ≡ breaks stop v)
        → while_turns turn_limit line e (local_value key_values e) (λ t. run_steps key_values b t) s0 ≡ breaks stop v
    while_stuck waits stop v is h ended = turn_comes_to waits v (breaks stop v) is h (λ f same. ended f)

pub waits_told : (o : Option (List ℕ)) (waits : Bool) (e : Tree) (u : Locals) → o ≡ has_next_of e → waits ≡ waits_in o u.names → waits ≡ takes_from_iterator e u
waits_told o waits e u is told = told ∙ ap (λ p. waits_in p u.names) is ∙ sym (waits_is e u)

-- ---- a `for`, of which so many turns were taken

next_number : (z : ℤ) (k : ℕ) → (z +ℤ pos k) +ℤ pos 1 ≡ z +ℤ pos (k + 1)
next_number z k = omega (arith, ints)

pub from_first : (z : ℤ) → z +ℤ pos 0 ≡ z
from_first z = omega (arith, ints)

module _ (key_values : List Seen) (line : ℕ) (name : List ℕ) (z : ℤ) (b : Steps) (n k : ℕ) (s0 s : Locals) (within : k < n)
    (so_far : for_turns (n - k) line name (z +ℤ pos k) (λ t. run_steps key_values b t) s ≡ for_turns n line name z (λ t. run_steps key_values b t) s0) where
  pub for_not_begun : (stop : Stop) (t : Locals) → ((f : Locals → Ran) → begin_turn line s (λ t. f (set_local name (scalar (double (Some (z +ℤ pos k)))) t)) ≡ breaks stop t)
      → for_turns n line name z (λ t. run_steps key_values b t) s0 ≡ breaks stop t
  for_not_begun stop t h =
      sym so_far ∙ no_number_begun line name (z +ℤ pos k) (z +ℤ pos (k + 1)) (λ t. run_steps key_values b t) (n - k) (n - (k + 1)) (one_less n k within) (next_number z k) s stop t h

  module _ (t : Locals) (began : (f : Locals → Ran) → begin_turn line s (λ t. f (set_local name (scalar (double (Some (z +ℤ pos k)))) t)) ≡ f t) where
    number_comes_to : (r : Ran) → and_run (run_steps key_values b t) (λ u. for_turns (n - (k + 1)) line name (z +ℤ pos (k + 1)) (λ t. run_steps key_values b t) u) ≡ r
        → for_turns n line name z (λ t. run_steps key_values b t) s0 ≡ r
    number_comes_to r h =
        sym so_far ∙ number_run line name (z +ℤ pos k) (z +ℤ pos (k + 1)) (λ t. run_steps key_values b t) (n - k) (n - (k + 1)) (one_less n k within) (next_number z k) s t r began h

    pub for_broken : (stop : Stop) (v : Locals) → run_steps key_values b t ≡ breaks stop v → for_turns n line name z (λ t. run_steps key_values b t) s0 ≡ breaks stop v
    for_broken stop v h =
        number_comes_to (breaks stop v) (ap (λ r. and_run r (λ u. for_turns (n - (k + 1)) line name (z +ℤ pos (k + 1)) (λ t. run_steps key_values b t) u)) h)

    pub for_next : (v : Locals) → run_steps key_values b t ≡ ends v
        → for_turns (n - (k + 1)) line name (z +ℤ pos (k + 1)) (λ t. run_steps key_values b t) v ≡ for_turns n line name z (λ t. run_steps key_values b t) s0
    for_next v h =
        sym (number_comes_to (for_turns (n - (k + 1)) line name (z +ℤ pos (k + 1)) (λ t. run_steps key_values b t) v)
        (ap (λ r. and_run r (λ u. for_turns (n - (k + 1)) line name (z +ℤ pos (k + 1)) (λ t. run_steps key_values b t) u)) h))

-- ---- arms

arm_is : (x : Arm) → arm_of x ≡ (tree_of x.condition, body_of x.body)
arm_is x = search (rules, a.the_lemmas)

line_is : (e : Expr) → line_of (tree_of e) ≡ e.line
line_is e = search (rules, q.the_lemmas)

module _ (key_values : List Seen) (arms : List Arm) (rest : Locals → Ran) (k : ℕ) (s0 s : Locals)
    (so_far : run_arms key_values (arms_of (map arm_of (drop k arms))) rest s ≡ run_arms key_values (arms_of (map arm_of arms)) rest s0)
    (x : Arm) (is : drop k arms ≡ x ∷ drop (k + 1) arms) where
  pub arm_comes_to : (r : Ran)
      → with_local key_values (tree_of x.condition) s (λ h t. or_break x.condition.line t (truth_of h) (λ holds. arm_answer key_values (body_of x.body) (arms_of (map arm_of (drop (k + 1) arms))) rest holds t)) ≡ r
      → run_arms key_values (arms_of (map arm_of arms)) rest s0 ≡ r
  arm_comes_to r h =
      sym so_far ∙ ap (λ xs. run_arms key_values (arms_of (map arm_of xs)) rest s) is
      ∙ ap (λ (y : Tree × Steps). run_arms key_values (and_arm y.0 y.1 (arms_of (map arm_of (drop (k + 1) arms)))) rest s) (arm_is x)
      ∙ arm_run key_values (tree_of x.condition) (body_of x.body) (arms_of (map arm_of (drop (k + 1) arms))) rest x.condition.line s r (line_is x.condition) h

  pub arm_tested : (r : Result Bool Failure) (t : Locals) (holds : Bool)
      → ((f : Bool → Locals → Ran) → Goes (with_local key_values (tree_of x.condition) s (λ h t. or_break x.condition.line t (truth_of h) (λ b. f b t))) f r t)
      → r ≡ Ok holds → run_arms key_values (arms_of (map arm_of arms)) rest s0 ≡ arm_answer key_values (body_of x.body) (arms_of (map arm_of (drop (k + 1) arms))) rest holds t
  arm_tested r t holds h e =
      let f : Bool → Locals → Ran = arm_answer key_values (body_of x.body) (arms_of (map arm_of (drop (k + 1) arms))) rest in
      arm_comes_to (f holds t) (subst (λ r. Goes (with_local key_values (tree_of x.condition) s (λ h t. or_break x.condition.line t (truth_of h) (λ b. f b t))) f r t) e (h f))

  pub arm_failed : (r : Result Bool Failure) (t : Locals) (failure : Failure) (stop : Stop)
      → ((f : Bool → Locals → Ran) → Goes (with_local key_values (tree_of x.condition) s (λ h t. or_break x.condition.line t (truth_of h) (λ b. f b t))) f r t)
      → r ≡ Err failure → stop_of failure ≡ Some stop → run_arms key_values (arms_of (map arm_of arms)) rest s0 ≡ breaks stop t
  arm_failed r t failure stop h e named =
      let f : Bool → Locals → Ran = arm_answer key_values (body_of x.body) (arms_of (map arm_of (drop (k + 1) arms))) rest in
      arm_comes_to (breaks stop t) (subst (λ r. Goes (with_local key_values (tree_of x.condition) s (λ h t. or_break x.condition.line t (truth_of h) (λ b. f b t))) f r t) e (h f) stop named)

-- ---- what a call says of a turn that began

module _ (key_values : List Seen) (e : Tree) (line : ℕ) (s t : Locals) (r : Result Bool Failure)
    (told : (f : Locals → Ran) → Goes (where_holds line (local_value key_values e s) (λ t. begin_turn line t f)) (λ b t. if b then f t else ends t) r t) where
  pub turn_began : r ≡ Ok true → (f : Locals → Ran) → where_holds line (local_value key_values e s) (λ t. begin_turn line t f) ≡ f t
  turn_began is f = subst (λ r. Goes (where_holds line (local_value key_values e s) (λ t. begin_turn line t f)) (λ b t. if b then f t else ends t) r t) is (told f)

  pub loop_ended : r ≡ Ok false → (f : Locals → Ran) → where_holds line (local_value key_values e s) (λ t. begin_turn line t f) ≡ ends t
  loop_ended is f = subst (λ r. Goes (where_holds line (local_value key_values e s) (λ t. begin_turn line t f)) (λ b t. if b then f t else ends t) r t) is (told f)

  pub turn_failed : (failure : Failure) (stop : Stop) → r ≡ Err failure → stop_of failure ≡ Some stop
      → (f : Locals → Ran) → where_holds line (local_value key_values e s) (λ t. begin_turn line t f) ≡ breaks stop t
  turn_failed failure stop is named f = subst (λ r. Goes (where_holds line (local_value key_values e s) (λ t. begin_turn line t f)) (λ b t. if b then f t else ends t) r t) is (told f) stop named
