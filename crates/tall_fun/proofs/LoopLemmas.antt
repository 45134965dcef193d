-- Conditions, bounds and turns of loops.
use Rattle.std.proofs.Common.{◌≡◌, refl, ℕ, suc, ◌+◌}
use Rattle.std.proofs.Common.{sym, ap, subst, List, ◌∷◌, ◌∙◌}
use Rattle.std.specs.Prelude.{Bool, true, false, ◌==◌, if◌then◌else◌, ℤ, pos, ◌+ℤ◌, Option, None, Some, Result, codes}
use Rattle.std.specs.Str.{bytes_eq}
use Rattle.tall_value.specs.Cells.{Seen, whole, logical, double, text}
use Rattle.tall_grammar.specs.Trees.{Tree, tree, Args, no_args, value_arg, colon_arg, Step, Steps, and_step, Arms, and_arm}
use Rattle.tall_grammar.specs.Trees as trees
use Rattle.tall_grammar.specs.Views.{args_of}
use Rattle.tall_grammar.specs.Refusals.{line_of}
use Rattle.tall_local.specs.Calls.{Ran, ends, breaks, and_run, or_break, bounds_of, truth_of, turn_limit, has_next_of, takes_from_iterator, begin_turn, end_turn, where_holds, while_turns, for_turns, local_value, with_local, run_step, run_steps, run_arms}
use Rattle.tall_local.specs.Expressions.{Valued, gives, stops}
use Rattle.tall_local.specs.Locals.{Held, value, store, iterator, no_value, Locals, set_local}
use Rattle.tall_local.specs.Memory.{scalar, column, table, texts}
use Rattle.tall_local.specs.Refusals.{too_many_turns, no_progress, Stop, stop_at}
use Rattle.tall_fun.specs.Bounds.{ranged}
use Rattle.tall_fun.specs.declared.failures.Failure.{Failure}
use Rattle.tall_fun.specs.Frames.{Goes, double_in, name_in, only_name}
use Rattle.tall_fun.specs.Loops.{has_next_in, waits_in}

-- ---- bounds

after_number : (a : Option ℤ) (y : Held) → bounds_of (value (scalar (double a))) y ≡ ranged (Some a) (double_in y)
after_number (Some a) (value (scalar (double (Some b)))) = refl
after_number (Some a) (value (scalar (double None))) = refl
after_number None (value (scalar (double b))) = refl
after_number (Some a) (value (scalar (whole k n))) = refl
after_number (Some a) (value (scalar (logical b))) = refl
after_number (Some a) (value (scalar (text t))) = refl
after_number (Some a) (value (column x)) = refl
after_number (Some a) (value (table t)) = refl
after_number (Some a) (value (texts t)) = refl
after_number (Some a) store = refl
after_number (Some a) iterator = refl
after_number (Some a) no_value = refl
after_number None (value (scalar (whole k n))) = refl
after_number None (value (scalar (logical b))) = refl
after_number None (value (scalar (text t))) = refl
after_number None (value (column x)) = refl
after_number None (value (table t)) = refl
after_number None (value (texts t)) = refl
after_number None store = refl
after_number None iterator = refl
after_number None no_value = refl

pub bounds_are : (x y : Held) → bounds_of x y ≡ ranged (double_in x) (double_in y)
bounds_are (value (scalar (double a))) y = after_number a y
bounds_are (value (scalar (whole k n))) y = refl
bounds_are (value (scalar (logical b))) y = refl
bounds_are (value (scalar (text t))) y = refl
bounds_are (value (column x)) y = refl
bounds_are (value (table t)) y = refl
bounds_are (value (texts t)) y = refl
bounds_are store y = refl
bounds_are iterator y = refl
bounds_are no_value y = refl

-- ---- `hasnext(NAME)`

pub two_names : (o p : Option Tree) (os : List (Option Tree)) → only_name (args_of (o ∷ p ∷ os)) ≡ None
two_names None p os = refl
two_names (Some e) None os = refl
two_names (Some e) (Some g) os = refl

abbrev no_name : Option (List ℕ)
no_name = None

neither : (b : Bool) → no_name ≡ (if b then None else None)
neither true = refl
neither false = refl

only_other : (e : Tree) (rest : Args) → name_in e ≡ None → only_name (value_arg e rest) ≡ None
only_other e no_args h = h
only_other e (value_arg g rest) h = refl
only_other e (colon_arg rest) h = refl

other_argument : (f : List ℕ) (e : Tree) (rest : Args) → name_in e ≡ None → no_name ≡ has_next_in (Some f) (only_name (value_arg e rest))
other_argument f e rest h = neither (bytes_eq f (codes "hasnext")) ∙ ap (λ o. if bytes_eq f (codes "hasnext") then o else None) (sym (only_other e rest h))

name_called : (n l m k : ℕ) (f : List ℕ) (args : Args) → has_next_of (tree n l (trees.call (tree m k (trees.name f)) args)) ≡ has_next_in (Some f) (only_name args)
name_called n l m k f no_args = neither (bytes_eq f (codes "hasnext"))
name_called n l m k f (colon_arg args) = neither (bytes_eq f (codes "hasnext"))
name_called n l m k f (value_arg (tree i j (trees.name x)) no_args) = refl
name_called n l m k f (value_arg (tree i j (trees.name x)) (value_arg e args)) = neither (bytes_eq f (codes "hasnext"))
name_called n l m k f (value_arg (tree i j (trees.name x)) (colon_arg args)) = neither (bytes_eq f (codes "hasnext"))
name_called n l m k f (value_arg (tree i j (trees.number d)) args) = other_argument f (tree i j (trees.number d)) args refl
name_called n l m k f (value_arg (tree i j (trees.text t)) args) = other_argument f (tree i j (trees.text t)) args refl
name_called n l m k f (value_arg (tree i j (trees.list es)) args) = other_argument f (tree i j (trees.list es)) args refl
name_called n l m k f (value_arg (tree i j (trees.handle h)) args) = other_argument f (tree i j (trees.handle h)) args refl
name_called n l m k f (value_arg (tree i j (trees.prefixed op e)) args) = other_argument f (tree i j (trees.prefixed op e)) args refl
name_called n l m k f (value_arg (tree i j (trees.joined op e g)) args) = other_argument f (tree i j (trees.joined op e g)) args refl
name_called n l m k f (value_arg (tree i j (trees.member e x)) args) = other_argument f (tree i j (trees.member e x)) args refl
name_called n l m k f (value_arg (tree i j (trees.call e others)) args) = other_argument f (tree i j (trees.call e others)) args refl

pub has_next_called : (n l : ℕ) (c : Tree) (args : Args) → has_next_of (tree n l (trees.call c args)) ≡ has_next_in (name_in c) (only_name args)
has_next_called n l (tree m k (trees.name f)) args = name_called n l m k f args
has_next_called n l (tree m k (trees.number d)) args = refl
has_next_called n l (tree m k (trees.text t)) args = refl
has_next_called n l (tree m k (trees.list es)) args = refl
has_next_called n l (tree m k (trees.handle h)) args = refl
has_next_called n l (tree m k (trees.prefixed op e)) args = refl
has_next_called n l (tree m k (trees.joined op e g)) args = refl
has_next_called n l (tree m k (trees.member e x)) args = refl
has_next_called n l (tree m k (trees.call e others)) args = refl

pub waits_is : (e : Tree) (s : Locals) → takes_from_iterator e s ≡ waits_in (has_next_of e) s.names
waits_is e s = found (has_next_of e)
  where
    found : (o : Option (List ℕ)) → elim o [ Some x ↦ waits_in (Some x) s.names | None ↦ false ] ≡ waits_in o s.names
    found (Some x) = refl
    found None = refl

-- ---- turns

pub begun : (line : ℕ) (s : Locals) (f : Locals → Ran) → (s.turns + 1 == turn_limit) ≡ false → begin_turn line s f ≡ f (record s { turns = s.turns + 1 })
begun line s f h = ap (λ (b : Bool). elim b [ true ↦ breaks (stop_at line too_many_turns) s | false ↦ f (record s { turns = s.turns + 1 }) ]) h

pub not_begun : (line : ℕ) (s : Locals) (f : Locals → Ran) → (s.turns + 1 == turn_limit) ≡ true → begin_turn line s f ≡ breaks (stop_at line too_many_turns) s
not_begun line s f h = ap (λ (b : Bool). elim b [ true ↦ breaks (stop_at line too_many_turns) s | false ↦ f (record s { turns = s.turns + 1 }) ]) h

pub no_turn_taken : (line given : ℕ) (s : Locals) (f : Locals → Ran) → (s.given == given) ≡ true → end_turn line true given s f ≡ breaks (stop_at line no_progress) s
no_turn_taken line given s f h = ap (λ (b : Bool). elim b [ true ↦ breaks (stop_at line no_progress) s | false ↦ f s ]) h

pub turn_taken : (line given : ℕ) (s : Locals) (f : Locals → Ran) → (s.given == given) ≡ false → end_turn line true given s f ≡ f s
turn_taken line given s f h = ap (λ (b : Bool). elim b [ true ↦ breaks (stop_at line no_progress) s | false ↦ f s ]) h

pub where_is : (line : ℕ) (v : Valued Held Locals) (f : Locals → Ran)
    → where_holds line v f ≡ elim v [ gives h t ↦ or_break line t (truth_of h) (λ b. elim b [ true ↦ f t | false ↦ ends t ]) | stops stop t ↦ breaks stop t ]
where_is line (gives h t) f = refl
where_is line (stops stop t) f = refl

-- ---- a turn of a `while`

module _ (line : ℕ) (condition : Tree) (test : Locals → Valued Held Locals) (body : Locals → Ran) (n m : ℕ) (more : n ≡ suc m) (s : Locals) where
  abbrev after_body : Locals → Locals → Ran
  after_body u v = end_turn line (takes_from_iterator condition u) u.given v (λ w. while_turns m line condition test body w)

  abbrev whole_turn : Locals → Ran
  whole_turn u = and_run (body u) (after_body u)

  unfolded : while_turns n line condition test body s ≡ where_holds line (test s) (λ t. begin_turn line t whole_turn)
  unfolded = ap (λ k. while_turns k line condition test body s) more

  pub loop_at_end : (t : Locals) → ((f : Locals → Ran) → where_holds line (test s) (λ t. begin_turn line t f) ≡ ends t) → while_turns n line condition test body s ≡ ends t
  loop_at_end t h = unfolded ∙ h whole_turn

  pub no_turn_begun : (stop : Stop) (t : Locals) → ((f : Locals → Ran) → where_holds line (test s) (λ t. begin_turn line t f) ≡ breaks stop t)
      → while_turns n line condition test body s ≡ breaks stop t
  no_turn_begun stop t h = unfolded ∙ h whole_turn

  module _ (u : Locals) (began : (f : Locals → Ran) → where_holds line (test s) (λ t. begin_turn line t f) ≡ f u) where
    pub body_broken : (stop : Stop) (v : Locals) → body u ≡ breaks stop v → while_turns n line condition test body s ≡ breaks stop v
    body_broken stop v h = unfolded ∙ began whole_turn ∙ ap (λ r. and_run r (after_body u)) h

    pub turn_ended : (v : Locals) (r : Ran) → body u ≡ ends v
        → end_turn line (takes_from_iterator condition u) u.given v (λ w. while_turns m line condition test body w) ≡ r
        → while_turns n line condition test body s ≡ r
    turn_ended v r h k = unfolded ∙ began whole_turn ∙ ap (λ r. and_run r (after_body u)) h ∙ k

-- ---- a turn of a `for`

module _ (line : ℕ) (name : List ℕ) (k next : ℤ) (body : Locals → Ran) (n m : ℕ) (more : n ≡ suc m) (is_next : k +ℤ pos 1 ≡ next) (s : Locals) where
  abbrev numbers_left : Locals → Ran
  numbers_left u = for_turns m line name next body u

  abbrev whole_number : Locals → Ran
  whole_number t = and_run (body t) numbers_left

  unfolded_for : for_turns n line name k body s ≡ begin_turn line s (λ t. whole_number (set_local name (scalar (double (Some k))) t))
  unfolded_for =
      ap (λ j. for_turns j line name k body s) more
      ∙ ap (λ z. begin_turn line s (λ t. and_run (body (set_local name (scalar (double (Some k))) t)) (λ u. for_turns m line name z body u))) is_next

  pub no_number_begun : (stop : Stop) (t : Locals) → ((f : Locals → Ran) → begin_turn line s (λ t. f (set_local name (scalar (double (Some k))) t)) ≡ breaks stop t)
      → for_turns n line name k body s ≡ breaks stop t
  no_number_begun stop t h = unfolded_for ∙ h whole_number

  pub number_run : (t : Locals) (r : Ran) → ((f : Locals → Ran) → begin_turn line s (λ t. f (set_local name (scalar (double (Some k))) t)) ≡ f t)
      → and_run (body t) numbers_left ≡ r → for_turns n line name k body s ≡ r
  number_run t r h k = unfolded_for ∙ h whole_number ∙ k

-- ---- statements after one another

module _ (key_values : List Seen) where
  pub step_run : (b : Step) (bs : Steps) (s t : Locals) → run_step key_values b s ≡ ends t → run_steps key_values (and_step b bs) s ≡ run_steps key_values bs t
  step_run b bs s t h = ap (λ r. and_run r (λ t. run_steps key_values bs t)) h

  pub step_broken : (b : Step) (bs : Steps) (s : Locals) (stop : Stop) (t : Locals) → run_step key_values b s ≡ breaks stop t → run_steps key_values (and_step b bs) s ≡ breaks stop t
  step_broken b bs s stop t h = ap (λ r. and_run r (λ t. run_steps key_values bs t)) h

  abbrev pub arm_answer : Steps → Arms → (Locals → Ran) → Bool → Locals → Ran
  arm_answer b arms rest holds t = elim holds [ true ↦ run_steps key_values b t | false ↦ run_arms key_values arms rest t ]

  pub arm_run : (e : Tree) (b : Steps) (arms : Arms) (rest : Locals → Ran) (line : ℕ) (s : Locals) (r : Ran) → line_of e ≡ line
      → with_local key_values e s (λ h t. or_break line t (truth_of h) (λ holds. arm_answer b arms rest holds t)) ≡ r → run_arms key_values (and_arm e b arms) rest s ≡ r
  arm_run e b arms rest line s r is h =
      ap (λ n. with_local key_values e s (λ h t. or_break n t (truth_of h) (λ holds. elim holds [ true ↦ run_steps key_values b t | false ↦ run_arms key_values arms rest t ]))) is ∙ h

-- ---- where a turn begins

abbrev pub chosen : (Locals → Ran) → Bool → Locals → Ran
chosen f b t = elim b [ true ↦ f t | false ↦ ends t ]

pub where_goes : (key_values : List Seen) (e : Tree) (line : ℕ) (s t : Locals) (f : Locals → Ran) (r : Result Bool Failure)
    → Goes (with_local key_values e s (λ h t. or_break line t (truth_of h) (λ b. chosen f b t))) (chosen f) r t → Goes (where_holds line (local_value key_values e s) f) (chosen f) r t
where_goes key_values e line s t f r h = subst (λ w. Goes w (chosen f) r t) (sym (where_is line (local_value key_values e s) f)) h
