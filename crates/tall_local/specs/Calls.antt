-- Calls of map and reduce functions: their statements, in order, over what the function has so far. docs/LANGUAGE.md,
-- mapreduce. A call gives the store with the pairs that it added, and the first fault where there is one.
use Rattle.std.specs.Prelude.{ℕ, ℤ, zero, suc, ◌+◌, ◌^◌, ◌-ℤ◌, ◌+ℤ◌, pos, negsuc, ◌==◌, Bool, true, false, ◌&&◌, not, if◌then◌else◌, List, [], ◌∷◌, Option, None, Some, Result, Ok, Err, codes}
use Rattle.std.specs.Str.{bytes_eq}
use Rattle.tall_value.specs.declared.class.Kind.TheVariants.{Logical}
use Rattle.tall_value.specs.Cells.{Seen, double, seen_kind}
use Rattle.tall_value.specs.ClassTables.{of_number}
use Rattle.tall_value.specs.CellOperators.{truth}
use Rattle.tall_grammar.specs.Trees.{Tree, tree, Args, no_args, value_arg, Step, assign_step, add_step, if_step, while_step, for_step, Steps, no_steps, and_step, Arms, no_arms, and_arm, SeenFunction}
use Rattle.tall_grammar.specs.Trees as trees
use Rattle.tall_grammar.specs.Refusals.{line_of}
use Rattle.tall_local.specs.Names.{named, put_name}
use Rattle.tall_local.specs.Refusals.{Refusal, bad_class, bad_size, bad_argument, bad_index, no_progress, too_many_turns, refused_cell, Stop, stop_at}
use Rattle.tall_column.specs.Columns.{SeenColumn}
use Rattle.tall_local.specs.Memory.{scalar, column, table, kind_of_column}
use Rattle.tall_local.specs.MemoryOperators.{with_kind}
use Rattle.tall_local.specs.Expressions.{Valued, gives, stops, go_on}
use Rattle.tall_local.specs.Expressions as expressions
use Rattle.tall_local.specs.Pairs.{Pair, added, appended}
use Rattle.tall_local.specs.Locals.{Held, value, store, iterator, no_value, Locals, set_local, is_held, function_language}

-- statements run to their end, or stop; what was done before is kept
pub data Ran : Type 0 where
  ends : Locals → Ran
  breaks : Stop → Locals → Ran

abbrev pub and_run : Ran → (Locals → Ran) → Ran
and_run (ends s) f = f s
and_run (breaks stop s) f = breaks stop s

-- an answer on a line
abbrev pub or_break : {A : Type 0} → (line : ℕ) → Locals → Result A Refusal → (A → Ran) → Ran
or_break line s (Ok a) f = f a
or_break line s (Err e) f = breaks (stop_at line e) s

-- the greatest number of turns that may begin in one call is one less
abbrev pub turn_limit : ℕ
turn_limit = 2 ^ 24

-- ---- conditions and bounds

-- a scalar that isn't a string; a NaN has no logical value
abbrev pub truth_of : Held → Result Bool Refusal
truth_of (value (scalar c)) = with_kind (of_number (seen_kind c) Logical) (λ k. elim (truth c) [ Ok b ↦ Ok b | Err e ↦ Err (refused_cell None e) ])
truth_of (value (column x)) = with_kind (of_number (kind_of_column x) Logical) (λ k. Err bad_size)
truth_of h = Err bad_class

-- double scalars, and then no NaN
abbrev pub bounds_of : Held → Held → Result (ℤ × ℤ) Refusal
bounds_of (value (scalar (double (Some a)))) (value (scalar (double (Some b)))) = Ok (a, b)
bounds_of (value (scalar (double a))) (value (scalar (double b))) = Err bad_index
bounds_of a b = Err bad_class

-- how many turns go from a to b
abbrev pub turns_between : ℤ → ℤ → ℕ
turns_between a b = elim (b +ℤ pos 1 -ℤ a) [ pos n ↦ n | negsuc n ↦ 0 ]

-- ---- what a statement does with values

-- a name takes a value in memory alone
abbrev pub assigned : (line : ℕ) → List ℕ → Held → Locals → Ran
assigned line name (value v) s = ends (set_local name v s)
assigned line name h s = breaks (stop_at line bad_class) s

-- the store has to be the parameter; then a store or an iterator is no key and no value
abbrev pub pairs_with : (line : ℕ) → List Pair → Held → Held → Held → Result (List Pair) Refusal
pairs_with line ps store (value key) (value v) = added line ps key v
pairs_with line ps store key v = Err bad_class
pairs_with line ps x key v = Err bad_argument

abbrev pub set_pairs : List Pair → Locals → Locals
set_pairs ps s = record s { pairs = ps }

-- ---- loops

-- the condition is literally `hasnext(NAME)`
abbrev pub has_next_of : Tree → Option (List ℕ)
has_next_of (tree n l (trees.call (tree m k (trees.name f)) (value_arg (tree i j (trees.name x)) no_args))) = if bytes_eq f (codes "hasnext") then Some x else None
has_next_of e = None

abbrev pub is_iterator : Option Held → Bool
is_iterator (Some iterator) = true
is_iterator h = false

-- no variable hides `hasnext`, and the name is the iterator
abbrev pub takes_from_iterator : Tree → Locals → Bool
takes_from_iterator condition s = elim (has_next_of condition) [ Some x ↦ not (is_held (named s.names (codes "hasnext"))) && is_iterator (named s.names x) | None ↦ false ]

-- one more turn begins
abbrev pub begin_turn : (line : ℕ) → Locals → (Locals → Ran) → Ran
begin_turn line s f = elim (s.turns + 1 == turn_limit) [ true ↦ breaks (stop_at line too_many_turns) s | false ↦ f (record s { turns = s.turns + 1 }) ]

-- a turn of a loop that waits for the iterator has to take a value of it
abbrev pub end_turn : (line : ℕ) → (waits : Bool) → (given : ℕ) → Locals → (Locals → Ran) → Ran
end_turn line true given s f = elim (s.given == given) [ true ↦ breaks (stop_at line no_progress) s | false ↦ f s ]
end_turn line false given s f = f s

-- what is done where a condition holds; else nothing
abbrev pub where_holds : (line : ℕ) → Valued Held Locals → (Locals → Ran) → Ran
where_holds line (stops stop s) f = breaks stop s
where_holds line (gives h s) f = or_break line s (truth_of h) (λ holds. elim holds [ true ↦ f s | false ↦ ends s ])

-- `while`: so many turns at most, of which each begins one; the condition and the body are given
abbrev pub while_turns : ℕ → (line : ℕ) → Tree → (Locals → Valued Held Locals) → (Locals → Ran) → Locals → Ran
while_turns zero line condition test body s = breaks (stop_at line too_many_turns) s
while_turns (suc n) line condition test body s =
    where_holds line (test s) (λ t. begin_turn line t (λ u. and_run (body u) (λ v.
    end_turn line (takes_from_iterator condition u) u.given v (λ w. while_turns n line condition test body w))))

-- `for`: so many turns, the first with k
abbrev pub for_turns : ℕ → (line : ℕ) → List ℕ → (k : ℤ) → (Locals → Ran) → Locals → Ran
for_turns zero line name k body s = ends s
for_turns (suc n) line name k body s =
    begin_turn line s (λ t. and_run (body (set_local name (scalar (double (Some k))) t)) (λ u. for_turns n line name (k +ℤ pos 1) body u))

-- ---- statements

module _ (key_values : List Seen) where
  abbrev pub local_value : Tree → Locals → Valued Held Locals
  local_value e s = expressions.value (function_language key_values) e s

  abbrev pub with_local : Tree → Locals → (Held → Locals → Ran) → Ran
  with_local e s f = elim (local_value e s) [ gives h t ↦ f h t | stops stop t ↦ breaks stop t ]

  abbrev mutual
    pub run_step : Step → Locals → Ran
    run_step (assign_step line name e) s = with_local e s (assigned line name)
    run_step (add_step line x key v) s =
        with_local x s (λ a t. with_local key t (λ b u. with_local v u (λ c w.
        or_break line w (pairs_with line w.pairs a b c) (λ ps. ends (set_pairs ps w)))))
    run_step (if_step line arms rest) s = run_arms arms (λ t. run_steps rest t) s
    run_step (while_step line e b) s = while_turns turn_limit line e (local_value e) (λ t. run_steps b t) s
    run_step (for_step line name a z b) s =
        with_local a s (λ x t. with_local z t (λ y u. or_break line u (bounds_of x y)
        (λ bounds. for_turns (turns_between bounds.0 bounds.1) line name bounds.0 (λ w. run_steps b w) u)))

    pub run_steps : Steps → Locals → Ran
    run_steps no_steps s = ends s
    run_steps (and_step b bs) s = and_run (run_step b s) (λ t. run_steps bs t)

    -- the first whose condition holds, or what stands behind `else`
    pub run_arms : Arms → (Locals → Ran) → Locals → Ran
    run_arms no_arms rest s = rest s
    run_arms (and_arm e b arms) rest s =
        with_local e s (λ h t. or_break (line_of e) t (truth_of h) (λ holds. elim holds [ true ↦ run_steps b t | false ↦ run_arms arms rest t ]))

-- ---- calls

-- the parameters with what they stand for; of two of one name the later one counts
abbrev pub parameters : List (Option (List ℕ)) → List Held → List (List ℕ × Held) → List (List ℕ × Held)
parameters (Some name ∷ params) (h ∷ rest) names = parameters params rest (put_name name h names)
parameters (None ∷ params) (h ∷ rest) names = parameters params rest names
parameters params rest names = names

-- the pairs after a call, those before it and those that it added, and its first fault
pub record CallResult : Type 0 where
  pub pairs : List Pair
  pub stop : Option Stop

abbrev pub result_of : Ran → CallResult
result_of (ends s) = record { pairs = s.pairs; stop = None }
result_of (breaks stop s) = record { pairs = s.pairs; stop = Some stop }

-- a function over its three arguments, the values of its iterator, and a store
abbrev pub call_of : SeenFunction → List Held → List Seen → List Pair → CallResult
call_of f arguments key_values pairs =
    result_of (run_steps key_values f.body (record { names = parameters f.params arguments []; given = 0; turns = 0; pairs = pairs }))

-- the second parameter of a map function has no value
abbrev pub call_map : SeenFunction → List (List ℕ × SeenColumn) → List Pair → CallResult
call_map f block pairs = call_of f (value (table block) ∷ no_value ∷ store ∷ []) [] pairs

abbrev pub call_reduce : SeenFunction → Seen → List Seen → List Pair → CallResult
call_reduce f key key_values pairs = call_of f (value (scalar key) ∷ iterator ∷ store ∷ []) key_values pairs

-- ---- calls on a store, from calls on an empty one

-- the first pair that doesn't fit the store comes before the call's own fault
abbrev pub behind_pairs : List Pair → CallResult → CallResult
behind_pairs ps c = let a = appended ps c.pairs in elim a.stop [ None ↦ record { pairs = a.pairs; stop = c.stop } | Some stop ↦ record { pairs = a.pairs; stop = Some stop } ]
