-- Statements of a function give its names values that can be held.
use Rattle.std.proofs.Common.{ℕ, zero, suc, List, [], ◌∷◌, Bool, true, false}
use Rattle.std.specs.Prelude.{ℤ, pos, ◌+ℤ◌, ◌==◌, ◌+◌, if◌then◌else◌, Some, Result, Ok, Err}
use Rattle.std.specs.Str.{bytes_eq}
use Rattle.tall_value.specs.Cells.{Seen, double}
use Rattle.tall_grammar.specs.Refusals.{line_of}
use Rattle.tall_grammar.specs.Trees.{Tree, Step, assign_step, add_step, if_step, while_step, for_step, Steps, no_steps, and_step, Arms, no_arms, and_arm}
use Rattle.tall_local.specs.Calls.{Ran, ends, breaks, and_run, or_break, turn_limit, truth_of, bounds_of, turns_between, assigned, pairs_with, set_pairs, takes_from_iterator, begin_turn, end_turn, where_holds, while_turns, for_turns, local_value, with_local, run_step, run_steps, run_arms}
use Rattle.tall_local.specs.CallLaws.{state_of_run}
use Rattle.tall_local.specs.Expressions.{Valued, gives, stops}
use Rattle.tall_local.specs.Locals.{Held, store, iterator, no_value, Locals, set_local}
use Rattle.tall_local.specs.Locals as held
use Rattle.tall_local.specs.Memory.{scalar}
use Rattle.tall_local.specs.MemoryLaws.{HeldCanBe, NamesCanBeHeld, GivesHeld}
use Rattle.tall_local.specs.Names.{put_name}
use Rattle.tall_local.specs.Refusals.{Refusal, too_many_turns, no_progress, stop_at}
use Rattle.tall_local.proofs.LocalsHeld.{expression_held}

abbrev Well : Locals → Type 0
Well s = NamesCanBeHeld s.names

abbrev Runs : Ran → Type 0
Runs r = Well (state_of_run r)

named_so : (name : List ℕ) (h : Held) (names : List (List ℕ × Held)) → HeldCanBe h → NamesCanBeHeld names → NamesCanBeHeld (put_name name h names)
named_so name h [] i j = (i, tt)
named_so name h (entry ∷ names) i j = by_test (bytes_eq entry.0 name) (named_so name h names i j.1) where
  by_test : (b : Bool) → NamesCanBeHeld (put_name name h names) → NamesCanBeHeld (if b then (name, h) ∷ names else entry ∷ put_name name h names)
  by_test true rest = (i, j.1)
  by_test false rest = (j.0, rest)

then_runs : (r : Ran) (f : Locals → Ran) → Runs r → ((s : Locals) → Well s → Runs (f s)) → Runs (and_run r f)
then_runs (ends s) f h k = k s h
then_runs (breaks stop s) f h k = h

or_breaks : {A : Type 0} (line : ℕ) (s : Locals) (r : Result A Refusal) (f : A → Ran) → Well s → ((a : A) → Runs (f a)) → Runs (or_break line s r f)
or_breaks line s (Ok a) f w k = k a
or_breaks line s (Err e) f w k = w

chosen : (b : Bool) (q r : Ran) → Runs q → Runs r → Runs (elim b [ true ↦ q | false ↦ r ])
chosen true q r h k = h
chosen false q r h k = k

assigns : (line : ℕ) (name : List ℕ) (h : Held) (s : Locals) → HeldCanBe h → Well s → Runs (assigned line name h s)
assigns line name (held.value v) s i w = named_so name (held.value v) s.names i w
assigns line name store s i w = w
assigns line name iterator s i w = w
assigns line name no_value s i w = w

begins : (line : ℕ) (s : Locals) (f : Locals → Ran) → Well s → ((t : Locals) → Well t → Runs (f t)) → Runs (begin_turn line s f)
begins line s f w k =
    chosen (s.turns + 1 == turn_limit) (breaks (stop_at line too_many_turns) s) (f (record s { turns = s.turns + 1 })) w (k (record s { turns = s.turns + 1 }) w)

an_end : (line : ℕ) (waits : Bool) (given : ℕ) (s : Locals) (f : Locals → Ran) → Well s → Runs (f s) → Runs (end_turn line waits given s f)
an_end line true given s f w k = chosen (s.given == given) (breaks (stop_at line no_progress) s) (f s) w k
an_end line false given s f w k = k

holds_so : (line : ℕ) (v : Valued Held Locals) (f : Locals → Ran) → GivesHeld v → ((t : Locals) → Well t → Runs (f t)) → Runs (where_holds line v f)
holds_so line (stops stop s) f h k = h
holds_so line (gives x t) f h k = or_breaks line t (truth_of x) (λ b. elim b [ true ↦ f t | false ↦ ends t ]) h.1 (λ b. chosen b (f t) (ends t) (k t h.1) h.1)

whiles : (n line : ℕ) (condition : Tree) (test : Locals → Valued Held Locals) (body : Locals → Ran) → ((t : Locals) → Well t → GivesHeld (test t))
    → ((t : Locals) → Well t → Runs (body t)) → (s : Locals) → Well s → Runs (while_turns n line condition test body s)
whiles zero line condition test body h k s w = w
whiles (suc n) line condition test body h k s w =
    let rest : Locals → Ran = λ w. while_turns n line condition test body w in
    let after : Locals → Locals → Ran = λ u v. end_turn line (takes_from_iterator condition u) u.given v rest in
    holds_so line (test s) (λ t. begin_turn line t (λ u. and_run (body u) (after u))) (h s w) (λ t w'. begins line t (λ u. and_run (body u) (after u)) w' (λ u y. then_runs (body u) (after u) (k u y) (λ v z.
    an_end line (takes_from_iterator condition u) u.given v rest z (whiles n line condition test body h k v z))))

fors : (n line : ℕ) (name : List ℕ) (k : ℤ) (body : Locals → Ran) → ((t : Locals) → Well t → Runs (body t)) → (s : Locals) → Well s → Runs (for_turns n line name k body s)
fors zero line name k body h s w = w
fors (suc n) line name k body h s w =
    let started : Locals → Locals = λ t. set_local name (scalar (double (Some k))) t in
    let rest : Locals → Ran = λ u. for_turns n line name (k +ℤ pos 1) body u in
    begins line s (λ t. and_run (body (started t)) rest) w (λ t y. then_runs (body (started t)) rest (h (started t) (named_so name (held.value (scalar (double (Some k)))) t.names tt y))
    (λ u z. fors n line name (k +ℤ pos 1) body h u z))

module _ (key_values : List Seen) where
  with_valued : (v : Valued Held Locals) (f : Held → Locals → Ran) → GivesHeld v → ((h : Held) (t : Locals) → HeldCanBe h → Well t → Runs (f h t))
      → Runs (elim v [ gives h t ↦ f h t | stops stop t ↦ breaks stop t ])
  with_valued (gives h t) f i k = k h t i.0 i.1
  with_valued (stops stop t) f i k = i

  with_a_local : (e : Tree) (s : Locals) (f : Held → Locals → Ran) → Well s → ((h : Held) (t : Locals) → HeldCanBe h → Well t → Runs (f h t)) → Runs (with_local key_values e s f)
  with_a_local e s f w k = with_valued (local_value key_values e s) f (expression_held key_values e s w) k

  mutual
    step_runs : (b : Step) (s : Locals) → Well s → Runs (run_step key_values b s)
    step_runs (assign_step line name e) s w = with_a_local e s (assigned line name) w (λ h t i y. assigns line name h t i y)
    step_runs (add_step line x key v) s w =
        with_a_local x s _ w (λ a t i w'. with_a_local key t _ w' (λ b u j y. with_a_local v u _ y (λ c z k q. or_breaks line z (pairs_with line z.pairs a b c) (λ ps. ends (set_pairs ps z)) q (λ ps. q))))
    step_runs (if_step line arms rest) s w = arms_run arms (λ t. run_steps key_values rest t) (λ t y. steps_run rest t y) s w
    step_runs (while_step line e b) s w =
        whiles turn_limit line e (local_value key_values e) (λ t. run_steps key_values b t) (λ t y. expression_held key_values e t y) (λ t y. steps_run b t y) s w
    step_runs (for_step line name a z b) s w =
        with_a_local a s _ w (λ x t i w'. with_a_local z t _ w' (λ y u j q. or_breaks line u (bounds_of x y)
        (λ bounds. for_turns (turns_between bounds.0 bounds.1) line name bounds.0 (λ v. run_steps key_values b v) u) q
        (λ bounds. fors (turns_between bounds.0 bounds.1) line name bounds.0 (λ v. run_steps key_values b v) (λ v p. steps_run b v p) u q)))

    pub steps_run : (bs : Steps) (s : Locals) → Well s → Runs (run_steps key_values bs s)
    steps_run no_steps s w = w
    steps_run (and_step b bs) s w = then_runs (run_step key_values b s) (λ t. run_steps key_values bs t) (step_runs b s w) (λ t y. steps_run bs t y)

    arms_run : (arms : Arms) (rest : Locals → Ran) → ((t : Locals) → Well t → Runs (rest t)) → (s : Locals) → Well s → Runs (run_arms key_values arms rest s)
    arms_run no_arms rest h s w = h s w
    arms_run (and_arm e b arms) rest h s w =
        with_a_local e s _ w (λ x t i y. or_breaks (line_of e) t (truth_of x) (λ holds. elim holds [ true ↦ run_steps key_values b t | false ↦ run_arms key_values arms rest t ]) y
        (λ holds. chosen holds (run_steps key_values b t) (run_arms key_values arms rest t) (steps_run b t y) (arms_run arms rest h t y)))
