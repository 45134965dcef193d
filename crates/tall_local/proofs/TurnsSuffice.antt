-- The turns that a `while` is given never run out: the limit of turns comes first.
use Rattle.std.proofs.Common.{◌≡◌, ℕ, zero, suc, ◌≤◌, ◌<◌, Bool, true, false, refl, sym, subst, arith}
use Rattle.std.proofs.lemmas.Bool.{eqb-false}
use Rattle.std.specs.Prelude.{◌==◌, ◌+◌, List, Result, Ok, Err}
use Rattle.tall_value.specs.Cells.{Seen}
use Rattle.tall_grammar.specs.Trees.{Tree, Steps}
use Rattle.tall_local.specs.CallLaws.{Proceeds, state_of_run}
use Rattle.tall_local.specs.Calls.{Ran, ends, breaks, and_run, or_break, turn_limit, truth_of, takes_from_iterator, begin_turn, end_turn, where_holds, while_turns, local_value, run_steps}
use Rattle.tall_local.specs.Expressions.{Valued, gives, stops}
use Rattle.tall_local.specs.Locals.{Held, Locals}
use Rattle.tall_local.specs.Refusals.{Refusal, too_many_turns, no_progress, stop_at}
use Rattle.tall_local.specs.StateLaws.{TakesOn, state_after}
use Rattle.tall_local.proofs.CallsKept.{steps_go}
use Rattle.tall_local.proofs.LocalsKept.{takes_on}

chosen : (b : Bool) (q r s : Ran) → (b ≡ false → r ≡ s) → ◌≡◌ {A = Ran} (elim b [ true ↦ q | false ↦ r ]) (elim b [ true ↦ q | false ↦ s ])
chosen true q r s h = refl
chosen false q r s h = h refl

holds : (b : Bool) (q r s : Ran) → q ≡ s → ◌≡◌ {A = Ran} (elim b [ true ↦ q | false ↦ r ]) (elim b [ true ↦ s | false ↦ r ])
holds true q r s h = h
holds false q r s h = refl

of_truth : (line : ℕ) (t : Locals) (r : Result Bool Refusal) (f g : Locals → Ran) → f t ≡ g t
    → or_break line t r (λ b. elim b [ true ↦ f t | false ↦ ends t ]) ≡ or_break line t r (λ b. elim b [ true ↦ g t | false ↦ ends t ])
of_truth line t (Ok b) f g h = holds b (f t) (ends t) (g t) h
of_truth line t (Err e) f g h = refl

where_same : (line : ℕ) (v : Valued Held Locals) (f g : Locals → Ran) → f (state_after v) ≡ g (state_after v) → where_holds line v f ≡ where_holds line v g
where_same line (gives x t) f g h = of_truth line t (truth_of x) f g h
where_same line (stops stop t) f g h = refl

begin_same : (line : ℕ) (s : Locals) (f g : Locals → Ran) → ((s.turns + 1 == turn_limit) ≡ false → f (record s { turns = s.turns + 1 }) ≡ g (record s { turns = s.turns + 1 }))
    → begin_turn line s f ≡ begin_turn line s g
begin_same line s f g h = chosen (s.turns + 1 == turn_limit) (breaks (stop_at line too_many_turns) s) (f (record s { turns = s.turns + 1 })) (g (record s { turns = s.turns + 1 })) h

run_same : (r : Ran) (f g : Locals → Ran) → f (state_of_run r) ≡ g (state_of_run r) → and_run r f ≡ and_run r g
run_same (ends s) f g h = h
run_same (breaks stop s) f g h = refl

end_same : (line : ℕ) (waits : Bool) (given : ℕ) (s : Locals) (f g : Locals → Ran) → f s ≡ g s → end_turn line waits given s f ≡ end_turn line waits given s g
end_same line true given s f g h = chosen (s.given == given) (breaks (stop_at line no_progress) s) (f s) (g s) (λ e. h)
end_same line false given s f g h = h

strictly : (b a limit : ℕ) → a ≡ limit → b < a → (b + 1 ≡ limit → ⊥) → b + 1 < limit
strictly b a limit e l other = omega (arith, e, l, other)

below : (a b c : ℕ) → a ≡ turn_limit → b < a → (b + 1 == turn_limit) ≡ false → (b + 1 < turn_limit → c < turn_limit) → c < a
below a b c e l not_yet k = subst (λ n. c < n) (sym e) (k (strictly b a turn_limit e l (eqb-false (b + 1) turn_limit not_yet)))

module _ (line : ℕ) (condition : Tree) (test : Locals → Valued Held Locals) (body : Locals → Ran)
    (tests : (t : Locals) → TakesOn t (state_after (test t))) (bodies : (t : Locals) → Proceeds t (state_of_run (body t))) where
  turns_left : (limit m n : ℕ) → limit ≡ turn_limit → (s : Locals) → s.turns < limit → limit ≤ m + s.turns → limit ≤ n + s.turns
      → while_turns m line condition test body s ≡ while_turns n line condition test body s
  turns_left limit zero n is s low m_enough n_enough = absurd (omega (arith, low, m_enough))
  turns_left limit (suc m) zero is s low m_enough n_enough = absurd (omega (arith, low, n_enough))
  turns_left limit (suc m) (suc n) is s low m_enough n_enough =
      let rest : ℕ → Locals → Ran = λ k w. while_turns k line condition test body w in
      let after : ℕ → Locals → Locals → Ran = λ k u v. end_turn line (takes_from_iterator condition u) u.given v (rest k) in
      let turn : ℕ → Locals → Ran = λ k u. and_run (body u) (after k u) in
      let t : Locals = state_after (test s) in
      let u : Locals = record t { turns = t.turns + 1 } in
      let v : Locals = state_of_run (body u) in
      let same : t.turns ≡ s.turns = (tests s).turns in
      let more : t.turns + 1 ≤ v.turns = (bodies u).turns in
      where_same line (test s) (λ w. begin_turn line w (turn m)) (λ w. begin_turn line w (turn n))
      (begin_same line t (turn m) (turn n) (λ not_yet. run_same (body u) (after m u) (after n u)
      (end_same line (takes_from_iterator condition u) u.given v (rest m) (rest n)
      (turns_left limit m n is v (below limit t.turns v.turns is (omega (arith, same, low)) not_yet (λ w. (bodies u).within w)) (omega (arith, same, more, m_enough)) (omega (arith, same, more, n_enough))))))

pub enough_turns : (key_values : List Seen) (m line : ℕ) (e : Tree) (b : Steps) (s : Locals) → s.turns < turn_limit → turn_limit ≤ m
    → while_turns m line e (local_value key_values e) (λ t. run_steps key_values b t) s ≡ while_turns turn_limit line e (local_value key_values e) (λ t. run_steps key_values b t) s
enough_turns key_values m line e b s low enough =
    turns_left line e (local_value key_values e) (λ t. run_steps key_values b t) (λ t. takes_on key_values e t) (λ t. steps_go key_values b t) turn_limit m turn_limit refl s low
    (add turn_limit m s.turns enough) (add turn_limit turn_limit s.turns (omega arith)) where
      add : (a b c : ℕ) → a ≤ b → a ≤ b + c
      add a b c h = omega (arith, h)
