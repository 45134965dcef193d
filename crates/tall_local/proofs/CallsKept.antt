-- What statements of a map or a reduce function do with its state.
use Rattle.std.proofs.Common.{◌≡◌, ℕ, zero, suc, ◌≤◌, ◌<◌, List, [], ◌∷◌, ◌++◌, Bool, true, false, refl, ap, sym, ◌∙◌, subst, arith}
use Rattle.std.proofs.lemmas.Bool.{eqb-false}
use Rattle.std.proofs.lemmas.List.{append-nil, append_assoc}
use Rattle.std.specs.Prelude.{ℤ, pos, ◌+ℤ◌, ◌==◌, ◌+◌, Option, None, Some, Result, Ok, Err}
use Rattle.tall_value.specs.Cells.{Seen, double}
use Rattle.tall_grammar.specs.Refusals.{line_of}
use Rattle.tall_grammar.specs.Trees.{Tree, Step, assign_step, add_step, if_step, while_step, for_step, Steps, no_steps, and_step, Arms, no_arms, and_arm, SeenFunction}
use Rattle.tall_local.specs.CallLaws.{state_of_run, HaveOneClass, Proceeds}
use Rattle.tall_local.specs.Calls.{Ran, ends, breaks, and_run, or_break, turn_limit, truth_of, bounds_of, turns_between, assigned, pairs_with, set_pairs, takes_from_iterator, begin_turn, end_turn, where_holds, while_turns, for_turns, local_value, with_local, run_step, run_steps, run_arms, parameters, result_of, call_of}
use Rattle.tall_local.specs.Expressions.{Valued, gives, stops}
use Rattle.tall_local.specs.Locals.{Held, value, store, iterator, no_value, Locals, set_local}
use Rattle.tall_local.specs.Memory.{Memory, scalar, column, table, texts}
use Rattle.tall_local.specs.Pairs.{Pair, misfit, added}
use Rattle.tall_local.specs.Refusals.{Refusal, stop_at, too_many_turns, no_progress}
use Rattle.tall_local.specs.StateLaws.{state_after, TakesOn}
use Rattle.tall_local.proofs.LocalsKept.{takes_on}
use Rattle.tall_local.proofs.PairLemmas.{one_class}

pub stays : (s : Locals) → Proceeds s s
stays s = record { turns = omega arith; within = λ h. h; given = omega arith; more = []; pairs = sym (append-nil s.pairs); classes = λ h. h }

pub further : (s t u : Locals) → Proceeds s t → Proceeds t u → Proceeds s u
further s t u h k = record {
  turns = let a : s.turns ≤ t.turns = h.turns in let b : t.turns ≤ u.turns = k.turns in omega arith;
  within = λ w. k.within (h.within w);
  given = let a : s.given ≤ t.given = h.given in let b : t.given ≤ u.given = k.given in omega arith;
  more = h.more ++ k.more;
  pairs = k.pairs ∙ ap (λ ps. ps ++ k.more) h.pairs ∙ append_assoc s.pairs h.more k.more;
  classes = λ c. k.classes (h.classes c);
}

pub taken : (s t : Locals) → TakesOn s t → Proceeds s t
taken s t h = record {
  turns = let e : t.turns ≡ s.turns = h.turns in omega arith;
  within = λ w. subst (λ n. n < turn_limit) (sym h.turns) w;
  given = h.given;
  more = [];
  pairs = h.pairs ∙ sym (append-nil s.pairs);
  classes = λ c. subst HaveOneClass (sym h.pairs) c;
}

renamed : (name : List ℕ) (v : Memory) (s : Locals) → Proceeds s (set_local name v s)
renamed name v s = record { turns = omega arith; within = λ h. h; given = omega arith; more = []; pairs = sym (append-nil s.pairs); classes = λ h. h }

-- ---- parts

pub after_run : (s : Locals) (r : Ran) (f : Locals → Ran) → Proceeds s (state_of_run r) → ((t : Locals) → Proceeds t (state_of_run (f t)))
    → Proceeds s (state_of_run (and_run r f))
after_run s (ends t) f h k = further s t (state_of_run (f t)) h (k t)
after_run s (breaks stop t) f h k = h

pub after_break : {A : Type 0} (line : ℕ) (s : Locals) (r : Result A Refusal) (f : A → Ran) → ((a : A) → Proceeds s (state_of_run (f a)))
    → Proceeds s (state_of_run (or_break line s r f))
after_break line s (Ok a) f k = k a
after_break line s (Err e) f k = stays s

assigned_goes : (line : ℕ) (name : List ℕ) (h : Held) (s : Locals) → Proceeds s (state_of_run (assigned line name h s))
assigned_goes line name (value v) s = renamed name v s
assigned_goes line name store s = stays s
assigned_goes line name iterator s = stays s
assigned_goes line name no_value s = stays s

-- ---- adding

one_pair : (line : ℕ) (s : Locals) (p : Pair) (m : Option Refusal) → misfit s.pairs p ≡ m
    → Proceeds s (state_of_run (or_break line s (elim m [ None ↦ Ok (s.pairs ++ p ∷ []) | Some refusal ↦ Err refusal ]) (λ ps. ends (set_pairs ps s))))
one_pair line s p None fits =
    record { turns = omega arith; within = λ h. h; given = omega arith; more = p ∷ []; pairs = refl; classes = λ h. one_class s.pairs p fits h }
one_pair line s p (Some e) fits = stays s

scalar_value : (line : ℕ) (s : Locals) (k : Seen) (v : Memory) → Proceeds s (state_of_run (or_break line s (added line s.pairs (scalar k) v) (λ ps. ends (set_pairs ps s))))
scalar_value line s k (scalar c) = one_pair line s (record { key = k; value = c; line = line }) _ refl
scalar_value line s k (column x) = stays s
scalar_value line s k (table t) = stays s
scalar_value line s k (texts ts) = stays s

memory_pair : (line : ℕ) (s : Locals) (k v : Memory) → Proceeds s (state_of_run (or_break line s (added line s.pairs k v) (λ ps. ends (set_pairs ps s))))
memory_pair line s (scalar c) v = scalar_value line s c v
memory_pair line s (column x) v = stays s
memory_pair line s (table t) v = stays s
memory_pair line s (texts ts) v = stays s

value_pair : (line : ℕ) (s : Locals) (k : Memory) (v : Held) → Proceeds s (state_of_run (or_break line s (pairs_with line s.pairs store (value k) v) (λ ps. ends (set_pairs ps s))))
value_pair line s k (value v) = memory_pair line s k v
value_pair line s k store = stays s
value_pair line s k iterator = stays s
value_pair line s k no_value = stays s

key_pair : (line : ℕ) (s : Locals) (k v : Held) → Proceeds s (state_of_run (or_break line s (pairs_with line s.pairs store k v) (λ ps. ends (set_pairs ps s))))
key_pair line s (value k) v = value_pair line s k v
key_pair line s store v = stays s
key_pair line s iterator v = stays s
key_pair line s no_value v = stays s

adds : (line : ℕ) (s : Locals) (x k v : Held) → Proceeds s (state_of_run (or_break line s (pairs_with line s.pairs x k v) (λ ps. ends (set_pairs ps s))))
adds line s store k v = key_pair line s k v
adds line s (value x) k v = stays s
adds line s iterator k v = stays s
adds line s no_value k v = stays s

-- ---- turns

one_more : (n limit : ℕ) → n < limit → (n + 1 ≡ limit → ⊥) → n + 1 < limit
one_more n limit h d = omega (arith, h, d)

one_turn : (line : ℕ) (s : Locals) (f : Locals → Ran) (b : Bool) → (s.turns + 1 == turn_limit) ≡ b → ((t : Locals) → Proceeds t (state_of_run (f t)))
    → Proceeds s (state_of_run (elim b [ true ↦ breaks (stop_at line too_many_turns) s | false ↦ f (record s { turns = s.turns + 1 }) ]))
one_turn line s f true e k = stays s
one_turn line s f false e k =
    let t = record s { turns = s.turns + 1 } in
    further s t (state_of_run (f t)) (record {
      turns = omega arith;
      within = λ h. one_more s.turns turn_limit h (eqb-false (s.turns + 1) turn_limit e);
      given = omega arith;
      more = [];
      pairs = sym (append-nil s.pairs);
      classes = λ h. h;
    }) (k t)

pub begun : (line : ℕ) (s : Locals) (f : Locals → Ran) → ((t : Locals) → Proceeds t (state_of_run (f t))) → Proceeds s (state_of_run (begin_turn line s f))
begun line s f k = one_turn line s f (s.turns + 1 == turn_limit) refl k

progress : (line : ℕ) (s : Locals) (f : Locals → Ran) (b : Bool) → Proceeds s (state_of_run (f s))
    → Proceeds s (state_of_run (elim b [ true ↦ breaks (stop_at line no_progress) s | false ↦ f s ]))
progress line s f true k = stays s
progress line s f false k = k

pub ended : (line : ℕ) (waits : Bool) (given : ℕ) (s : Locals) (f : Locals → Ran) → Proceeds s (state_of_run (f s)) → Proceeds s (state_of_run (end_turn line waits given s f))
ended line true given s f k = progress line s f (s.given == given) k
ended line false given s f k = k

pub chosen : (b : Bool) (s : Locals) (q r : Ran) → Proceeds s (state_of_run q) → Proceeds s (state_of_run r) → Proceeds s (state_of_run (elim b [ true ↦ q | false ↦ r ]))
chosen true s q r h k = h
chosen false s q r h k = k

held_so : (line : ℕ) (s : Locals) (v : Valued Held Locals) (f : Locals → Ran) → Proceeds s (state_after v) → ((t : Locals) → Proceeds t (state_of_run (f t)))
    → Proceeds s (state_of_run (where_holds line v f))
held_so line s (stops stop t) f h k = h
held_so line s (gives x t) f h k =
    further s t _ h (after_break line t (truth_of x) _ (λ holds. chosen holds t (f t) (ends t) (k t) (stays t)))

pub whiles : (n line : ℕ) (condition : Tree) (test : Locals → Valued Held Locals) (body : Locals → Ran) → ((t : Locals) → Proceeds t (state_after (test t)))
    → ((t : Locals) → Proceeds t (state_of_run (body t))) → (s : Locals) → Proceeds s (state_of_run (while_turns n line condition test body s))
whiles zero line condition test body h k s = stays s
whiles (suc n) line condition test body h k s =
    let rest : Locals → Ran = λ w. while_turns n line condition test body w in
    let after : Locals → Locals → Ran = λ u v. end_turn line (takes_from_iterator condition u) u.given v rest in
    let turn : Locals → Ran = λ u. and_run (body u) (after u) in
    held_so line s (test s) (λ t. begin_turn line t turn) (h s) (λ t. begun line t turn (λ u. after_run u (body u) (after u) (k u) (λ v.
    ended line (takes_from_iterator condition u) u.given v rest (whiles n line condition test body h k v))))

pub fors : (n line : ℕ) (name : List ℕ) (k : ℤ) (body : Locals → Ran) → ((t : Locals) → Proceeds t (state_of_run (body t))) → (s : Locals)
    → Proceeds s (state_of_run (for_turns n line name k body s))
fors zero line name k body h s = stays s
fors (suc n) line name k body h s =
    let started : Locals → Locals = λ t. set_local name (scalar (double (Some k))) t in
    let rest : Locals → Ran = λ u. for_turns n line name (k +ℤ pos 1) body u in
    begun line s (λ t. and_run (body (started t)) rest) (λ t. after_run t (body (started t)) rest
    (further t (started t) (state_of_run (body (started t))) (renamed name (scalar (double (Some k))) t) (h (started t)))
    (λ u. fors n line name (k +ℤ pos 1) body h u))

-- ---- statements

module _ (key_values : List Seen) where
  after_valued : (s : Locals) (v : Valued Held Locals) (f : Held → Locals → Ran) → Proceeds s (state_after v) → ((h : Held) (t : Locals) → Proceeds t (state_of_run (f h t)))
      → Proceeds s (state_of_run (elim v [ gives h t ↦ f h t | stops stop t ↦ breaks stop t ]))
  after_valued s (gives h t) f e k = further s t _ e (k h t)
  after_valued s (stops stop t) f e k = e

  pub evaluated : (e : Tree) (s : Locals) → Proceeds s (state_after (local_value key_values e s))
  evaluated e s = taken s _ (takes_on key_values e s)

  pub after_local : (e : Tree) (s : Locals) (f : Held → Locals → Ran) → ((h : Held) (t : Locals) → Proceeds t (state_of_run (f h t)))
      → Proceeds s (state_of_run (with_local key_values e s f))
  after_local e s f k = after_valued s (local_value key_values e s) f (evaluated e s) k

  mutual
    pub step_goes : (b : Step) (s : Locals) → Proceeds s (state_of_run (run_step key_values b s))
    step_goes (assign_step line name e) s = after_local e s _ (λ h t. assigned_goes line name h t)
    step_goes (add_step line x key v) s = after_local x s _ (λ a t. after_local key t _ (λ b u. after_local v u _ (λ c w. adds line w a b c)))
    step_goes (if_step line arms rest) s = arms_go arms (λ t. run_steps key_values rest t) (λ t. steps_go rest t) s
    step_goes (while_step line e b) s = whiles turn_limit line e (local_value key_values e) (λ t. run_steps key_values b t) (λ t. evaluated e t) (λ t. steps_go b t) s
    step_goes (for_step line name a z b) s =
        after_local a s _ (λ x t. after_local z t _ (λ y u. after_break line u (bounds_of x y)
        (λ bounds. for_turns (turns_between bounds.0 bounds.1) line name bounds.0 (λ w. run_steps key_values b w) u) (λ bounds.
        fors (turns_between bounds.0 bounds.1) line name bounds.0 (λ w. run_steps key_values b w) (λ w. steps_go b w) u)))

    pub steps_go : (bs : Steps) (s : Locals) → Proceeds s (state_of_run (run_steps key_values bs s))
    steps_go no_steps s = stays s
    steps_go (and_step b bs) s = after_run s (run_step key_values b s) _ (step_goes b s) (λ t. steps_go bs t)

    pub arms_go : (arms : Arms) (rest : Locals → Ran) → ((t : Locals) → Proceeds t (state_of_run (rest t))) → (s : Locals) → Proceeds s (state_of_run (run_arms key_values arms rest s))
    arms_go no_arms rest h s = h s
    arms_go (and_arm e b arms) rest h s =
        after_local e s _ (λ x t. after_break (line_of e) t (truth_of x) _ (λ holds. chosen holds t _ _ (steps_go b t) (arms_go arms rest h t)))

result_has : (r : Ran) → HaveOneClass (state_of_run r).pairs → HaveOneClass (result_of r).pairs
result_has (ends s) h = h
result_has (breaks stop s) h = h

pub call_has_one_class : (f : SeenFunction) (arguments : List Held) (key_values : List Seen) (pairs : List Pair) → HaveOneClass pairs
    → HaveOneClass (call_of f arguments key_values pairs).pairs
call_has_one_class f arguments key_values pairs h =
    let s : Locals = record { names = parameters f.params arguments []; given = 0; turns = 0; pairs = pairs } in
    result_has (run_steps key_values f.body s) ((steps_go key_values f.body s).classes h)
