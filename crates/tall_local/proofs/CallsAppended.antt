-- A call on a store is the call on an empty store, appended.
use Rattle.std.proofs.Common.{◌≡◌, ℕ, zero, suc, List, [], ◌∷◌, ◌++◌, Bool, true, false, refl, ap, sym, ◌∙◌, subst}
use Rattle.std.proofs.lemmas.List.{append-nil, append_assoc}
use Rattle.std.specs.Prelude.{ℤ, pos, ◌+ℤ◌, ◌==◌, ◌+◌, slice_get, Option, None, Some, Result, Ok, Err}
use Rattle.tall_value.specs.Cells.{Seen, double}
use Rattle.tall_grammar.specs.Refusals.{line_of}
use Rattle.tall_grammar.specs.Trees.{Tree, Step, assign_step, add_step, if_step, while_step, for_step, Steps, no_steps, and_step, Arms, no_arms, and_arm, SeenFunction}
use Rattle.tall_local.specs.declared.functions.LocalFunction.{LocalFunction}
use Rattle.tall_local.specs.declared.functions.LocalFunction.TheVariants.{OfValues, HasNext, GetNext, Elsewhere}
use Rattle.tall_local.specs.Arguments.{Argument}
use Rattle.tall_local.specs.CallLaws.{state_of_run, Proceeds}
use Rattle.tall_local.specs.Calls.{Ran, ends, breaks, and_run, or_break, turn_limit, truth_of, bounds_of, turns_between, assigned, pairs_with, set_pairs, takes_from_iterator, begin_turn, end_turn, where_holds, while_turns, for_turns, local_value, with_local, run_step, run_steps, run_arms, result_of, parameters, call_of, behind_pairs}
use Rattle.tall_local.specs.Expressions.{Valued, gives, stops}
use Rattle.tall_local.specs.Locals.{Held, store, iterator, no_value, Locals, set_local, function_language, held_call, is_only_iterator, next_value}
use Rattle.tall_local.specs.Locals as held
use Rattle.tall_local.specs.Memory.{Memory, scalar, column, table, texts}
use Rattle.tall_local.specs.Pairs.{Pair, misfit, added, Appended, appended}
use Rattle.tall_local.specs.Refusals.{Refusal, Stop, stop_at, too_many_turns, no_progress}
use Rattle.tall_local.specs.StateLaws.{state_after, TakesOn}
use Rattle.tall_local.proofs.CallsKept.{ended, whiles, fors, steps_go, evaluated}
use Rattle.tall_local.proofs.LiftedValues.{with_state, lifted_answer, lifted_choice, lifted_value}
use Rattle.tall_local.proofs.LocalsKept.{takes_on}
use Rattle.tall_local.proofs.PairLemmas.{Fits, one_fits, one_falls, still_falls, same_refusal}

-- on a store that has these pairs already
abbrev pub lift : List Pair → Locals → Locals
lift ps s = record { names = s.names; given = s.given; turns = s.turns; pairs = ps ++ s.pairs }

-- ---- expressions

lifted_next : (ps : List Pair) (line : ℕ) (c : Option Seen) (s : Locals) → next_value line c (lift ps s) ≡ with_state (lift ps) (next_value line c s)
lifted_next ps line None s = refl
lifted_next ps line (Some c) s = refl

lifted_calls : (key_values : List Seen) (ps : List Pair) (n l : ℕ) (f : LocalFunction) (args : List (Argument Held)) (s : Locals)
    → held_call key_values l f args (lift ps s) ≡ with_state (lift ps) (held_call key_values l f args s)
unfolding held_call
lifted_calls key_values ps n l (OfValues f) args s = lifted_answer (lift ps) l s _
lifted_calls key_values ps n l HasNext args s = lifted_choice (lift ps) (is_only_iterator args) _ _ _ _ refl refl
lifted_calls key_values ps n l GetNext args s = lifted_choice (lift ps) (is_only_iterator args) _ _ _ _ (lifted_next ps l (slice_get key_values s.given) s) refl
lifted_calls key_values ps n l Elsewhere args s = refl

lifted_local : (key_values : List Seen) (ps : List Pair) (e : Tree) (s : Locals)
    → local_value key_values e (lift ps s) ≡ with_state (lift ps) (local_value key_values e s)
lifted_local key_values ps e s = lifted_value (function_language key_values) (lift ps) (λ t x. refl) (λ t x. refl) (lifted_calls key_values ps) e s

-- ---- runs on both stores: they end alike, they break off alike, or a pair didn't fit

pub data Alike (ps : List Pair) : Ran → Ran → Type 0 where
  both_end : (t : Locals) → Fits ps t.pairs → Alike ps (ends (lift ps t)) (ends t)
  both_break : (stop : Stop) (t : Locals) → Fits ps t.pairs → Alike ps (breaks stop (lift ps t)) (breaks stop t)
  fell_out : (stop : Stop) (u : Locals) (r : Ran) → appended ps (state_of_run r).pairs ≡ record { pairs = u.pairs; stop = Some stop } → Alike ps (breaks stop u) r

still : (ps out : List Pair) (stop : Stop) (t u : Locals) → appended ps t.pairs ≡ record { pairs = out; stop = Some stop } → Proceeds t u
    → appended ps u.pairs ≡ record { pairs = out; stop = Some stop }
still ps out stop t u e g = ap (λ own. appended ps own) g.pairs ∙ still_falls ps t.pairs g.more out stop e

both_go_on : (ps : List Pair) (q r : Ran) (f : Locals → Ran) → Alike ps q r → ((t : Locals) → Proceeds t (state_of_run (f t)))
    → ((t : Locals) → Fits ps t.pairs → Alike ps (f (lift ps t)) (f t)) → Alike ps (and_run q f) (and_run r f)
both_go_on ps _ _ f (both_end t fit) grows same = same t fit
both_go_on ps _ _ f (both_break stop t fit) grows same = both_break stop t fit
both_go_on ps _ _ f (fell_out stop u (ends t) e) grows same = fell_out stop u (f t) (still ps u.pairs stop t (state_of_run (f t)) e (grows t))
both_go_on ps _ _ f (fell_out stop u (breaks other t) e) grows same = fell_out stop u (breaks other t) e

alike_break : {A : Type 0} (ps : List Pair) (line : ℕ) (s : Locals) (r : Result A Refusal) (f : Locals → A → Ran) → Fits ps s.pairs
    → ((a : A) → Alike ps (f (lift ps s) a) (f s a)) → Alike ps (or_break line (lift ps s) r (f (lift ps s))) (or_break line s r (f s))
alike_break ps line s (Ok a) f fit k = k a
alike_break ps line s (Err e) f fit k = both_break (stop_at line e) s fit

alike_assigned : (ps : List Pair) (line : ℕ) (name : List ℕ) (h : Held) (s : Locals) → Fits ps s.pairs
    → Alike ps (assigned line name h (lift ps s)) (assigned line name h s)
alike_assigned ps line name (held.value v) s fit = both_end (set_local name v s) fit
alike_assigned ps line name store s fit = both_break _ s fit
alike_assigned ps line name iterator s fit = both_break _ s fit
alike_assigned ps line name no_value s fit = both_break _ s fit

-- ---- adding

abbrev adding : (line : ℕ) → Locals → Result (List Pair) Refusal → Ran
adding line s r = or_break line s r (λ ps. ends (set_pairs ps s))

abbrev one_more : Option Refusal → List Pair → Pair → Result (List Pair) Refusal
one_more m ps p = elim m [ None ↦ Ok (ps ++ p ∷ []) | Some refusal ↦ Err refusal ]

alike_pair : (ps : List Pair) (s : Locals) (p : Pair) (m n : Option Refusal) → Fits ps s.pairs → misfit s.pairs p ≡ m → misfit (ps ++ s.pairs) p ≡ n
    → Alike ps (adding p.line (lift ps s) (one_more n (ps ++ s.pairs) p)) (adding p.line s (one_more m s.pairs p))
alike_pair ps s p (Some e) n fit some other =
    subst (λ (x : Option Refusal). Alike ps (adding p.line (lift ps s) (one_more x (ps ++ s.pairs) p)) (breaks (stop_at p.line e) s))
    (sym (same_refusal ps s.pairs p e fit some) ∙ other) (both_break (stop_at p.line e) s fit)
alike_pair ps s p None None fit none other =
    subst (λ (qs : List Pair). Alike ps (ends (set_pairs qs s)) (ends (set_pairs (s.pairs ++ p ∷ []) s)))
    (sym (append_assoc ps s.pairs (p ∷ []))) (both_end (set_pairs (s.pairs ++ p ∷ []) s) (one_fits ps s.pairs p fit other))
alike_pair ps s p None (Some e) fit none other =
    fell_out (stop_at p.line e) (lift ps s) (ends (set_pairs (s.pairs ++ p ∷ []) s)) (one_falls ps s.pairs p e fit other)

alike_scalars : (ps : List Pair) (line : ℕ) (s : Locals) (k : Seen) (v : Memory) → Fits ps s.pairs
    → Alike ps (adding line (lift ps s) (added line (ps ++ s.pairs) (scalar k) v)) (adding line s (added line s.pairs (scalar k) v))
alike_scalars ps line s k (scalar c) fit = alike_pair ps s (record { key = k; value = c; line = line }) _ _ fit refl refl
alike_scalars ps line s k (column x) fit = both_break _ s fit
alike_scalars ps line s k (table t) fit = both_break _ s fit
alike_scalars ps line s k (texts ts) fit = both_break _ s fit

alike_memory : (ps : List Pair) (line : ℕ) (s : Locals) (k v : Memory) → Fits ps s.pairs
    → Alike ps (adding line (lift ps s) (added line (ps ++ s.pairs) k v)) (adding line s (added line s.pairs k v))
alike_memory ps line s (scalar c) v fit = alike_scalars ps line s c v fit
alike_memory ps line s (column x) v fit = both_break _ s fit
alike_memory ps line s (table t) v fit = both_break _ s fit
alike_memory ps line s (texts ts) v fit = both_break _ s fit

alike_values : (ps : List Pair) (line : ℕ) (s : Locals) (k : Memory) (v : Held) → Fits ps s.pairs
    → Alike ps (adding line (lift ps s) (pairs_with line (ps ++ s.pairs) store (held.value k) v)) (adding line s (pairs_with line s.pairs store (held.value k) v))
alike_values ps line s k (held.value v) fit = alike_memory ps line s k v fit
alike_values ps line s k store fit = both_break _ s fit
alike_values ps line s k iterator fit = both_break _ s fit
alike_values ps line s k no_value fit = both_break _ s fit

alike_keys : (ps : List Pair) (line : ℕ) (s : Locals) (k v : Held) → Fits ps s.pairs
    → Alike ps (adding line (lift ps s) (pairs_with line (ps ++ s.pairs) store k v)) (adding line s (pairs_with line s.pairs store k v))
alike_keys ps line s (held.value k) v fit = alike_values ps line s k v fit
alike_keys ps line s store v fit = both_break _ s fit
alike_keys ps line s iterator v fit = both_break _ s fit
alike_keys ps line s no_value v fit = both_break _ s fit

alike_adds : (ps : List Pair) (line : ℕ) (s : Locals) (x k v : Held) → Fits ps s.pairs
    → Alike ps (adding line (lift ps s) (pairs_with line (ps ++ s.pairs) x k v)) (adding line s (pairs_with line s.pairs x k v))
alike_adds ps line s store k v fit = alike_keys ps line s k v fit
alike_adds ps line s (held.value x) k v fit = both_break _ s fit
alike_adds ps line s iterator k v fit = both_break _ s fit
alike_adds ps line s no_value k v fit = both_break _ s fit

-- ---- turns

alike_turn : (ps : List Pair) (line : ℕ) (s : Locals) (f : Locals → Ran) (b : Bool) → Fits ps s.pairs
    → ((t : Locals) → Fits ps t.pairs → Alike ps (f (lift ps t)) (f t))
    → Alike ps (elim b [ true ↦ breaks (stop_at line too_many_turns) (lift ps s) | false ↦ f (lift ps (record s { turns = s.turns + 1 })) ])
    (elim b [ true ↦ breaks (stop_at line too_many_turns) s | false ↦ f (record s { turns = s.turns + 1 }) ])
alike_turn ps line s f true fit k = both_break _ s fit
alike_turn ps line s f false fit k = k (record s { turns = s.turns + 1 }) fit

alike_begun : (ps : List Pair) (line : ℕ) (s : Locals) (f : Locals → Ran) → Fits ps s.pairs
    → ((t : Locals) → Fits ps t.pairs → Alike ps (f (lift ps t)) (f t)) → Alike ps (begin_turn line (lift ps s) f) (begin_turn line s f)
alike_begun ps line s f fit k = alike_turn ps line s f (s.turns + 1 == turn_limit) fit k

alike_progress : (ps : List Pair) (line : ℕ) (s : Locals) (f : Locals → Ran) (b : Bool) → Fits ps s.pairs → Alike ps (f (lift ps s)) (f s)
    → Alike ps (elim b [ true ↦ breaks (stop_at line no_progress) (lift ps s) | false ↦ f (lift ps s) ]) (elim b [ true ↦ breaks (stop_at line no_progress) s | false ↦ f s ])
alike_progress ps line s f true fit k = both_break _ s fit
alike_progress ps line s f false fit k = k

alike_ended : (ps : List Pair) (line : ℕ) (waits : Bool) (given : ℕ) (s : Locals) (f : Locals → Ran) → Fits ps s.pairs → Alike ps (f (lift ps s)) (f s)
    → Alike ps (end_turn line waits given (lift ps s) f) (end_turn line waits given s f)
alike_ended ps line true given s f fit k = alike_progress ps line s f (s.given == given) fit k
alike_ended ps line false given s f fit k = k

alike_choice : (ps : List Pair) (b : Bool) (q r x y : Ran) → Alike ps q x → Alike ps r y → Alike ps (elim b [ true ↦ q | false ↦ r ]) (elim b [ true ↦ x | false ↦ y ])
alike_choice ps true q r x y h k = h
alike_choice ps false q r x y h k = k

-- ---- values of expressions

-- the state of the same answer
fits_after : (ps : List Pair) (s t : Locals) → TakesOn s t → Fits ps s.pairs → Fits ps t.pairs
fits_after ps s t h fit = subst (Fits ps) (sym h.pairs) fit

alike_where : (ps : List Pair) (line : ℕ) (v : Valued Held Locals) (f : Locals → Ran) → Fits ps (state_after v).pairs
    → ((t : Locals) → Fits ps t.pairs → Alike ps (f (lift ps t)) (f t)) → Alike ps (where_holds line (with_state (lift ps) v) f) (where_holds line v f)
alike_where ps line (stops stop t) f fit k = both_break stop t fit
alike_where ps line (gives h t) f fit k =
    alike_break ps line t (truth_of h) (λ u holds. elim holds [ true ↦ f u | false ↦ ends u ]) fit
    (λ holds. alike_choice ps holds (f (lift ps t)) (ends (lift ps t)) (f t) (ends t) (k t fit) (both_end t fit))

abbrev with_value : Valued Held Locals → (Held → Locals → Ran) → Ran
with_value v f = elim v [ gives h t ↦ f h t | stops stop t ↦ breaks stop t ]

alike_valued : (ps : List Pair) (v : Valued Held Locals) (f : Held → Locals → Ran) → Fits ps (state_after v).pairs
    → ((h : Held) (t : Locals) → Fits ps t.pairs → Alike ps (f h (lift ps t)) (f h t)) → Alike ps (with_value (with_state (lift ps) v) f) (with_value v f)
alike_valued ps (gives h t) f fit k = k h t fit
alike_valued ps (stops stop t) f fit k = both_break stop t fit

module _ (key_values : List Seen) (ps : List Pair) where
  fits_later : (e : Tree) (s : Locals) → Fits ps s.pairs → Fits ps (state_after (local_value key_values e s)).pairs
  fits_later e s fit = fits_after ps s (state_after (local_value key_values e s)) (takes_on key_values e s) fit

  alike_local : (e : Tree) (s : Locals) (f : Held → Locals → Ran) → Fits ps s.pairs
      → ((h : Held) (t : Locals) → Fits ps t.pairs → Alike ps (f h (lift ps t)) (f h t))
      → Alike ps (with_local key_values e (lift ps s) f) (with_local key_values e s f)
  alike_local e s f fit k =
      subst (λ (v : Valued Held Locals). Alike ps (with_value v f) (with_local key_values e s f)) (sym (lifted_local key_values ps e s))
      (alike_valued ps (local_value key_values e s) f (fits_later e s fit) k)

  -- ---- loops

  alike_whiles : (n line : ℕ) (e : Tree) (body : Locals → Ran) → ((t : Locals) → Proceeds t (state_of_run (body t)))
      → ((t : Locals) → Fits ps t.pairs → Alike ps (body (lift ps t)) (body t)) → (s : Locals) → Fits ps s.pairs
      → Alike ps (while_turns n line e (local_value key_values e) body (lift ps s)) (while_turns n line e (local_value key_values e) body s)
  alike_whiles zero line e body grows k s fit = both_break _ s fit
  alike_whiles (suc n) line e body grows k s fit =
      let test : Locals → Valued Held Locals = λ t. local_value key_values e t in
      let rest : Locals → Ran = λ w. while_turns n line e (local_value key_values e) body w in
      let after : Locals → Locals → Ran = λ u v. end_turn line (takes_from_iterator e u) u.given v rest in
      let turn : Locals → Ran = λ u. and_run (body u) (after u) in
      let begin : Locals → Ran = λ t. begin_turn line t turn in
      subst (λ (v : Valued Held Locals). Alike ps (where_holds line v begin) (where_holds line (test s) begin)) (sym (lifted_local key_values ps e s))
      (alike_where ps line (test s) begin (fits_later e s fit) (λ t fit_t. alike_begun ps line t turn fit_t (λ u fit_u.
      both_go_on ps (body (lift ps u)) (body u) (after u) (k u fit_u)
      (λ v. ended line (takes_from_iterator e u) u.given v rest (whiles n line e (local_value key_values e) body (λ t. evaluated key_values e t) grows v))
      (λ v fit_v. alike_ended ps line (takes_from_iterator e u) u.given v rest fit_v (alike_whiles n line e body grows k v fit_v)))))

  alike_fors : (n line : ℕ) (name : List ℕ) (k : ℤ) (body : Locals → Ran) → ((t : Locals) → Proceeds t (state_of_run (body t)))
      → ((t : Locals) → Fits ps t.pairs → Alike ps (body (lift ps t)) (body t)) → (s : Locals) → Fits ps s.pairs
      → Alike ps (for_turns n line name k body (lift ps s)) (for_turns n line name k body s)
  alike_fors zero line name k body grows h s fit = both_end s fit
  alike_fors (suc n) line name k body grows h s fit =
      let started : Locals → Locals = λ t. set_local name (scalar (double (Some k))) t in
      let rest : Locals → Ran = λ u. for_turns n line name (k +ℤ pos 1) body u in
      alike_begun ps line s (λ t. and_run (body (started t)) rest) fit (λ t fit_t.
      both_go_on ps (body (lift ps (started t))) (body (started t)) rest (h (started t) fit_t)
      (λ u. fors n line name (k +ℤ pos 1) body grows u) (λ u fit_u. alike_fors n line name (k +ℤ pos 1) body grows h u fit_u))

  -- ---- statements

  mutual
    alike_step : (b : Step) (s : Locals) → Fits ps s.pairs → Alike ps (run_step key_values b (lift ps s)) (run_step key_values b s)
    alike_step (assign_step line name e) s fit = alike_local e s _ fit (λ h t fit_t. alike_assigned ps line name h t fit_t)
    alike_step (add_step line x key v) s fit =
        alike_local x s _ fit (λ a t fit_t. alike_local key t _ fit_t (λ b u fit_u. alike_local v u _ fit_u (λ c w fit_w. alike_adds ps line w a b c fit_w)))
    alike_step (if_step line arms rest) s fit = alike_arms arms (λ t. run_steps key_values rest t) (λ t fit_t. alike_steps rest t fit_t) s fit
    alike_step (while_step line e b) s fit = alike_whiles turn_limit line e (λ t. run_steps key_values b t) (λ t. steps_go key_values b t) (λ t fit_t. alike_steps b t fit_t) s fit
    alike_step (for_step line name a z b) s fit =
        alike_local a s _ fit (λ x t fit_t. alike_local z t _ fit_t (λ y u fit_u. alike_break ps line u (bounds_of x y)
        (λ w bounds. for_turns (turns_between bounds.0 bounds.1) line name bounds.0 (λ v. run_steps key_values b v) w) fit_u
        (λ bounds. alike_fors (turns_between bounds.0 bounds.1) line name bounds.0 (λ t. run_steps key_values b t) (λ t. steps_go key_values b t) (λ v fit_v. alike_steps b v fit_v) u fit_u)))

    pub alike_steps : (bs : Steps) (s : Locals) → Fits ps s.pairs → Alike ps (run_steps key_values bs (lift ps s)) (run_steps key_values bs s)
    alike_steps no_steps s fit = both_end s fit
    alike_steps (and_step b bs) s fit =
        both_go_on ps (run_step key_values b (lift ps s)) (run_step key_values b s) _ (alike_step b s fit) (λ t. steps_go key_values bs t) (λ t fit_t. alike_steps bs t fit_t)

    alike_arms : (arms : Arms) (rest : Locals → Ran) → ((t : Locals) → Fits ps t.pairs → Alike ps (rest (lift ps t)) (rest t)) → (s : Locals) → Fits ps s.pairs
        → Alike ps (run_arms key_values arms rest (lift ps s)) (run_arms key_values arms rest s)
    alike_arms no_arms rest k s fit = k s fit
    alike_arms (and_arm e b arms) rest k s fit =
        alike_local e s _ fit (λ h t fit_t. alike_break ps (line_of e) t (truth_of h)
        (λ u holds. elim holds [ true ↦ run_steps key_values b u | false ↦ run_arms key_values arms rest u ]) fit_t
        (λ holds. alike_choice ps holds _ _ _ _ (alike_steps b t fit_t) (alike_arms arms rest k t fit_t)))

-- ---- calls

appended_result : (ps : List Pair) (q r : Ran) → Alike ps q r → result_of q ≡ behind_pairs ps (result_of r)
appended_result ps _ _ (both_end t fit) =
    sym (ap (λ (a : Appended). elim a.stop [ None ↦ record { pairs = a.pairs; stop = None } | Some stop ↦ record { pairs = a.pairs; stop = Some stop } ]) fit)
appended_result ps _ _ (both_break stop t fit) =
    sym (ap (λ (a : Appended). elim a.stop [ None ↦ record { pairs = a.pairs; stop = Some stop } | Some other ↦ record { pairs = a.pairs; stop = Some other } ]) fit)
appended_result ps _ _ (fell_out stop u (ends t) e) =
    sym (ap (λ (a : Appended). elim a.stop [ None ↦ record { pairs = a.pairs; stop = None } | Some other ↦ record { pairs = a.pairs; stop = Some other } ]) e)
appended_result ps _ _ (fell_out stop u (breaks own t) e) =
    sym (ap (λ (a : Appended). elim a.stop [ None ↦ record { pairs = a.pairs; stop = Some own } | Some other ↦ record { pairs = a.pairs; stop = Some other } ]) e)

pub call_appended : (f : SeenFunction) (arguments : List Held) (key_values : List Seen) (ps : List Pair)
    → call_of f arguments key_values ps ≡ behind_pairs ps (call_of f arguments key_values [])
call_appended f arguments key_values ps =
    let s : Locals = record { names = parameters f.params arguments []; given = 0; turns = 0; pairs = [] } in
    let same : ps ++ [] ≡ ps = append-nil ps in
    ap (λ qs. call_of f arguments key_values qs) (sym same)
    ∙ appended_result ps (run_steps key_values f.body (lift ps s)) (run_steps key_values f.body s)
    (alike_steps key_values ps f.body s (ap (λ qs. record { pairs = qs; stop = None }) (sym same)))
