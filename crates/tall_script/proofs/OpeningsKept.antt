-- Openings are only counted where a datastore is made, or there is a gather or a mapreduce, and never taken back.
use Rattle.std.proofs.Common.{◌≡◌, ℕ, ◌≤◌, ◌+◌, List, [], ◌∷◌, ◌++◌, Bool, true, false, refl, ap, sym, ◌∙◌, subst, arith}
use Rattle.std.proofs.lemmas.Bool.{true≢false}
use Rattle.std.specs.Prelude.{if◌then◌else◌, Option, None, Some, Result, Ok, Err}
use Rattle.tall_grammar.specs.Trees.{Tree, tree, Body, assigned, gathered, property, bare, SeenStatement}
use Rattle.tall_grammar.specs.Trees as trees
use Rattle.tall_semantics.specs.Talls.{Tall}
use Rattle.tall_local.specs.Arguments.{Argument}
use Rattle.tall_local.specs.Expressions.{Valued, gives, stops, answered}
use Rattle.tall_local.specs.Functions.{script_function_named}
use Rattle.tall_value.specs.Names.{has_name}
use Rattle.tall_local.specs.Refusals.{Refusal}
use Rattle.tall_local.specs.StateLaws.{state_after, IsKept, calls_none, CallsKeepBut}
use Rattle.tall_local.specs.declared.functions.ScriptFunction.{ScriptFunction}
use Rattle.tall_local.specs.declared.functions.ScriptFunction.TheVariants.{OfValues, TabularTextDatastore, Tall as TallOf, Gather, MapReduce, ReadAll, Elsewhere}
use Rattle.tall_local.proofs.StatesKept.{value_kept_but}
use Rattle.tall_script.specs.OpeningLaws.{opens, opens_none, is_opening}
use Rattle.tall_script.specs.RunLaws.{continued}
use Rattle.tall_script.specs.Runs.{Run, run_from}
use Rattle.tall_script.specs.ScriptLanguage.{Setting, script_language, script_value, script_call, place}
use Rattle.tall_script.specs.ScriptValues.{TallValue}
use Rattle.tall_script.specs.Statements.{Done, then_do, put_store, alone, body}
use Rattle.tall_script.specs.States.{Openings, State, Store, times_allowed}
use Rattle.tall_script.specs.StatesFollow.{done_state, Follows}
use Rattle.tall_script.proofs.RunSteps.{longer}
use Rattle.tall_script.proofs.StoresKept.{run_follows}

-- ---- counts

pub both_allowed : (file : List ℕ) (os more : List Openings) → times_allowed file (os ++ more) ≡ times_allowed file os + times_allowed file more
both_allowed file [] more = none_more (times_allowed file more) where
  none_more : (n : ℕ) → n ≡ 0 + n
  none_more n = omega arith
both_allowed file (o ∷ os) more =
    let n = if has_name o.files file then o.times else 0 in
    let e = both_allowed file os more in
    ap (λ k. n + k) e ∙ sum n (times_allowed file os) (times_allowed file more) where
      sum : (a b c : ℕ) → a + (b + c) ≡ (a + b) + c
      sum a b c = omega arith

grown : (file : List ℕ) (s t : State Tall) → Follows s t → times_allowed file s.opened ≤ times_allowed file t.opened
grown file s t h =
    let e : times_allowed file t.opened ≡ times_allowed file s.opened + times_allowed file h.more_openings =
    ap (times_allowed file) h.opened ∙ both_allowed file s.opened h.more_openings in
    at_least (times_allowed file s.opened) (times_allowed file t.opened) (times_allowed file h.more_openings) e where
      at_least : (a b c : ℕ) → b ≡ a + c → a ≤ b
      at_least a b c e = omega (arith, e)

same_or_more : (setting : Setting) (file : List ℕ) (r : Run) (more : List SeenStatement) → times_allowed file r.state.opened ≤ times_allowed file (continued setting r more).state.opened
same_or_more setting file r more =
    elim r.ending as (λ ending. times_allowed file r.state.opened ≤ times_allowed file (continued setting (record { text = r.text; ending = ending; state = r.state }) more).state.opened) [
      | None ↦ grown file r.state (run_from setting more r.state).state (run_follows setting more r.state)
      | Some stop ↦ same_count (times_allowed file r.state.opened)
    ] where
      same_count : (n : ℕ) → n ≤ n
      same_count n = omega arith

pub longer_opens_more : (setting : Setting) (entries more : List SeenStatement) (s : State Tall) (file : List ℕ)
    → times_allowed file (run_from setting entries s).state.opened ≤ times_allowed file (run_from setting (entries ++ more) s).state.opened
longer_opens_more setting entries more s file =
    subst (λ (r : Run). times_allowed file (run_from setting entries s).state.opened ≤ times_allowed file r.state.opened) (sym (longer setting entries more s))
    (same_or_more setting file (run_from setting entries s) more)

-- ---- statements that open nothing

abbrev Leaves : State Tall → State Tall → Type 0
Leaves s t = t.opened ≡ s.opened

leaves_kept : IsKept Leaves
leaves_kept = record { nothing = λ s. refl; both = λ s t u h k. k ∙ h }

left : (line : ℕ) (s : State Tall) (r : Result TallValue Refusal) → Leaves s (state_after (answered line s r))
left line s (Ok v) = refl
left line s (Err e) = refl

quiet_call : (setting : Setting) (found : Option ScriptFunction) (f : ScriptFunction) (n l : ℕ) (args : List (Argument TallValue)) (s : State Tall)
    → found ≡ Some f → opens found ≡ false → Leaves s (state_after (script_call setting (place n l) f args s))
unfolding script_call
quiet_call setting found (OfValues f) n l args s there untold = left l s _
quiet_call setting found TallOf n l args s there untold = left l s _
quiet_call setting found ReadAll n l args s there untold = left l s _
quiet_call setting found Elsewhere n l args s there untold = refl
quiet_call setting found TabularTextDatastore n l args s there untold = absurd (true≢false (sym (ap opens there) ∙ untold))
quiet_call setting found Gather n l args s there untold = absurd (true≢false (sym (ap opens there) ∙ untold))
quiet_call setting found MapReduce n l args s there untold = absurd (true≢false (sym (ap opens there) ∙ untold))

quiet_calls : (setting : Setting) → CallsKeepBut is_opening (script_language setting) Leaves
quiet_calls setting name n l f args s there untold = quiet_call setting (script_function_named name) f n l args s there untold

quiet_value : (setting : Setting) (e : Tree) (s : State Tall) → calls_none is_opening e ≡ true → Leaves s (state_after (script_value setting e s))
quiet_value setting e s none = value_kept_but (script_language setting) Leaves leaves_kept is_opening (quiet_calls setting) e s none

after_value : (s : State Tall) (v : Valued TallValue (State Tall)) (f : TallValue → State Tall → Done) → Leaves s (state_after v)
    → ((w : TallValue) (t : State Tall) → Leaves t (done_state (f w t))) → Leaves s (done_state (then_do v f))
after_value s (gives w t) f h k = k w t ∙ h
after_value s (stops stop t) f h k = h

put_leaves : (line : ℕ) (shown : Bool) (name : List ℕ) (d : Result Store Refusal) (s : State Tall) → Leaves s (done_state (put_store line shown name d s))
put_leaves line shown name (Ok d) s = refl
put_leaves line shown name (Err e) s = refl

alone_leaves : (shown : Bool) (e : Tree) (v : TallValue) (s : State Tall) → Leaves s (done_state (alone shown e v s))
alone_leaves shown (tree n l (trees.number d)) v s = refl
alone_leaves shown (tree n l (trees.text t)) v s = refl
alone_leaves shown (tree n l (trees.name x)) v s = refl
alone_leaves shown (tree n l (trees.list es)) v s = refl
alone_leaves shown (tree n l (trees.handle x)) v s = refl
alone_leaves shown (tree n l (trees.prefixed op e)) v s = refl
alone_leaves shown (tree n l (trees.joined op e f)) v s = refl
alone_leaves shown (tree n l (trees.member e x)) v s = refl
alone_leaves shown (tree n l (trees.call e args)) v s = refl

pub quiet_statement : (setting : Setting) (line : ℕ) (shown : Bool) (b : Body) (s : State Tall) → opens_none b ≡ true → (done_state (body setting line shown b s)).opened ≡ s.opened
quiet_statement setting line shown (assigned name e) s none = after_value s (script_value setting e s) _ (quiet_value setting e s none) (λ v t. refl)
quiet_statement setting line shown (gathered names args) s none = absurd (true≢false (sym none))
quiet_statement setting line shown (property name p e) s none = after_value s (script_value setting e s) _ (quiet_value setting e s none) (λ v t. put_leaves line shown name _ t)
quiet_statement setting line shown (bare e) s none = after_value s (script_value setting e s) _ (quiet_value setting e s none) (λ v t. alone_leaves shown e v t)
