-- The laws of the senses of a scope, and what its calls do.
use Rattle.std.proofs.Common.{◌≡◌, refl, sym, subst, ap, ◌∙◌, ℕ, ◌+◌, ◌≤◌, List, length}
use Rattle.std.specs.Prelude.{Bool, true, false, nat_lt, if◌then◌else◌, slice_get, Some, Result, Ok, Err, IfOk, IfErr}
use Rattle.std.proofs.lemmas.Option.{slice_get_past}
use Rattle.tall_value.specs.Cells.{Seen, logical}
use Rattle.tall_local.specs.Names.{named}
use Rattle.tall_local.specs.declared.functions.ValueFunction.{ValueFunction}
use Rattle.tall_local.specs.Arguments.{Argument}
use Rattle.tall_local.specs.declared.functions.LocalFunction.TheVariants.{GetNext, HasNext, OfValues, Elsewhere}
use Rattle.tall_local.specs.Expressions.{gives, stops, answered}
use Rattle.tall_local.specs.Locals.{Held, value, store, iterator, no_value, Locals, read_local, held_call, held_function, next_value, is_only_iterator}
use Rattle.tall_local.specs.Memory.{scalar}
use Rattle.tall_local.specs.Refusals.{Refusal, bad_argument, no_value_left, stop_at}
use Rattle.tall_evaluate.specs.Senses.{Agrees, DoesValue, Finds}
use Rattle.tall_memory.specs.declared.faults.MemoryFault.{MemoryFault}
use Rattle.tall_memory.specs.declared.faults.MemoryFault.TheVariants as fault
use Rattle.tall_fun.specs.declared.failures.Failure.{Failure}
use Rattle.tall_fun.specs.declared.scope.Scope.{Scope}
use Rattle.tall_fun.specs.declared.values.LocalValue.{LocalValue}
use Rattle.tall_fun.specs.Failures.{stop_of}
use Rattle.tall_fun.specs.Scopes.{has_next, scope_senses, scope_state}
use Rattle.tall_fun.specs.Values.{AnswersAt, GivesHeld, held_seen}
use Rattle.tall_fun.proofs.ValueLemmas.{some_is}

abbrev tall_held : Held → Result Held Refusal
tall_held a = Ok a

any_ok : (r : Result LocalValue Failure) → IfOk r (λ v. Unit {0})
any_ok (Ok v) = tt
any_ok (Err f) = tt

any_err : (r : Result LocalValue Failure) → IfErr r (λ v. Unit {0})
any_err (Ok v) = tt
any_err (Err f) = tt

pub agrees_at : (line : ℕ) (want : Result Held Refusal) (r : Result LocalValue Failure) (u : Locals) → AnswersAt line want r
    → Agrees {W = LocalValue} held_seen stop_of (answered line u want) r u
agrees_at line want (Ok v) u h = ap (λ w. answered line u w) h
agrees_at line want (Err f) u h = λ stop is. let x = h stop is in ap (λ w. answered line u w) x.1 ∙ ap (λ z. stops z u) x.2

pub answered_does : (line : ℕ) (want : Result Held Refusal) (s : Scope) (r : Result LocalValue Failure) → AnswersAt line want r
    → DoesValue scope_senses (λ i u. answered line u want) s s r
answered_does line want s r h = record { later = refl; fits = any_ok r; agrees = λ i holds. agrees_at line want r (scope_state s) h; blames = any_err r; unfinished = λ i holds e same none. tt }

pub answered_finds : (line : ℕ) (want : Result Held Refusal) (s : Scope) (r : Result LocalValue Failure) → AnswersAt line want r
    → Finds scope_senses (λ i u. answered line u want) s r
answered_finds line want s r h = record { fits = any_ok r; agrees = λ i holds. agrees_at line want r (scope_state s) h; blames = any_err r }

pub read_value : (name : List ℕ) (v : LocalValue) (r : Result LocalValue MemoryFault) → (held_seen v ≡ no_value → ⊥) → GivesHeld (Ok (held_seen v)) r → GivesHeld (read_local name (Some (held_seen v))) r
read_value name v r some h = go (held_seen v) some h
  where
    go : (x : Held) → (x ≡ no_value → ⊥) → GivesHeld (Ok x) r → GivesHeld (read_local name (Some x)) r
    go (value m) n h = h
    go store n h = h
    go iterator n h = h
    go no_value n h = absurd (n refl)

same_held : (a b : Held) → tall_held a ≡ tall_held b → a ≡ b
same_held a b h = cc

never_refused : (a : Held) (r : Refusal) → tall_held a ≡ Err r → ⊥
never_refused a r h = cc

-- ---- `getnext`

module _ (line : ℕ) (args : List (Argument Held)) (s : Scope) where
  pub not_only : (r : Result LocalValue Failure) → is_only_iterator args ≡ false → AnswersAt line (Err bad_argument) r
      → DoesValue scope_senses (λ key_values u. held_call key_values line GetNext args u) s s r
  unfolding held_call
  not_only r e h = record {
    later = refl;
    fits = any_ok r;
    agrees = λ key_values holds.
        subst (λ w. Agrees {W = LocalValue} held_seen stop_of w r (scope_state s))
        (sym (ap (λ b. if b then next_value line (slice_get key_values s.given) (scope_state s) else answered line (scope_state s) (Err bad_argument)) e))
        (agrees_at line (Err bad_argument) r (scope_state s) h);
    blames = any_err r;
    unfinished = λ i holds e same none. tt;
  }

  pub none_left : (f : Failure) → is_only_iterator args ≡ true → length s.values.now.cells ≤ s.given → stop_of f ≡ Some (stop_at line no_value_left)
      → DoesValue scope_senses (λ key_values u. held_call key_values line GetNext args u) s s (Err f)
  unfolding held_call
  none_left f e past named = record {
    later = refl;
    fits = tt;
    agrees = λ key_values holds stop is.
        ap (λ b. if b then next_value line (slice_get key_values s.given) (scope_state s) else answered line (scope_state s) (Err bad_argument)) e
        ∙ ap (λ c. next_value line c (scope_state s)) (ap (λ xs. slice_get xs s.given) (sym holds) ∙ slice_get_past s.values.now.cells s.given past)
        ∙ ap (λ z. stops z (scope_state s)) (some_is (stop_at line no_value_left) stop (sym named ∙ is));
    blames = tt;
    unfinished = λ i holds e same none. tt;
  }

  pub next_given : (t : Scope) (r : Result LocalValue Failure) (c : Seen) → is_only_iterator args ≡ true → t ≡ record s { given = s.given + 1 } → slice_get s.values.now.cells s.given ≡ Some c
      → AnswersAt line (Ok (value (scalar c))) r
      → DoesValue scope_senses (λ key_values u. held_call key_values line GetNext args u) s t r
  unfolding held_call
  next_given t r c e is at h = record {
    later = is ∙ ap (λ n. record s { given = n }) (sym (ap (λ (x : Scope). x.given) is));
    fits = any_ok r;
    agrees = λ key_values holds.
        given_is r h key_values (sym (ap (λ (x : Scope). x.values.now.cells) is) ∙ holds);
    blames = any_err r;
    unfinished = λ i holds e same none. tt;
  } where
    given_is : (r : Result LocalValue Failure) → AnswersAt line (Ok (value (scalar c))) r → (key_values : List Seen) → s.values.now.cells ≡ key_values
        → Agrees {W = LocalValue} held_seen stop_of (if is_only_iterator args then next_value line (slice_get key_values s.given) (scope_state s) else answered line (scope_state s) (Err bad_argument)) r (scope_state t)
    given_is (Ok v) h key_values holds =
        ap (λ b. if b then next_value line (slice_get key_values s.given) (scope_state s) else answered line (scope_state s) (Err bad_argument)) e
        ∙ ap (λ o. next_value line o (scope_state s)) (ap (λ xs. slice_get xs s.given) (sym holds) ∙ at)
        ∙ ap (λ x. gives x (record (scope_state s) { given = s.given + 1 })) (same_held (value (scalar c)) (held_seen v) h)
        ∙ ap (λ u. gives (held_seen v) u) (sym (ap scope_state is))
    given_is (Err f) h key_values holds = λ stop named. absurd (never_refused (value (scalar c)) (h stop named).0 (h stop named).1)

pub bad_is : GivesHeld (Err bad_argument) (Err fault.BadArgument)
bad_is = λ r e. ap Err (some_is bad_argument r e)

pub name_finds : (line : ℕ) (name : List ℕ) (s : Scope) (r : Result LocalValue Failure) → AnswersAt line (read_local name (named s.names.now name)) r
    → Finds scope_senses (λ i u. answered line u (read_local name (named u.names name))) s r
name_finds line name s r h =
    record { fits = any_ok r; agrees = λ i holds. agrees_at line (read_local name (named s.names.now name)) r (scope_state s) h; blames = any_err r }

-- ---- the other calls

module _ (line : ℕ) (args : List (Argument Held)) (s : Scope) (r : Result LocalValue Failure) where
  pub value_call : (f : ValueFunction) → AnswersAt line (held_function f args) r → DoesValue scope_senses (λ key_values u. held_call key_values line (OfValues f) args u) s s r
  unfolding held_call
  value_call f h = answered_does line (held_function f args) s r h

  pub elsewhere_call : AnswersAt line (Err bad_argument) r → DoesValue scope_senses (λ key_values u. held_call key_values line Elsewhere args u) s s r
  unfolding held_call
  elsewhere_call h = answered_does line (Err bad_argument) s r h

  pub has_next_call : AnswersAt line (has_next s.values.now.cells s.given args) r → DoesValue scope_senses (λ key_values u. held_call key_values line HasNext args u) s s r
  unfolding held_call
  has_next_call h = record {
    later = refl;
    fits = any_ok r;
    agrees = λ key_values holds.
        subst (λ w. Agrees {W = LocalValue} held_seen stop_of w r (scope_state s)) (either key_values holds (is_only_iterator args)) (agrees_at line (has_next s.values.now.cells s.given args) r (scope_state s) h);
    blames = any_err r;
    unfinished = λ i holds e same none. tt;
  } where
    either : (key_values : List Seen) → s.values.now.cells ≡ key_values → (b : Bool)
        → answered line (scope_state s) (if b then tall_held (value (scalar (logical (nat_lt s.given (length s.values.now.cells))))) else Err bad_argument)
        ≡ (if b then gives (value (scalar (logical (nat_lt s.given (length key_values))))) (scope_state s) else answered line (scope_state s) (Err bad_argument))
    either key_values holds true = ap (λ xs. gives (value (scalar (logical (nat_lt s.given (length xs))))) (scope_state s)) holds
    either key_values holds false = refl
