-- What the definitions see of a scope, in which an expression of a function is evaluated.
use Rattle.std.specs.Prelude.{ℕ, ◌≡◌, List, length, false, nat_lt, if◌then◌else◌, Result, Ok, Err}
use Rattle.tall_value.specs.Cells.{Seen, logical}
use Rattle.tall_local.specs.declared.functions.LocalFunction.{LocalFunction}
use Rattle.tall_local.specs.Functions.{local_function_named}
use Rattle.tall_local.specs.Locals.{Held, value, Locals, function_language, is_only_iterator}
use Rattle.tall_local.specs.Arguments.{Argument}
use Rattle.tall_local.specs.Memory.{scalar}
use Rattle.tall_local.specs.Refusals.{Refusal, bad_argument}
use Rattle.std.proofs.Common.{refl, sym, ap, ◌∙◌}
use Rattle.tall_evaluate.specs.Senses.{Laws, Senses}
use Rattle.tall_fun.specs.declared.failures.Failure.{Failure}
use Rattle.tall_fun.specs.declared.scope.Scope.{Scope}
use Rattle.tall_fun.specs.declared.values.LocalValue.{LocalValue}
use Rattle.tall_fun.specs.Failures.{stop_of}
use Rattle.tall_fun.specs.Values.{held_seen}

abbrev pub scope_state : Scope → Locals
scope_state s = record { names = s.names.now; given = s.given; turns = s.turns; pairs = s.pairs.now }

-- the values of the iterator are the one sense; an expression changes nothing but how many of them were given
abbrev pub scope_senses : Senses Scope LocalFunction LocalValue Failure LocalFunction Held Locals (List Seen)
scope_senses = record {
  defined = function_language;
  holds = λ key_values s. s.values.now.cells ≡ key_values;
  state = λ key_values s. scope_state s;
  shown = λ key_values v. held_seen v;
  named = λ f. f;
  stop_of = stop_of;
  blames = λ s t e. Unit {0};
  later = λ s t. t ≡ record s { given = t.given };
  fits = λ s v. Unit {0};
  follows = λ m n. Unit {0};
  ready = λ s n. Unit {0};
  done = λ s n. Unit {0};
  reaches = λ s t. Unit {0};
  functions = local_function_named;
  opens = λ name. false;
  opens_by = λ f. false;
  still = λ s t. Unit {0};
}

-- `hasnext`: a value is left
abbrev pub has_next : List Seen → (given : ℕ) → List (Argument Held) → Result Held Refusal
has_next key_values given args = if is_only_iterator args then Ok (value (scalar (logical (nat_lt given (length key_values))))) else Err bad_argument

pub scope_laws : Laws scope_senses
scope_laws = record {
  same = λ s. refl;
  both = λ s t u h k. k ∙ ap (λ (x : Scope). record x { given = u.given }) h;
  holds_before = λ s t i h k. sym (ap (λ (x : Scope). x.values.now.cells) h) ∙ k;
  fits_later = λ s t w h k. tt;
  blames_before = λ s t u e h k. tt;
  ready_done = λ s n h. tt;
  done_ready = λ s n k h f. tt;
  reaches_on = record { nothing = λ s. tt; both = λ s t u h k. tt };
  calls_reach = λ i n l f args s. tt;
  functions_are = λ i name. refl;
  opens_named = λ name f h k. refl;
  still_on = record { nothing = λ s. tt; both = λ s t u h k. tt };
}
