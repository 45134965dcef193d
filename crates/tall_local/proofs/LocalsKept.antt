-- Expressions in functions take values of the iterator, and change nothing else.
use Rattle.std.proofs.Common.{◌≤◌, ℕ, List, Bool, true, false, refl, ◌∙◌, arith}
use Rattle.std.specs.Prelude.{if◌then◌else◌, slice_get, Option, None, Some, Result, Ok, Err}
use Rattle.tall_value.specs.Cells.{Seen}
use Rattle.tall_grammar.specs.Trees.{Tree}
use Rattle.tall_local.specs.Expressions.{Valued, answered, value}
use Rattle.tall_local.specs.declared.functions.LocalFunction.TheVariants.{OfValues, HasNext, GetNext, Elsewhere}
use Rattle.tall_local.specs.Locals.{Held, Locals, function_language, held_call, is_only_iterator, next_value}
use Rattle.tall_local.specs.Refusals.{Refusal}
use Rattle.tall_local.specs.StateLaws.{state_after, IsKept, CallsKeep, TakesOn}
use Rattle.tall_local.proofs.StatesKept.{value_kept}

same_locals : (s : Locals) → TakesOn s s
same_locals s = record { names = refl; turns = refl; pairs = refl; given = omega arith }

takes_kept : IsKept TakesOn
takes_kept = record {
  nothing = same_locals;
  both = λ s t u h k. record {
    names = k.names ∙ h.names;
    turns = k.turns ∙ h.turns;
    pairs = k.pairs ∙ h.pairs;
    given = let a : s.given ≤ t.given = h.given in let b : t.given ≤ u.given = k.given in omega arith;
  };
}

answer : (line : ℕ) (s : Locals) (r : Result Held Refusal) → TakesOn s (state_after (answered line s r))
answer line s (Ok v) = same_locals s
answer line s (Err e) = same_locals s

next : (line : ℕ) (c : Option Seen) (s : Locals) → TakesOn s (state_after (next_value line c s))
next line None s = same_locals s
next line (Some c) s = record { names = refl; turns = refl; pairs = refl; given = omega arith }

choice : (b : Bool) (s : Locals) (v w : Valued Held Locals) → TakesOn s (state_after v) → TakesOn s (state_after w) → TakesOn s (state_after (if b then v else w))
choice true s v w h k = h
choice false s v w h k = k

calls_take : (key_values : List Seen) → CallsKeep (function_language key_values) TakesOn
unfolding held_call
calls_take key_values n l (OfValues f) args s = answer l s _
calls_take key_values n l HasNext args s = choice (is_only_iterator args) s _ _ (same_locals s) (same_locals s)
calls_take key_values n l GetNext args s = choice (is_only_iterator args) s _ _ (next l (slice_get key_values s.given) s) (same_locals s)
calls_take key_values n l Elsewhere args s = same_locals s

pub takes_on : (key_values : List Seen) (e : Tree) (s : Locals) → TakesOn s (state_after (value (function_language key_values) e s))
takes_on key_values e s = value_kept (function_language key_values) TakesOn takes_kept (calls_take key_values) e s
