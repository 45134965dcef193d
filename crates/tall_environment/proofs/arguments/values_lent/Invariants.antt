use Rattle.std.proofs.Common.{◌≡◌, ℕ, drop, map}
use Rattle.std.specs.List.{All}
use Rattle.tall_semantics.specs.Talls.{Tall}
use Rattle.tall_local.specs.Arguments.{value_given}
use Rattle.tall_local.specs.Lists.{all_of}
use Rattle.tall_evaluate.specs.Senses.{ArgumentsFit}
use Rattle.tall_deferred.specs.Values.{IsLent, IsValue, lent_at}
use Rattle.tall_environment.specs.Values.{arguments_at}
use Rattle.tall_environment.proofs.ArgumentLaws.{behind_these}
use Rattle.tall_environment.proofs.arguments.values_lent.Given as goal

-- those so far are lent, in front of what the rest gives
abbrev pub invariant-loop-arg : goal.invariant-loop-arg
invariant-loop-arg l =
    ((n : ℕ) → ArgumentsFit (IsValue n) l.args → ArgumentsFit (IsValue n) (drop l.arg-index l.args) × All (IsLent n) l.values.items)
    × ((f : ℕ → Tall) → behind_these (map (lent_at f) l.values.items) (all_of value_given (arguments_at f (drop l.arg-index l.args))) ≡ all_of value_given (arguments_at f l.args))
