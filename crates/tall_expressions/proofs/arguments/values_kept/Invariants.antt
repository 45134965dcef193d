use Rattle.std.proofs.Common.{◌≡◌, ℕ, length, map}
use Rattle.std.specs.List.{All}
use Rattle.std.specs.Vec.Iter.{into_iter_items}
use Rattle.tall_semantics.specs.Talls.{Tall}
use Rattle.tall_local.specs.Arguments.{value_given}
use Rattle.tall_local.specs.Lists.{all_of}
use Rattle.tall_evaluate.specs.Senses.{ArgumentsFit}
use Rattle.tall_deferred.specs.Values.{IsValue, value_at}
use Rattle.tall_environment.specs.Values.{arguments_at}
use Rattle.tall_environment.proofs.ArgumentLaws.{behind_these}
use Rattle.tall_expressions.proofs.arguments.values_kept.Given as goal

-- those so far stand in front of what the rest gives
abbrev pub invariant-loop-arg : goal.invariant-loop-arg
invariant-loop-arg l =
    ((n : ℕ) → ArgumentsFit (IsValue n) l.fn.args.items → ArgumentsFit (IsValue n) (into_iter_items l.rest) × All (IsValue n) l.values.items)
    × ((f : ℕ → Tall) → behind_these (map (value_at f) l.values.items) (all_of value_given (arguments_at f (into_iter_items l.rest))) ≡ all_of value_given (arguments_at f l.fn.args.items))

abbrev pub decreases-loop-arg : goal.decreases-loop-arg
decreases-loop-arg l = length (into_iter_items l.rest)
