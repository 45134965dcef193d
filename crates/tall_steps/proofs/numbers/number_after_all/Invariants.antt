use Rattle.std.proofs.Common.{◌≡◌, drop, map}
use Rattle.tall_grammar.specs.Views.{arg_of, args_of}
use Rattle.tall_evaluate.specs.Orders.{last_number}
use Rattle.tall_steps.proofs.numbers.number_after_all.Given as goal

abbrev pub invariant-loop-arg : goal.invariant-loop-arg
invariant-loop-arg l = last_number l.last (args_of (map arg_of (drop l.arg-index l.args))) ≡ last_number l.after (args_of (map arg_of l.args))
