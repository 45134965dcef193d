use Rattle.std.proofs.Common.{drop}
use Rattle.tall_evaluate.proofs.Lists.{Going}
use Rattle.tall_evaluate.proofs.walk.+walk.Given as goal

abbrev pub invariant-evaluate_arguments-loop-arg : goal.invariant-evaluate_arguments-loop-arg
invariant-evaluate_arguments-loop-arg g l =
    Going g.L.Language.senses l.args l.takes l.after l.fn.language l.language l.arguments.items l.last (drop l.arg-index l.args)
