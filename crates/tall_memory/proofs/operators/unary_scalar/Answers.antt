use Rattle.std.proofs.Common.{◌∙◌, subst, ap}
use Rattle.tall_value.specs.Cells.{seen, seen_kind}
use Rattle.tall_value.specs.ClassTables.{unary_kind, unary_class}
use Rattle.tall_local.specs.MemoryOperators.{scalar_result, with_kind}
use Rattle.tall_memory.specs.Values.{Gives}
use Rattle.tall_memory.proofs.ColumnLemmas.{of_scalar_class}
use Rattle.tall_memory.proofs.operators.unary_scalar.Goals as goal

pub returns : goal.returns
returns c =
    let d = seen c.args.c.now in
    let kinds = unary_kind c.args.op (seen_kind d) in
    subst (λ r. Gives (with_kind kinds (λ k. scalar_result r)) c.scalar_answer.result) c.unary.ensures
    (c.scalar_answer.ensures kinds (c.unary_class-class.ensures ∙ ap (unary_class c.args.op) c.class.ensures ∙ of_scalar_class c.args.op d))
