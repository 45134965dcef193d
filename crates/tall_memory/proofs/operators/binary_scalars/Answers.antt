use Rattle.std.proofs.Common.{◌∙◌, subst, ap, true}
use Rattle.tall_value.specs.Cells.{seen, seen_kind}
use Rattle.tall_value.specs.Classes.{class_of}
use Rattle.tall_value.specs.ClassTables.{binary_kind, binary_class}
use Rattle.tall_local.specs.MemoryOperators.{scalar_result, with_kind}
use Rattle.tall_memory.specs.Values.{Gives}
use Rattle.tall_memory.proofs.ColumnLemmas.{of_scalar_classes}
use Rattle.tall_memory.proofs.operators.binary_scalars.Goals as goal

pub returns : goal.returns
returns c =
    let x = seen c.args.c.now in
    let y = seen c.args.d.now in
    let kinds = binary_kind c.args.op (seen_kind x) true (seen_kind y) true in
    subst (λ r. Gives (with_kind kinds (λ k. scalar_result r)) c.scalar_answer.result) c.binary.ensures
    (c.scalar_answer.ensures kinds
    (c.result_class-class.ensures ∙ ap (λ k. binary_class c.args.op k true c.class-2.result true) c.class.ensures ∙ ap (λ k. binary_class c.args.op (class_of (seen_kind x)) true k true) c.class-2.ensures
    ∙ of_scalar_classes c.args.op x y))
