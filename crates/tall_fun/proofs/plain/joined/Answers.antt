use Rattle.std.proofs.Common.{rules, ◌≡◌, ◌∙◌, sym, ap, true}
use Rattle.std.specs.Prelude.{Ok}
use Rattle.tall_local.specs.MemoryOperators.{binary_of}
use Rattle.tall_value.specs.CellOperators.{binary_cell}
use Rattle.tall_value.specs.Cells.{seen, seen_kind}
use Rattle.tall_value.specs.Classes.{class_of}
use Rattle.tall_value.specs.ClassTables.{binary_class}
use Rattle.tall_memory.proofs.ColumnLemmas.{of_scalar_classes}
use Rattle.tall_fun.proofs.PlainLemmas.{joined_gives}
use Rattle.tall_fun.proofs.plain.joined.Goals as goal

pub returns-in-Ok-binary : goal.returns-in-Ok-binary
returns-in-Ok-binary c =
    let op = binary_of c.args.op in
    let x = seen c.args.a.now in
    let y = seen c.args.b.now in
    let cell : binary_cell op x y ≡ Ok (seen c.in-Ok-binary.c) = search rules in
    joined_gives c.args.op x y (seen c.in-Ok-binary.c) c.in-Ok.field-0
    (sym (c.result_class.ensures ∙ ap (λ o. binary_class o c.class.result true c.class-2.result true) c.binary_of-operator.ensures
    ∙ ap (λ k. binary_class op k true c.class-2.result true) c.class.ensures ∙ ap (λ k. binary_class op (class_of (seen_kind x)) true k true) c.class-2.ensures
    ∙ of_scalar_classes op x y)
    ∙ c.in-Ok.is)
    cell
