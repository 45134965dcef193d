use Rattle.std.proofs.Common.{◌≡◌, ◌∙◌, ap}
use Rattle.tall_value.specs.Classes.{class_of, kind_of}
use Rattle.tall_fold.specs.Carries.{result_kind, scan_fold}
use Rattle.tall_fold.proofs.CarryLemmas.{carry_is, class_made, kept_here}
use Rattle.tall_fold.proofs.carries.Carry.of_column.Goals as goal

pub returns-clause-class : goal.returns-clause-class
returns-clause-class c =
    let a = kind_of c.args.column.now.class in
    let kind : c.kind-kind.result ≡ a = c.kind-kind.ensures ∙ ap kind_of c.class.ensures in
    let made : c.class-2.result ≡ class_of (result_kind a) = c.class-2.ensures ∙ ap class_of (c.kind_of_result.ensures ∙ ap result_kind kind) in
    class_made c.args.operation a c.args.column.now.cells c.len.result c.kept_of.result c.class-2.result c.requires.takes made c.len.ensures
    (kept_here c.args.operation c.fold_of.result c.args.column.now _ c.kept_of.result c.values.ensures (c.fold_of.ensures ∙ ap (scan_fold c.args.operation) kind) c.kept_of.ensures)

pub returns-clause-carry : goal.returns-clause-carry
returns-clause-carry c =
    let a = kind_of c.args.column.now.class in
    let kind : c.kind-kind.result ≡ a = c.kind-kind.ensures ∙ ap kind_of c.class.ensures in
    let made : c.class-2.result ≡ class_of (result_kind a) = c.class-2.ensures ∙ ap class_of (c.kind_of_result.ensures ∙ ap result_kind kind) in
    carry_is c.args.operation a c.args.column.now.cells c.len.result c.kept_of.result c.class-2.result c.requires.takes made c.len.ensures
    (kept_here c.args.operation c.fold_of.result c.args.column.now _ c.kept_of.result c.values.ensures (c.fold_of.ensures ∙ ap (scan_fold c.args.operation) kind) c.kept_of.ensures)
