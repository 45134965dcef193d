use Rattle.std.proofs.Common.{◌≡◌, ◌∙◌, ap, map, option_map, IfSome, None, Some, Ok}
use Rattle.std.proofs.lemmas.Result.{IfOk-at_ok}
use Rattle.tall_group.specs.GroupFolds.{served}
use Rattle.tall_group.specs.Summaries.{all_columns, cells_of, classes_by, columns_by}
use Rattle.tall_group.proofs.FoldLemmas.{fold_cells, fold_classes}
use Rattle.tall_group.proofs.fold.GroupFold.columns.Goals as goal

pub returns-in-Ok-Some-clause-classes : goal.returns-in-Ok-Some-clause-classes
returns-in-Ok-Some-clause-classes c =
    let s = c.args.self in
    let r = c.requires.rows in
    fold_classes s r.0 r.1 c.kind.result (map (λ x. x.class) (all_columns c.in-Ok-Some.columns)) r.2 c.kind.ensures
    (IfOk-at_ok (λ o. IfSome o (λ g. map (λ x. x.class) (all_columns g) ≡ classes_by (served s.states) s.keys.class c.kind.result)) (c.in-Ok-Some.is ∙ ap Ok c.in-Ok-Some.field-0-is) c.columns.ensures.classes)

pub returns-in-Ok-Some-clause-cells : goal.returns-in-Ok-Some-clause-cells
returns-in-Ok-Some-clause-cells c ks vs u =
    let s = c.args.self in
    fold_cells s ks vs c.kind.result (Some c.in-Ok-Some.columns) u c.kind.ensures
    (λ g k. IfOk-at_ok (λ o. option_map cells_of o ≡ columns_by (served s.states) c.kind.result ks vs) (c.in-Ok-Some.is ∙ ap Ok c.in-Ok-Some.field-0-is) (c.columns.ensures.cells ks vs g k))

pub returns-in-Ok-None-clause-cells : goal.returns-in-Ok-None-clause-cells
returns-in-Ok-None-clause-cells c ks vs u =
    let s = c.args.self in
    fold_cells s ks vs c.kind.result None u c.kind.ensures
    (λ g k. IfOk-at_ok (λ o. option_map cells_of o ≡ columns_by (served s.states) c.kind.result ks vs) (c.in-Ok-None.is ∙ ap Ok c.in-Ok-None.field-0-is) (c.columns.ensures.cells ks vs g k))
