use Rattle.std.proofs.Common.{subst}
use Rattle.tall_part.specs.declared.part.EndPart.{EndPart}
use Rattle.tall_part.specs.Parts.{IsPart, IsPartOf}
use Rattle.tall_part.proofs.FinishLaws.{distinct_classes, distinct_outcomes, rows_classes, scalar_classes}
use Rattle.tall_part.proofs.HeightLaws.{distinct_heights, group_heights, rows_heights, scalar_heights}
use Rattle.tall_part.proofs.GroupFinishLaws.{group_classes, group_outcomes}
use Rattle.tall_part.proofs.part.EndPart.finish.Goals as goal

pub returns-in-Summary-clause-classes : goal.returns-in-Summary-clause-classes
returns-in-Summary-clause-classes c op a b n p =
    scalar_classes (λ v. v.items) c.scalar.result op a b n c.in-Summary.summary c.finish.result (subst (λ (x : EndPart). IsPart op a b n x) c.in-Summary.is p) c.finish.ensures c.scalar.ensures.ok

pub returns-in-Rows-clause-classes : goal.returns-in-Rows-clause-classes
returns-in-Rows-clause-classes c op a b n p = rows_classes (λ v. v.items) c.end_rows.result op a b n c.in-Rows.ends (subst (λ (x : EndPart). IsPart op a b n x) c.in-Rows.is p) c.end_rows.ensures.ok

pub returns-in-Distinct-clause-classes : goal.returns-in-Distinct-clause-classes
returns-in-Distinct-clause-classes c op a b n p =
    distinct_classes (λ v. v.items) c.distinct_cells.result op a b n c.in-Distinct.fold (subst (λ (x : EndPart). IsPart op a b n x) c.in-Distinct.is p) c.distinct_cells.ensures.ok

pub returns-in-Distinct-clause-outcomes : goal.returns-in-Distinct-clause-outcomes
returns-in-Distinct-clause-outcomes c op a b rs ss p =
    distinct_outcomes (λ v. v.items) c.distinct_cells.result _ op a b rs ss c.in-Distinct.fold (subst (λ (x : EndPart). IsPartOf op a b rs ss x) c.in-Distinct.is p) c.distinct_cells.ensures.ok

pub returns-in-Groups-clause-classes : goal.returns-in-Groups-clause-classes
returns-in-Groups-clause-classes c op a b n p =
    group_classes (λ v. v.items) c.group_columns.result op a b n c.in-Groups.fold (subst (λ (x : EndPart). IsPart op a b n x) c.in-Groups.is p) c.group_columns.ensures.classes

pub returns-in-Groups-clause-outcomes : goal.returns-in-Groups-clause-outcomes
returns-in-Groups-clause-outcomes c op a b rs ss p =
    group_outcomes (λ v. v.items) c.group_columns.result _ op a b rs ss c.in-Groups.fold (subst (λ (x : EndPart). IsPartOf op a b rs ss x) c.in-Groups.is p) c.group_columns.ensures.ok

pub returns-in-Summary-clause-heights : goal.returns-in-Summary-clause-heights
returns-in-Summary-clause-heights c op a b n p =
    scalar_heights (λ v. v.items) c.scalar.result op a b n c.in-Summary.summary c.finish.result (subst (λ (x : EndPart). IsPart op a b n x) c.in-Summary.is p) c.finish.ensures c.scalar.ensures.ok

pub returns-in-Rows-clause-heights : goal.returns-in-Rows-clause-heights
returns-in-Rows-clause-heights c op a b n p = rows_heights (λ v. v.items) c.end_rows.result op a b n c.in-Rows.ends (subst (λ (x : EndPart). IsPart op a b n x) c.in-Rows.is p) c.end_rows.ensures.ok

pub returns-in-Distinct-clause-heights : goal.returns-in-Distinct-clause-heights
returns-in-Distinct-clause-heights c op a b n p =
    distinct_heights (λ v. v.items) c.distinct_cells.result op a b n c.in-Distinct.fold (subst (λ (x : EndPart). IsPart op a b n x) c.in-Distinct.is p) c.distinct_cells.ensures.ok

pub returns-in-Groups-clause-heights : goal.returns-in-Groups-clause-heights
returns-in-Groups-clause-heights c op a b n p =
    group_heights (λ v. v.items) c.group_columns.result op a b n c.in-Groups.fold (subst (λ (x : EndPart). IsPart op a b n x) c.in-Groups.is p) c.group_columns.ensures.ok
