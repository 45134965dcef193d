use Rattle.tall_value.specs.Distinct.{distinct}
use Rattle.tall_group.specs.UniqueFolds.{class_of_unique}
use Rattle.tall_part.specs.Finished.{IsColumnOf}
use Rattle.tall_part.proofs.FinishLaws.{numbered_column, one_found}
use Rattle.tall_part.proofs.finishes.distinct_cells.Goals as goal

pub returns-in-Ok-numbered-clause-ok : goal.returns-in-Ok-numbered-clause-ok
returns-in-Ok-numbered-clause-ok c cs is =
    one_found (λ v. v.items) c.alone.result c.in-Ok-numbered.column (IsColumnOf (class_of_unique c.args.fold) (distinct cs)) c.alone.ensures.ok
    (numbered_column c.in-Ok-numbered.column c.in-Ok.column (class_of_unique c.args.fold) (distinct cs) c.in-Ok-numbered.ensures.column c.in-Ok.ensures.class (c.in-Ok.ensures.cells cs is) c.in-Ok-numbered.ensures.rows)
