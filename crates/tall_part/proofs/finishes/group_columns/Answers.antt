use Rattle.std.proofs.Common.{◌∙◌, Ok, List, ap, map, sym}
use Rattle.tall_dense.specs.Columns.{SeenColumn}
use Rattle.tall_part.proofs.GroupFinishLaws.{cells_of, classes_of}
use Rattle.tall_part.proofs.finishes.group_columns.Goals as goal

pub returns-in-Ok-numbered_columns-clause-classes : goal.returns-in-Ok-numbered_columns-clause-classes
returns-in-Ok-numbered_columns-clause-classes c =
    c.in-Ok.ensures.classes ∙ ap (λ (l : List SeenColumn). Ok (map (λ (k : SeenColumn). k.class) l)) (sym c.in-Ok-numbered_columns.ensures.columns) ∙ ap Ok (classes_of _)

pub returns-in-Ok-numbered_columns-clause-ok : goal.returns-in-Ok-numbered_columns-clause-ok
returns-in-Ok-numbered_columns-clause-ok c ks vs is = (
  c.in-Ok.ensures.cells ks vs is ∙ ap (λ (l : List SeenColumn). Ok (map (λ (k : SeenColumn). k.cells) l)) (sym c.in-Ok-numbered_columns.ensures.columns) ∙ ap Ok (cells_of _),
  c.in-Ok-numbered_columns.ensures.rows,
)
