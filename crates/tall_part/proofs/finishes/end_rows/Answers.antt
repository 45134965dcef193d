use Rattle.std.proofs.Common.{◌≡◌}
use Rattle.tall_fold.specs.FirstAndLast.{column_of}
use Rattle.tall_part.specs.declared.results.EndColumn.{EndColumn}
use Rattle.tall_part.specs.Parts.{numbers}
use Rattle.tall_part.proofs.FinishLaws.{both_found}
use Rattle.tall_part.proofs.finishes.end_rows.Goals as goal

pub returns-in-Ok-clause-ok : goal.returns-in-Ok-clause-ok
returns-in-Ok-clause-ok c =
    both_found (λ v. v.items) c.alone.result _ (λ (x : EndColumn). x.column ≡ column_of c.args.ends.class c.args.ends.rows) (λ (x : EndColumn). x.rows.items ≡ numbers c.args.ends.rows) c.alone.ensures.ok c.in-Ok.ensures.0 c.in-Ok.ensures.1
