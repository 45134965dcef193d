use Rattle.std.proofs.Common.{◌≡◌, Ok, []}
use Rattle.tall_part.specs.declared.results.EndColumn.{EndColumn}
use Rattle.tall_part.proofs.FinishLaws.{both_found}
use Rattle.tall_part.proofs.finishes.scalar.Goals as goal

pub returns-in-Ok-clause-ok : goal.returns-in-Ok-clause-ok
returns-in-Ok-clause-ok c = both_found (λ v. v.items) c.alone.result _ (λ (x : EndColumn). c.args.found ≡ Ok x.column) (λ (x : EndColumn). x.rows.items ≡ []) c.alone.ensures.ok c.in-Ok.is c.new.ensures.items
