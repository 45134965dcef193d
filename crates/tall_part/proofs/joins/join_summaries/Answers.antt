use Rattle.std.proofs.Common.{subst}
use Rattle.tall_part.specs.declared.part.EndPart.{EndPart}
use Rattle.tall_part.specs.Parts.{IsReductionOf}
use Rattle.tall_part.proofs.joins.join_summaries.Goals as goal

pub returns : goal.returns
returns c r a cs ds p q = c.join.ensures r a cs ds p (subst (λ (x : EndPart). IsReductionOf r a ds x) c.in-Summary.is q)
