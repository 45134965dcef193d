use Rattle.std.proofs.Common.{subst}
use Rattle.tall_part.specs.declared.part.EndPart.{EndPart}
use Rattle.tall_part.specs.Parts.{IsDistinctOf}
use Rattle.tall_part.proofs.JoinLaws.{distinct_joined}
use Rattle.tall_part.proofs.joins.join_distinct.Goals as goal

pub returns : goal.returns
returns c a cs ds p q =
    distinct_joined c.join.result a cs ds c.args.first.now c.in-Distinct.cells c.join.new.self p (subst (λ (x : EndPart). IsDistinctOf a ds x) c.in-Distinct.is q) c.join.ensures.class c.join.ensures.cells
