use Rattle.std.proofs.Common.{subst}
use Rattle.tall_part.specs.declared.part.EndPart.{EndPart}
use Rattle.tall_part.specs.Parts.{AreEndsOf}
use Rattle.tall_part.proofs.JoinLaws.{ends_joined}
use Rattle.tall_part.proofs.joins.join_ends.Goals as goal

pub returns : goal.returns
returns c last most a rs js p q =
    ends_joined c.join.result last most a rs js c.args.first.now c.in-Rows.ends c.join.new.self p (subst (λ (x : EndPart). AreEndsOf last most a js x) c.in-Rows.is q) c.join.ensures.ends
