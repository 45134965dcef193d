use Rattle.std.proofs.Common.{subst}
use Rattle.tall_part.specs.declared.part.EndPart.{EndPart}
use Rattle.tall_part.specs.Parts.{IsGroupsOf}
use Rattle.tall_part.proofs.JoinLaws.{groups_joined}
use Rattle.tall_part.proofs.joins.join_groups.Goals as goal

pub returns : goal.returns
returns c m a b ks ds js ws p q few =
    groups_joined c.join.result m a b ks ds js ws c.args.first.now c.in-Groups.groups c.join.new.self p (subst (λ (x : EndPart). IsGroupsOf m a b js ws x) c.in-Groups.is q) few c.join.ensures.alike c.join.ensures.rows
