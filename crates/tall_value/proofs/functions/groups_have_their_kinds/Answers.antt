use Rattle.tall_value.proofs.GroupLaws.{summary_kind}
use Rattle.tall_value.proofs.functions.groups_have_their_kinds.Goals as goal

pub returns : goal.returns
returns c = summary_kind
