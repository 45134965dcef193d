use Rattle.std.proofs.Common.{◌∙◌}
use Rattle.tall_num.proofs.Decimals.{whole_none, whole_some}
use Rattle.tall_num.proofs.size.is_whole.Goals as goal

pub returns-in-None : goal.returns-in-None
returns-in-None c = c.is_zero_from.ensures ∙ whole_none c.args.decimal.now c.in-None.ensures.point

pub returns-in-Some : goal.returns-in-Some
returns-in-Some c =
    c.is_zero_from-in-Some.ensures ∙ whole_some c.args.decimal.now c.in-Some.point c.in-Some.ensures.room c.in-Some.ensures.point
