use Rattle.tall_num.proofs.Decimals.{round_none, round_up, round_down}
use Rattle.tall_num.proofs.size.rounded.Goals as goal

pub returns-in-None : goal.returns-in-None
returns-in-None c = round_none c.args.decimal.now c.in-None.ensures.point

pub returns-then-digit_after-ge53 : goal.returns-then-digit_after-ge53
returns-then-digit_after-ge53 c =
    round_up c.args.decimal.now c.in-Some.point c.size_before-size.result c.digit_after.result c.min.result
    c.in-Some.ensures.room c.in-Some.ensures.point c.size_before-size.ensures c.digit_after.ensures
    c.if-digit_after-ge53.true c.min.ensures

pub returns-else-digit_after-ge53 : goal.returns-else-digit_after-ge53
returns-else-digit_after-ge53 c =
    round_down c.args.decimal.now c.in-Some.point c.size_before-size.result c.digit_after.result
    c.in-Some.ensures.room c.in-Some.ensures.point c.size_before-size.ensures c.digit_after.ensures
    c.if-digit_after-ge53.false
