use Rattle.tall_num.proofs.Plain.{plain_read}
use Rattle.tall_num.proofs.read.plain_number.Goals as goal

pub returns : goal.returns
returns c = plain_read c.args.text.now _ _ _ c.signed-negative.ensures.minus c.signed-negative.ensures.rest c.in_ok-size.ensures
