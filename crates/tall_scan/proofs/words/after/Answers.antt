use Rattle.tall_scan.proofs.Bits.{shifted}
use Rattle.tall_scan.proofs.words.after.Goals as goal

pub returns : goal.returns
returns c small k h = shifted c.args.word c.args.carry k small h
