use Rattle.tall_part.proofs.NextCarryLaws.{kept_next, lost_next}
use Rattle.tall_part.proofs.next_carry.NextCarry.cell.Goals as goal

pub returns-then-self : goal.returns-then-self
returns-then-self c s class blocks is next rest = lost_next s class blocks c.args.self.now c.if-self.true is next rest

pub returns-else-self : goal.returns-else-self
returns-else-self c s class blocks is next rest = kept_next s class blocks c.args.self.now c.cell.result c.if-self.false is c.cell.ensures next rest
