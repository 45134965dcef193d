use Rattle.std.proofs.Common.{◌∙◌}
use Rattle.tall_part.proofs.NextCarryLaws.{block_joined, lost_now, none_is}
use Rattle.tall_part.proofs.next_carry.NextCarry.join.Goals as goal

pub returns : goal.returns
returns c s class blocks cs is block few =
    record {
      so_far = block_joined s class blocks cs c.args.self.now.so_far c.args.block c.join-self.result is.so_far block c.join-self.ensures;
      lost = none_is c.is_none-missing.result c.cell.result c.is_none-missing.ensures ∙ lost_now s class blocks cs c.cell.result (c.cell.ensures s class blocks is);
    }
