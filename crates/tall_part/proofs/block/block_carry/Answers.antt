use Rattle.tall_part.proofs.NextCarryLaws.{kinds_of_column}
use Rattle.tall_part.proofs.block.block_carry.Goals as goal

pub returns : goal.returns
returns c =
    record {
      result_class = c.carry.ensures.class;
      carry = c.carry.ensures.carry;
      kinds = kinds_of_column c.args.column.now c.values-values.result.now c.values-values.ensures;
    }
