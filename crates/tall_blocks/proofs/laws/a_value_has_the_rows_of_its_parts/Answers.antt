use Rattle.tall_blocks.proofs.BlockLaws.{split_at}
use Rattle.tall_blocks.proofs.SeenLaws.{value_parts}
use Rattle.tall_blocks.proofs.laws.a_value_has_the_rows_of_its_parts.Goals as goal

pub returns : goal.returns
returns c vs f cut b bs so_far h g k ordered can over over_block over_rest even i v e is_cut none =
    value_parts over over_block over_rest ordered can even (split_at vs f cut ordered can b bs so_far g) i v e is_cut none
