use Rattle.tall_block.proofs.PassBlockLaws.{computed}
use Rattle.tall_block.proofs.laws.a_block_of_a_pass_can_be_computed.Goals as goal

pub returns : goal.returns
returns c = λ columns of_stores vs f store cut bs pass is_made n h b e g table scalars carries first work is.
    computed columns of_stores vs f store cut bs pass is_made n h b e g table scalars carries first work is
