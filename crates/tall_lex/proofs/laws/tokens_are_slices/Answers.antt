use Rattle.tall_lex.proofs.Slices.{slices}
use Rattle.tall_lex.proofs.laws.tokens_are_slices.Goals as goal

pub returns : goal.returns
returns c = slices
