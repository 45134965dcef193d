use Rattle.tall_script_rows.proofs.FromBytes.{demo_answered}
use Rattle.tall_script_rows.proofs.laws.the_demo_from_its_words.Goals as goal

pub returns : goal.returns
returns c = demo_answered
