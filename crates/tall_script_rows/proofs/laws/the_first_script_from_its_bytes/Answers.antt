use Rattle.tall_script_rows.proofs.FromBytes.{first_answer}
use Rattle.tall_script_rows.proofs.laws.the_first_script_from_its_bytes.Goals as goal

pub returns : goal.returns
returns c = first_answer
