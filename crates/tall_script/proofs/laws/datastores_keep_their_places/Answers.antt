use Rattle.tall_script.proofs.StoresKept.{run_follows}
use Rattle.tall_script.proofs.laws.datastores_keep_their_places.Goals as goal

pub returns : goal.returns
returns c = run_follows
