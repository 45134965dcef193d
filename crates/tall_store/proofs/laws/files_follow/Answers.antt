use Rattle.tall_store.proofs.FileLemmas.{files_follow}
use Rattle.tall_store.proofs.laws.files_follow.Goals as goal

pub returns : goal.returns
returns c = files_follow
