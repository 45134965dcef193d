use Rattle.std.proofs.Common.{[], ◌∷◌}
use Rattle.tall_script_calls.specs.Reductions.{files_at}
use Rattle.tall_script_calls.proofs.reducing.reduce_with.Given as goal

-- the files of the datastore, once
abbrev pub ghost-allow : goal.ghost-allow
ghost-allow g a = (files_at a.self.now.stores a.told_by.now, 1) ∷ []
