use Rattle.tall_script_calls.proofs.datastores.allow_told.Given as goal

abbrev pub ghost-allow : goal.ghost-allow
ghost-allow g a = g.more
