use Rattle.tall_environment.proofs.environment.Environment.allow.Given as goal

-- the same more
abbrev pub ghost-and : goal.ghost-and
ghost-and g a = g.more
