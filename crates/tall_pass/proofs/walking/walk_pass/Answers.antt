use Rattle.tall_pass.proofs.walking.walk_pass.Goals as goal

pub walk_given-requires-clause-none : goal.walk_given-requires-clause-none
walk_given-requires-clause-none g c = record { rows = c.in-Ok.ensures.fit.0; fit = c.in-Ok.ensures.fit.1; sums = λ store p. c.in-Ok.ensures.start store c.args.all.now p }
