use Rattle.tall_environment.proofs.ArgumentLaws.{first_fits}
use Rattle.tall_environment.proofs.arguments.index_of.Goals as goal

pub returns-in-Given-clause-within : goal.returns-in-Given-clause-within
returns-in-Given-clause-within c = λ n fit.
    c.index_by.ensures.within n (first_fits n c.args.args.now c.first-item.result c.in-Given.rows c.in-len1-up.len_at_least c.first-item.is c.in-Given.is fit)
