use Rattle.std.proofs.Common.{Some, sym, subst}
use Rattle.tall_evaluate.specs.Senses.{argument_seen}
use Rattle.tall_deferred.specs.Values.{value_at}
use Rattle.tall_script_calls.specs.Reductions.{Accepts, reduced_by}
use Rattle.tall_script_calls.proofs.reducing.reduced_by.Goals as goal

pub returns-in-Given-clause-accepts : goal.returns-in-Given-clause-accepts
returns-in-Given-clause-accepts c f =
    subst (λ a. Accepts (reduced_by (argument_seen (value_at f) a) (Some (c.args.map.now, c.args.reduce.now))) c.reduced_value.result) (sym c.in-Given.is) (c.reduced_value.ensures.accepts f)
