use Rattle.std.proofs.Common.{sym, ap, subst, ◌∙◌}
use Rattle.std.specs.Prelude.{option_map}
use Rattle.tall_value.specs.Cells.{seen}
use Rattle.tall_deferred.specs.Answers.{Comes}
use Rattle.tall_deferred.specs.Values.{value_at}
use Rattle.tall_expressions.proofs.AnswerLaws.{constant_is}
use Rattle.tall_expressions.proofs.lookups.constant.Goals as goal

pub returns-in-Some-clause-given : goal.returns-in-Some-clause-given
returns-in-Some-clause-given c = λ f.
    subst (λ w. Comes (value_at f) w c.scalar.result) (constant_is c.args.name.now (seen c.in-Some.c) (ap (option_map seen) (sym c.in-Some.is) ∙ c.constant_named.ensures)) (c.scalar.ensures.given f)
