use Rattle.std.proofs.Common.{List, length, map, rules, subst}
use Rattle.std.specs.Prelude.{IfOk}
use Rattle.tall_grammar.specs.Views.{arg_of, args_of}
use Rattle.tall_semantics.specs.Deferred.{Vertex}
use Rattle.tall_environment.specs.Expressions.{AreValues}
use Rattle.tall_expressions.proofs.GivenLaws.{found_tells, stopped_tells}
use Rattle.tall_expressions.proofs.expressions.values_given.Goals as goal

pub returns-in-Ok-clause-within : goal.returns-in-Ok-clause-within
returns-in-Ok-clause-within g c =
    subst (λ (vs : List Vertex). IfOk c.values_kept.result (λ found. AreValues (length vs) found)) (search rules) (c.values_kept.ensures.within (length c.evaluate_arguments.new.language.environment.now.graph) c.in-Ok.ensures.does.fits)

pub returns-in-Ok-clause-tells : goal.returns-in-Ok-clause-tells
returns-in-Ok-clause-tells g c =
    found_tells _ g.S.Shelf _ c.evaluate_arguments.new.language (args_of (map arg_of c.args.args.now)) _ _ (search rules) c.in-Ok.given c.values_kept.result c.in-Ok.ensures.does c.values_kept.ensures.given c.values_kept.ensures.memory

pub returns-in-Err-clause-tells : goal.returns-in-Err-clause-tells
returns-in-Err-clause-tells g c =
    stopped_tells _ g.S.Shelf _ c.evaluate_arguments.new.language (args_of (map arg_of c.args.args.now)) _ _ (search rules) c.in-Err.failure c.in-Err.ensures.does
