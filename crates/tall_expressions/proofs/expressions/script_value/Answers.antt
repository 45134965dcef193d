use Rattle.std.proofs.Common.{length, rules, subst}
use Rattle.tall_grammar.specs.Views.{tree_of}
use Rattle.tall_script.specs.ScriptLanguage as spec
use Rattle.tall_deferred.specs.Values.{IsValue, value_at}
use Rattle.tall_environment.specs.Expressions.{Tells, setting_in}
use Rattle.tall_expressions.proofs.AnswerLaws.{tells_all}
use Rattle.tall_expressions.proofs.expressions.script_value.Goals as goal

pub returns-clause-tells : goal.returns-clause-tells
returns-clause-tells g c =
    subst (λ x. Tells g.S.Shelf c.args.shelf.now value_at (λ files f s. spec.script_value (setting_in files c.args.functions.now) (tree_of c.args.e.now) s) c.args.environment.now x c.evaluate.result) (search rules)
    (tells_all g.S.Shelf _ c.evaluate.new.language (λ l v. IsValue (length l.environment.now.graph) v) value_at (λ setting s. spec.script_value setting (tree_of c.args.e.now) s) c.evaluate.result c.evaluate.ensures.does)
