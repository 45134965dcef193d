use Rattle.tall_grammar.specs.Views.{tree_of}
use Rattle.tall_script.specs.ScriptLanguage as language
use Rattle.tall_script.specs.ScriptLanguage.{read_name}
use Rattle.tall_script.specs.Statements as spec
use Rattle.tall_evaluate.specs.Orders.{first_number, own_number}
use Rattle.tall_deferred.specs.Values.{value_at}
use Rattle.tall_environment.specs.Expressions.{setting_in}
use Rattle.tall_statements.proofs.EndLaws.{alone_opens}
use Rattle.tall_environment.specs.NumberLaws.{last_is_next}
use Rattle.tall_statements.proofs.RunLaws.{ends_run, failed_runs, then_runs}
use Rattle.tall_statements.proofs.running.bare.Goals as goal

pub script_value-requires-clause-next : goal.script_value-requires-clause-next
script_value-requires-clause-next g c κs within = last_is_next c.args.run.now.after (first_number (tree_of c.args.e.now)) c.args.environment.now c.requires.last c.requires.first

pub returns-in-Ok-clause-runs : goal.returns-in-Ok-clause-runs
returns-in-Ok-clause-runs g c =
    let e = tree_of c.args.e.now in
    let n = own_number e in
    let mid = c.script_value.new.environment in
    let shelf = c.script_value.new.shelf in
    then_runs g.S.Shelf n value_at (λ files f s. language.script_value (setting_in files c.args.run.now.functions.now) e s) (λ files f v t. spec.alone c.args.run.now.shown e v t) c.in-Ok.value
    c.args.environment.now mid c.end_alone.new.environment c.args.shelf.now shelf shelf c.end_alone.result c.in-Ok.ensures.moves c.in-Ok.ensures.tells
    (ends_run g.S.Shelf n (λ f t. spec.alone c.args.run.now.shown e (value_at f c.in-Ok.value) t) mid c.end_alone.new.environment shelf c.end_alone.result c.in-Ok.ensures.last c.end_alone.ensures)

pub returns-in-Err-clause-runs : goal.returns-in-Err-clause-runs
returns-in-Err-clause-runs g c =
    let e = tree_of c.args.e.now in
    failed_runs g.S.Shelf (own_number e) value_at (λ files f s. language.script_value (setting_in files c.args.run.now.functions.now) e s) (λ files f v t. spec.alone c.args.run.now.shown e v t) c.in-Err.failure
    c.args.environment.now c.script_value.new.environment c.args.shelf.now c.script_value.new.shelf c.in-Err.ensures.moves c.in-Err.ensures.tells c.in-Err.ensures.blames
    (λ files f v u. alone_opens c.args.run.now.shown e v u)
