use Rattle.std.specs.Prelude.{false, map}
use Rattle.tall_grammar.specs.Trees as trees
use Rattle.tall_grammar.specs.Views.{arg_of, args_of}
use Rattle.tall_local.specs.Expressions.{arguments}
use Rattle.tall_script.specs.ScriptLanguage.{script_language}
use Rattle.tall_script.specs.Statements as spec
use Rattle.tall_script.specs.Statements.{body, then_do}
use Rattle.tall_evaluate.specs.Orders.{last_number}
use Rattle.tall_environment.specs.Expressions.{found_at, given_values, setting_in}
use Rattle.tall_statements.proofs.RunLaws.{failed_runs, given_is, into_open, runs_as, then_runs}
use Rattle.tall_statements.proofs.running.gathered.Goals as goal

pub returns-in-Ok : goal.returns-in-Ok
returns-in-Ok g c =
    let line = c.args.run.now.line in
    let shown = c.args.run.now.shown in
    let names = c.args.names.now in
    let args = args_of (map arg_of c.args.args.now) in
    let n = last_number c.args.run.now.after args in
    runs_as g.S.Shelf n (λ files f s. then_do (given_values (setting_in files c.args.run.now.functions.now) args s) (λ vs t. spec.gather_into line shown names vs t)) (λ files f s. body (setting_in files c.args.run.now.functions.now) line shown (trees.gathered names args) s)
    c.args.environment.now c.gather_into.new.environment c.args.shelf.now c.gather_into.new.shelf c.gather_into.result
    (λ files f s. given_is (arguments (script_language (setting_in files c.args.run.now.functions.now)) args false s) (λ vs t. spec.gather_into line shown names vs t))
    (then_runs g.S.Shelf n found_at (λ files f s. given_values (setting_in files c.args.run.now.functions.now) args s) (λ files f vs t. spec.gather_into line shown names vs t) c.in-Ok.given
    c.args.environment.now c.values_given-given.new.environment c.gather_into.new.environment c.args.shelf.now c.values_given-given.new.shelf c.gather_into.new.shelf c.gather_into.result c.in-Ok.ensures.moves c.in-Ok.ensures.tells
    (c.gather_into.ensures n c.in-Ok.ensures.last))

pub returns-in-Err : goal.returns-in-Err
returns-in-Err g c =
    let line = c.args.run.now.line in
    let shown = c.args.run.now.shown in
    let names = c.args.names.now in
    let args = args_of (map arg_of c.args.args.now) in
    let n = last_number c.args.run.now.after args in
    runs_as g.S.Shelf n (λ files f s. then_do (given_values (setting_in files c.args.run.now.functions.now) args s) (λ vs t. spec.gather_into line shown names vs t)) (λ files f s. body (setting_in files c.args.run.now.functions.now) line shown (trees.gathered names args) s)
    c.args.environment.now c.values_given-given.new.environment c.args.shelf.now c.values_given-given.new.shelf _
    (λ files f s. given_is (arguments (script_language (setting_in files c.args.run.now.functions.now)) args false s) (λ vs t. spec.gather_into line shown names vs t))
    (failed_runs g.S.Shelf n found_at (λ files f s. given_values (setting_in files c.args.run.now.functions.now) args s) (λ files f vs t. spec.gather_into line shown names vs t) c.in-Err.failure
    c.args.environment.now c.values_given-given.new.environment c.args.shelf.now c.values_given-given.new.shelf c.in-Err.ensures.moves c.in-Err.ensures.tells c.in-Err.ensures.blames
    (λ files f vs u. into_open line shown names vs u))
