use Rattle.std.specs.Prelude.{[]}
use Rattle.tall_script.specs.Gathers as gathers
use Rattle.tall_script.specs.Statements.{set_names}
use Rattle.tall_environment.specs.Expressions.{memories_at, values_at}
use Rattle.tall_statements.proofs.RunLaws.{names_on}
use Rattle.tall_statements.proofs.RunLaws.{ends_run, failed_runs, same_last, then_runs}
use Rattle.tall_statements.proofs.running.gather_values.Goals as goal

pub returns-in-Ok : goal.returns-in-Ok
returns-in-Ok g c = λ n last.
    let shown = c.args.run.now.shown in
    let names = c.args.names.now in
    let mid = c.gather_all.new.environment in
    let shelf = c.gather_all.new.shelf in
    then_runs g.S.Shelf n memories_at (λ files f s. gathers.gather_all c.args.run.now.line (values_at f c.args.values.items) s) (λ files f found t. set_names shown names found [] t) c.in-Ok.found
    c.args.environment.now mid c.end_named.new.environment c.args.shelf.now shelf shelf c.end_named.result c.in-Ok.ensures.moves c.in-Ok.ensures.tells
    (ends_run g.S.Shelf n (λ f t. set_names shown names (memories_at f c.in-Ok.found) [] t) mid c.end_named.new.environment shelf c.end_named.result (same_last n c.args.environment.now mid c.in-Ok.ensures.same last) c.end_named.ensures)

pub returns-in-Err : goal.returns-in-Err
returns-in-Err g c = λ n last.
    let shown = c.args.run.now.shown in
    let names = c.args.names.now in
    failed_runs g.S.Shelf n memories_at (λ files f s. gathers.gather_all c.args.run.now.line (values_at f c.args.values.items) s) (λ files f found t. set_names shown names found [] t) c.in-Err.failure
    c.args.environment.now c.gather_all.new.environment c.args.shelf.now c.gather_all.new.shelf c.in-Err.ensures.moves c.in-Err.ensures.tells c.in-Err.ensures.blames
    (λ files f found u. names_on shown names found u)
