use Rattle.std.specs.Prelude.{◌≡◌, [], length}
use Rattle.std.proofs.Common.{sym, ap, ◌∙◌, rules}
use Rattle.tall_local.specs.Refusals.{bad_argument, stop_at}
use Rattle.tall_script.specs.Gathers as gathers
use Rattle.tall_script.specs.Statements as spec
use Rattle.tall_script.specs.Statements.{fails, set_names, then_do}
use Rattle.tall_environment.specs.Expressions.{found_at, values_at}
use Rattle.tall_statements.proofs.RunLaws.{count_at, ends_run, into_none, into_values, runs_as}
use Rattle.tall_statements.proofs.running.gather_into.Goals as goal

pub returns-in-None : goal.returns-in-None
returns-in-None g c = λ n last.
    let line = c.args.run.now.line in
    let shown = c.args.run.now.shown in
    let names = c.args.names.now in
    runs_as g.S.Shelf n (λ files f s. fails (stop_at line bad_argument) s) (λ files f s. spec.gather_into line shown names (found_at f c.args.given) s) c.args.environment.now c.args.environment.now c.args.shelf.now c.args.shelf.now c.end_refused.result
    (λ files f s. ap (λ o. spec.gather_into line shown names (found_at f o) s) (sym c.in-None.is))
    (ends_run g.S.Shelf n (λ f s. fails (stop_at line bad_argument) s) c.args.environment.now c.args.environment.now c.args.shelf.now c.end_refused.result last c.end_refused.ensures)

pub returns-then-names-len : goal.returns-then-names-len
returns-then-names-len g c = λ n last.
    let line = c.args.run.now.line in
    let shown = c.args.run.now.shown in
    let names = c.args.names.now in
    let vs = c.in-Some.values.items in
    let count : c.len.result ≡ length c.in-Some.values.items = search rules in
    runs_as g.S.Shelf n (λ files f s. then_do (gathers.gather_all line (values_at f vs) s) (λ found t. set_names shown names found [] t)) (λ files f s. spec.gather_into line shown names (found_at f c.args.given) s)
    c.args.environment.now c.gather_values.new.environment c.args.shelf.now c.gather_values.new.shelf c.gather_values.result
    (λ files f s.
    into_values line shown names (values_at f vs) s (c.if-names-len.true ∙ (count ∙ sym (count_at f vs)))
    ∙ ap (λ o. spec.gather_into line shown names (found_at f o) s) (sym c.in-Some.is))
    (c.gather_values.ensures n last)

pub returns-else-names-len : goal.returns-else-names-len
returns-else-names-len g c = λ n last.
    let line = c.args.run.now.line in
    let shown = c.args.run.now.shown in
    let names = c.args.names.now in
    let vs = c.in-Some.values.items in
    let count : c.len.result ≡ length c.in-Some.values.items = search rules in
    runs_as g.S.Shelf n (λ files f s. fails (stop_at line bad_argument) s) (λ files f s. spec.gather_into line shown names (found_at f c.args.given) s)
    c.args.environment.now c.args.environment.now c.args.shelf.now c.args.shelf.now c.end_refused-else-names-len.result
    (λ files f s.
    into_none line shown names (values_at f vs) s (λ e. c.if-names-len.false (e ∙ (count_at f vs ∙ sym count)))
    ∙ ap (λ o. spec.gather_into line shown names (found_at f o) s) (sym c.in-Some.is))
    (ends_run g.S.Shelf n (λ f s. fails (stop_at line bad_argument) s) c.args.environment.now c.args.environment.now c.args.shelf.now c.end_refused-else-names-len.result last c.end_refused-else-names-len.ensures)
