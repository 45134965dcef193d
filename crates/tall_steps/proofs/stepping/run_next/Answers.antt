use Rattle.std.proofs.Common.{◌≡◌, ◌∙◌, ◌+◌, ◌<◌, Global, drop, get_or, length, map, refl, ap, subst, sym}
use Rattle.std.specs.Prelude.{true, Ok, Err}
use Rattle.std.specs.List.{All}
use Rattle.tall_value.specs.Names.{are_distinct}
use Rattle.tall_store.specs.Stores.{SeenStore}
use Rattle.tall_grammar.specs.Views.{entry_of, routine_of}
use Rattle.tall_script.specs.Statements.{statement}
use Rattle.tall_environment.specs.Environments.{IsLast}
use Rattle.tall_statements.specs.Answers.{TellsDone}
use Rattle.tall_steps.specs.Sessions.{AreInOrder, SeenSession, left_in}
use Rattle.tall_steps.specs.Steps.{RunsNext}
use Rattle.tall_steps.specs.contracts.session.Session.{the_view}
use Rattle.tall_steps.proofs.Numbering.{may_run, next_left}
use Rattle.tall_steps.proofs.StatementSteps.{distinct_in, is_within, ran_failed, ran_text}
use Rattle.tall_steps.proofs.stepping.run_next.Goals as goal

pub statement-ran-requires-clause-order : goal.statement-ran-requires-clause-order
statement-ran-requires-clause-order g c κs within =
    let xs = c.session.inside.script.statements in
    let x = c.index-as_slice-session.result in
    let here : c.session.inside.place < length xs = is_within entry_of c.session.inside.place xs c.requires.next.0 c.requires.next.1 (ap left_in c.session.view_is ∙ c.requires.next.2) in
    let is : x ≡ get_or xs c.session.inside.place x = subst (λ ys. x ≡ get_or ys c.session.inside.place x) c.as_slice.ensures c.index-as_slice-session.is in
    (may_run xs c.session.inside.place x c.session.inside.environment c.session.inside.after here is (c.session.invariant.ready (ap (λ (s : SeenSession). s.has_ended) c.session.view_is ∙ c.requires.runs))).0

pub invariant_of-session : goal.invariant_of-session
invariant_of-session g c =
    let xs = c.session.inside.script.statements in
    let x = c.index-as_slice-session.result in
    let here : c.session.inside.place < length xs = is_within entry_of c.session.inside.place xs c.requires.next.0 c.requires.next.1 (ap left_in c.session.view_is ∙ c.requires.next.2) in
    let is : x ≡ get_or xs c.session.inside.place x = subst (λ ys. x ≡ get_or ys c.session.inside.place x) c.as_slice.ensures c.index-as_slice-session.is in
    record {
      some = c.session.invariant.some;
      few = c.session.invariant.few;
      ready = λ runs. record {
        last = subst (λ n. IsLast n c.statement-ran.new.environment) (sym c.last_of-last.ensures) c.in-Ok.ensures.last;
        order = subst (λ n. AreInOrder n (drop (c.session.inside.place + 1) (map entry_of xs))) (sym c.last_of-last.ensures)
            (may_run xs c.session.inside.place x c.session.inside.environment c.session.inside.after here is (c.session.invariant.ready runs)).1;
      };
    }

pub returns-in-Ok : goal.returns-in-Ok
returns-in-Ok g c =
    let xs = c.session.inside.script.statements in
    let x = c.index-as_slice-session.result in
    let here : c.session.inside.place < length xs = is_within entry_of c.session.inside.place xs c.requires.next.0 c.requires.next.1 (ap left_in c.session.view_is ∙ c.requires.next.2) in
    let is : x ≡ get_or xs c.session.inside.place x = subst (λ ys. x ≡ get_or ys c.session.inside.place x) c.as_slice.ensures c.index-as_slice-session.is in
    let new : SeenSession = record { script = c.session.inside.script; place = c.session.inside.place + 1; has_ended = c.session.inside.has_ended; environment = c.statement-ran.new.environment } in
    subst (λ o. RunsNext {Z = Global} g.S.Shelf o new c.args.shelf.now c.statement-ran.new.shelf (Ok c.in-Ok.text)) c.session.view_is
    (ran_text g.S.Shelf c.args.shelf.now c.statement-ran.new.shelf (the_view c.session.inside) new (entry_of x) (drop (c.session.inside.place + 1) (map entry_of xs)) c.statement-ran.result
    (next_left entry_of xs c.session.inside.place x here is) refl c.statement-ran.ensures.goes (distinct_in c.session.inside.environment.stores (subst (All (λ (d : SeenStore). are_distinct d.files ≡ true)) c.stores.ensures c.list_no_file_twice.ensures)) c.has_a_sense.ensures
    (subst (λ fs. TellsDone g.S.Shelf c.args.shelf.now (λ files t. statement (record { files = files; functions = map routine_of fs }) (entry_of x) t) c.session.inside.environment c.statement-ran.new.environment c.statement-ran.result)
    c.as_slice-2.ensures c.statement-ran.ensures.tells)
    c.statement-ran.ensures.still c.in-Ok.text c.in-Ok.is refl refl)

pub returns-in-Err : goal.returns-in-Err
returns-in-Err g c =
    let xs = c.session.inside.script.statements in
    let x = c.index-as_slice-session.result in
    let here : c.session.inside.place < length xs = is_within entry_of c.session.inside.place xs c.requires.next.0 c.requires.next.1 (ap left_in c.session.view_is ∙ c.requires.next.2) in
    let is : x ≡ get_or xs c.session.inside.place x = subst (λ ys. x ≡ get_or ys c.session.inside.place x) c.as_slice.ensures c.index-as_slice-session.is in
    let new : SeenSession = record { script = c.session.inside.script; place = c.session.inside.place; has_ended = true; environment = c.statement-ran.new.environment } in
    subst (λ o. RunsNext {Z = Global} g.S.Shelf o new c.args.shelf.now c.statement-ran.new.shelf (Err c.ending_at.result)) c.session.view_is
    (ran_failed g.S.Shelf c.args.shelf.now c.statement-ran.new.shelf (the_view c.session.inside) new (entry_of x) (drop (c.session.inside.place + 1) (map entry_of xs)) c.statement-ran.result
    (next_left entry_of xs c.session.inside.place x here is) refl c.statement-ran.ensures.goes (distinct_in c.session.inside.environment.stores (subst (All (λ (d : SeenStore). are_distinct d.files ≡ true)) c.stores.ensures c.list_no_file_twice.ensures)) c.has_a_sense.ensures
    (subst (λ fs. TellsDone g.S.Shelf c.args.shelf.now (λ files t. statement (record { files = files; functions = map routine_of fs }) (entry_of x) t) c.session.inside.environment c.statement-ran.new.environment c.statement-ran.result)
    c.as_slice-2.ensures c.statement-ran.ensures.tells)
    c.statement-ran.ensures.still c.in-Err.failure c.ending_at.result c.in-Err.is refl c.ending_at.ensures c.in-Err.ensures.blames)
