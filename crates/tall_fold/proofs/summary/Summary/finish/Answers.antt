use Rattle.std.proofs.Common.{ap, ◌∙◌, ◌≡◌, Ok, Err}
use Rattle.tall_value.specs.Classes.{kind_of}
use Rattle.tall_dense.specs.Columns.{SeenColumn}
use Rattle.tall_fold.specs.Summaries.{SeenSummary}
use Rattle.tall_fold.proofs.SummaryLemmas.{kept_of_summary, found_here, finished, not_found}
use Rattle.tall_fold.proofs.summary.Summary.finish.Goals as goal

pub returns-in-Ok-push : goal.returns-in-Ok-push
returns-in-Ok-push c op class cs is =
    let kept = kept_of_summary op class cs c.self.inside.operation c.self.inside.class c.self.inside.rows c.self.inside.kept c.args.self c.self.view_is c.self.invariant is in
    let kind : c.kind.result ≡ kind_of class = c.kind.ensures ∙ ap kind_of (ap (λ (s : SeenSummary). s.class) c.self.view_is ∙ is.class_is) in
    let found = found_here op class cs c.self.inside.kept c.kind.result (Ok c.in-Ok.cell) kind is.takes c.in-Ok.ensures kept in
    finished op class cs c.in-Ok.cell c.push.new.self c.new-column.result is.takes is.cells found (ap (λ (k : SeenColumn). k.cells) c.new-column.ensures) (ap (λ (k : SeenColumn). k.class) c.new-column.ensures ∙ c.class.ensures) c.in-Ok-push.ensures

pub returns-in-Err : goal.returns-in-Err
returns-in-Err c op class cs is =
    let kept = kept_of_summary op class cs c.self.inside.operation c.self.inside.class c.self.inside.rows c.self.inside.kept c.args.self c.self.view_is c.self.invariant is in
    let kind : c.kind.result ≡ kind_of class = c.kind.ensures ∙ ap kind_of (ap (λ (s : SeenSummary). s.class) c.self.view_is ∙ is.class_is) in
    not_found op class cs c.in-Err.fault (found_here op class cs c.self.inside.kept c.kind.result (Err c.in-Err.fault) kind is.takes c.in-Err.ensures kept)
