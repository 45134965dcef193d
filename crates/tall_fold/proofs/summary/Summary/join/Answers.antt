use Rattle.std.proofs.Common.{arith, ap, sym, ◌∙◌, ◌≡◌}
use Rattle.tall_fold.specs.Summaries.{SeenSummary}
use Rattle.tall_fold.proofs.SummaryLemmas.{join_keeps, join_is}
use Rattle.tall_fold.proofs.summary.Summary.join.Goals as goal

pub invariant_of-self : goal.invariant_of-self
invariant_of-self c =
    let classes : c.later.inside.class ≡ c.self.inside.class = ap (λ (x : SeenSummary). x.class) c.later.view_is ∙ c.requires.class ∙ sym (ap (λ (x : SeenSummary). x.class) c.self.view_is) in
    let first : c.self.inside.rows ≡ c.args.self.now.rows = ap (λ (x : SeenSummary). x.rows) c.self.view_is in
    let second : c.later.inside.rows ≡ c.args.later.rows = ap (λ (x : SeenSummary). x.rows) c.later.view_is in
    let few = c.requires.few in
    join_keeps c.self.inside.operation c.later.inside.operation c.self.inside.class c.later.inside.class c.self.inside.rows c.later.inside.rows c.self.inside.kept c.later.inside.kept _
    classes (omega (arith, first, second, few)) c.self.invariant c.later.invariant c.joined-self-inside.ensures.form c.joined-self-inside.ensures.rows c.joined-self-inside.ensures.number

pub returns : goal.returns
returns c op class cs ds first second =
    join_is op class cs ds c.self.inside.operation c.later.inside.operation c.self.inside.class c.later.inside.class c.self.inside.rows c.later.inside.rows c.self.inside.kept c.later.inside.kept _
    _ _ c.self.view_is c.later.view_is c.joined-self-inside.ensures.comes first second
