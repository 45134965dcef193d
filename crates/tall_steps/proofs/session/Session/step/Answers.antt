use Rattle.std.proofs.Common.{◌∙◌, ◌≡◌, ◌∷◌, ◌<◌, ap, length, rules, sym}
use Rattle.tall_grammar.specs.Views.{entry_of}
use Rattle.tall_steps.specs.Sessions.{SeenSession, left_in}
use Rattle.tall_steps.proofs.Numbering.{some_left}
use Rattle.tall_steps.proofs.StatementSteps.{sense_of}
use Rattle.tall_steps.proofs.session.Session.step.Goals as goal

pub returns-then-self-clause-some : goal.returns-then-self-clause-some
returns-then-self-clause-some g c = λ files.
    let h = c.has_a_sense.ensures files in
    sense_of files c.self.inside.environment c.args.self.now.environment (ap (λ (s : SeenSession). s.environment) c.self.view_is) h.0 h.1 h.2

pub returns-then-self-as_slice-clause-some :
    goal.returns-then-self-as_slice-clause-some
returns-then-self-as_slice-clause-some g c = λ files.
    let h = c.has_a_sense.ensures files in
    sense_of files c.self.inside.environment c.args.self.now.environment (ap (λ (s : SeenSession). s.environment) c.self.view_is) h.0 h.1 h.2

pub run_next-requires-clause-next : goal.run_next-requires-clause-next
run_next-requires-clause-next g c κs within =
    let here : c.self.inside.place < length c.self.inside.script.statements = search rules in
    let some = some_left entry_of c.self.inside.script.statements c.self.inside.place here in
    (some.0, some.1, sym (ap left_in c.self.view_is) ∙ some.2)

pub returns-in-Err-clause-finished : goal.returns-in-Err-clause-finished
returns-in-Err-clause-finished g c = λ runs none.
    let here : c.self.inside.place < length c.self.inside.script.statements = search rules in
    let some = some_left entry_of c.self.inside.script.statements c.self.inside.place here in
    let over : left_in c.args.self.now ≡ some.0 ∷ some.1 = sym (ap left_in c.self.view_is) ∙ some.2 in
    absurd cc
