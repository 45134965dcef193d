use Rattle.std.specs.Prelude.{refl}
use Rattle.std.proofs.Common.{sym}
use Rattle.tall_graph.proofs.LookUpLaws.{text_found, text_new, text_grows}
use Rattle.tall_graph.proofs.tables.text_number.Goals as goal

pub returns-in-Some-clause-number : goal.returns-in-Some-clause-number
returns-in-Some-clause-number c = text_found _ c.args.text.now (λ k. refl) c.args.texts.now.keys c.in-Some.number (sym c.in-Some.ensures.index)

pub returns-in_ok-number-in-None-clause-number : goal.returns-in_ok-number-in-None-clause-number
returns-in_ok-number-in-None-clause-number c =
    let e = c.in_ok-number-in-None.ensures in
    let stored = e.stored in
    text_new c.args.texts.now.keys c.in_ok-kept-in-None.kept c.insert_full.new.self.keys c.in_ok-number-in-None.number stored.0 c.args.text.now
    c.in_ok-kept-in-None.ensures.ok e.keys e.index stored.1 stored.2

pub returns-in_ok-number-in-None-clause-grows : goal.returns-in_ok-number-in-None-clause-grows
returns-in_ok-number-in-None-clause-grows c = text_grows c.args.texts.now.keys c.in_ok-kept-in-None.kept c.insert_full.new.self.keys c.in_ok-number-in-None.ensures.keys
