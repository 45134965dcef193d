use Rattle.std.proofs.Common.{◌∙◌, subst, sym}
use Rattle.std.specs.Prelude.{option_map}
use Rattle.tall_semantics.specs.Faults.{fault_seen}
use Rattle.tall_pass.specs.Finished.{Covers}
use Rattle.tall_pass.proofs.AnswerLaws.{tells_done}
use Rattle.tall_pass.proofs.CoverLaws.{covers}
use Rattle.tall_pass.proofs.pass.run_pass.Goals as goal

pub returns-in-Ok-finished-clause-adds : goal.returns-in-Ok-finished-clause-adds
returns-in-Ok-finished-clause-adds g c =
    let vs = c.args.graph.now in
    let pass = c.args.pass.now in
    let ready = c.requires.ready in
    let covered = covers vs pass (ready.0, ready.1, ready.2.planned) c.in-Ok.work.wanted.items c.in-Ok.ensures.results in
    c.in-Ok-finished.ensures.adds pass (subst (Covers vs pass) (sym c.as_slice-wanted.ensures.value) covered)

pub returns-in-Ok-finished-clause-told : goal.returns-in-Ok-finished-clause-told
returns-in-Ok-finished-clause-told g c = λ files held stores d columns f roots candidate given.
    let vs = c.args.graph.now in
    let pass = c.args.pass.now in
    let store = c.args.store.now in
    let ready = c.requires.ready in
    let covered = covers vs pass (ready.0, ready.1, ready.2.planned) c.in-Ok.work.wanted.items c.in-Ok.ensures.results in
    let walked = c.in-Ok-walk_pass.ensures.told files held in
    tells_done files stores d columns vs f roots candidate pass store c.args.known.now c.finished.new.known c.args.counts.now c.as_slice-all.result.now c.as_slice-wanted.result.now c.in-Ok-walk_pass.walked.sums
    (option_map fault_seen c.in-Ok-finished.fault) given c.keeps_its_rules.ensures.made c.keeps_its_rules.ensures.numbered c.file_count-files.ensures.store ready c.requires.fit c.requires.store
    (c.as_slice-all.ensures.value ∙ c.in-Ok.ensures.all) (c.as_slice-wanted.ensures.value ∙ c.in-Ok.ensures.wanted) (subst (Covers vs pass) (sym c.as_slice-wanted.ensures.value) covered) walked.0 walked.1
    c.in-Ok-finished.ensures.told

pub returns-in-Ok-finished-clause-right : goal.returns-in-Ok-finished-clause-right
returns-in-Ok-finished-clause-right g c = λ files held counted. (c.in-Ok-walk_pass.ensures.told files held).2 counted

pub returns-in-Ok-walk_pass-clause-right : goal.returns-in-Ok-walk_pass-clause-right
returns-in-Ok-walk_pass-clause-right g c = λ files held counted. (c.in-Ok-walk_pass.ensures.told files held).2 counted
