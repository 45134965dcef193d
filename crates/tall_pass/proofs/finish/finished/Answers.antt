use Rattle.std.specs.Prelude.{◌≡◌, option_map}
use Rattle.std.proofs.Common.{ap, ◌∙◌}
use Rattle.tall_semantics.specs.Faults.{earlier, fault_seen, least_fault}
use Rattle.tall_pass.specs.Endings.{faults_at_end}
use Rattle.tall_pass.proofs.EndingListLaws.{all_there}
use Rattle.tall_pass.proofs.FinishedLaws.{IsAdded, adding_at}
use Rattle.tall_pass.proofs.ToldLaws.{told_at}
use Rattle.tall_pass.proofs.finish.finished.Goals as goal

pub all_endings-requires-clause-fit : goal.all_endings-requires-clause-fit
all_endings-requires-clause-fit c = (c.args.sums.rows, c.requires.fit, c.requires.few)

pub put_all-requires : goal.put_all-requires
put_all-requires c = all_there c.args.graph.now (option_map fault_seen c.args.sums.fault) c.args.wanted.now c.args.sums.sums.items c.in_ok-endings.endings.items c.requires.ways c.in_ok-endings.ensures

pub returns-clause-adds : goal.returns-clause-adds
returns-clause-adds c =
    let answer : option_map fault_seen c.earlier-answer.result ≡ earlier (option_map fault_seen c.args.sums.fault) (least_fault (faults_at_end c.in_ok-endings.endings.items)) =
    c.earlier-answer.ensures ∙ ap (earlier (option_map fault_seen c.args.sums.fault)) (c.least_fault.ensures ∙ ap (λ xs. least_fault (faults_at_end xs)) c.as_slice.ensures.value) in
    let added : IsAdded c.args.graph.now (option_map fault_seen c.earlier-answer.result) c.in_ok-endings.endings.items c.new-found.result c.put_all.new.known c.args.known.now c.join.new.self =
    record { puts = c.in_ok-put_all.ensures; no_result = c.new-found.ensures.found; no_carry = c.new-found.ensures.carry; results = c.in_ok-join.ensures.found; carries = c.in_ok-join.ensures.carry } in
    adding_at c.args.graph.now (option_map fault_seen c.args.sums.fault) (option_map fault_seen c.earlier-answer.result) c.args.wanted.now c.args.sums.sums.items c.in_ok-endings.endings.items c.in_ok-endings.ensures c.new-found.result c.put_all.new.known c.args.known.now
    c.join.new.self answer added

pub returns-clause-told : goal.returns-clause-told
returns-clause-told c =
    let answer : option_map fault_seen c.earlier-answer.result ≡ earlier (option_map fault_seen c.args.sums.fault) (least_fault (faults_at_end c.in_ok-endings.endings.items)) =
    c.earlier-answer.ensures ∙ ap (earlier (option_map fault_seen c.args.sums.fault)) (c.least_fault.ensures ∙ ap (λ xs. least_fault (faults_at_end xs)) c.as_slice.ensures.value) in
    let added : IsAdded c.args.graph.now (option_map fault_seen c.earlier-answer.result) c.in_ok-endings.endings.items c.new-found.result c.put_all.new.known c.args.known.now c.join.new.self =
    record { puts = c.in_ok-put_all.ensures; no_result = c.new-found.ensures.found; no_carry = c.new-found.ensures.carry; results = c.in_ok-join.ensures.found; carries = c.in_ok-join.ensures.carry } in
    told_at c.args.graph.now c.keeps_its_rules.ensures.made (option_map fault_seen c.args.sums.fault) (option_map fault_seen c.earlier-answer.result) c.args.wanted.now c.args.sums.sums.items c.in_ok-endings.endings.items c.in_ok-endings.ensures c.args.sums.rows
    c.new-found.result c.put_all.new.known c.args.known.now c.join.new.self answer added
