use Rattle.std.specs.Prelude.{◌≡◌, ◌+◌, refl, None}
use Rattle.std.proofs.Common.{rules, subst}
use Rattle.tall_plan.specs.Marks.{IsNext}
use Rattle.tall_plan.proofs.PlanLaws.{added_none, added_more, added_all}
use Rattle.tall_plan.proofs.plans.add_level.Goals as goal

pub loop-store-init : goal.loop-store-init
loop-store-init c = added_none c.args.graph.now c.args.roots.now c.args.needed.now c.args.level c.args.passes.now.items c.requires.collected

pub loop-store-preserved : goal.loop-store-preserved
loop-store-preserved c =
    let is = c.in_ok-pass_over.ensures in
    added_more c.args.graph.now c.keeps_its_rules.ensures.made c.args.roots.now c.args.needed.now c.requires.roots c.requires.needed c.args.level
    c.args.passes.now.items c.loop-store.passes.items c.push.new.self.items c.loop-store.from c.in-Some.store (c.in-Some.store + 1) c.in_ok-pass_over.field-0 c.loop-store.invariant
    (subst (λ r. IsNext c.args.graph.now c.args.level c.loop-store.from c.args.needed.now r) c.in-Some.is c.next_store.ensures)
    (record { store = is.store; level = is.level; work = is.work; collect = is.collect }) c.in_ok-push.ensures.items refl

pub returns-clause-passes : goal.returns-clause-passes
returns-clause-passes c =
    let none : c.next_store.result ≡ None = search rules in
    added_all c.args.graph.now c.keeps_its_rules.ensures.made c.args.roots.now c.args.needed.now c.requires.roots c.requires.needed c.args.level
    c.args.passes.now.items c.loop-store.passes.items c.loop-store.from c.loop-store.invariant
    (subst (λ r. IsNext c.args.graph.now c.args.level c.loop-store.from c.args.needed.now r) none c.next_store.ensures)
