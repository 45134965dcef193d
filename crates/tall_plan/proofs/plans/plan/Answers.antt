use Rattle.std.specs.Prelude.{◌≡◌, ◌+◌, ◌++◌, refl, length}
use Rattle.std.proofs.Common.{rules, subst, ◌∙◌}
use Rattle.tall_semantics.specs.Passes.{passes_at}
use Rattle.tall_semantics.specs.Plans.{plan_of, stores_in, work_of}
use Rattle.tall_plan.specs.Seen.{passes_seen}
use Rattle.tall_plan.proofs.PlanLaws.{level_none, level_more, bounded, needed_there}
use Rattle.tall_plan.proofs.plans.plan.Goals as goal

pub loop-level-init : goal.loop-level-init
loop-level-init c = level_none c.args.graph.now c.args.roots.now c.in_ok-needed.needed.items c.new-passes.result.items c.new-passes.ensures.items

pub add_level-requires-clause-below : goal.add_level-requires-clause-below
add_level-requires-clause-below c = needed_there c.args.graph.now c.args.roots.now c.as_slice.result.now (c.as_slice.ensures.value ∙ c.in_ok-needed.ensures)

pub loop-level-preserved : goal.loop-level-preserved
loop-level-preserved c =
    let vs = c.args.graph.now in
    let passes = c.loop-level.passes.items in
    let others = c.add_level.new.passes.items in
    let l = c.loop-level.level + 1 in
    level_more vs c.args.roots.now c.in_ok-needed.needed.items passes others c.loop-level.level l refl c.loop-level.invariant
    (subst (λ ns. passes_seen others ≡ passes_seen passes ++ passes_at (work_of vs ns) l (stores_in vs)) c.as_slice.ensures.value c.in_ok-add_level.ensures.passes)
    c.in_ok-add_level.ensures.collected

pub returns-clause-bound : goal.returns-clause-bound
returns-clause-bound c =
    let e : passes_seen c.loop-level.passes.items ≡ plan_of c.args.graph.now c.args.roots.now = search rules in
    bounded c.args.graph.now c.keeps_its_rules.ensures.made c.args.roots.now c.requires (passes_seen c.loop-level.passes.items) e
