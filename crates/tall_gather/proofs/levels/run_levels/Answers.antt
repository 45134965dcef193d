use Rattle.std.specs.Prelude.{◌≡◌, ◌*◌, ◌+◌}
use Rattle.std.proofs.Common.{sym, subst, ◌∙◌, arith}
use Rattle.tall_gather.specs.Candidates.{seen}
use Rattle.tall_gather.specs.Going.{Went, level_openings, levels_openings}
use Rattle.tall_gather.specs.Told.{Holds}
use Rattle.tall_gather.proofs.GoingLaws.{caused_before, went_then, went_within}
use Rattle.tall_gather.proofs.LevelSteps.{nothing_after, nothing_holds}
use Rattle.tall_gather.proofs.LevelsLoop.{levels_first, levels_within, one_more, rank_below}
use Rattle.tall_gather.proofs.levels.run_levels.Goals as goal

pub rest_level-requires-clause-after : goal.rest_level-requires-clause-after
rest_level-requires-clause-after g c =
    let rules_of = c.keeps_its_rules.ensures in
    nothing_after c.args.graph.now rules_of.made rules_of.ordered rules_of.numbered rules_of.solved c.args.roots.now c.requires.planned.there c.args.known.now c.requires.unknown

pub loop-below-init : goal.loop-below-init
loop-below-init g c =
    let rules_of = c.keeps_its_rules.ensures in
    levels_first g.S.Shelf c.args.stores.now c.args.graph.now c.args.roots.now c.args.passes.now c.args.shelf.now c.args.counts.now.items c.args.known.now c.rest_level.new.known c.in-Ok.candidate c.requires.files c.in-Ok.ensures.after c.in-Ok.ensures.of_data
    (λ files list columns f told counted. c.in-Ok.ensures.told files c.args.stores.now c.args.counts.now.items list columns f told (nothing_holds columns c.args.graph.now f rules_of.made rules_of.ordered rules_of.numbered c.args.roots.now c.requires.planned.there c.args.known.now c.requires.unknown files list c.args.stores.now c.args.counts.now.items told counted))

pub returns-in-Err-clause-went : goal.returns-in-Err-clause-went
returns-in-Err-clause-went g c =
    went_within g.S.Shelf (λ name. levels_openings c.args.stores.now c.loop-below.below c.args.passes.now name + level_openings c.args.stores.now (c.loop-below.below + 1) c.args.passes.now name) (levels_openings c.args.stores.now c.args.greatest c.args.passes.now) c.args.shelf.now c.step_level.new.shelf
    (λ name. levels_within c.args.stores.now c.args.passes.now c.loop-below.below c.args.greatest name c.loop-below-test.true)
    (went_then g.S.Shelf (levels_openings c.args.stores.now c.loop-below.below c.args.passes.now) (level_openings c.args.stores.now (c.loop-below.below + 1) c.args.passes.now) c.args.shelf.now c.loop-below.shelf c.step_level.new.shelf c.loop-below.invariant.went c.in-Err.ensures.went)

pub returns-in-Err-clause-answered : goal.returns-in-Err-clause-answered
returns-in-Err-clause-answered g c = caused_before g.S.Shelf c.args.stores.now c.in-Err.end (levels_openings c.args.stores.now c.loop-below.below c.args.passes.now) c.args.shelf.now c.loop-below.shelf c.step_level.new.shelf c.loop-below.invariant.went c.in-Err.ensures.answered

pub returns-in-Err-clause-told : goal.returns-in-Err-clause-told
returns-in-Err-clause-told g c files e list columns f told counted =
    let so = c.loop-below.invariant in
    c.in-Err.ensures.told files (so.went.held ∙ e) list columns f told
    (subst (λ r. Holds files list c.args.graph.now f c.args.roots.now c.args.stores.now r (seen c.loop-below.candidate) c.loop-below.known c.loop-below.counts.items) (sym (rank_below c.loop-below.below)) (so.told files e list columns f told counted))

pub loop-below-preserved : goal.loop-below-preserved
loop-below-preserved g c =
    one_more g.S.Shelf c.args.stores.now c.args.graph.now c.args.roots.now c.args.passes.now c.args.shelf.now c.args.counts.now.items c.loop-below.below c.loop-below.shelf c.step_level.new.shelf c.loop-below.known c.step_level.new.known c.loop-below.counts.items c.step_level.new.counts.items c.loop-below.candidate c.in-Ok-step_level.next
    c.loop-below.invariant c.in-Ok-step_level.ensures.files c.in-Ok-step_level.ensures.after c.in-Ok-step_level.ensures.went c.in-Ok-step_level.ensures.answered c.in-Ok-step_level.ensures.told

pub returns-clause-went : goal.returns-clause-went
returns-clause-went g c =
    let all : c.loop-below.below ≡ c.args.greatest = omega (arith, c.loop-below-test.false, c.loop-below.auto.below-end) in
    subst (λ n. Went g.S.Shelf (levels_openings c.args.stores.now n c.args.passes.now) c.args.shelf.now c.loop-below.shelf) all c.loop-below.invariant.went

pub returns-clause-told : goal.returns-clause-told
returns-clause-told g c files e list columns f told counted =
    let all : c.loop-below.below ≡ c.args.greatest = omega (arith, c.loop-below-test.false, c.loop-below.auto.below-end) in
    subst (λ n. Holds files list c.args.graph.now f c.args.roots.now c.args.stores.now (2 * n + 1) (seen c.loop-below.candidate) c.loop-below.known c.loop-below.counts.items) all (c.loop-below.invariant.told files e list columns f told counted)
