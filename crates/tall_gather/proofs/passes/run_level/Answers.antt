use Rattle.std.specs.Prelude.{◌≡◌, refl, ◌+◌, ◌*◌, ◌-◌, Option, Some, [], ◌∷◌, ◌++◌, take, length, slice_get}
use Rattle.std.proofs.Common.{arith, Vec, Global, sym, subst, ap, ◌∙◌}
use Rattle.std.proofs.lemmas.List.{take_more}
use Rattle.std.proofs.lemmas.Option.{slice_get_read}
use Rattle.tall_fuse.specs.declared.known.Known.{Known}
use Rattle.tall_plan.specs.declared.passes.Pass.{Pass}
use Rattle.tall_gather.specs.declared.candidate.Candidate.{Candidate}
use Rattle.tall_gather.specs.Candidates.{seen}
use Rattle.tall_gather.specs.Going.{level_openings, pass_openings}
use Rattle.tall_pass.specs.declared.counts.FileCounts.{FileCounts}
use Rattle.tall_gather.specs.Progress.{AreKnown, LevelPassed}
use Rattle.tall_gather.specs.Told.{Holds, LevelHolds}
use Rattle.tall_gather.proofs.GoingLaws.{caused_before, level_more, level_take, went_then, went_within}
use Rattle.tall_gather.proofs.LevelLoop.{SoFar, so_skip, so_more}
use Rattle.tall_gather.proofs.LevelPasses.{held_before, known_before, level_done, told_level}
use Rattle.tall_gather.proofs.passes.run_level.Goals as goal
use Rattle.tall_gather.proofs.passes.run_level.Goals.{then-pass-level+in-Ok, else-pass-level}

pub run_one-requires-clause-planned : goal.run_one-requires-clause-planned
run_one-requires-clause-planned g c κs within =
    let at : slice_get c.args.passes.now c.loop-pass.pass-index ≡ Some c.pass-item.result = slice_get_read c.args.passes.now (length c.args.passes.now) c.loop-pass.pass-index c.pass-item.result refl c.loop-pass-test.true c.pass-item.is in
    c.requires.planned.planned c.loop-pass.pass-index c.pass-item.result at

pub run_one-requires-clause-known : goal.run_one-requires-clause-known
run_one-requires-clause-known g c κs within =
    subst (λ k. AreKnown c.args.graph.now c.args.roots.now (2 * k - 1) (seen c.args.candidate) c.loop-pass.known) (sym c.if-pass-level.true)
    (known_before c.args.graph.now c.args.roots.now (2 * c.args.level - 1) c.args.level c.args.passes.now c.loop-pass.pass-index (seen c.args.candidate) (seen c.loop-pass.found) c.args.known.now c.loop-pass.known c.requires.after.ranks c.loop-pass.invariant.passed)

pub loop-pass-preserved : goal.loop-pass-preserved
loop-pass-preserved g c =
    let at : slice_get c.args.passes.now c.loop-pass.pass-index ≡ Some c.pass-item.result = slice_get_read c.args.passes.now (length c.args.passes.now) c.loop-pass.pass-index c.pass-item.result refl c.loop-pass-test.true c.pass-item.is in
    let next : take (c.loop-pass.pass-index + 1) c.args.passes.now ≡ take c.loop-pass.pass-index c.args.passes.now ++ c.pass-item.result ∷ [] = take_more c.args.passes.now c.loop-pass.pass-index c.pass-item.result c.loop-pass-test.true ∙ ap (λ (x : Pass). take c.loop-pass.pass-index c.args.passes.now ++ x ∷ []) (sym c.pass-item.is) in
    let rules_of = c.keeps_its_rules.ensures in
    let so = c.loop-pass.invariant in
    elim c.if-pass-level.branch [
      | then-pass-level+in-Ok w ↦ subst (λ (x : Option Candidate). SoFar g.S.Shelf c.args.stores.now c.args.graph.now c.args.roots.now c.args.level c.args.passes.now (seen c.args.candidate) c.args.shelf.now c.args.known.now c.args.counts.now.items (c.loop-pass.pass-index + 1) c.if-pass-level.shelf c.if-pass-level.known c.if-pass-level.counts.items x) (sym w.found-is)
          (subst (λ (x : Vec FileCounts Global). SoFar g.S.Shelf c.args.stores.now c.args.graph.now c.args.roots.now c.args.level c.args.passes.now (seen c.args.candidate) c.args.shelf.now c.args.known.now c.args.counts.now.items (c.loop-pass.pass-index + 1) c.if-pass-level.shelf c.if-pass-level.known x.items w.earlier-found.result) (sym w.counts-is)
          (subst (λ (x : Known). SoFar g.S.Shelf c.args.stores.now c.args.graph.now c.args.roots.now c.args.level c.args.passes.now (seen c.args.candidate) c.args.shelf.now c.args.known.now c.args.counts.now.items (c.loop-pass.pass-index + 1) c.if-pass-level.shelf x w.run_one.new.counts.items w.earlier-found.result) (sym w.known-is)
          (subst (λ (x : g.row.S.Denot). SoFar g.S.Shelf c.args.stores.now c.args.graph.now c.args.roots.now c.args.level c.args.passes.now (seen c.args.candidate) c.args.shelf.now c.args.known.now c.args.counts.now.items (c.loop-pass.pass-index + 1) x w.run_one.new.known w.run_one.new.counts.items w.earlier-found.result) (sym w.shelf-is)
          (so_more g.S.Shelf c.args.stores.now c.args.graph.now rules_of.made rules_of.ordered rules_of.numbered c.args.roots.now c.args.level c.args.passes.now (seen c.args.candidate) c.args.shelf.now c.args.known.now c.args.counts.now.items c.loop-pass.pass-index c.pass-item.result at next c.loop-pass.shelf w.run_one.new.shelf c.loop-pass.known w.run_one.new.known c.loop-pass.counts.items w.run_one.new.counts.items c.loop-pass.found w.in-Ok.fault w.earlier-found.result w.if-pass-level.true so w.in-Ok.ensures.files w.in-Ok.ensures.passed w.in-Ok.ensures.went w.in-Ok.ensures.answered w.in-Ok.ensures.told w.earlier-found.ensures.seen w.earlier-found.ensures.one))))
      | else-pass-level w ↦ subst (λ (x : Option Candidate). SoFar g.S.Shelf c.args.stores.now c.args.graph.now c.args.roots.now c.args.level c.args.passes.now (seen c.args.candidate) c.args.shelf.now c.args.known.now c.args.counts.now.items (c.loop-pass.pass-index + 1) c.if-pass-level.shelf c.if-pass-level.known c.if-pass-level.counts.items x) (sym w.found-is)
          (subst (λ (x : Vec FileCounts Global). SoFar g.S.Shelf c.args.stores.now c.args.graph.now c.args.roots.now c.args.level c.args.passes.now (seen c.args.candidate) c.args.shelf.now c.args.known.now c.args.counts.now.items (c.loop-pass.pass-index + 1) c.if-pass-level.shelf c.if-pass-level.known x.items c.loop-pass.found) (sym w.counts-is)
          (subst (λ (x : Known). SoFar g.S.Shelf c.args.stores.now c.args.graph.now c.args.roots.now c.args.level c.args.passes.now (seen c.args.candidate) c.args.shelf.now c.args.known.now c.args.counts.now.items (c.loop-pass.pass-index + 1) c.if-pass-level.shelf x c.loop-pass.counts.items c.loop-pass.found) (sym w.known-is)
          (subst (λ (x : g.row.S.Denot). SoFar g.S.Shelf c.args.stores.now c.args.graph.now c.args.roots.now c.args.level c.args.passes.now (seen c.args.candidate) c.args.shelf.now c.args.known.now c.args.counts.now.items (c.loop-pass.pass-index + 1) x c.loop-pass.known c.loop-pass.counts.items c.loop-pass.found) (sym w.shelf-is)
          (so_skip g.S.Shelf c.args.stores.now c.args.graph.now rules_of.made rules_of.ordered rules_of.numbered c.args.roots.now c.args.level c.args.passes.now (seen c.args.candidate) c.args.shelf.now c.args.known.now c.args.counts.now.items c.loop-pass.pass-index c.pass-item.result at next c.loop-pass.shelf c.loop-pass.known c.loop-pass.counts.items c.loop-pass.found w.if-pass-level.false so))))
    ]

pub returns-in-Err-clause-went : goal.returns-in-Err-clause-went
returns-in-Err-clause-went g c =
    let at : slice_get c.args.passes.now c.loop-pass.pass-index ≡ Some c.pass-item.result = slice_get_read c.args.passes.now (length c.args.passes.now) c.loop-pass.pass-index c.pass-item.result refl c.loop-pass-test.true c.pass-item.is in
    let next : take (c.loop-pass.pass-index + 1) c.args.passes.now ≡ take c.loop-pass.pass-index c.args.passes.now ++ c.pass-item.result ∷ [] = take_more c.args.passes.now c.loop-pass.pass-index c.pass-item.result c.loop-pass-test.true ∙ ap (λ (x : Pass). take c.loop-pass.pass-index c.args.passes.now ++ x ∷ []) (sym c.pass-item.is) in
    let rules_of = c.keeps_its_rules.ensures in
    let so = c.loop-pass.invariant in
    went_within g.S.Shelf (λ name. level_openings c.args.stores.now c.args.level (take c.loop-pass.pass-index c.args.passes.now) name + pass_openings c.args.stores.now c.pass-item.result.store name) (level_openings c.args.stores.now c.args.level c.args.passes.now) c.args.shelf.now c.run_one.new.shelf
    (λ name. (let a = level_more c.args.stores.now c.args.level c.args.passes.now c.loop-pass.pass-index c.pass-item.result name next c.if-pass-level.true in let b = level_take c.args.stores.now c.args.level (c.loop-pass.pass-index + 1) c.args.passes.now name in omega (arith, a, b)))
    (went_then g.S.Shelf (level_openings c.args.stores.now c.args.level (take c.loop-pass.pass-index c.args.passes.now)) (pass_openings c.args.stores.now c.pass-item.result.store) c.args.shelf.now c.loop-pass.shelf c.run_one.new.shelf so.went c.in-Err.ensures.went)

pub returns-in-Err-clause-answered : goal.returns-in-Err-clause-answered
returns-in-Err-clause-answered g c = caused_before g.S.Shelf c.args.stores.now c.in-Err.end (level_openings c.args.stores.now c.args.level (take c.loop-pass.pass-index c.args.passes.now)) c.args.shelf.now c.loop-pass.shelf c.run_one.new.shelf c.loop-pass.invariant.went c.in-Err.ensures.answered

pub returns-in-Err-clause-told : goal.returns-in-Err-clause-told
returns-in-Err-clause-told g c files e list columns f told holds =
    let at : slice_get c.args.passes.now c.loop-pass.pass-index ≡ Some c.pass-item.result = slice_get_read c.args.passes.now (length c.args.passes.now) c.loop-pass.pass-index c.pass-item.result refl c.loop-pass-test.true c.pass-item.is in
    let next : take (c.loop-pass.pass-index + 1) c.args.passes.now ≡ take c.loop-pass.pass-index c.args.passes.now ++ c.pass-item.result ∷ [] = take_more c.args.passes.now c.loop-pass.pass-index c.pass-item.result c.loop-pass-test.true ∙ ap (λ (x : Pass). take c.loop-pass.pass-index c.args.passes.now ++ x ∷ []) (sym c.pass-item.is) in
    let rules_of = c.keeps_its_rules.ensures in
    let so = c.loop-pass.invariant in
    let before = so.told files e list columns f told holds in
    let mid = held_before columns c.args.graph.now f rules_of.made rules_of.ordered rules_of.numbered c.args.roots.now files list c.args.stores.now told c.args.level c.args.passes.now (seen c.args.candidate) c.loop-pass.pass-index (seen c.loop-pass.found) c.args.known.now c.loop-pass.known c.args.counts.now.items c.loop-pass.counts.items holds before in
    c.in-Err.ensures.told files (so.went.held ∙ e) list columns f told (subst (λ j. Holds files list c.args.graph.now f c.args.roots.now c.args.stores.now (2 * j - 1) (seen c.args.candidate) c.loop-pass.known c.loop-pass.counts.items) (sym c.if-pass-level.true) mid)

pub returns-clause-after : goal.returns-clause-after
returns-clause-after g c =
    let all : length c.args.passes.now ≡ c.loop-pass.pass-index = omega (arith, c.loop-pass-test.false, c.loop-pass.auto.pass-index-end) in
    level_done c.args.graph.now c.args.roots.now c.args.level c.args.passes.now (seen c.args.candidate) (seen c.loop-pass.found) c.args.known.now c.loop-pass.known c.requires.level c.requires.planned c.requires.after.ranks
    (subst (λ n. LevelPassed c.args.graph.now c.args.roots.now c.args.level c.args.passes.now n (seen c.args.candidate) (seen c.loop-pass.found) c.args.known.now c.loop-pass.known) (sym all) c.loop-pass.invariant.passed)

pub returns-clause-went : goal.returns-clause-went
returns-clause-went g c =
    went_within g.S.Shelf (level_openings c.args.stores.now c.args.level (take c.loop-pass.pass-index c.args.passes.now)) (level_openings c.args.stores.now c.args.level c.args.passes.now) c.args.shelf.now c.loop-pass.shelf
    (λ name. level_take c.args.stores.now c.args.level c.loop-pass.pass-index c.args.passes.now name) c.loop-pass.invariant.went

pub returns-clause-told : goal.returns-clause-told
returns-clause-told g c files e list columns f told holds =
    let all : length c.args.passes.now ≡ c.loop-pass.pass-index = omega (arith, c.loop-pass-test.false, c.loop-pass.auto.pass-index-end) in
    let rules_of = c.keeps_its_rules.ensures in
    told_level columns c.args.graph.now f rules_of.made rules_of.ordered rules_of.numbered c.args.roots.now files list c.args.stores.now told c.args.level c.args.passes.now (seen c.args.candidate) (seen c.loop-pass.found) c.args.known.now c.loop-pass.known c.args.counts.now.items c.loop-pass.counts.items c.requires.level c.requires.planned holds
    (subst (λ n. LevelHolds files list c.args.graph.now f c.args.roots.now c.args.stores.now c.args.level c.args.passes.now n (seen c.args.candidate) (seen c.loop-pass.found) c.args.known.now c.loop-pass.known c.loop-pass.counts.items) (sym all) (c.loop-pass.invariant.told files e list columns f told holds))
