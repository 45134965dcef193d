use Rattle.std.specs.Prelude.{◌+◌, ◌*◌, ◌≤◌, Err, List, map}
use Rattle.std.proofs.Common.{sym, subst, ap, ◌∙◌}
use Rattle.tall_semantics.specs.ShapesInOrder.{shape_at}
use Rattle.tall_stored.specs.StoredColumns.{rows_of_stores}
use Rattle.tall_stored.proofs.StoredLaws.{are_columns}
use Rattle.tall_plan.specs.declared.passes.Pass.{Pass}
use Rattle.tall_gather.specs.declared.faults.GatherFault.{GatherFault}
use Rattle.tall_gather.specs.Candidates.{seen}
use Rattle.tall_gather.specs.Gathered.{TellsGather, gather_openings}
use Rattle.tall_gather.specs.Going.{IsCaused, levels_openings}
use Rattle.tall_gather.specs.Progress.{AreAllPasses, IsAfter}
use Rattle.tall_gather.proofs.ColumnLaws.{root_columns_fit, root_told}
use Rattle.tall_gather.proofs.GatherLaws.{all_passes, are_there, counted_fresh, counts_fresh, last_is, roots_known}
use Rattle.tall_gather.proofs.GoingLaws.{went_within}
use Rattle.tall_gather.proofs.OpeningLaws.{openings_within}
use Rattle.tall_gather.proofs.RestLaws.{place_among}
use Rattle.tall_gather.proofs.LastLaws.{caused_end, free, told_end}
use Rattle.tall_gather.proofs.gathers.gather.Goals as goal

pub run_levels-requires-clause-files : goal.run_levels-requires-clause-files
run_levels-requires-clause-files g c κs within = counts_fresh c.args.stores.now c.in-Ok-new_counts.counts.items c.in-Ok-new_counts.ensures

pub run_levels-requires-clause-planned : goal.run_levels-requires-clause-planned
run_levels-requires-clause-planned g c κs within = subst (AreAllPasses c.args.graph.now c.args.roots.now) (sym c.as_slice-2.ensures.value) (all_passes c.args.graph.now c.keeps_its_rules.ensures.made c.args.roots.now c.requires.roots c.in-Ok.plan.passes.items c.in-Ok.ensures.passes c.in-Ok.ensures.collected)

pub returns-in-Err-clause-went : goal.returns-in-Err-clause-went
returns-in-Err-clause-went g c =
    went_within g.S.Shelf (levels_openings c.args.stores.now c.greatest_level-greatest.result c.as_slice-2.result.now) (gather_openings 0 c.args.stores.now (map (shape_at c.args.graph.now) c.args.roots.now)) c.args.shelf.now c.run_levels.new.shelf
    (λ name. subst (λ (ps : List Pass). levels_openings c.args.stores.now c.greatest_level-greatest.result ps name ≤ gather_openings 0 c.args.stores.now (map (shape_at c.args.graph.now) c.args.roots.now) name) (sym c.as_slice-2.ensures.value) (openings_within c.args.stores.now c.greatest_level-greatest.result c.in-Ok.plan.passes.items (map (shape_at c.args.graph.now) c.args.roots.now) name c.in-Ok.ensures.bound))
    c.run_levels.ensures.went

pub returns-in-Some-clause-went : goal.returns-in-Some-clause-went
returns-in-Some-clause-went g c =
    went_within g.S.Shelf (levels_openings c.args.stores.now c.greatest_level-greatest.result c.as_slice-2.result.now) (gather_openings 0 c.args.stores.now (map (shape_at c.args.graph.now) c.args.roots.now)) c.args.shelf.now c.run_levels.new.shelf
    (λ name. subst (λ (ps : List Pass). levels_openings c.args.stores.now c.greatest_level-greatest.result ps name ≤ gather_openings 0 c.args.stores.now (map (shape_at c.args.graph.now) c.args.roots.now) name) (sym c.as_slice-2.ensures.value) (openings_within c.args.stores.now c.greatest_level-greatest.result c.in-Ok.plan.passes.items (map (shape_at c.args.graph.now) c.args.roots.now) name c.in-Ok.ensures.bound))
    c.run_levels.ensures.went

pub returns-in-Ok-root_columns-clause-went : goal.returns-in-Ok-root_columns-clause-went
returns-in-Ok-root_columns-clause-went g c =
    went_within g.S.Shelf (levels_openings c.args.stores.now c.greatest_level-greatest.result c.as_slice-2.result.now) (gather_openings 0 c.args.stores.now (map (shape_at c.args.graph.now) c.args.roots.now)) c.args.shelf.now c.run_levels.new.shelf
    (λ name. subst (λ (ps : List Pass). levels_openings c.args.stores.now c.greatest_level-greatest.result ps name ≤ gather_openings 0 c.args.stores.now (map (shape_at c.args.graph.now) c.args.roots.now) name) (sym c.as_slice-2.ensures.value) (openings_within c.args.stores.now c.greatest_level-greatest.result c.in-Ok.plan.passes.items (map (shape_at c.args.graph.now) c.args.roots.now) name c.in-Ok.ensures.bound))
    c.run_levels.ensures.went

pub returns-clause-went : goal.returns-clause-went
returns-clause-went g c =
    went_within g.S.Shelf (levels_openings c.args.stores.now c.greatest_level-greatest.result c.as_slice-2.result.now) (gather_openings 0 c.args.stores.now (map (shape_at c.args.graph.now) c.args.roots.now)) c.args.shelf.now c.run_levels.new.shelf
    (λ name. subst (λ (ps : List Pass). levels_openings c.args.stores.now c.greatest_level-greatest.result ps name ≤ gather_openings 0 c.args.stores.now (map (shape_at c.args.graph.now) c.args.roots.now) name) (sym c.as_slice-2.ensures.value) (openings_within c.args.stores.now c.greatest_level-greatest.result c.in-Ok.plan.passes.items (map (shape_at c.args.graph.now) c.args.roots.now) name c.in-Ok.ensures.bound))
    c.run_levels.ensures.went

pub returns-in-Err-clause-told : goal.returns-in-Err-clause-told
returns-in-Err-clause-told g c files e list columns f told =
    free c.in-Err.end list f c.args.roots.now (c.in-Err.ensures.told files e list columns f told (counted_fresh files c.args.stores.now c.in-Ok-new_counts.counts.items c.in-Ok-new_counts.ensures))

pub returns-in-Some-clause-told : goal.returns-in-Some-clause-told
returns-in-Some-clause-told g c files e list columns f told =
    let rules_of = c.keeps_its_rules.ensures in
    let holds = c.in-Ok-run_levels.ensures.told files e list columns f told (counted_fresh files c.args.stores.now c.in-Ok-new_counts.counts.items c.in-Ok-new_counts.ensures) in
    let last = last_is columns c.args.graph.now f rules_of.made rules_of.ordered rules_of.numbered c.args.roots.now c.requires.roots c.greatest_level-greatest.result c.greatest_level-greatest.ensures files list c.args.stores.now (seen c.in-Ok-run_levels.found) c.run_levels.new.known c.run_levels.new.counts.items told holds in
    subst (λ (x : GatherFault). TellsGather list f c.args.roots.now (Err x)) (sym c.end_of.ensures)
    (told_end files list columns c.args.graph.now f told.meaning rules_of.ordered told.stored c.args.roots.now (are_there c.args.graph.now c.args.roots.now c.requires.roots) c.in-Some.least (sym last ∙ ap seen c.in-Some.is))

pub returns-in-Some-clause-caused : goal.returns-in-Some-clause-caused
returns-in-Some-clause-caused g c =
    subst (λ (x : GatherFault). IsCaused g.S.Shelf c.args.stores.now x c.args.shelf.now c.run_levels.new.shelf) (sym c.end_of.ensures) (caused_end g.S.Shelf c.args.stores.now c.in-Ok-run_levels.found c.in-Some.least c.args.shelf.now c.run_levels.new.shelf c.in-Some.is c.in-Ok-run_levels.ensures.answered)

pub root_columns-requires-clause-known : goal.root_columns-requires-clause-known
root_columns-requires-clause-known g c =
    let rules_of = c.keeps_its_rules.ensures in
    roots_known c.args.graph.now rules_of.made rules_of.ordered c.args.roots.now c.requires.roots c.greatest_level-greatest.result c.greatest_level-greatest.ensures c.run_levels.new.known
    (subst (λ x. IsAfter c.args.graph.now c.args.roots.now (2 * c.greatest_level-greatest.result + 1) x c.run_levels.new.known) (ap seen c.in-None.is) c.in-Ok-run_levels.ensures.after)

pub returns-in-Ok-root_columns-clause-columns : goal.returns-in-Ok-root_columns-clause-columns
returns-in-Ok-root_columns-clause-columns g c =
    let spaces = c.numbers_tell_forms_and_spaces.ensures.spaces in
    root_columns_fit c.args.graph.now c.args.roots.now c.requires.roots c.run_levels.new.known c.in-Ok-run_levels.ensures.after.fit (λ i j a b. (spaces i j a b).0) (λ i j a b. (spaces i j a b).1) c.in-Ok-root_columns.columns.items c.in-Ok-root_columns.ensures

pub returns-in-Ok-root_columns-clause-told : goal.returns-in-Ok-root_columns-clause-told
returns-in-Ok-root_columns-clause-told g c files e list columns f told =
    let rules_of = c.keeps_its_rules.ensures in
    let holds = c.in-Ok-run_levels.ensures.told files e list columns f told (counted_fresh files c.args.stores.now c.in-Ok-new_counts.counts.items c.in-Ok-new_counts.ensures) in
    let last = last_is columns c.args.graph.now f rules_of.made rules_of.ordered rules_of.numbered c.args.roots.now c.requires.roots c.greatest_level-greatest.result c.greatest_level-greatest.ensures files list c.args.stores.now (seen c.in-Ok-run_levels.found) c.run_levels.new.known c.run_levels.new.counts.items told holds in
    let spaces = c.numbers_tell_forms_and_spaces.ensures.spaces in
    (sym last ∙ ap seen c.in-None.is, λ j i x ei ex. root_told c.args.graph.now c.args.roots.now c.requires.roots c.run_levels.new.known c.in-Ok-run_levels.ensures.after.fit (λ i j a b. (spaces i j a b).0) (λ i j a b. (spaces i j a b).1) columns (rows_of_stores files list) f rules_of.made rules_of.ordered told.meaning (are_columns files list c.args.graph.now columns told.stored) holds.right.results i x (place_among c.args.roots.now j i ei) (c.in-Ok-root_columns.ensures.each j i x ei ex))
