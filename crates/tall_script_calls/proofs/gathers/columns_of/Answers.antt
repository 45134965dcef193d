use Rattle.std.specs.Prelude.{◌≡◌, ◌++◌, IfErr, IfOk, Some}
use Rattle.std.proofs.Common.{subst}
use Rattle.tall_gather.specs.Gathered.{AreRootColumns}
use Rattle.tall_gather.specs.Going.{IsCaused}
use Rattle.tall_script_calls.specs.GatheredValues.{openings_by}
use Rattle.tall_script_calls.proofs.GatherColumns.{allowed_same, columns_moved, roots_fit, stores_fit, told_by}
use Rattle.tall_script_calls.proofs.GatherStores.{each_may, may_be_told}
use Rattle.tall_script_calls.proofs.gathers.columns_of.Goals as goal

pub gather-found-requires-clause-stores : goal.gather-found-requires-clause-stores
gather-found-requires-clause-stores g c κs within = stores_fit c.args.environment.now c.stores.result.now c.graph.result.now c.stores.ensures c.graph.ensures c.keeps_its_rules.ensures

pub returns-clause-same : goal.returns-clause-same
returns-clause-same g c = allowed_same c.args.environment.now c.allow.new.self c.args.roots.now c.allow.ensures

pub returns-clause-moves : goal.returns-clause-moves
returns-clause-moves g c =
    columns_moved c.args.environment.now c.stores.result.now c.graph.result.now c.stores.ensures c.graph.ensures g.S.Shelf c.args.roots.now c.allow.new.self c.args.shelf.now c.gather-found.new.shelf
    (allowed_same c.args.environment.now c.allow.new.self c.args.roots.now c.allow.ensures) c.gather-found.ensures.went

pub returns-clause-columns : goal.returns-clause-columns
returns-clause-columns g c = subst (λ vs. IfOk c.gather-found.result (λ v. AreRootColumns vs c.args.roots.now v.items)) c.graph.ensures c.gather-found.ensures.columns

pub returns-clause-caused : goal.returns-clause-caused
returns-clause-caused g c = subst (λ list. IfErr c.gather-found.result (λ e. IsCaused g.S.Shelf list e c.args.shelf.now c.gather-found.new.shelf)) c.stores.ensures c.gather-found.ensures.caused

pub returns-clause-possible : goal.returns-clause-possible
returns-clause-possible g c =
    each_may c.gather-found.result (λ files. g.S.Shelf.held c.args.shelf.now ≡ Some files) (λ files held.
    let s = c.has_a_sense.ensures files in
    may_be_told (λ v. v.items) c.args.environment.now.stores s.1 c.args.roots.now c.gather-found.result
    (c.gather-found.ensures.told files held c.args.environment.now.stores s.0 s.1 (told_by c.args.environment.now c.stores.result.now c.graph.result.now c.stores.ensures c.graph.ensures files s.0 s.1 s.2)))

pub returns-clause-told : goal.returns-clause-told
returns-clause-told g c = λ files held columns f sense.
    c.gather-found.ensures.told files held c.args.environment.now.stores columns f (told_by c.args.environment.now c.stores.result.now c.graph.result.now c.stores.ensures c.graph.ensures files columns f sense)
