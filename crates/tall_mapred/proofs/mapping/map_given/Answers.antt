use Rattle.std.proofs.Common.{ap}
use Rattle.tall_outside.specs.ShelfCounts.{shelf_counts}
use Rattle.tall_mapred.specs.Phases.{files_given}
use Rattle.tall_mapred.specs.Takers.{Stops, Takes, shared_given}
use Rattle.tall_mapred.proofs.WalkLaws.{Says, ends_sooner, explained, longer, needs, no_room, opens, placed, says, starts, told}
use Rattle.tall_mapred.proofs.mapping.map_given.Goals as goal

pub walk_files-end-requires-clause-files : goal.walk_files-end-requires-clause-files
walk_files-end-requires-clause-files g c = ap files_given c.requires.given

pub walk_files-end-requires-clause-fresh : goal.walk_files-end-requires-clause-fresh
walk_files-end-requires-clause-fresh g c =
    starts g.K.MapGiven.given (goal.C-pre g c.args.call.now) (goal.C-post g c.args.call.now) c.args.most (shared_given c.args.shared.now) c.new-pairs.result c.new-window.result.items c.requires.given
    (record { may = c.requires.asks; does = c.requires.gives }) c.requires.some c.requires.few c.new-pairs.ensures c.new-window.ensures.items

pub end_walk-requires : goal.end_walk-requires
end_walk-requires g c =
    let t = c.walk_files-end.new.taker in
    needs (Takes (goal.C-pre g) (goal.C-post g) g.K.MapGiven 1 t) (Takes (goal.C-pre g) (goal.C-post g) g.K.MapGiven 0 t) (λ e before event. Stops g.K.MapGiven.given e before event) c.args.shared.now.store.now (g.S.Shelf.held c.args.shelf.now) (g.S.Shelf.opened c.args.shelf.now) (g.S.Shelf.opened c.walk_files-end.new.shelf)
    c.walk_files-end.result (λ events taken. no_room g.K.MapGiven.given (goal.C-pre g t.call.now) (goal.C-post g t.call.now) t.most t.pairs t.window.items events taken) c.walk_files-end.ensures.walked

pub returns : goal.returns
returns g c =
    let o = g.K.MapGiven.given in
    let w = shared_given c.args.shared.now in
    let t = c.walk_files-end.new.taker in
    let held = g.S.Shelf.held c.args.shelf.now in
    let before = g.S.Shelf.opened c.args.shelf.now in
    let now = g.S.Shelf.opened c.walk_files-end.new.shelf in
    let how = c.walk_files-end.result in
    let walked = c.walk_files-end.ensures.walked in
    let s : Says w.store w.function held walked.opened how c.end_walk.result =
    says c.mapreduce_is_made_of_calls_on_empty_stores.ensures.map_phase o w c.requires.given held (Takes (goal.C-pre g) (goal.C-post g) g.K.MapGiven 1 t) before now how c.end_walk.result walked
    (ends_sooner (Takes (goal.C-pre g) (goal.C-post g) g.K.MapGiven 1 t) (Takes (goal.C-pre g) (goal.C-post g) g.K.MapGiven 0 t) o how c.end_walk.result
    (λ events taken. no_room o (goal.C-pre g t.call.now) (goal.C-post g t.call.now) t.most t.pairs t.window.items events taken) c.end_walk.ensures) in
    record {
      told = λ files e d same. told w.store w.function held walked.opened how files c.end_walk.result e s d same;
      held = c.walk_files-end.ensures.held;
      later = c.walk_files-end.ensures.later;
      opens = opens w.store w.function held walked.opened how before now c.end_walk.result walked.within walked.opens s;
      explained = explained w.store w.function held walked.opened how (shelf_counts g.S.Shelf c.args.shelf.now) (shelf_counts g.S.Shelf c.walk_files-end.new.shelf) c.end_walk.result c.walk_files-end.ensures.store c.walk_files-end.ensures.explained s;
      longer = λ files e. longer w.store w.function held walked.opened how files c.end_walk.result e c.walk_files-end.ensures.longer s;
      placed = placed w.store w.function held walked.opened how c.end_walk.result c.walk_files-end.ensures.store walked.within s;
    }
