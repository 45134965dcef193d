use Rattle.std.proofs.Common.{◌<◌, length, refl, rules, subst, sym, arith}
use Rattle.tall_walk.specs.Walked.{EndsNext, WalkedTo}
use Rattle.tall_outside.specs.ShelfCounts.{IsLater, shelf_counts}
use Rattle.tall_walk.proofs.Endings.{adds_nothing, ends_walk, some_rows}
use Rattle.tall_walk.proofs.Following.{starts}
use Rattle.tall_walk.proofs.walk.walk_files.Goals as goal

pub loop-file-init : goal.loop-file-init
loop-file-init g c =
    let later : IsLater (shelf_counts g.S.Shelf c.args.shelf.now) (shelf_counts g.S.Shelf c.args.shelf.now) = search rules in
    record {
      walked = starts (g.T.TakesBlocks.has_taken c.args.taker.now) c.args.store.now (g.S.Shelf.held c.args.shelf.now) (some_rows c.args.store.now.size c.file_count-file-end.ensures.store.size) c.requires.fresh;
      opens = adds_nothing (g.S.Shelf.opened c.args.shelf.now);
      files = c.requires.files;
      kept = refl;
      held = refl;
      later = later;
      first = omega arith;
      last = omega arith;
    }

pub returns-in-Err-clause-walked : goal.returns-in-Err-clause-walked
returns-in-Err-clause-walked g c =
    let before = g.T.TakesBlocks.has_taken c.loop-file.taker in
    let taken = g.T.TakesBlocks.has_taken c.walk_next.new.taker in
    let stopped = g.T.TakesBlocks.has_stopped c.walk_next.new.taker in
    let store = c.args.store.now in
    let file = c.loop-file.file in
    let same = c.loop-file.invariant.held in
    let here : file < length store.files = rw (← c.file_count-file-end.ensures.count) c.loop-file-test.true in
    let so_far = subst (λ h. WalkedTo before store h file c.loop-file.row) (sym same) c.loop-file.invariant.walked in
    let ends = subst (λ h. EndsNext taken stopped store h file c.in-Err.end) same (c.in-Err.ensures.ends so_far) in
    ends_walk taken stopped store (g.S.Shelf.held c.args.shelf.now) file (g.S.Shelf.opened c.args.shelf.now) (g.S.Shelf.opened c.loop-file.shelf) (g.S.Shelf.opened c.walk_next.new.shelf) c.in-Err.end
    here c.loop-file.invariant.opens c.in-Err.ensures.opens ends
