use Rattle.std.proofs.Common.{refl}
use Rattle.tall_walk.proofs.Following.{stops_at_end, walks_file}
use Rattle.tall_walk.proofs.walk.walk_next.Goals as goal

pub returns-in-Ok-end_file-clause-goes : goal.returns-in-Ok-end_file-clause-goes
returns-in-Ok-end_file-clause-goes g c = λ w.
    walks_file (g.T.TakesBlocks.has_taken c.args.taker.now) (g.T.TakesBlocks.has_taken c.walk_whole.new.taker) (g.T.TakesBlocks.has_taken c.end_file.new.self) c.args.store.now (g.S.Shelf.held c.args.shelf.now) c.args.file c.args.row c.in-Ok.records _
    c.requires.file w c.in-Ok.ensures.goes c.in-Ok-end_file.ensures.took refl

pub returns-in-Err-end_file-clause-ends : goal.returns-in-Err-end_file-clause-ends
returns-in-Err-end_file-clause-ends g c = λ w.
    stops_at_end (g.T.TakesBlocks.has_taken c.args.taker.now) (g.T.TakesBlocks.has_taken c.walk_whole.new.taker) (g.T.TakesBlocks.has_stopped c.end_file.new.self c.in-Err-end_file.stop) c.args.store.now (g.S.Shelf.held c.args.shelf.now) c.args.file c.args.row c.in-Ok.records
    c.requires.file w c.in-Ok.ensures.goes c.in-Err-end_file.ensures.stopped
