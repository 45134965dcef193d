use Rattle.tall_outside.specs.ShelfCounts.{shelf_counts}
use Rattle.tall_store.specs.FileEnds.{name_of_file}
use Rattle.tall_walk.proofs.Endings.{ends_next, explained_next, few_next, longer_next, opens_next, whole_next}
use Rattle.tall_walk.proofs.walk.walk_whole.Goals as goal

pub returns-clause-goes : goal.returns-clause-goes
returns-clause-goes g c =
    whole_next (g.T.TakesBlocks.has_taken c.args.taker.now) (g.T.TakesBlocks.has_taken c.walk_file-outcome.new.taker) (g.T.TakesBlocks.has_stopped c.walk_file-outcome.new.taker) c.args.store.now (g.S.Shelf.held c.args.shelf.now) c.args.file c.args.row
    c.walk_file-outcome.result c.end_of.result c.end_of.ensures c.walk_file-outcome.ensures.tells

pub returns-clause-few : goal.returns-clause-few
returns-clause-few g c = few_next c.args.file c.args.row c.walk_file-outcome.result c.end_of.result c.end_of.ensures c.walk_file-outcome.ensures.few

pub returns-clause-ends : goal.returns-clause-ends
returns-clause-ends g c =
    ends_next (g.T.TakesBlocks.has_taken c.args.taker.now) (g.T.TakesBlocks.has_taken c.walk_file-outcome.new.taker) (g.T.TakesBlocks.has_stopped c.walk_file-outcome.new.taker) c.args.store.now (g.S.Shelf.held c.args.shelf.now) c.args.file c.args.row
    c.walk_file-outcome.result c.end_of.result c.end_of.ensures c.requires.file c.walk_file-outcome.ensures.tells

pub returns-clause-explained : goal.returns-clause-explained
returns-clause-explained g c =
    explained_next c.args.file (shelf_counts g.S.Shelf c.args.shelf.now) (shelf_counts g.S.Shelf c.walk_file-outcome.new.shelf) c.walk_file-outcome.result c.end_of.result c.end_of.ensures c.walk_file-outcome.ensures.explained

pub returns-clause-longer : goal.returns-clause-longer
returns-clause-longer g c = longer_next c.args.store.now (g.S.Shelf.held c.args.shelf.now) c.args.file c.walk_file-outcome.result c.end_of.result c.end_of.ensures c.walk_file-outcome.ensures.longer

pub returns-clause-opens : goal.returns-clause-opens
returns-clause-opens g c =
    opens_next c.args.file (name_of_file c.args.store.now c.args.file) (g.S.Shelf.opened c.args.shelf.now) (g.S.Shelf.opened c.walk_file-outcome.new.shelf) c.walk_file-outcome.result c.end_of.result c.end_of.ensures c.walk_file-outcome.ensures.opens
