use Rattle.std.proofs.Common.{◌<◌, ◌∙◌, ap, sym, subst}
use Rattle.tall_cut.specs.Asked.{size_in}
use Rattle.tall_store.specs.FileEnds.{name_of_file}
use Rattle.tall_store.specs.FileSteps.{rows_left, size_of_block}
use Rattle.tall_walk.specs.OneFile.{TellsLeft}
use Rattle.tall_walk.proofs.Endings.{asked_one, refused_one}
use Rattle.tall_walk.proofs.OneFileLemmas.{front_few, long_file, refuses_file, tells_file}
use Rattle.tall_walk.proofs.walk.walk_lent.Goals as goal

pub returns-in-Ok-clause-tells : goal.returns-in-Ok-clause-tells
returns-in-Ok-clause-tells g c = λ before p.
    tells_file (g.T.TakesBlocks.has_taken c.walk_left.new.taker) (g.T.TakesBlocks.has_stopped c.walk_left.new.taker) c.args.store.now g.K.OpenedFile.held (size_of_block c.in-Ok.rows) c.args.file c.args.row before (rows_left c.in-Ok.rows) c.walk_left.result
    c.in-Ok.ensures.place.3 (subst (λ n. 0 < n) (sym c.in-Ok.ensures.place.3) c.requires.size) c.requires.last c.in-Ok.ensures.told
    (subst (λ k. TellsLeft (g.T.TakesBlocks.has_taken c.walk_left.new.taker) (g.T.TakesBlocks.has_stopped c.walk_left.new.taker) (size_of_block c.in-Ok.rows) k c.args.row before (rows_left c.in-Ok.rows) c.walk_left.result)
    c.in-Ok.ensures.place.0 (c.walk_left.ensures.tells before p))

pub returns-in-Ok-clause-longer : goal.returns-in-Ok-clause-longer
returns-in-Ok-clause-longer g c =
    long_file c.args.store.now g.K.OpenedFile.held c.args.file c.args.row (rows_left c.in-Ok.rows) g.K.OpenedFile.size c.walk_left.result
    (ap (λ h. size_in h (name_of_file c.args.store.now c.args.file)) (sym c.requires.asks.held) ∙ c.requires.asks.size) c.in-Ok.ensures.told c.walk_left.ensures.longer

pub returns-in-Ok-clause-opens : goal.returns-in-Ok-clause-opens
returns-in-Ok-clause-opens g c =
    asked_one (g.S.Shelf.opened c.args.lent.shelf.now) g.K.OpenedFile.opened (g.S.Shelf.opened c.into_lent.result.shelf.now) (name_of_file c.args.store.now c.args.file) c.walk_left.result c.requires.asks.opened c.into_lent.ensures.returns.opened

pub returns-in-Err-clause-tells : goal.returns-in-Err-clause-tells
returns-in-Err-clause-tells g c = λ before p.
    refuses_file (g.T.TakesBlocks.has_taken c.args.taker.now) (g.T.TakesBlocks.has_stopped c.args.taker.now) c.args.store.now g.K.OpenedFile.held c.args.file c.args.row before c.in-Err.refused.end c.in-Err.ensures.front c.in-Err.ensures.refused p

pub returns-in-Err-clause-opens : goal.returns-in-Err-clause-opens
returns-in-Err-clause-opens g c =
    refused_one c.args.file c.args.row (g.S.Shelf.opened c.args.lent.shelf.now) (g.S.Shelf.opened c.in-Err.refused.lent.shelf.now) (name_of_file c.args.store.now c.args.file) c.in-Err.refused.end
    c.in-Err.ensures.front c.in-Err.ensures.once c.in-Err.ensures.opened

pub returns-in-Err-clause-few : goal.returns-in-Err-clause-few
returns-in-Err-clause-few g c = λ n e. absurd (front_few c.args.file c.args.row n c.in-Err.refused.end c.in-Err.ensures.front e)
