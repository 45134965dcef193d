use Rattle.std.proofs.Common.{◌∙◌, ◌-◌, ◌^◌, ap, sym, leb}
use Rattle.std.proofs.lemmas.Bool.{leb-true}
use Rattle.tall_cut.specs.Finding.{raw_count}
use Rattle.tall_store.specs.FileSteps.{file_of, next_row, rows_left, size_of_block}
use Rattle.tall_walk.proofs.OneFileLemmas.{end_few, end_step, going_step, limit_reached, rises_from, stop_step}
use Rattle.tall_walk.proofs.walk.walk_left.Goals as goal

pub loop-block-preserved : goal.loop-block-preserved
loop-block-preserved g c =
    let steps = c.in-Block.ensures.steps in
    let i = c.loop-block.invariant in
    record {
      going = λ before p.
          going_step {s = g.S.Shelf} {k = g.K.OpenedFile} (g.T.TakesBlocks.has_taken c.loop-block.taker) (g.T.TakesBlocks.has_taken c.take_block.new.taker) c.loop-block.rows c.next.new.self c.take_block.new.rows c.in-Block.block
          (size_of_block c.args.rows.now) (file_of c.args.rows.now) c.args.row before (rows_left c.args.rows.now) (i.going before p) c.in-Ok.ensures.took steps i.place.0 i.place.2
          c.take_block.ensures.left c.take_block.ensures.place.2;
      place = (
        c.take_block.ensures.place.0 ∙ c.in-Block.ensures.place.0 ∙ i.place.0,
        c.take_block.ensures.place.1 ∙ c.in-Block.ensures.place.1 ∙ i.place.1,
        c.take_block.ensures.place.3 ∙ c.in-Block.ensures.place.2 ∙ i.place.2,
      );
      files = c.take_block.ensures.files ∙ i.files;
      first = rises_from 1 (next_row c.loop-block.rows) c.in-Block.block.row (raw_count c.in-Block.block.raw) (next_row c.take_block.new.rows) i.first steps.1 (c.take_block.ensures.place.2 ∙ steps.6);
      beyond = λ e. limit_reached c.in-Block.block.row (raw_count c.in-Block.block.raw) (next_row c.take_block.new.rows) (leb-true (2 ^ 40 - c.in-Block.block.row) (raw_count c.in-Block.block.raw) (ap (leb (2 ^ 40 - c.in-Block.block.row)) (sym c.count.ensures.count) ∙ e)) (c.take_block.ensures.place.2 ∙ steps.6);
    }

pub returns-in-Err-clause-tells : goal.returns-in-Err-clause-tells
returns-in-Err-clause-tells g c = λ before p.
    let i = c.loop-block.invariant in
    stop_step {s = g.S.Shelf} {k = g.K.OpenedFile} (g.T.TakesBlocks.has_taken c.loop-block.taker) (g.T.TakesBlocks.has_stopped c.take_block.new.taker c.in-Err.stop) c.loop-block.rows c.next.new.self c.in-Block.block
    (size_of_block c.args.rows.now) (file_of c.args.rows.now) c.args.row before (rows_left c.args.rows.now) (i.going before p) c.in-Err.ensures.stopped c.in-Block.ensures.steps i.place.0 i.place.2

pub returns-in-Ended-clause-tells : goal.returns-in-Ended-clause-tells
returns-in-Ended-clause-tells g c = λ before p.
    let i = c.loop-block.invariant in
    end_step {s = g.S.Shelf} {k = g.K.OpenedFile} (g.T.TakesBlocks.has_taken c.loop-block.taker) (g.T.TakesBlocks.has_stopped c.loop-block.taker) c.loop-block.rows c.next.new.self c.in-Ended.end c.end_behind.result c.loop-block.beyond
    (size_of_block c.args.rows.now) (file_of c.args.rows.now) c.args.row before (rows_left c.args.rows.now) (i.going before p) c.in-Ended.ensures.steps c.end_behind.ensures i.beyond i.place.0 (i.place.1 ∙ sym c.requires.row)

pub returns-in-Ended-clause-few : goal.returns-in-Ended-clause-few
returns-in-Ended-clause-few g c = λ n e.
    end_few {s = g.S.Shelf} {k = g.K.OpenedFile} c.loop-block.rows c.next.new.self c.in-Ended.end c.end_behind.result c.loop-block.beyond c.args.row n c.in-Ended.ensures.steps c.end_behind.ensures
    (c.loop-block.invariant.place.1 ∙ sym c.requires.row) e
