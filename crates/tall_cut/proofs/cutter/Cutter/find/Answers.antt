use Rattle.std.proofs.Common.{◌∙◌, refl}
use Rattle.tall_scan.specs.Finding.{source_left}
use Rattle.tall_cut.specs.declared.cutter.Progress.TheVariants as p
use Rattle.tall_cut.specs.Left.{feed_left}
use Rattle.tall_cut.proofs.Cuts.{last_cuts}
use Rattle.tall_cut.proofs.cutter.Cutter.find.Goals as goal

pub returns-in-Block-2-clause-cuts : goal.returns-in-Block-2-clause-cuts
returns-in-Block-2-clause-cuts g c =
    last_cuts c.args.self.now.progress p.Ended c.args.self.now.delimiter c.args.rows (source_left (feed_left {s = g.S.Shelf} {k = g.K.OpenedFile}) c.args.self.now.source)
    (source_left (feed_left {s = g.S.Shelf} {k = g.K.OpenedFile}) c.find_block-found.new.source) c.in-Block.block c.in-Reading.is refl c.in-Block.ensures
    (λ e. c.if-count-rows.false (c.count.ensures.count ∙ e))
