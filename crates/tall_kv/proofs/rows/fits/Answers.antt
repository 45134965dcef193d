use Rattle.std.proofs.Common.{◌∙◌}
use Rattle.tall_value.specs.Cells.{seen}
use Rattle.tall_kv.proofs.StoreLemmas.{fits_first_of_front}
use Rattle.tall_kv.proofs.rows.fits.Goals as goal

pub returns-else-rows-eq0-clause-fits : goal.returns-else-rows-eq0-clause-fits
returns-else-rows-eq0-clause-fits c =
    c.same_class.ensures ∙ fits_first_of_front c.args.column.now.cells c.args.rows (seen c.get.result) (seen c.args.cell.now) c.if-rows-eq0.false c.get.ensures.cell
