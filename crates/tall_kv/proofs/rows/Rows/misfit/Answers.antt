use Rattle.std.proofs.Common.{rules, ◌∙◌}
use Rattle.tall_value.specs.Cells.{seen}
use Rattle.tall_kv.proofs.StoreLemmas.{misfit_is}
use Rattle.tall_kv.proofs.rows.Rows.misfit.Goals as goal

pub returns-clause-misfit : goal.returns-clause-misfit
returns-clause-misfit c line =
    c.judged.ensures
    ∙ misfit_is c.args.self.now (seen c.args.key.now) (seen c.args.value.now) line c.len-rows.result c.key_fits-key_fits.result c.fits-value_fits.result c.requires (search rules)
    c.key_fits-key_fits.ensures.fits c.fits-value_fits.ensures.fits
