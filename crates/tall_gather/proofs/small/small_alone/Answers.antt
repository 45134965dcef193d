use Rattle.tall_gather.proofs.SmallLaws.{small_fits, told_alone}
use Rattle.tall_gather.proofs.small.small_alone.Goals as goal

pub returns-clause-fits : goal.returns-clause-fits
returns-clause-fits c = small_fits c.args.graph.now c.args.n c.args.known.now c.alone_value.result c.small_of.result c.small_of.ensures c.alone_value.ensures.fits

pub returns-clause-told : goal.returns-clause-told
returns-clause-told c columns f computed shown = told_alone c.args.graph.now c.args.n c.requires.there.there f c.alone_value.result c.small_of.result c.requires.args c.small_of.ensures (c.alone_value.ensures.told columns f computed)
