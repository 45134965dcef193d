use Rattle.tall_functions.proofs.ScanLemmas.{column_has_kind}
use Rattle.tall_functions.proofs.scans.values_of.Goals as goal

pub returns : goal.returns
returns c = column_has_kind c.values.result.now c.args.x.now c.values.ensures
