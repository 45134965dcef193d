use Rattle.tall_functions.proofs.ReductionLemmas.{is_total}
use Rattle.tall_functions.proofs.reductions.total_answer.Goals as goal

pub returns-in-Ok : goal.returns-in-Ok
returns-in-Ok c found r class is = is_total found r class c.args.finished c.in-Ok.column c.only_row.result c.in-Ok.is c.only_row.ensures is
