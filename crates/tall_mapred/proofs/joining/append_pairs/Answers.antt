use Rattle.tall_mapred.proofs.PhaseLaws.{pair_refused}
use Rattle.tall_mapred.proofs.joining.append_pairs.Goals as goal

pub returns-in-Err-clause-refused : goal.returns-in-Err-clause-refused
returns-in-Err-clause-refused c d want stop w =
    pair_refused d want c.args.own c.args.pairs.now stop c.in-Err.fault c.fault_of_pair.result w c.in-Err.ensures.1 c.fault_of_pair.ensures.fault
