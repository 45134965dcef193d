use Rattle.tall_kv.proofs.StoreLemmas.{is_line}
use Rattle.tall_kv.proofs.pairs.Pairs.pair.Goals as goal

pub pair-key-requires-clause-within : goal.pair-key-requires-clause-within
pair-key-requires-clause-within c = is_line c.self.inside.rows c.args.self.now c.args.i c.self.invariant.long c.self.view_is c.requires
