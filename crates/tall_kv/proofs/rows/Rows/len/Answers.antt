use Rattle.std.proofs.Common.{rules, sym}
use Rattle.tall_kv.proofs.StoreLemmas.{length_of_pairs}
use Rattle.tall_kv.proofs.rows.Rows.len.Goals as goal

pub returns-clause-pairs : goal.returns-clause-pairs
returns-clause-pairs c =
    let r = c.args.self.now in search (rules, sym (length_of_pairs r.lines.items r.keys.cells r.values.cells c.requires.keys c.requires.values))
