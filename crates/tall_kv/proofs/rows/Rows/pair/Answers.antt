use Rattle.std.proofs.Common.{rules}
use Rattle.tall_value.specs.Cells.{seen}
use Rattle.tall_kv.proofs.StoreLemmas.{pair_at}
use Rattle.tall_kv.proofs.rows.Rows.pair.Goals as goal

pub returns-clause-pair : goal.returns-clause-pair
returns-clause-pair c =
    let r = c.args.self.now in
    pair_at r.lines.items r.keys.cells r.values.cells c.args.i c.index.result.now (seen c.get.result) (seen c.get-2.result) c.requires.within (search rules) c.get.ensures.cell c.get-2.ensures.cell
