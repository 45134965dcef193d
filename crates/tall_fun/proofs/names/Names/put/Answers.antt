use Rattle.std.proofs.Common.{rules}
use Rattle.tall_fun.proofs.NameLemmas.{inserted}
use Rattle.tall_fun.proofs.names.Names.put.Goals as goal

pub returns-in-Ok : goal.returns-in-Ok
returns-in-Ok c =
    let h = inserted c.self.inside.entries.entries c.args.name c.args.value in
    search (rules, h)
