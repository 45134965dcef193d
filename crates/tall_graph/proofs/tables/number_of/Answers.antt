use Rattle.std.proofs.Common.{sym}
use Rattle.tall_graph.proofs.LookUpLaws.{there, added, inserted}
use Rattle.tall_graph.proofs.tables.number_of.Goals as goal

pub returns-in-Some : goal.returns-in-Some
returns-in-Some g c =
    there g.K.PartialEq.eq g.met.K.Key.exact g.met.K.Eq.laws.refl c.args.table.now.entries c.args.key c.args.place c.in-Some.number.now (sym c.in-Some.ensures.value)

pub returns-in-None : goal.returns-in-None
returns-in-None g c =
    let table = c.args.table.now in
    let new = c.insert.new.self.entries in
    added g.K.PartialEq.eq g.met.K.Key.exact g.met.K.Eq.laws.refl table.entries new c.args.key c.args.place (sym c.in-None.ensures.value)
    (inserted g.K.PartialEq.eq table new c.args.key c.args.place c.insert.result (sym c.in-None.ensures.value) (c.insert.ensures.succeeds c.requires) c.insert.ensures.entries)
