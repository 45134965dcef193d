use Rattle.tall_value.specs.Cells.{seen}
use Rattle.tall_kv.proofs.ByKeyLemmas.{value_added}
use Rattle.tall_kv.proofs.groups.add_value.Goals as goal

pub returns : goal.returns
returns c =
    value_added c.push-2.result c.args.class c.args.columns.now.items c.args.place c.index_mut.result.now c.push-2.new.self (seen c.args.value.now) c.args.is_new c.if-is_new.false
    (c.requires.place c.if-is_new.false) c.index_mut.ensures.value c.push-2.ensures
