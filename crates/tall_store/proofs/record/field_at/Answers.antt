use Rattle.std.proofs.Common.{sym}
use Rattle.csv.proofs.RecordFacts.{field-get, field-there}
use Rattle.tall_store.proofs.record.field_at.Goals as goal

pub unreachable-requires : goal.unreachable-requires
unreachable-requires c =
    let none = rw c.in-None.is at c.get.ensures.value in
    field-there _ _ c.requires (sym none)

pub returns : goal.returns
returns c =
    let has = rw c.in-Some.is at c.get.ensures.value in
    sym (field-get _ _ _ (sym has))
