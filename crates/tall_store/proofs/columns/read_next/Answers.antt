use Rattle.std.proofs.Common.{length, subst, sym}
use Rattle.tall_column.specs.Tables.{HasHeight}
use Rattle.tall_store.specs.Parts.{part_records}
use Rattle.tall_store.proofs.TableRows.{fits, height_more, read_height}
use Rattle.tall_store.proofs.columns.read_next.Goals as goal

pub add-requires-clause-same_height : goal.add-requires-clause-same_height
add-requires-clause-same_height c =
    fits (length (part_records c.args.part.now)) c.in-Ok.column c.args.table.now
    (read_height c.args.store.now (part_records c.args.part.now) c.args.place c.in-Ok.column c.in-Ok.ensures) c.requires.height

pub returns-in-Ok-add-clause-height : goal.returns-in-Ok-add-clause-height
returns-in-Ok-add-clause-height c =
    subst (HasHeight (length (part_records c.args.part.now))) (sym c.in-Ok-add.ensures)
    (height_more (length (part_records c.args.part.now)) c.name.result.now c.in-Ok.column c.args.table.now
    (read_height c.args.store.now (part_records c.args.part.now) c.args.place c.in-Ok.column c.in-Ok.ensures) c.requires.height)
